-- `forms::store_all` meets its contract. Assumes nothing.
use Rattle.std.proofs.Common.{refl, ◌∙◌}
use Rattle.lists.proofs.Arrays.{filled_none, filled_more}
use Rattle.forms.proofs.rows.store_all.Goals as goal

pub loop-j-init : goal.loop-j-init
loop-j-init c = filled_none _ _ _

pub loop-j-preserved : goal.loop-j-preserved
loop-j-preserved c = c.store.ensures ∙ filled_more _ _ _ _ c.loop-j.j _ c.loop-j.invariant refl

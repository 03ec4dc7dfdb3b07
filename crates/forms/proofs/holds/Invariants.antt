-- `forms::holds` meets its contract: the conditions from i on decide. Assumes nothing.
use Rattle.std.proofs.Common.{◌≡◌, ◌-◌}
use Rattle.lists.specs.Searches.{all_from}
use Rattle.forms.specs.Slots.{condition_holds, holds_all}
use Rattle.forms.proofs.holds.Given as goal

abbrev pub invariant-loop-i : goal.invariant-loop-i
invariant-loop-i l = all_from (condition_holds l.g l.vals) l.i (l.g.count - l.i) ≡ holds_all l.g l.vals

-- `forms::holds` meets its contract. Assumes nothing.
use Rattle.std.proofs.Common.{sym, ◌∙◌, arith}
use Rattle.lists.proofs.Searches.{all_start, all-fails, all_more, all_done}
use Rattle.forms.proofs.holds.Goals as goal

pub loop-i-init : goal.loop-i-init
loop-i-init c = all_start _ _ 0

pub loop-i-preserved : goal.loop-i-preserved
loop-i-preserved c = sym (all_more _ _ c.loop-i.i (omega arith) (sym c.condition_holds.ensures ∙ c.if-not-condition_holds.false)) ∙ c.loop-i.invariant

pub returns-then-not-condition_holds : goal.returns-then-not-condition_holds
returns-then-not-condition_holds c = sym (all-fails _ _ c.loop-i.i (omega arith) (sym c.condition_holds.ensures ∙ c.if-not-condition_holds.true)) ∙ c.loop-i.invariant

pub returns : goal.returns
returns c = sym (all_done _ _ c.loop-i.i (omega arith)) ∙ c.loop-i.invariant

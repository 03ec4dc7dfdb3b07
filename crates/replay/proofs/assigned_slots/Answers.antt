-- `replay::assigned_slots` meets its contract: one assignment more, and the first that fails decides.
use Rattle.std.proofs.Common.{arith, sym, ◌∙◌, eq-eqb, ne_eqb}
use Rattle.lists.proofs.Searches.{all_start, all-fails, all_more, all_done}
use Rattle.replay.proofs.assigned_slots.Goals as goal

pub loop-i-init : goal.loop-i-init
loop-i-init c = all_start _ _ 0

pub loop-i-preserved : goal.loop-i-preserved
loop-i-preserved c = let l = c.loop-i in sym (all_more _ _ l.i (omega arith) (eq-eqb _ _ (cc))) ∙ l.invariant

pub returns-then-new-from : goal.returns-then-new-from
returns-then-new-from c = let l = c.loop-i in sym (all-fails _ _ l.i (omega arith) (ne_eqb _ _ (λ e. c.if-new-from.true (cc)))) ∙ l.invariant

pub returns : goal.returns
returns c = let l = c.loop-i in sym (all_done _ _ l.i (omega arith)) ∙ l.invariant

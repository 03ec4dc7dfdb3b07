-- `replay::made` meets its contract.
use Rattle.replay.proofs.StepSlots.{made_found}
use Rattle.replay.proofs.made.Goals as goal

pub returns : goal.returns
returns c = let e = c.args in
    made_found e.constants e.registers e.x e.here.place e.here.contents e.s
    c.from.ensures
    c.slot_values-old.ensures
    c.slot_values-new.ensures
    c.holds-met.ensures
    c.from-2.ensures
    c.assigned_slots-moved.ensures
    c.from-3.ensures
    c.tidy.ensures

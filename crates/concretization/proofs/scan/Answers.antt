-- `concretization::scan` meets its contract.
use Rattle.std.proofs.Common.{ap, ◌∙◌}
use Rattle.labelling.specs.Noted.{labelled}
use Rattle.concretization.proofs.SlotValues.{values_front}
use Rattle.concretization.proofs.scan.Goals as goal

pub returns : goal.returns
returns c =
    let a = c.args in
    c.labels_of.ensures ∙ ap (labelled a.s) (values_front a.vals a.slots a.n c.requires.1 c.values_at.ensures)

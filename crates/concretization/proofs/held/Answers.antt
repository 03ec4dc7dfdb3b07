-- `concretization::held` meets its contract.
use Rattle.std.proofs.Common.{[], ◌∷◌, length, arith, ap, ap₂, ◌∙◌}
use Rattle.forms.specs.Slots.{values_from}
use Rattle.labelling.specs.Noted.{labelled}
use Rattle.labelling.proofs.Noted.{take-le, marks-take}
use Rattle.concretization.proofs.held.Goals as goal

pub scan-requires : goal.scan-requires
scan-requires c =
    (omega (arith, ap length c.constants_seen-seen.ensures, take-le c.args.c (1 ∷ 2 ∷ []), c.requires.1), c.requires.0.sets_fit, c.requires.0.target_fits)

pub returns : goal.returns
returns c =
    let a = c.args.arc in
    c.scan.ensures ∙ ap₂ (λ s v. labelled s (values_from v a.target 0 a.sets)) (c.constants_seen-seen.ensures ∙ marks-take c.args.c c.requires.1) c.label_slots.ensures

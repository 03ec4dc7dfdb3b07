-- `concretization::renewed` meets its contract.
use mathlib.Core.Path.{subst⁻¹}
use Rattle.std.proofs.Common.{◌≡◌, ◌≤◌, length, get_or, take, arith, sym, ap, ap₂, ◌∙◌}
use Rattle.std.proofs.Math.Seq.{length-take-le}
use Rattle.lists.specs.Arrays.{padded}
use Rattle.lists.proofs.Arrays.{padded-at}
use Rattle.graphs.specs.Lists.{up_from}
use Rattle.graphs.proofs.Lists.{up_from-length}
use Rattle.classes.specs.Classes.{labels}
use Rattle.classes.specs.Contents.{notes}
use Rattle.classes.proofs.Legal.{notes-le}
use Rattle.forms.specs.Slots.{values_from}
use Rattle.labelling.proofs.Noted.{take-le}
use Rattle.concretization.specs.Parameters.{label_slots}
use Rattle.forms.proofs.TermValues.{values_length}
use Rattle.concretization.proofs.SlotValues.{labels_positive}
use Rattle.concretization.proofs.ParameterSearch.{renewed-is}
use Rattle.concretization.proofs.renewed.Goals as goal

pub scan-written-requires : goal.scan-written-requires
scan-written-requires c =
    (omega (arith, ap length c.constants_seen-seen.ensures, take-le c.args.c c.args.constants, c.requires.1), c.requires.0.sets_fit, c.requires.0.source_fits)

pub labels_of-requires : goal.labels_of-requires
labels_of-requires c =
    let a = c.args in
    let tv = values_from (label_slots a.next) a.arc.target 0 a.arc.sets in
    (omega (arith, ap (λ z. length z.seen) c.held-marked.ensures, notes-le (up_from 1 a.c) tv, up_from-length 1 a.c, values_length (label_slots a.next) a.arc.target 0 a.arc.sets, c.requires.0.sets_fit, c.requires.1), c.requires.2)

pub identifiers_of-requires : goal.identifiers_of-requires
identifiers_of-requires c =
    let a = c.args in
    let s = c.constants_seen-seen in
    let sv = values_from a.vals a.arc.source 0 a.arc.sets in
    let known = c.held-marked.result.seen in
    let five : length a.next ≡ 5 = omega arith in
    let ls = ap (λ z. z.labels) c.labels_of.ensures ∙ ap (λ z. padded 5 (labels known (take a.r z))) c.wide_labels.ensures in (
      omega (arith, ap (λ z. length z.seen) c.scan-written.ensures, ap length s.ensures, take-le a.c a.constants, notes-le s.result sv, values_length a.vals a.arc.source 0 a.arc.sets, c.requires.0.sets_fit, c.requires.1),
      c.requires.2,
      (λ i h.
          subst⁻¹ (λ z. 1 ≤ z) (ap (λ z. get_or z i 0) ls ∙ padded-at 5 (labels known (take a.r a.next)) i (omega (arith, c.requires.2)))
          (labels_positive known (take a.r a.next) i (omega (arith, length-take-le a.r a.next (omega (arith, c.requires.2)))))),
    )

pub returns : goal.returns
returns c =
    let a = c.args in
    let cs = take a.c a.constants in
    let two : length a.constants ≡ 2 = omega arith in
    let five : length a.next ≡ 5 = omega arith in
    let n : a.c ≡ length cs = sym (length-take-le a.c a.constants (omega (arith, c.requires.1))) in
    let tv = values_from (label_slots a.next) a.arc.target 0 a.arc.sets in
    let sv = values_from a.vals a.arc.source 0 a.arc.sets in
    let mk : c.held-marked.result.seen ≡ notes (up_from 1 (length cs)) tv = ap (λ z. z.seen) c.held-marked.ensures ∙ ap (λ z. notes (up_from 1 z) tv) n in
    renewed-is a.arc cs a.vals a.r a.next c.requires.2 (length-take-le a.r a.next (omega (arith, c.requires.2)))
    (ap (λ z. z.seen) c.scan-written.ensures ∙ ap (λ z. notes z sv) c.constants_seen-seen.ensures)
    (ap (λ z. z.labels) c.labels_of.ensures ∙ ap₂ (λ z w. padded 5 (labels z (take a.r w))) mk c.wide_labels.ensures)
    c.identifiers_of.ensures

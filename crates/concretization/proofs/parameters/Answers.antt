-- `concretization::parameters` meets its contract.
use Rattle.std.proofs.Common.{◌≡◌, length, take, arith, sym, ap, ◌∙◌}
use Rattle.std.proofs.Math.Seq.{length-take-le}
use Rattle.lists.specs.Arrays.{padded}
use Rattle.graphs.specs.Lists.{up_from}
use Rattle.classes.specs.Classes.{labels}
use Rattle.classes.specs.Contents.{notes}
use Rattle.classes.proofs.Legal.{notes-le}
use Rattle.forms.specs.Slots.{values_from}
use Rattle.labelling.proofs.Noted.{take-le}
use Rattle.concretization.specs.Parameters.{label_slots}
use Rattle.concretization.proofs.ParameterSearch.{sought-is}
use Rattle.concretization.proofs.parameters.Goals as goal

pub labels_of-seen-requires : goal.labels_of-seen-requires
labels_of-seen-requires c = (omega (arith, ap length c.constants_seen-base.ensures, take-le c.args.c c.args.constants, c.requires.1), c.requires.2)

pub seek-requires : goal.seek-requires
seek-requires c =
    let a = c.args in
    let s = c.constants_seen-base in
    let few = take-le a.c a.constants in (
      c.requires.0,
      omega (arith, ap length s.ensures, few, c.requires.1),
      omega arith,
      omega (arith, ap (λ z. length z.seen) c.labels_of-seen.ensures, ap length s.ensures, few, notes-le s.result (take a.r a.contents), take-le a.r a.contents, c.requires.1, c.requires.2),
    )

pub returns : goal.returns
returns c =
    let a = c.args in
    let cs = take a.c a.constants in
    let ck = c.constants_seen-base.ensures in
    let two : length a.constants ≡ 2 = omega arith in
    let n : a.c ≡ length cs = sym (length-take-le a.c a.constants (omega (arith, c.requires.1))) in
    let tv = values_from (label_slots a.next) a.arc.target 0 a.arc.sets in
    sought-is a.arc cs (take a.r a.contents) _ a.next ck
    (ap (λ z. z.labels) c.held-seen.ensures ∙ ap (λ z. padded 5 (labels (up_from 1 z) tv)) n)
    (c.as_slice.ensures ∙ c.choices-pool.ensures)
    (ap (λ z. z.seen) c.labels_of-seen.ensures ∙ ap (λ z. notes z (take a.r a.contents)) ck)
    c.slots-vals.ensures c.seek.ensures

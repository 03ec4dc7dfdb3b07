-- One label more has an identifier.
use Rattle.std.proofs.Common.{◌≡◌, ◌<◌, ◌∙◌, ap, length, set, refl, rules, arith}
use Rattle.lists.specs.Arrays.{padded}
use Rattle.classes.specs.Classes.{noted}
use Rattle.labelling.proofs.NotedTurns.{found-seen, found_ids, found_room}
use Rattle.labelling.proofs.identifiers_of.Goals as goal

pub loop-i-init : goal.loop-i-init
unfolding padded
loop-i-init c = (refl, refl)

pub note-requires : goal.note-requires
note-requires c = omega (arith, c.requires.1, found_room c.args.s c.args.labels c.loop-i.i 12 c.loop-i.invariant.0 c.requires.0)

pub loop-i-preserved : goal.loop-i-preserved
loop-i-preserved c =
    let l = c.loop-i in
    let a = c.args in
    let five : length a.labels ≡ 5 = search rules in
    let low : l.i < 5 = omega (arith, c.requires.1) in
    let long : l.i < length a.labels = omega arith in (
      c.note.ensures ∙ ap (noted l.seen) c.identifier_of-d.ensures ∙ found-seen a.s a.labels l.i low long l.invariant.0,
      ap (set l.ids l.i) c.identifier_of-d.ensures ∙ found_ids a.s a.labels l.i low long l.invariant.0 l.invariant.1,
    )

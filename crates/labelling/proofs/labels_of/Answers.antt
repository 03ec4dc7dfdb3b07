-- One value more is labelled.
use Rattle.std.proofs.Common.{◌≡◌, ◌<◌, ◌+◌, ◌∙◌, ap, length, set, refl, rules, arith}
use Rattle.lists.specs.Arrays.{padded}
use Rattle.labelling.proofs.NotedTurns.{value-seen, value-labels, noted_room}
use Rattle.labelling.proofs.labels_of.Goals as goal

pub loop-i-init : goal.loop-i-init
unfolding padded
loop-i-init c = (refl, refl)

pub overflow_add-labels : goal.overflow_add-labels
overflow_add-labels c = omega (arith, c.place.ensures.1, noted_room c.args.s c.args.values c.loop-i.i 12 c.loop-i.invariant.0 c.requires.0)

pub overflow_cast-labels : goal.overflow_cast-labels
overflow_cast-labels c = omega (arith, c.place.ensures.1, noted_room c.args.s c.args.values c.loop-i.i 12 c.loop-i.invariant.0 c.requires.0)

pub note-requires : goal.note-requires
note-requires c = omega (arith, c.requires.1, noted_room c.args.s c.args.values c.loop-i.i 12 c.loop-i.invariant.0 c.requires.0)

pub loop-i-preserved : goal.loop-i-preserved
loop-i-preserved c =
    let l = c.loop-i in
    let a = c.args in
    let five : length a.values ≡ 5 = search rules in
    let low : l.i < 5 = omega (arith, c.requires.1) in
    let long : l.i < length a.values = omega arith in (
      c.note.ensures ∙ value-seen a.s a.values l.i low long l.invariant.0,
      ap (λ p. set l.labels l.i (p + 1)) c.place.ensures.0 ∙ value-labels a.s a.values l.i low long l.invariant.0 l.invariant.1,
    )

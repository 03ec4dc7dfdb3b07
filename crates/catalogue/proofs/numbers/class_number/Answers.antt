-- `numbers::class_number` meets its contract.
use Rattle.std.proofs.Common.{◌≡◌, length, take, arith, rules, refl}
use Rattle.std.proofs.Math.Seq.{length-take-le}
use Rattle.catalogue.proofs.Ranked.{ranked_first, ranked_more, ranked_ended}
use Rattle.catalogue.proofs.numbers.class_number.Goals as goal

pub loop-i-init : goal.loop-i-init
loop-i-init c =
    let a = c.args in
    let five : length a.labels ≡ 5 = search rules in
    ranked_first a.r a.c (take a.r a.labels) c.requires.0 c.requires.1 (length-take-le a.r a.labels (omega arith)) c.requires.2

pub loop-i-preserved : goal.loop-i-preserved
loop-i-preserved c =
    let a = c.args in
    let l = c.loop-i in
    rw (c.max-b.ensures, c.count_of-each.ensures)
    (ranked_more a.r a.c (take a.r a.labels) l.b l.sum l.i l.invariant (omega arith) _ refl)

pub returns : goal.returns
returns c =
    let a = c.args in
    let l = c.loop-i in
    ranked_ended a.r a.c (take a.r a.labels) l.b l.sum l.i c.requires.2 l.invariant (omega arith)

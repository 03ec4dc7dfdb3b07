-- Entries are compared from the front.
use Rattle.std.proofs.Common.{◌∙◌, sym, refl, length, take, arith}
use Rattle.std.proofs.Math.Seq.{length-take-le, get_or-take}
use Rattle.labelling.proofs.NotedTurns.{same-passed, same_failed, same_ended}
use Rattle.labelling.proofs.same_entries.Goals as goal

pub loop-i-init : goal.loop-i-init
loop-i-init c = (length-take-le (length c.args.b.now) c.args.a.now c.requires, refl)

pub returns-then-a-i : goal.returns-then-a-i
returns-then-a-i c =
    let a = c.args in
    let l = c.loop-i in
    sym (same_failed (take (length a.b.now) a.a.now) a.b.now l.i l.invariant.0 l.invariant.1 c.loop-i-test.true
    (λ e. c.if-a-i.true (sym (get_or-take (length a.b.now) a.a.now l.i 0 c.loop-i-test.true) ∙ e)))

pub loop-i-preserved : goal.loop-i-preserved
loop-i-preserved c =
    let a = c.args in
    let l = c.loop-i in (
      l.invariant.0,
      same-passed (take (length a.b.now) a.a.now) a.b.now l.i l.invariant.0 l.invariant.1 c.loop-i-test.true
          (get_or-take (length a.b.now) a.a.now l.i 0 c.loop-i-test.true ∙ c.if-a-i.false),
    )

pub returns : goal.returns
returns c =
    let a = c.args in
    let l = c.loop-i in
    sym (same_ended (take (length a.b.now) a.a.now) a.b.now l.i l.invariant.0 l.invariant.1 (omega arith))

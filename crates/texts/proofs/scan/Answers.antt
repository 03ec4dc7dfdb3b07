-- Answers for `texts::scan`.
use Rattle.std.proofs.Common.{◌∙◌, ◌%◌, arith, take, length-take}
use Rattle.texts.specs.Descent.{from}
use Rattle.texts.proofs.StepCodes.{right-stopped, right-read}
use Rattle.texts.proofs.WholeTexts.{whole_stops, whole_more, whole-read}
use Rattle.texts.proofs.scan.Goals as goal

pub returns-then-q-lt1024 : goal.returns-then-q-lt1024
returns-then-q-lt1024 c =
    let a = c.args in
    let s = take a.n a.s.now in
    let (e, l) = right-stopped (from s 0) s 0 0 a.t.now _ _ c.question-q.ensures c.if-q-lt1024.true in
    whole_stops s _ e l

pub returns-then-end-n : goal.returns-then-end-n
returns-then-end-n c =
    let a = c.args in
    let s = take a.n a.s.now in
    let r = right-read (from s 0) s 0 0 a.t.now _ _ c.question-q.ensures c.if-q-lt1024.false in
    whole_more s r.0 (c.question-q.result % 1024) r.1 (omega (arith, length-take a.n a.s.now))

pub returns : goal.returns
returns c =
    let a = c.args in
    let s = take a.n a.s.now in
    let r = right-read (from s 0) s 0 0 a.t.now _ _ c.question-q.ensures c.if-q-lt1024.false in
    (r.0, whole-read s r.0 (c.question-q.result % 1024) r.1 (omega (arith, length-take a.n a.s.now)), r.2 ∙ omega arith, r.3)

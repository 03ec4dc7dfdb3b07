-- Answers for `questions::judge_numbers`.
use Rattle.std.proofs.Common.{rules, ◌≡◌, ◌∙◌, sym, ap, true, Err, Ok}
use Rattle.automata.specs.WellFormed.{inside}
use Rattle.forms.specs.Shapes.{use_of, shape_of}
use Rattle.refusals.specs.Judged.{verdict}
use Rattle.questions.specs.QuestionRules.{judge_field, judge_row}
use Rattle.questions.proofs.RowShapes.{judge-shape, first-Err, first-Ok}
use Rattle.questions.proofs.judge_numbers.Goals as goal

pub returns-then-not-in_count : goal.returns-then-not-in_count
unfolding judge_row
returns-then-not-in_count c = simp (sym c.in_count.ensures ∙ c.if-not-in_count.true)

pub returns-in_err-judge_field : goal.returns-in_err-judge_field
returns-in_err-judge_field c =
    let a = c.args in
    let kind : inside 14 a.k ≡ true = search rules in
    let e : c.from_residual.result ≡ Err c.in_err-judge_field.field-0.0 = search rules in
    let x : verdict (judge_field a.c a.n (use_of (shape_of a.k).first) a.a) ≡ Err c.in_err-judge_field.field-0.0 =
    simp (← c.shape_of-s.ensures) (sym c.judge_field.ensures ∙ c.in_err-judge_field.was) in
    e ∙ sym (ap verdict (judge-shape a.c a.n a.k a.a a.b kind) ∙ first-Err _ _ _ x)

pub returns : goal.returns
returns c =
    let a = c.args in
    let kind : inside 14 a.k ≡ true = search rules in
    let x : verdict (judge_field a.c a.n (use_of (shape_of a.k).first) a.a) ≡ Ok c.in_ok-judge_field.field-0 =
    simp (← c.shape_of-s.ensures) (sym c.judge_field.ensures ∙ c.in_ok-judge_field.was) in
    let y : c.judge_field-2.result ≡ verdict (judge_field a.c a.n (use_of (shape_of a.k).second) a.b) = simp (← c.shape_of-s.ensures) c.judge_field-2.ensures in
    y ∙ sym (ap verdict (judge-shape a.c a.n a.k a.a a.b kind) ∙ first-Ok _ _ _ x)

-- Answers for `questions::read_question`.
use Rattle.std.proofs.Common.{rules, ◌≡◌, subst, Err}
use Rattle.fields.specs.LinesRead.{Tells}
use Rattle.questions.specs.Question.{read_question}
use Rattle.questions.proofs.QuestionOutcomes.{told-accepted, told-refused}
use Rattle.questions.proofs.read_question.Goals as goal

pub returns-in_err-read_file : goal.returns-in_err-read_file
unfolding read_question
returns-in_err-read_file c =
    let a = c.args in
    let d = c.read_file in
    let x = c.in_err-read_file.field-0.0 in
    let is : c.from_residual.result ≡ Err x = search rules in
    let told = subst (λ k. Tells (read_question a.registers a.constants a.locations a.s.now) k (record { form = d.new.t; count = d.new.r.count })) c.in_err-read_file.was d.ensures in
    rw is (told-refused (read_question a.registers a.constants a.locations a.s.now) x a.rows.now told)

pub returns : goal.returns
unfolding read_question
returns c =
    let a = c.args in
    let d = c.read_file in
    let told = subst (λ k. Tells (read_question a.registers a.constants a.locations a.s.now) k (record { form = d.new.t; count = d.new.r.count })) c.in_ok-read_file.was d.ensures in
    told-accepted (read_question a.registers a.constants a.locations a.s.now) (record { form = d.new.t; count = d.new.r.count }) a.rows.now told

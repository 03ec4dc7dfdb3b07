-- `question::answer`: the rows as they are shown, and the contents of a no.
use Rattle.std.proofs.Common.{arith}
use Rattle.automata.specs.Questions.{question}
use Rattle.forms.specs.FormAutomaton.{automaton_of}
use Rattle.forms.specs.QuestionForm.{rows_of}
use Rattle.answers.proofs.Buffer.{cleared_blank}
use Rattle.checker.proofs.Asked.{lent_as, class-below, yes_reply, yes-contents, no_reply, no-contents, rows-shown}
use Rattle.checker.proofs.question.answer.Goals as goal

pub ask_with-requires : goal.ask_with-requires
ask_with-requires c =
    let p = c.requires in
    let z = c.clear in
    (lent_as _ _ _ c.classes_in-n.ensures p.0, p.1, p.2, p.3, omega (arith, p.2, p.4, z.auto.words), cleared_blank c.args.rows.now p.4 c.args.count z.ensures p.2)

pub class_contents-requires : goal.class_contents-requires
class_contents-requires c =
    let a = c.args in
    let n = c.classes_in-n.ensures in
    (lent_as _ _ _ n c.requires.0, omega (arith, n, class-below (automaton_of a.form.now) (question (rows_of a.question.now a.count)) _ c.ask_with.ensures.reply _ c.in-Some.is))

pub returns-in-None : goal.returns-in-None
returns-in-None c =
    let e = c.args in
    let a = automaton_of e.form.now in
    let f = question (rows_of e.question.now e.count) in
    let q = c.ask_with.ensures in
    (yes_reply a f _ q.reply c.in-None.is, rows-shown a e.question.now e.count e.rows.now _ _ c.requires.2 c.requires.4 c.clear.ensures q.buffer, yes-contents a f _ q.reply c.in-None.is e.contents.now)

pub returns-in-Some : goal.returns-in-Some
returns-in-Some c =
    let e = c.args in
    let a = automaton_of e.form.now in
    let f = question (rows_of e.question.now e.count) in
    let q = c.ask_with.ensures in
    let d = c.in-Some.is in
    (no_reply a f _ q.reply _ _ d c.registers.ensures.0, rows-shown a e.question.now e.count e.rows.now _ _ c.requires.2 c.requires.4 c.clear.ensures q.buffer, no-contents a f _ q.reply _ d _ _ c.class_contents.ensures)

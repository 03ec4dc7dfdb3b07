-- `question::ask_in`: what the files say, and what is answered, make the promise.
use Rattle.std.proofs.Common.{◌∙◌}
use Rattle.std.proofs.lemmas.Result.{err_from_is_err_and}
use Rattle.claims.specs.Files.{ask_buffers}
use Rattle.checker.proofs.OpenedTable.{told_opened, told-refused}
use Rattle.checker.proofs.Filed.{told-rows, told-question-refused, question-table-refused, ask_roomy, ask_cramped}
use Rattle.checker.proofs.Asked.{refused_promise, answered_promise}
use Rattle.checker.proofs.question.ask_in.Goals as goal

pub returns-then-rows-lt10784 : goal.returns-then-rows-lt10784
returns-then-rows-lt10784 c =
    let e = c.args in
    let b = ask_buffers e.rows.now e.contents.now in
    rw c.of_call.ensures (refused_promise e.notation b e.table.now e.question.now _ (ask_cramped e.notation b e.table.now e.question.now c.if-rows-lt10784.true))

pub returns-in_err-open_table : goal.returns-in_err-open_table
returns-in_err-open_table c =
    let e = c.args in
    let b = ask_buffers e.rows.now e.contents.now in
    let p = err_from_is_err_and c.from_residual.result c.from_residual.ensures.1 in
    let d = question-table-refused e.notation e.table.now e.question.now _ (told-refused _ _ c.in_err-open_table.ensures.0) in
    rw (p.1, p.2) (refused_promise e.notation b e.table.now e.question.now _ (ask_roomy e.notation b e.table.now e.question.now c.if-rows-lt10784.false ∙ d))

pub read_rows-requires : goal.read_rows-requires
read_rows-requires c = let o = c.in_ok-open_table.ensures in (told_opened _ _ _ o.0 o.1 o.2).readable

pub returns-in_err-count : goal.returns-in_err-count
returns-in_err-count c =
    let e = c.args in
    let b = ask_buffers e.rows.now e.contents.now in
    let p = err_from_is_err_and c.from_residual-in_err-count.result c.from_residual-in_err-count.ensures.1 in
    let o = c.in_ok-open_table.ensures in
    let d = told-question-refused e.notation e.table.now e.question.now _ (told_opened _ _ _ o.0 o.1 o.2).outcome _ c.in_err-count.ensures.0 in
    rw (p.1, p.2) (refused_promise e.notation b e.table.now e.question.now _ (ask_roomy e.notation b e.table.now e.question.now c.if-rows-lt10784.false ∙ d))

pub answer-requires : goal.answer-requires
answer-requires c =
    let o = c.in_ok-open_table.ensures in
    let r = c.in_ok-count.ensures in
    let table = told_opened _ _ _ o.0 o.1 o.2 in
    let q = told-rows _ _ _ _ table.outcome _ _ _ r.0 r.1 in
    (table.lent, q.long, q.most, q.fits, c.if-rows-lt10784.false)

pub returns : goal.returns
returns c =
    let e = c.args in
    let b = ask_buffers e.rows.now e.contents.now in
    let o = c.in_ok-open_table.ensures in
    let r = c.in_ok-count.ensures in
    let q = told-rows _ _ _ _ (told_opened _ _ _ o.0 o.1 o.2).outcome _ _ _ r.0 r.1 in
    let a = c.answer.ensures in
    answered_promise e.notation b e.table.now e.question.now _ (ask_roomy e.notation b e.table.now e.question.now c.if-rows-lt10784.false ∙ q.files) _ _ _ a.0 a.1 a.2

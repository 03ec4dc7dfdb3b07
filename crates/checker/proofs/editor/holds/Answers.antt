-- `editor::holds`: the answer's number is the reply's.
use Rattle.std.proofs.lemmas.Result.{err_from_is_err_and}
use Rattle.checker.proofs.OpenedTable.{told_opened, told-refused}
use Rattle.checker.proofs.Filed.{told-rows, told-question-refused, question-table-refused}
use Rattle.checker.proofs.Codes.{refused_ask, answered_ask}
use Rattle.checker.proofs.editor.holds.Goals as goal

pub returns-in_err-open_table : goal.returns-in_err-open_table
returns-in_err-open_table c =
    let e = c.args in
    let p = err_from_is_err_and c.from_residual.result c.from_residual.ensures.1 in
    rw (p.1, p.2) (refused_ask e.notation e.table.now e.question.now _ (question-table-refused e.notation e.table.now e.question.now _ (told-refused _ _ c.in_err-open_table.ensures.0)))

pub read_rows-requires : goal.read_rows-requires
read_rows-requires c = let o = c.in_ok-open_table.ensures in (told_opened _ _ _ o.0 o.1 o.2).readable

pub returns-in_err-count : goal.returns-in_err-count
returns-in_err-count c =
    let e = c.args in
    let p = err_from_is_err_and c.from_residual-in_err-count.result c.from_residual-in_err-count.ensures.1 in
    let o = c.in_ok-open_table.ensures in
    rw (p.1, p.2) (refused_ask e.notation e.table.now e.question.now _ (told-question-refused e.notation e.table.now e.question.now _ (told_opened _ _ _ o.0 o.1 o.2).outcome _ c.in_err-count.ensures.0))

pub decides-requires : goal.decides-requires
decides-requires c =
    let o = c.in_ok-open_table.ensures in
    let r = c.in_ok-count.ensures in
    let table = told_opened _ _ _ o.0 o.1 o.2 in
    let q = told-rows _ _ _ _ table.outcome _ _ _ r.0 r.1 in
    (table.lent, q.long, q.most, q.fits)

pub returns : goal.returns
returns c =
    let e = c.args in
    let o = c.in_ok-open_table.ensures in
    let r = c.in_ok-count.ensures in
    let q = told-rows _ _ _ _ (told_opened _ _ _ o.0 o.1 o.2).outcome _ _ _ r.0 r.1 in
    answered_ask e.notation e.table.now e.question.now _ q.files _ c.decides.ensures

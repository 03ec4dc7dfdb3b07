-- `editor::reaches`: the answer's number is the reply's.
use Rattle.std.proofs.lemmas.Result.{err_from_is_err_and}
use Rattle.checker.proofs.Asked.{lent_as}
use Rattle.checker.proofs.OpenedTable.{told_opened, told-refused}
use Rattle.checker.proofs.Targeted.{told-target, told-target-refused, target-table-refused}
use Rattle.checker.proofs.Codes.{refused_code, reaches_code}
use Rattle.checker.proofs.editor.reaches.Goals as goal

pub returns-in_err-open_table : goal.returns-in_err-open_table
returns-in_err-open_table c =
    let e = c.args in
    let p = err_from_is_err_and c.from_residual.result c.from_residual.ensures.1 in
    rw (p.1, p.2) (refused_code e.table.now e.target.now _ (target-table-refused e.table.now e.target.now _ (told-refused _ _ c.in_err-open_table.ensures.0)))

pub returns-in_err-read_target : goal.returns-in_err-read_target
returns-in_err-read_target c =
    let e = c.args in
    let p = err_from_is_err_and c.from_residual-in_err-read_target.result c.from_residual-in_err-read_target.ensures.1 in
    let o = c.in_ok-open_table.ensures in
    rw (p.1, p.2) (refused_code e.table.now e.target.now _ (told-target-refused e.table.now e.target.now _ (told_opened _ _ _ o.0 o.1 o.2).outcome _ c.in_err-read_target.ensures.0))

pub classes_in-requires : goal.classes_in-requires
classes_in-requires c = let o = c.in_ok-open_table.ensures in (told_opened _ _ _ o.0 o.1 o.2).readable

pub reaches-requires : goal.reaches-requires
reaches-requires c =
    let o = c.in_ok-open_table.ensures in
    let q = c.in_ok-read_target.ensures in
    let table = told_opened _ _ _ o.0 o.1 o.2 in
    let a = told-target _ _ _ table.outcome _ q.0 q.1 in
    (lent_as _ _ _ c.classes_in.ensures table.lent, a.long, a.fits)

pub returns : goal.returns
returns c =
    let e = c.args in
    let o = c.in_ok-open_table.ensures in
    let q = c.in_ok-read_target.ensures in
    let a = told-target _ _ _ (told_opened _ _ _ o.0 o.1 o.2).outcome _ q.0 q.1 in
    reaches_code e.table.now e.target.now _ _ a.files _ c.reaches.ensures

-- `replaying::replay`: a table's refusal, or the verdict on the list.
use Rattle.std.proofs.Common.{sym, ◌∙◌}
use Rattle.std.proofs.lemmas.Result.{err_from_is_err_and}
use Rattle.claims.proofs.Replays.{whole_is, table-refused, run-judged}
use Rattle.checker.proofs.OpenedTable.{told_opened, told-refused}
use Rattle.checker.proofs.Replayed.{replay_promised}
use Rattle.checker.proofs.replaying.replay.Goals as goal

pub returns-in_err-open_table : goal.returns-in_err-open_table
returns-in_err-open_table c =
    let a = c.args in
    let p = err_from_is_err_and c.from_residual.result c.from_residual.ensures.1 in
    rw (p.1, p.2) (replay_promised a.table.now a.run.now _ (table-refused a.table.now a.run.now _ (sym c.whole.ensures ∙ c.if-not-whole.false) (told-refused _ _ c.in_err-open_table.ensures.0)))

pub replay-requires : goal.replay-requires
replay-requires c =
    let o = c.in_ok-open_table.ensures in
    ((told_opened _ _ _ o.0 o.1 o.2).readable, whole_is c.args.run.now (sym c.whole.ensures ∙ c.if-not-whole.false))

pub returns : goal.returns
returns c =
    let a = c.args in
    let o = c.in_ok-open_table.ensures in
    replay_promised a.table.now a.run.now _ (run-judged a.table.now a.run.now _ _ (sym c.whole.ensures ∙ c.if-not-whole.false) (told_opened _ _ _ o.0 o.1 o.2).outcome c.replay.ensures)

-- `replaying::replay_steps`: a table's refusal, or the verdict on the steps.
use Rattle.std.proofs.lemmas.Result.{err_from_is_err_and}
use Rattle.claims.proofs.Replays.{steps_reply, steps-refused}
use Rattle.checker.proofs.OpenedTable.{told_opened, told-refused}
use Rattle.checker.proofs.Replayed.{steps_promised}
use Rattle.checker.proofs.replaying.replay_steps.Goals as goal

pub returns-in_err-open_table : goal.returns-in_err-open_table
returns-in_err-open_table c =
    let a = c.args in
    let p = err_from_is_err_and c.from_residual.result c.from_residual.ensures.1 in
    rw (p.1, p.2) (steps_promised a.table.now a.start a.steps.now _ (steps-refused a.table.now a.start a.steps.now _ (told-refused _ _ c.in_err-open_table.ensures.0)))

pub replay_steps-requires : goal.replay_steps-requires
replay_steps-requires c = let o = c.in_ok-open_table.ensures in (told_opened _ _ _ o.0 o.1 o.2).readable

pub returns : goal.returns
returns c =
    let a = c.args in
    let o = c.in_ok-open_table.ensures in
    steps_promised a.table.now a.start a.steps.now _ (steps_reply a.table.now a.start a.steps.now _ _ (told_opened _ _ _ o.0 o.1 o.2).outcome c.replay_steps.ensures)

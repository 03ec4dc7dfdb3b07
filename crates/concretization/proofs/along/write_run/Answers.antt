-- `along::write_run` meets its contract.
use Rattle.std.proofs.Common.{arith}
use Rattle.concretization.proofs.RunsAlong.{going_first, run-done, lines-done}
use Rattle.concretization.proofs.along.write_run.Goals as goal

pub write_moves-requires : goal.write_moves-requires
write_moves-requires c = (
  going_first c.args.form.now c.requires.0.readable c.args.path.now c.args.steps c.requires.1 _ _ c.start-place.ensures.0 c.contents-contents.ensures,
  c.requires.2,
  omega arith,
  omega arith,
)

pub returns : goal.returns
returns c =
    let t = c.args.form.now in
    let w = c.write_moves.ensures in
    let place = c.start-place.ensures.0 in
    let given = c.contents-contents.ensures in (
      run-done t c.requires.0.readable c.args.path.now c.args.steps c.requires.1 _ _ place given _ _ _ c.put.ensures w.0,
      lines-done t c.requires.0.readable c.args.path.now c.args.steps c.requires.1 _ _ place given _ _ _ _ _ c.registers-r.ensures.0 c.line-shown.ensures c.put-2.ensures w.1,
    )

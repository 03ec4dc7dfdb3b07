-- The column i is written in front of those behind it.
use Rattle.std.proofs.Common.{◌≡◌, ◌+◌, ◌-◌, suc, arith}
use Rattle.columns.proofs.Columns.{column_more, tens_left}
use Rattle.columns.proofs.put_in.Goals as goal

pub loop-i-preserved : goal.loop-i-preserved
loop-i-preserved c =
    let a = c.args in
    let l = c.loop-i in
    let next : l.i ≡ suc (l.i - 1) = omega arith in
    let up : l.i - 1 + 1 ≡ l.i = omega arith in (
      column_more a.line.now l.line a.at a.width a.v l.i (l.i - 1) l.rest next (omega arith) l.invariant.0 l.invariant.1 c.byte_of.result (rw up at c.byte_of.ensures),
      tens_left a.line.now l.line a.at a.width a.v l.i (l.i - 1) l.rest next (omega arith) l.invariant.0 l.invariant.1,
    )

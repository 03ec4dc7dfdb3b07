-- `along::line` meets its contract.
use Rattle.std.proofs.Common.{arith, take}
use Rattle.std.proofs.Math.Seq.{length-take-le}
use Rattle.concretization.proofs.Pasting.{line_made}
use Rattle.concretization.proofs.along.line.Goals as goal

pub returns : goal.returns
returns c =
    let a = c.args in
    line_made a.r a.p a.moment a.arc a.place (take a.r a.contents) (take a.p a.params) _ _ (length-take-le a.r a.contents (omega arith)) (length-take-le a.p a.params (omega arith)) c.requires.0 c.requires.1
    c.put.ensures c.put-2.ensures

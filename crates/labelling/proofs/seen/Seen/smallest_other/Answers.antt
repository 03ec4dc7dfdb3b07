-- A number that has a place among the identifiers is passed.
use Rattle.std.proofs.Common.{sym, ◌∙◌}
use Rattle.labelling.proofs.NotedTurns.{fresh_later}
use Rattle.labelling.proofs.seen.Seen.smallest_other.Goals as goal

pub loop-x-preserved : goal.loop-x-preserved
loop-x-preserved c =
    let l = c.loop-x in
    (l.invariant.0, fresh_later c.args.self.now c.self.inside.count l.x c.loop-x-test.true (sym c.contains.ensures ∙ c.if-not-contains.false) ∙ l.invariant.1)

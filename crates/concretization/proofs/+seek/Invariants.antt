-- The measure is the number of parameters that have no value yet; the loop keeps what is left to try.
use Rattle.std.proofs.Common.{◌≡◌, ◌-◌, ◌+◌, drop}
use Rattle.graphs.specs.Lists.{first}
use Rattle.concretization.specs.Parameters.{tries, suits}
use Rattle.concretization.proofs.ParameterSearch.{tried_with}
use Rattle.concretization.proofs.+seek.Given as goal

abbrev pub decreases-seek : goal.decreases-seek
decreases-seek l = l.arc.params - l.depth

abbrev pub invariant-loop-x : goal.invariant-loop-x
invariant-loop-x l =
    first (suits l.arc l.base l.wanted) (tried_with l.pool (l.arc.params - (l.depth + 1)) (7 + l.depth) l.seen l.vals (drop l.x-index l.pool))
    ≡ first (suits l.arc l.base l.wanted) (tries l.pool (l.arc.params - l.depth) (7 + l.depth) l.seen l.vals)

-- `labelling::constants_seen`: the first constants are seen.
use Rattle.std.proofs.Common.{◌≡◌, take}
use Rattle.labelling.proofs.constants_seen.Given as goal

abbrev pub invariant-loop-x : goal.invariant-loop-x
invariant-loop-x l = l.seen ≡ take l.x-index l.fn.constants

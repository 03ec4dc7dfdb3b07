-- The loop: the pool has the larger ones of the first constants.
use Rattle.std.proofs.Common.{◌≡◌, take}
use Rattle.moves.specs.Moves.{pool}
use Rattle.concretization.proofs.choices.Given as goal

abbrev pub invariant-loop-x : goal.invariant-loop-x
invariant-loop-x l = l.pool ≡ pool 15 (take l.x-index l.fn.constants)

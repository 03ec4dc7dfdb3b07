-- `labelling::same_entries`: the lists are equal if what is left of them is.
use Rattle.std.proofs.Common.{◌≡◌, length, take}
use Rattle.labelling.proofs.NotedTurns.{Same}
use Rattle.labelling.proofs.same_entries.Given as goal

abbrev pub invariant-loop-i : goal.invariant-loop-i
invariant-loop-i l = (length (take (length l.b) l.a) ≡ length l.b) × Same (take (length l.b) l.a) l.b l.i

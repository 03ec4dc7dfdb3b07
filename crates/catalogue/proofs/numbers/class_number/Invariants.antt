-- The loop: what has been added, and the rank of the rest.
use Rattle.catalogue.proofs.Ranked.{Ranked}
use Rattle.catalogue.proofs.numbers.class_number.Given as goal

abbrev pub invariant-loop-i : goal.invariant-loop-i
invariant-loop-i l = Ranked l.r l.c l.x-items l.b l.sum l.i

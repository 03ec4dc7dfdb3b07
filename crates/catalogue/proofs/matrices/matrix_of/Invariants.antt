-- The loop: the first i rows are written.
use Rattle.std.proofs.Common.{◌≡◌, ◌*◌, take}
use Rattle.classes.specs.Matrix.{matrix}
use Rattle.catalogue.proofs.Copying.{overlay}
use Rattle.catalogue.proofs.matrices.matrix_of.Given as goal

abbrev pub invariant-loop-i : goal.invariant-loop-i
invariant-loop-i l = l.out ≡ overlay (matrix (take l.c l.constants) l.x-items) l.fn.out (l.i * l.r)

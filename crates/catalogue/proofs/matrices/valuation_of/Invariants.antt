-- The loop copies the identifiers of the registers to the array.
use Rattle.catalogue.specs.MatrixCells.{valuation_of}
use Rattle.catalogue.proofs.Copying.{Copied}
use Rattle.catalogue.proofs.matrices.valuation_of.Given as goal

abbrev pub invariant-loop-i : goal.invariant-loop-i
invariant-loop-i l = Copied (valuation_of l.r l.matrix) l.list l.i

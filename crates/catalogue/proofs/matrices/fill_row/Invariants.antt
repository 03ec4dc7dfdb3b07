-- The loop: the first j entries are written.
use Rattle.std.proofs.Common.{◌≡◌, cond, eqb, map}
use Rattle.catalogue.proofs.Copying.{overlay}
use Rattle.catalogue.proofs.matrices.fill_row.Given as goal

abbrev pub invariant-loop-j : goal.invariant-loop-j
invariant-loop-j l = l.row ≡ overlay (map (λ y. cond (eqb l.x y) l.own 0) l.contents) l.fn.row l.j

-- The loop: the rows up to n are tested, those that serve are written.
use Rattle.catalogue.specs.FlatCatalogue.{catalogue, row}
use Rattle.catalogue.specs.Serving.{serves, serving_rows}
use Rattle.catalogue.proofs.Narrowed.{Filling}
use Rattle.catalogue.proofs.serving.fill_rows.Given as goal

abbrev pub invariant-loop-n : goal.invariant-loop-n
invariant-loop-n l = Filling (λ m. serves l.r l.c (row catalogue m)) 674 (serving_rows l.r l.c) l.fn.rows l.rows l.count l.n

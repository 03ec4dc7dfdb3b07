-- The loop: the test goes on from label i.
use Rattle.std.proofs.Common.{◌≡◌, ◌-◌, ltb, get_or}
use Rattle.lists.specs.Searches.{all_from}
use Rattle.catalogue.specs.FlatCatalogue.{row}
use Rattle.catalogue.specs.Serving.{serves_label, serves}
use Rattle.catalogue.proofs.serving.row_serves.Given as goal

abbrev pub invariant-loop-i : goal.invariant-loop-i
invariant-loop-i l = all_from (λ j. serves_label (ltb j l.r) l.c (get_or (row l.table l.n) j 0)) l.i (5 - l.i) ≡ serves l.r l.c (row l.table l.n)

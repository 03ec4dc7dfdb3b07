-- The labels of values, and the identifiers that have a label afterwards.
-- Assumes nothing.
use Rattle.std.specs.Prelude.{ℕ, List}
use Rattle.classes.specs.Classes.{labels}
use Rattle.classes.specs.Contents.{notes}
use Rattle.lists.specs.Arrays.{padded}
use Rattle.labelling.specs.declared.Labelled.{Labelled}

abbrev pub labelled : (seen values : List ℕ) → Labelled
labelled seen vs = record { labels = padded 5 (labels seen vs); seen = notes seen vs }

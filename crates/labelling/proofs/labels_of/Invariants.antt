-- `labelling::labels_of`: the first i values are labelled.
use Rattle.std.proofs.Common.{◌≡◌, take}
use Rattle.lists.specs.Arrays.{padded}
use Rattle.classes.specs.Classes.{labels}
use Rattle.classes.specs.Contents.{notes}
use Rattle.labelling.proofs.labels_of.Given as goal

abbrev pub invariant-loop-i : goal.invariant-loop-i
invariant-loop-i l = (l.seen ≡ notes l.fn.s (take l.i l.values)) × (l.labels ≡ padded 5 (labels l.fn.s (take l.i l.values)))

-- `labelling::identifiers_of`: the identifiers of the first i labels are found.
use Rattle.std.proofs.Common.{◌≡◌, take}
use Rattle.lists.specs.Arrays.{padded}
use Rattle.classes.specs.Contents.{notes, identifiers}
use Rattle.labelling.proofs.identifiers_of.Given as goal

abbrev pub invariant-loop-i : goal.invariant-loop-i
invariant-loop-i l = (l.seen ≡ notes l.fn.s (identifiers l.fn.s (take l.i l.labels))) × (l.ids ≡ padded 5 (identifiers l.fn.s (take l.i l.labels)))

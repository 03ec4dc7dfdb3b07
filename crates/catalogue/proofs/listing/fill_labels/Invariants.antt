-- The loop: the labels of the first k classes are written, and those of the next are at hand.
use Rattle.std.proofs.Common.{◌≡◌, ◌*◌, ◌<◌, [], length, get_or}
use Rattle.classes.specs.Classes.{lists}
use Rattle.lists.specs.Arrays.{padded}
use Rattle.catalogue.specs.Serving.{label_rows}
use Rattle.catalogue.proofs.Copying.{overlay}
use Rattle.catalogue.proofs.listing.fill_labels.Given as goal

abbrev pub invariant-loop-k : goal.invariant-loop-k
invariant-loop-k l = record {
  done : l.flat ≡ overlay (label_rows l.r l.c) l.fn.flat (l.k * 5);
  next : l.k < length (lists l.r l.c) → l.labels ≡ padded 5 (get_or (lists l.r l.c) l.k []);
}

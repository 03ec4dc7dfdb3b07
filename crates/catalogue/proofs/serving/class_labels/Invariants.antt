-- The loop copies the row that serves, narrowed, to the array.
use Rattle.std.proofs.Common.{[], get_or}
use Rattle.classes.specs.Classes.{lists}
use Rattle.catalogue.proofs.Copying.{Copied}
use Rattle.catalogue.proofs.serving.class_labels.Given as goal

abbrev pub invariant-loop-i : goal.invariant-loop-i
invariant-loop-i l = Copied (get_or (lists l.r l.c) l.number []) l.labels l.i

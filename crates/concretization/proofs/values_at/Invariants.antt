-- The loop: the values in the first i slots are there.
use Rattle.std.proofs.Common.{◌≡◌}
use Rattle.lists.specs.Arrays.{padded}
use Rattle.forms.specs.Slots.{values_from}
use Rattle.concretization.proofs.values_at.Given as goal

abbrev pub invariant-loop-i : goal.invariant-loop-i
invariant-loop-i l = l.values ≡ padded 5 (values_from l.vals l.slots 0 l.i)

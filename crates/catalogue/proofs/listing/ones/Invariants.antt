-- The loop: the registers from `from` to i have label 1.
use Rattle.std.proofs.Common.{◌≡◌, ◌≤◌, ◌-◌}
use Rattle.lists.specs.Filling.{filled}
use Rattle.catalogue.proofs.listing.ones.Given as goal

abbrev pub invariant-loop-i : goal.invariant-loop-i
invariant-loop-i l = record {
  within : l.i - l.from ≤ l.r - l.from;
  done : l.next ≡ filled l.fn.list l.from (λ j. 1) (l.i - l.from);
}

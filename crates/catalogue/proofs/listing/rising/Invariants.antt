-- The loop: what the registers from i on leave of what is known so far is the result.
use Rattle.std.proofs.Common.{◌≡◌, ◌≤◌, drop}
use Rattle.catalogue.specs.Listing.{rising_from}
use Rattle.catalogue.proofs.listing.rising.Given as goal

abbrev pub invariant-loop-i : goal.invariant-loop-i
invariant-loop-i l = record {
  small : l.at ≤ 4;
  rest : rising_from l.top l.at l.i (drop l.i l.x-items) ≡ rising_from l.c 0 0 l.x-items;
}

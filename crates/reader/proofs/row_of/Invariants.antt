-- The invariant of `reader::row_of`.
use Rattle.std.proofs.Common.{◌≡◌, ◌≤◌, length, take}
use Rattle.reader.proofs.row_of.Given as goal

abbrev pub invariant-loop-i : goal.invariant-loop-i
invariant-loop-i l = record {
  most : l.i ≤ 6;
  long : length l.row ≡ 6;
  same : take l.i l.row ≡ take l.i l.f;
}

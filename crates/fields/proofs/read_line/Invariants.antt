-- The invariant of `fields::read_line`.
use Rattle.std.proofs.Common.{◌≡◌, length}
use Rattle.fields.proofs.FieldsTaken.{Taken}
use Rattle.fields.proofs.read_line.Given as goal

abbrev pub invariant-loop-rest : goal.invariant-loop-rest
invariant-loop-rest l = record {
  taken : Taken l.sheet l.fn.line l.row l.rest l.count;
  six : length l.row ≡ 6;
}

abbrev pub decreases-loop-rest : goal.decreases-loop-rest
decreases-loop-rest l = length l.rest

-- The invariant of `fields::number_from`.
use Rattle.std.proofs.Common.{◌≡◌, ◌-◌, drop, length}
use Rattle.fields.specs.Format.{digits_from}
use Rattle.fields.proofs.FieldsTaken.{Room}
use Rattle.fields.proofs.number_from.Given as goal

abbrev pub invariant-loop-b : goal.invariant-loop-b
invariant-loop-b l = record {
  room : Room l.v (length l.digits - l.b-index);
  rest : digits_from l.v (drop l.b-index l.digits) ≡ digits_from l.first l.digits;
}

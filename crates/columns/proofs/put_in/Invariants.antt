-- `columns::put_in` writes the last column first: those from column i on are written, and `rest` is the number without their digits.
use Rattle.std.proofs.Common.{◌≡◌, ◌+◌, ◌-◌, ◌/◌, ◌^◌}
use Rattle.std.proofs.lemmas.List.Edits.{sets}
use Rattle.columns.specs.Columns.{column}
use Rattle.columns.proofs.put_in.Given as goal

abbrev pub invariant-loop-i : goal.invariant-loop-i
invariant-loop-i l =
    (l.line ≡ sets l.fn.line (l.at + l.i) (column (l.width - l.i) l.v)) × (l.rest ≡ l.v / 10 ^ (l.width - l.i))

-- `columns::put_numbers` writes one number after another: with those from number i on the line is done.
use Rattle.std.proofs.Common.{◌≡◌, ◌+◌, length, get_or, drop}
use Rattle.std.proofs.lemmas.List.Edits.{sets}
use Rattle.columns.specs.Widths.{width}
use Rattle.columns.specs.Columns.{columns, line_columns}
use Rattle.columns.proofs.put_numbers.Given as goal

abbrev pub invariant-loop-i : goal.invariant-loop-i
invariant-loop-i l =
    let w = width l.sheet (get_or l.numbers 0 0) in
    (l.first ≡ get_or l.numbers 0 0)
    × (l.end + length (columns w l.i (drop l.i l.numbers)) ≡ l.at + length (line_columns l.sheet l.numbers))
    × (sets l.line l.end (columns w l.i (drop l.i l.numbers)) ≡ sets l.fn.line l.at (line_columns l.sheet l.numbers))

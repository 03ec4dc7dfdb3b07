-- So many moments have their lines.
use Rattle.std.proofs.Common.{◌+◌, ◌*◌, ◌≤◌}
use Rattle.columns.specs.declared.Sheet.TheVariants.{Run}
use Rattle.columns.specs.Columns.{file_bytes}
use Rattle.printout.specs.PrintedLines.{moments as moments_in}
use Rattle.printout.specs.Text.{Put}
use Rattle.printout.proofs.text.put_moments.Given as goal

abbrev pub invariant-loop-k : goal.invariant-loop-k
invariant-loop-k l = (l.end ≤ l.at + 115 * l.k) × Put (file_bytes Run (moments_in l.k l.slots)) l.at l.end l.initial.text l.text

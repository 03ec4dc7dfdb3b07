-- The invariant of `fields::read_lines`.
use Rattle.std.proofs.Common.{◌≡◌, ◌+◌, ◌≤◌, length}
use Rattle.fields.proofs.LineFiles.{onward}
use Rattle.fields.proofs.read_lines.Given as goal

abbrev pub invariant-loop-rest : goal.invariant-loop-rest
invariant-loop-rest g l = let m = g.R.Rules in record {
  few : l.lines + length l.rest ≤ length l.fn.s;
  small : m.Small l.r l.lines;
  rules : m.rules l.r ≡ m.rules l.fn.r;
  same :
      onward (m.rules l.fn.r) l.file l.lines (m.read l.r l.t) l.rest
      ≡ onward (m.rules l.fn.r) l.file 0 (m.read l.fn.r l.fn.t) l.fn.s;
}

abbrev pub decreases-loop-rest : goal.decreases-loop-rest
decreases-loop-rest g l = length l.rest

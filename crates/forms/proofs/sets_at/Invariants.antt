-- `forms::sets_at` meets its contract: the rows before i are taken. Assumes nothing.
use Rattle.std.proofs.Common.{◌≡◌, map}
use Rattle.forms.specs.FormAutomaton.{present, assignment_at}
use Rattle.forms.specs.Slots.{sets_of}
use Rattle.forms.proofs.sets_at.Given as goal

abbrev pub invariant-loop-i : goal.invariant-loop-i
invariant-loop-i l = l.s ≡ sets_of (map (assignment_at l.form) (present l.form l.row l.i))

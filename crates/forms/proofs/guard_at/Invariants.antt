-- `forms::guard_at` meets its contract: the rows before i are taken. Assumes nothing.
use Rattle.std.proofs.Common.{◌≡◌, map}
use Rattle.forms.specs.FormAutomaton.{present, condition_at}
use Rattle.forms.specs.Slots.{guard_of}
use Rattle.forms.proofs.guard_at.Given as goal

abbrev pub invariant-loop-i : goal.invariant-loop-i
invariant-loop-i l = l.g ≡ guard_of (map (condition_at l.form) (present l.form l.row l.i))

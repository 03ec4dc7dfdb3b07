-- The loop: the steps that are left, from the progress so far, come to what the whole run comes to.
use Rattle.std.proofs.Common.{◌≡◌, ◌+◌, drop}
use Rattle.forms.specs.FormAutomaton.{automaton_of}
use Rattle.replay.specs.Progress.{begun, through}
use Rattle.replay.proofs.replay_steps.Given as goal

abbrev pub invariant-loop-i : goal.invariant-loop-i
invariant-loop-i l = through (automaton_of l.form) l.p (l.i + 1) (drop l.i l.run) ≡ through (automaton_of l.form) (begun (automaton_of l.form) l.fn.start) 1 l.run

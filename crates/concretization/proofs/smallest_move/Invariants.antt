-- The loop: the transitions from i on decide.
use Rattle.std.proofs.Common.{◌≡◌, ◌-◌, suc, length}
use Rattle.moves.specs.Moves.{smallest_from, smallest}
use Rattle.forms.specs.FormAutomaton.{automaton_of}
use Rattle.concretization.specs.SmallestMove.{state_at, class_at}
use Rattle.concretization.proofs.smallest_move.Given as goal

abbrev pub invariant-loop-i : goal.invariant-loop-i
invariant-loop-i l =
    let a = automaton_of l.form in
    let s = state_at a l.here.place l.here.contents in
    let d = class_at a l.to l.next in record {
      count : l.i-end ≡ length a.transitions;
      agrees : smallest_from 15 a s d (suc l.i) (l.i-end - l.i) ≡ smallest 15 a s d;
    }

-- The loop: the steps in the numbers that are left, from the progress so far, come to what the whole run comes to.
use Rattle.std.proofs.Common.{◌≡◌, ◌+◌, take}
use Rattle.std.specs.Slice.Iter.{chunks_exact_rest, chunks_exact_size}
use Rattle.std.specs.Iterator.Adapters.{enumerate_source, enumerate_count}
use Rattle.forms.specs.FormAutomaton.{automaton_of}
use Rattle.replay.specs.RunForm.{steps_in}
use Rattle.replay.specs.Progress.{begun, through}
use Rattle.replay.proofs.StepWalk.{steps_left}
use Rattle.replay.proofs.replay.Given as goal

abbrev pub invariant-loop-i : goal.invariant-loop-i
invariant-loop-i l = record {
  can : (goal.iterator-loop-i).can_next l.i-iterator;
  finite : (goal.iterator-loop-i).is_finite l.i-iterator;
  nine : chunks_exact_size (enumerate_source l.i-iterator) ≡ 9;
  agrees : through (automaton_of l.form) l.p (enumerate_count l.i-iterator + 1) (steps_left (chunks_exact_rest (enumerate_source l.i-iterator)))
      ≡ through (automaton_of l.form) (begun (automaton_of l.form) (take 5 l.run)) 1 (steps_in l.run);
}

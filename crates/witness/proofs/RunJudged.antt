-- What is printed is right: the run is judged good by the replayer, it is a shortest to the target, and it fits the buffers; where none is printed, no run reaches the target.
-- Assumes nothing.
use Prim.Native.Nat.{◌<◌}
use mathlib.Core.Option.{none, some}
use mathlib.Core.Path.{◌≡◌, subst}
use lib.Dec.{T}
use lib.ListN.{length}
use Rattle.graphs.specs.Search.{Walk, steps}
use Rattle.automata.specs.Automaton.{Automaton}
use Rattle.automata.specs.Runs.{Target, Shortest}
use Rattle.automata.specs.Runs as meaning
use Rattle.automata.specs.WellFormed.{well_formed, limited, fits_target}
use Rattle.automata.specs.Answers.{nearest_to}
use Rattle.moves.specs.PathMoves.{walk_contents, walk_moves, RunAnswer}
use Rattle.moves.proofs.PathMoves.{prints}
use Rattle.moves.proofs.Limits.{limited-roomy}
use Rattle.replay.specs.Judge.{judge_flat}
use Rattle.replay.specs.RunForm.{flat_run}
use Rattle.replay.specs.declared.Verdict.TheVariants.{Good}
use Rattle.replay.proofs.Flat.{run-good}
use Rattle.witness.proofs.Finding.{few-steps}

-- what is said of the run along a walk
pub record Printed (a : Automaton) (g : Target) (w : Walk) : Type 0 where
  pub good : judge_flat a (flat_run (walk_contents a w) (walk_moves 15 a w)) ≡ Good
  pub shortest : Shortest a g (walk_contents a w) (walk_moves 15 a w)
  pub count : length (walk_moves 15 a w) ≡ steps w
  pub few : steps w < 10784

module _ (a : Automaton) (wf : T (well_formed a)) (lim : T (limited a)) (g : Target) (fits : T (fits_target a g)) where
  answer : RunAnswer 15 a g (nearest_to a g)
  answer = prints 15 a wf (limited-roomy a wf lim) g fits

  pub printed-right : (w : Walk) → nearest_to a g ≡ some w → Printed a g w
  printed-right w e =
      let r : RunAnswer 15 a g (some w) = subst (RunAnswer 15 a g) e answer in
      record {
        good = run-good a lim (walk_contents a w) (walk_moves 15 a w) r.0.reaches.run;
        shortest = r.0;
        count = r.1;
        few = few-steps a wf lim g w e;
      }

  pub never-right : nearest_to a g ≡ none → meaning.Never a g
  never-right e = subst (RunAnswer 15 a g) e answer

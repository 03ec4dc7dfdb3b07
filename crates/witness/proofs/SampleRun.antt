-- Document 01's sample: the walk that is found, the configurations that are reachable, and the lines that are printed.
-- Assumes nothing.
use Prim.Native.Nat.{ℕ}
use mathlib.Core.List.{List, [], ◌∷◌, flat_map}
use mathlib.Core.Path.{◌≡◌, refl, ap, ◌∙◌}
use lib.ListN.{length, get_or}
use Rattle.sets.specs.Packed.{word_of, packed_from}
use Rattle.graphs.specs.Search.Walk.{start, ◌▸◌}
use Rattle.graphs.proofs.Search.{queue_invariant}
use Rattle.automata.specs.ConfigurationGraph.{rows, starts}
use Rattle.automata.specs.Answers.{nearest_to}
use Rattle.automata.specs.Examples.{sample, delivered}
use Rattle.moves.specs.PathMoves.{walk_contents, walk_moves}
use Rattle.lists.specs.Arrays.{padded}
use Rattle.reach.specs.Buffers.{reached_words}
use Rattle.reach.specs.Reaching.{found}
use Rattle.reach.proofs.Queue.{counted}
use Rattle.reach.proofs.StepGraph.{graph_fits}
use Rattle.replay.specs.RunForm.{flat_run}
use Rattle.witness.specs.declared.Answer.TheVariants.{Reached}
use Rattle.concretization.specs.RunLines.{run_lines}
use Rattle.witness.specs.Printed.{reached_count, answer_of}
use Rattle.moves.proofs.SampleMoves.{walk, sample-walk}

-- three configurations are reachable: 0, 7 and 14
sample-found : found sample ≡ start 0 ∷ start 0 ▸ 7 ∷ walk ∷ []
unfolding found flat_map
sample-found = refl

pub sample-count : reached_count sample ≡ 3
unfolding found
sample-count = counted (rows sample) (starts sample) (queue_invariant (rows sample) (starts sample) (length (rows sample))) 10784 (graph_fits sample tt) ∙ ap length sample-found

-- the first of the packed words says so
sample_word : (ws : List ℕ) → get_or (reached_words 337 (found sample) ws) 0 0 ≡ 16513
unfolding reached_words packed_from word_of
sample_word ws = ap (λ q. get_or (reached_words 337 q ws) 0 0) sample-found

sample-answer : answer_of sample (nearest_to sample delivered) ≡ Reached 2 3
sample-answer = ap (answer_of sample) sample-walk ∙ ap (Reached 2) sample-count

-- the lines of document 01: moment, arc, place, registers, parameters
sample-lines : run_lines sample (walk_contents sample walk) (walk_moves 15 sample walk)
    ≡ 5 ∷ 0 ∷ 0 ∷ 1 ∷ 0 ∷ 0 ∷ 0 ∷ 0 ∷ 0 ∷ 0 ∷ 0 ∷ 0
    ∷ 6 ∷ 1 ∷ 1 ∷ 2 ∷ 1 ∷ 0 ∷ 1 ∷ 0 ∷ 0 ∷ 0 ∷ 0 ∷ 0
    ∷ 6 ∷ 2 ∷ 2 ∷ 3 ∷ 1 ∷ 2 ∷ 2 ∷ 0 ∷ 0 ∷ 0 ∷ 0 ∷ 0
    ∷ []
unfolding flat_map padded
sample-lines = refl

-- the same in the replayer's form
sample-run : flat_run (walk_contents sample walk) (walk_moves 15 sample walk)
    ≡ 0 ∷ 0 ∷ 0 ∷ 0 ∷ 0
    ∷ 1 ∷ 1 ∷ 0 ∷ 0 ∷ 1 ∷ 0 ∷ 0 ∷ 0 ∷ 0
    ∷ 2 ∷ 2 ∷ 0 ∷ 0 ∷ 1 ∷ 2 ∷ 0 ∷ 0 ∷ 0
    ∷ []
unfolding flat_map padded
sample-run = refl

-- What the replayer says of a table and a run, for every input. This is what a reader believes.
-- Assumes nothing.
use Rattle.std.specs.Prelude.{ℕ, ◌-◌, ◌%◌, Bool, ◌&&◌, List, [], ◌∷◌, ◌≡◌, T, eqb, leb, length, Result, Ok, Err}
use Rattle.refusals.specs.declared.Refusal.{Refusal}
use Rattle.refusals.specs.Judged.{Judged, refusal, ◌then◌, require}
use Rattle.refusals.specs.Judged.Judged.{accepted, refused}
use Rattle.forms.specs.FormAutomaton.{automaton_of}
use Rattle.replay.specs.declared.Step.{Step}
use Rattle.replay.specs.declared.Verdict.{Verdict}
use Rattle.replay.specs.declared.Verdict.TheVariants.{Good, Bad}
use Rattle.replay.specs.Judge.{judge, judge_flat}
use Rattle.replay.specs.RunForm.{Whole, start_in, steps_in, good_run, FirstBad}
use Rattle.automata.specs.Automaton.{Automaton}
use Rattle.opening.specs.Opening.{open_table}
use Rattle.writing.specs.Said.{TableFile}

-- the length of a replayer's list: 5 plus a multiple of 9
abbrev pub whole_length : ℕ → Bool
whole_length n = leb 5 n && eqb ((n - 5) % 9) 0

-- the reply for a verdict, or for the refusal of what was to be judged
abbrev pub replayed : Judged Verdict → Result Verdict Refusal
replayed (accepted v) = Ok v
replayed (refused r) = Err r

-- the verdict on a table and a run in the flat form: 9 for its length comes first
abbrev pub replay_of : List ℕ → List ℕ → Judged Verdict
replay_of s run = require (whole_length (length run)) (refusal 9 0 0) then (λ ok. open_table s then (λ t. accepted (judge_flat (automaton_of t) run)))

abbrev pub replay_reply : List ℕ → List ℕ → Result Verdict Refusal
replay_reply s run = replayed (replay_of s run)

-- the verdict on a table, a start and steps
abbrev pub replay_steps_of : List ℕ → List ℕ → List Step → Judged Verdict
replay_steps_of s start steps = open_table s then (λ t. accepted (judge (automaton_of t) start steps))

abbrev pub replay_steps_reply : List ℕ → List ℕ → List Step → Result Verdict Refusal
replay_steps_reply s start steps = replayed (replay_steps_of s start steps)

-- document 01's numbers of a verdict: nothing for good, or the first bad moment
abbrev pub verdict_numbers : Verdict → List ℕ
verdict_numbers Good = []
verdict_numbers (Bad m) = m ∷ []

-- What the replies mean

-- good, and then the start and the steps are a run from a permitted start, with 0 in all unused slots; or bad, and then at the first bad moment
abbrev pub ReplayAnswer : Automaton → List ℕ → List Step → Result Verdict Refusal → Type 0
ReplayAnswer a start steps (Ok Good) = T (good_run a start steps)
ReplayAnswer a start steps (Ok (Bad m)) = FirstBad a start steps m
ReplayAnswer a start steps (Err r) = ⊥

-- where the bytes say a table, and the list has the replayer's length, the verdict is right; elsewhere it is a refusal
pub record ReplayMeans (s run : List ℕ) (r : Result Verdict Refusal) : Type 0 where
  pub said : (a : Automaton) → TableFile s a → Whole run → ReplayAnswer a (start_in run) (steps_in run) r
  pub unsaid : ((a : Automaton) → TableFile s a → Whole run → ⊥) → (n : Refusal) × (r ≡ Err n)

-- the same of steps
pub record ReplayStepsMean (s start : List ℕ) (steps : List Step) (r : Result Verdict Refusal) : Type 0 where
  pub said : (a : Automaton) → TableFile s a → ReplayAnswer a start steps r
  pub unsaid : ((a : Automaton) → TableFile s a → ⊥) → (n : Refusal) × (r ≡ Err n)

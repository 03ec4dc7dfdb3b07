-- What the replayer says of a start and steps in its form: good, or the first bad moment, 0 for the start. What that means is in `RunForm`.
-- Assumes nothing.
use Rattle.std.specs.Prelude.{ℕ, ◌+◌, Bool, ◌&&◌, cond, List, [], ◌∷◌, T}
use Rattle.automata.specs.Automaton.{Automaton}
use Rattle.automata.specs.Runs.{State, is_step, after, permitted, initial}
use Rattle.replay.specs.declared.Step.{Step}
use Rattle.replay.specs.declared.Verdict.{Verdict}
use Rattle.replay.specs.declared.Verdict.TheVariants.{Good, Bad}
use Rattle.replay.specs.RunForm.{rest_zero, contents_of, move_of, tidy, start_in, steps_in, good_run, FirstBad}

-- the start is permitted, and its unused slots are 0
unfoldable pub start_good : Automaton → List ℕ → Bool
start_good a v = permitted a (contents_of a v) && rest_zero a.registers v

-- the step is one from this state, and its unused slots are 0
unfoldable pub step_good : Automaton → State → Step → Bool
step_good a st s = is_step a st (move_of a s) && tidy a s

-- the verdict on steps from a state, the first of which is moment n
unfoldable pub judge_steps : Automaton → State → ℕ → List Step → Verdict
judge_steps a st n [] = Good
judge_steps a st n (s ∷ ss) = cond (step_good a st s) (judge_steps a (after a (move_of a s)) (n + 1) ss) (Bad n)

-- the verdict on a start and the steps after it
abbrev pub judge : Automaton → List ℕ → List Step → Verdict
judge a v ss = cond (start_good a v) (judge_steps a (initial a (contents_of a v)) 1 ss) (Bad 0)

-- the verdict on a flat list
abbrev pub judge_flat : Automaton → List ℕ → Verdict
judge_flat a ns = judge a (start_in ns) (steps_in ns)

-- What a verdict means

-- good means a run; a moment means that it is the first bad one
abbrev pub Means : Automaton → List ℕ → List Step → Verdict → Type 0
Means a v ss Good = T (good_run a v ss)
Means a v ss (Bad m) = FirstBad a v ss m

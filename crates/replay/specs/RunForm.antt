-- A run in the replayer's form, when it is good, and which moment is the first bad one. This is what a reader believes.
-- A start is five slots of contents; a step is a transition's number (document 01's arc), three slots of parameters and five of new contents. The flat form
-- has the five slots of the start and then nine numbers for each step.
-- Assumes nothing.
use Rattle.std.specs.Prelude.{ℕ, zero, suc, ◌-◌, ◌/◌, ◌%◌, ◌≤◌, ◌<◌, Bool, ◌&&◌, ◌≡◌, T, eqb, length, get_or, take, drop}
use mathlib.Core.List.{List, [], ◌∷◌, ◌++◌, map, flat_map}
use Rattle.graphs.specs.Lists.{all_of}
use Rattle.automata.specs.Automaton.{Automaton, arity}
use Rattle.automata.specs.Runs.{Move, transition_of, is_run}
use Rattle.lists.specs.Arrays.{padded}
use Rattle.replay.specs.declared.Step.{Step}

-- the slots behind the first n, which are in use, are 0
abbrev pub rest_zero : ℕ → List ℕ → Bool
rest_zero n xs = all_of (λ x. eqb x 0) (drop n xs)

-- how many parameters transition n takes
abbrev pub takes : Automaton → ℕ → ℕ
takes a n = arity a (transition_of a n)

-- the contents in their five slots
abbrev pub contents_of : Automaton → List ℕ → List ℕ
contents_of a v = take a.registers v

-- the move that a step says
abbrev pub move_of : Automaton → Step → Move
move_of a s = record { transition = s.arc; parameters = take (takes a s.arc) s.params; valuation = contents_of a s.next }

-- the step's unused slots are 0
abbrev pub tidy : Automaton → Step → Bool
tidy a s = rest_zero (takes a s.arc) s.params && rest_zero a.registers s.next

-- a list of the replayer's length: 5 plus a multiple of 9
pub record Whole (ns : List ℕ) : Type 0 where
  pub start : 5 ≤ length ns
  pub steps : (length ns - 5) % 9 ≡ 0

-- the step in the first nine numbers
abbrev pub step_from : List ℕ → Step
step_from xs = record { arc = get_or xs 0 0; params = take 3 (drop 1 xs); next = take 5 (drop 4 xs) }

-- the first n steps in a list of numbers
unfoldable pub steps_from : ℕ → List ℕ → List Step
steps_from zero xs = []
steps_from (suc n) xs = step_from xs ∷ steps_from n (drop 9 xs)

-- the start of a flat list
abbrev pub start_in : List ℕ → List ℕ
start_in ns = take 5 ns

-- its steps
abbrev pub steps_in : List ℕ → List Step
steps_in ns = steps_from ((length ns - 5) / 9) (drop 5 ns)

-- a move as nine numbers
abbrev pub flat_move : Move → List ℕ
flat_move m = m.transition ∷ (padded 3 m.parameters ++ padded 5 m.valuation)

-- contents, and the moves from there
abbrev pub flat_run : List ℕ → List Move → List ℕ
flat_run v ms = padded 5 v ++ flat_map flat_move ms

-- the start and the steps are a run from a permitted start, and all unused slots are 0
abbrev pub good_run : Automaton → List ℕ → List Step → Bool
good_run a v ss = is_run a (contents_of a v) (map (move_of a) ss) && (rest_zero a.registers v && all_of (tidy a) ss)

-- the first bad moment is 0 where the start is not good, and m + 1 where the start and the first m steps are good, and with one step more they are not
abbrev pub FirstBad : Automaton → List ℕ → List Step → ℕ → Type 0
FirstBad a v ss zero = T (good_run a v []) → ⊥
FirstBad a v ss (suc m) = (m < length ss) × T (good_run a v (take m ss)) × (T (good_run a v (take (suc m) ss)) → ⊥)

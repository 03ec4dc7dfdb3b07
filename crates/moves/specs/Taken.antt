-- The run that document 01 takes for a target, said of runs and not of the search. This is what a reader believes.
-- Assumes nothing.
use Rattle.std.specs.Prelude.{ℕ, ◌<◌, ◌≡◌, length, ◌⊎◌, T}
use mathlib.Core.List.{List, [], ◌∷◌, map, ◌++◌, Memᴰ}
use Rattle.graphs.specs.Lists.{AtMost, first}
use Rattle.classes.specs.Classes.{labels, GivenBack}
use Rattle.automata.specs.Automaton.{Automaton}
use Rattle.automata.specs.Runs.{State, Move, after, initial, Target, Reaches, Shortest, is_step}
use Rattle.automata.specs.Configurations.{conf, number, Configuration}

-- the states that the moves lead through
abbrev pub states : Automaton → State → List Move → List State
states a s [] = s ∷ []
states a s (m ∷ ms) = s ∷ states a (after a m) ms

-- the move is a step from the state s, and it ends in the configuration d
pub record Leads (a : Automaton) (s : State) (d : Configuration) (m : Move) : Type 0 where
  pub step : T (is_step a s m)
  pub ends : conf a (after a m) ≡ d

-- a move as one list: the transition's number, then the parameters followed by the new contents
abbrev pub spelled : Move → List ℕ
spelled m = m.transition ∷ (m.parameters ++ m.valuation)

-- every identifier of the list is a constant or less than n
abbrev pub Pooled : ℕ → List ℕ → List ℕ → Type 0
Pooled n cs xs = (x : ℕ) → Memᴰ x xs → Memᴰ x cs ⊎ (x < n)

-- of all moves from s to d, with whatever natural numbers, this is the smallest; and its identifiers are constants or less than n
pub record Smallest (n : ℕ) (a : Automaton) (s : State) (d : Configuration) (m : Move) : Type 0 where
  pub leads : Leads a s d m
  pub least : (m' : Move) → Leads a s d m' → AtMost (spelled m) (spelled m')
  pub parameters : Pooled n a.constants m.parameters
  pub valuation : Pooled n a.constants m.valuation

-- the numbers of the configurations that a run passes through, from its start to its end
abbrev pub passed : Automaton → List ℕ → List Move → List ℕ
passed a v ms = map (λ s. number a (conf a s)) (states a (initial a v) ms)

-- from the state s on, each move is the smallest of all, with whatever natural numbers, that lead to the configuration in which it ends
abbrev pub AllSmallest : ℕ → Automaton → State → List Move → Type 0
AllSmallest n a s [] = Unit {0}
AllSmallest n a s (m ∷ ms) = Smallest n a s (conf a (after a m)) m × AllSmallest n a (after a m) ms

-- the run that is taken: no run that reaches the target is shorter; of those of its length, from whatever start, its configurations are first in dictionary
-- order; it begins with the contents given back for its class; each move is the smallest; every identifier is a constant or less than n
pub record Taken (n : ℕ) (a : Automaton) (g : Target) (v : List ℕ) (ms : List Move) : Type 0 where
  pub shortest : Shortest a g v ms
  pub first : (w : List ℕ) (ns : List Move) → Reaches a g w ns → length ns ≡ length ms → AtMost (passed a v ms) (passed a w ns)
  pub given : GivenBack a.constants (labels a.constants v) v
  pub small : Pooled n a.constants v
  pub moves : AllSmallest n a (initial a v) ms

-- The run along a path of configurations, each step by the smallest move, and what is printed for a target.
-- Assumes nothing.
use Rattle.std.specs.Prelude.{ℕ, ◌≡◌, T, length}
use mathlib.Core.List.{List, [], ◌∷◌, ◌++◌, map, Memᴰ}
use Rattle.std.proofs.Math.Option.{Option, none, some}
use Rattle.graphs.specs.Search.{Walk, steps, nodes}
use Rattle.graphs.specs.Search.Walk.{start, ◌▸◌}
use Rattle.classes.specs.Contents.{identifiers, contents}
use Rattle.automata.specs.Automaton.{Automaton}
use Rattle.automata.specs.Runs.{State, Move, after, initial, is_run, Target, Shortest, Never}
use Rattle.automata.specs.Configurations.{Configuration, conf, number}
use Rattle.automata.specs.ConfigurationGraph.{step_conf, Listed, numbered}
use Rattle.moves.specs.Moves.{smallest}
use Rattle.moves.specs.Taken.{Pooled, Smallest}
use Rattle.moves.specs.Taken.{states}

-- from the state s through these configurations, at each step by the smallest move; it stops where there is none
abbrev pub through : ℕ → Automaton → State → List Configuration → List Move
through n a s [] = []
through n a s (d ∷ ds) = elim (smallest n a s d) [ none ↦ [] | some m ↦ m ∷ through n a (after a m) ds ]

-- the moves lead through these configurations, each by the smallest move
abbrev pub EachSmallest : ℕ → Automaton → State → List Move → List Configuration → Type 0
EachSmallest n a s [] [] = Unit {0}
EachSmallest n a s [] (d ∷ ds) = ⊥
EachSmallest n a s (m ∷ ms) [] = ⊥
EachSmallest n a s (m ∷ ms) (d ∷ ds) = Smallest n a s d m × EachSmallest n a (after a m) ms ds

-- each configuration leads to the next
abbrev pub Trail : Automaton → Configuration → List Configuration → Type 0
Trail a c [] = Unit {0}
Trail a c (d ∷ ds) = Listed a d × T (step_conf a c d) × Trail a d ds

-- the run along c, ds: it begins with the contents given back for the class of c
abbrev pub start_contents : Automaton → Configuration → List ℕ
start_contents a c = contents a.constants c.class

abbrev pub moves_along : ℕ → Automaton → Configuration → List Configuration → List Move
moves_along n a c ds = through n a (initial a (start_contents a c)) ds

-- a run whose states have just the configurations c, ds, each step by the smallest move, and whose identifiers are constants or less than n
pub record RunAlong (n : ℕ) (a : Automaton) (v : List ℕ) (ms : List Move) (c : Configuration) (ds : List Configuration) : Type 0 where
  pub run : T (is_run a v ms)
  pub configurations : map (conf a) (states a (initial a v) ms) ≡ c ∷ ds
  pub count : length ms ≡ length ds
  pub smallest : EachSmallest n a (initial a v) ms ds
  pub identifiers : (s : State) → Memᴰ s (states a (initial a v) ms) → Pooled n a.constants s.valuation
  pub parameters : (m : Move) → Memᴰ m ms → Pooled n a.constants m.parameters

-- What is printed for a target

-- the node that a walk begins with, and those after it
abbrev pub origin : Walk → ℕ
origin (start i) = i
origin (p ▸ j) = origin p

abbrev pub onward : Walk → List ℕ
onward (start i) = []
onward (p ▸ j) = onward p ++ (j ∷ [])

abbrev pub walk_contents : Automaton → Walk → List ℕ
walk_contents a w = start_contents a (numbered a (origin w))

abbrev pub walk_moves : ℕ → Automaton → Walk → List Move
walk_moves n a w = moves_along n a (numbered a (origin w)) (map (numbered a) (onward w))

-- what an answer says: no run reaches the target, or the run along the walk is a shortest that does, has as many moves as the walk has steps, and passes through the walk's nodes
abbrev pub RunAnswer : ℕ → Automaton → Target → Option Walk → Type 0
RunAnswer n a g none = Never a g
RunAnswer n a g (some w) =
    Shortest a g (walk_contents a w) (walk_moves n a w)
    × (length (walk_moves n a w) ≡ steps w)
    × (map (λ s. number a (conf a s)) (states a (initial a (walk_contents a w)) (walk_moves n a w)) ≡ nodes w)
    × RunAlong n a (walk_contents a w) (walk_moves n a w) (numbered a (origin w)) (map (numbered a) (onward w))

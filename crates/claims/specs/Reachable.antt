-- What the lent words and lists of a search say of runs of every length and over all identifiers. This is what a reader believes.
-- Assumes nothing.
use Rattle.std.specs.Prelude.{ℕ, ◌≤◌, ◌<◌, ◌^◌, List, ◌↔◌, ◌≡◌, T, length, get_or}
use Rattle.lists.specs.Arrays.{Kept}
use Rattle.sets.specs.Members.{member}
use Rattle.graphs.specs.Lists.{AtMost}
use Rattle.graphs.specs.Lists.{follow}
use Rattle.automata.specs.Automaton.{Automaton}
use Rattle.automata.specs.Runs.{Move, initial, final, is_run}
use Rattle.automata.specs.Configurations.{conf, number}
use Rattle.moves.specs.Taken.{passed}
use Rattle.claims.specs.Files.{ReachBuffers}

-- a run of n steps that ends in a state whose configuration has the number i
pub record RunTo (a : Automaton) (i n : ℕ) : Type 0 where
  pub contents : List ℕ
  pub moves : List Move
  pub run : T (is_run a contents moves)
  pub ends : number a (conf a (final a (initial a contents) moves)) ≡ i
  pub count : length moves ≡ n

-- the numbers of the configurations that it passes through
abbrev pub through : {a : Automaton} {i n : ℕ} → RunTo a i n → List ℕ
through {a} r = passed a r.contents r.moves

-- some run ends in configuration i after n steps, and none after fewer
pub record LeastRun (a : Automaton) (i n : ℕ) : Type 0 where
  pub run : RunTo a i n
  pub least : (m : ℕ) → RunTo a i m → n ≤ m

-- a run of n steps to configuration i passes through these, and no run of n steps to i passes through a list that stands before it in dictionary order
pub record FirstPath (a : Automaton) (i n : ℕ) (path : List ℕ) : Type 0 where
  pub run : RunTo a i n
  pub along : through run ≡ path
  pub first : (r : RunTo a i n) → AtMost path (through r)

-- what the words, the least steps and the links say of each number that a configuration may have (they are below 10,784)
pub record SearchClaim (a : Automaton) (before after : ReachBuffers) : Type 0 where
  -- bit i is 1 exactly if some run ends in configuration i
  pub marked : (i : ℕ) → i < 10784 → T (member after.words i) ↔ ((n : ℕ) × RunTo a i n)
  -- then entry i of the least steps is the least number of steps of such runs
  pub fewest : (i : ℕ) → i < 10784 → T (member after.words i) → LeastRun a i (get_or after.least i 0)
  -- so many links, followed back from i, give the first shortest path of configurations to i
  pub path : (i : ℕ) → i < 10784 → T (member after.words i)
      → FirstPath a i (get_or after.least i 0) (follow (λ c. get_or after.links c 0) (get_or after.least i 0) i)
  -- a start names itself
  pub start : (i : ℕ) → i < 10784 → get_or after.least i 0 ≡ 0 → get_or after.links i 0 ≡ i
  -- else both entries are 65,535
  pub unmarked : (i : ℕ) → i < 10784 → (T (member after.words i) → ⊥) → (get_or after.least i 0 ≡ 65535) × (get_or after.links i 0 ≡ 65535)
  -- words of 32 bits; longer buffers keep their remainder
  pub words : (i : ℕ) → i < 337 → get_or after.words i 0 < 2 ^ 32
  pub kept : Kept 337 before.words after.words × Kept 10784 before.least after.least × Kept 10784 before.links after.links

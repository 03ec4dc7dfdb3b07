-- The smallest move from a state to a configuration (document 01, "Reaching and questions"): how it is found.
-- Assumes nothing.
use Rattle.std.specs.Prelude.{ℕ, zero, suc, ◌+◌, Bool, ◌&&◌, List, [], ◌∷◌, ◌++◌, eqb, leb, length}
use Rattle.std.proofs.Math.Option.{Option, none, some}
use Rattle.graphs.specs.Lists.{up_from, eq_list, all_of, select, first, table}
use Rattle.classes.specs.Classes.{labels}
use Rattle.classes.specs.Contents.{notes, identifiers}
use Rattle.automata.specs.Automaton.{Transition, Automaton, arity, meets}
use Rattle.automata.specs.Runs.{State, Move, transition_of}
use Rattle.automata.specs.WellFormed.{constant_count}
use Rattle.automata.specs.Configurations.{Configuration}
use Rattle.automata.specs.ConfigurationGraph.{marks, written, held}
use Rattle.moves.specs.Taken.{Leads, Smallest}

-- what an answer says: no move leads from s to d, or this is the smallest
abbrev pub MoveAnswer : ℕ → Automaton → State → Configuration → Option Move → Type 0
MoveAnswer n a s d none = (m : Move) → Leads a s d m → ⊥
MoveAnswer n a s d (some m) = Smallest n a s d m

-- 0 to n - 1 and the constants that are larger, rising
abbrev pub pool : ℕ → List ℕ → List ℕ
pool n cs = up_from 0 n ++ select (leb n) cs

-- all lists of n entries of xs, in dictionary order if xs rises
abbrev pub tuples : ℕ → List ℕ → List (List ℕ)
tuples zero xs = [] ∷ []
tuples (suc n) xs = table (λ x l. x ∷ l) xs (tuples n xs)

-- with parameters ps the transition leads from the contents v to the class k: the guard holds, and the values written have the labels of those that k holds
abbrev pub passes : Automaton → Transition → List ℕ → List ℕ → List ℕ → Bool
passes a t v k ps =
    all_of (meets a.constants v ps) t.guard
    && eq_list (labels a.constants (written a.constants v ps t.assigns)) (labels (marks a) (held k t.assigns))

-- the smallest new contents of class k: a block of a constant or of a written value holds that; any other, block by block, the smallest identifier
-- that is no constant, no written value and not yet used
abbrev pub renewed : Automaton → Transition → List ℕ → List ℕ → List ℕ → List ℕ
renewed a t v k ps = identifiers (notes a.constants (written a.constants v ps t.assigns)) (labels (notes (marks a) (held k t.assigns)) k)

abbrev pub joins : Transition → State → Configuration → Bool
joins t s d = eqb t.from s.location && eqb t.to d.location

-- the smallest parameters in the pool with which the transition leads from s to d
abbrev pub parameters_of : ℕ → Automaton → Transition → State → Configuration → Option (List ℕ)
parameters_of n a t s d = first (λ ps. joins t s d && passes a t s.valuation d.class ps) (tuples (arity a t) (pool n a.constants))

abbrev pub move_with : Automaton → State → Configuration → ℕ → List ℕ → Move
move_with a s d i ps = record { transition = i; parameters = ps; valuation = renewed a (transition_of a i) s.valuation d.class ps }

-- the first of the transitions i, .. , i + k - 1 that leads from s to d, with its smallest parameters and new contents
abbrev pub smallest_from : ℕ → Automaton → State → Configuration → ℕ → ℕ → Option Move
smallest_from n a s d i zero = none
smallest_from n a s d i (suc k) = elim (parameters_of n a (transition_of a i) s d) [
  | none ↦ smallest_from n a s d (suc i) k
  | some ps ↦ some (move_with a s d i ps)
]

abbrev pub smallest : ℕ → Automaton → State → Configuration → Option Move
smallest n a s d = smallest_from n a s d 1 (length a.transitions)

-- there are enough identifiers below n
abbrev pub roomy_for : ℕ → Automaton → Transition → Bool
roomy_for n a t = leb (constant_count a + a.registers + arity a t) n && leb (constant_count a + a.registers + length t.assigns) n

abbrev pub roomy : ℕ → Automaton → Bool
roomy n a = leb (constant_count a + a.registers) n && all_of (roomy_for n a) a.transitions

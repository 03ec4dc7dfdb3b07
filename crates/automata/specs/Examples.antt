-- The worked examples that document 01 marks with a star, one or more for each kind of row, and the stays of questions: claims, a test of each by computation,
-- and the table of them.
-- Assumes nothing.
use Rattle.std.specs.Prelude.{ℕ, Bool, true, false, ◌&&◌, ◌↔◌, ◌≡◌, T, eqb, length}
use mathlib.Core.List.{List, [], ◌∷◌, ◌++◌, Memᴰ}
use Rattle.std.proofs.Math.Option.{Option, none, some}
use Rattle.graphs.specs.Lists.{eq_list, select}
use Rattle.graphs.specs.Formulas.{Formula, implies, AX, AF}
use Rattle.graphs.specs.Formulas.Formula.{atom, neg, EX, EG}
use Rattle.graphs.specs.Search.{Walk, steps}
use Rattle.classes.specs.Renaming.{SameClass, Distinct, Representatives}
use Rattle.classes.specs.Classes.{labels, lists}
use Rattle.classes.specs.Matrix.{matrix}
use Rattle.classes.specs.MatrixClasses.{class_of_matrix}
use Rattle.automata.specs.Automaton.{Term, Condition, Assignment, Transition, Automaton}
use Rattle.automata.specs.Automaton.Term.{register, parameter, constant}
use Rattle.automata.specs.Runs.{State, Move, Target, Step, Shortest, Never, permitted, initial, is_run, final, hits}
use Rattle.automata.specs.Questions.{Atom, row, Holds, HoldsAtStarts, question}
use Rattle.automata.specs.Questions.Atom.{at, equal, is}
use Rattle.automata.specs.WellFormed.{well_formed, inside, fits_target}
use Rattle.automata.specs.FormulaFits.{fits_formula}
use Rattle.automata.specs.Configurations.{Configuration, configuration, conf}
use Rattle.automata.specs.ConfigurationGraph.{step_conf, configurations}
use Rattle.automata.specs.Answers.{nearest_to, failing}

pub data Claim : Type 0 where
  class_count : ℕ → ℕ → ℕ → Claim
  class_list : List ℕ → List ℕ → List ℕ → Claim
  no_class : ℕ → ℕ → List ℕ → Claim
  successors : Automaton → State → List Configuration → Claim
  shortest : Automaton → Target → ℕ → List ℕ → List Move → Claim
  never : Automaton → Target → Claim
  holds : Automaton → Formula Atom → Claim
  fails : Automaton → Formula Atom → Claim

abbrev pub state : ℕ → List ℕ → State
state l v = record { location = l; valuation = v }

-- what a claim says, of valuations, steps and runs with any identifiers
abbrev pub Means : Claim → Type 0
-- n registers and c constants make so many classes
Means (class_count n c total) = (cs : List ℕ) → Distinct cs → length cs ≡ c → Representatives cs n total
-- with constants cs, the contents v have the list k
Means (class_list cs v k) = labels cs v ≡ k
-- no contents of n registers have this matrix, with any c constants
Means (no_class n c m) = (cs : List ℕ) → Distinct cs → length cs ≡ c → (v : List ℕ) → length v ≡ n → matrix cs v ≡ m → ⊥
-- steps from s, and from its location with any other contents of the same class, lead to states of just the configurations ds
Means (successors a s ds) = (u : List ℕ) → SameClass a.constants s.valuation u → (d : Configuration)
    → ((s' : State) × Step a (state s.location u) s' × (conf a s' ≡ d)) ↔ Memᴰ d ds
-- these contents and moves are a shortest run to the target, of n steps
Means (shortest a g n v ms) = Shortest a g v ms × (length ms ≡ n)
Means (never a g) = Never a g
-- the question holds at every permitted start, or fails at one
Means (holds a f) = HoldsAtStarts a f
Means (fails a f) = (v : List ℕ) × T (permitted a v) × (Holds a f (initial a v) → ⊥)

abbrev pub is_none : {A : Type 0} → Option A → Bool
is_none none = true
is_none (some x) = false

abbrev pub is_some : {A : Type 0} → Option A → Bool
is_some none = false
is_some (some x) = true

abbrev pub takes : ℕ → Option Walk → Bool
takes n none = false
takes n (some w) = eqb (steps w) n

abbrev pub eq_configurations : List Configuration → List Configuration → Bool
eq_configurations [] [] = true
eq_configurations [] (d ∷ ds) = false
eq_configurations (c ∷ cs) [] = false
eq_configurations (c ∷ cs) (d ∷ ds) = eqb c.location d.location && eq_list c.class d.class && eq_configurations cs ds

abbrev pub check : Claim → Bool
check (class_count n c total) = eqb (length (lists n c)) total
check (class_list cs v k) = eq_list (labels cs v) k
check (no_class n c m) = is_none (class_of_matrix n c m)
check (successors a s ds) =
    well_formed a && inside a.locations s.location && eqb (length s.valuation) a.registers
    && eq_configurations (select (step_conf a (conf a s)) (configurations a)) ds
check (shortest a g n v ms) =
    well_formed a && fits_target a g && is_run a v ms && hits a g (final a (initial a v) ms)
    && eqb (length ms) n && takes n (nearest_to a g)
check (never a g) = well_formed a && fits_target a g && is_none (nearest_to a g)
check (holds a f) = well_formed a && fits_formula a f && is_none (failing a f)
check (fails a f) = well_formed a && fits_formula a f && is_some (failing a f)

-- The automata

infix 70 ◌equals◌
abbrev pub ◌equals◌ : Term → Term → Condition
l equals r = record { left = l; equal = true; right = r }

infix 70 ◌differs◌
abbrev pub ◌differs◌ : Term → Term → Condition
l differs r = record { left = l; equal = false; right = r }

infix 70 ◌:=◌
abbrev pub ◌:=◌ : ℕ → Term → Assignment
i := t = record { register = i; source = t }

-- document 01's sample, with what follows its first transition; register 1 translator, 2 reviser, constant 1 nobody
abbrev pub workflow : List Transition → Automaton
workflow rest = record {
  registers = 2;
  constants = 0 ∷ [];
  locations = 3;
  arities = 1 ∷ 1 ∷ [];
  start = 1;
  starting = register 1 equals constant 1 ∷ register 2 equals constant 1 ∷ [];
  transitions = record { from = 1; action = 1; to = 2; guard = parameter 1 differs constant 1 ∷ []; assigns = 1 := parameter 1 ∷ 2 := constant 1 ∷ [] } ∷ rest;
}

-- its second transition, with its assignments
abbrev pub revision : List Assignment → Transition
revision second = record { from = 2; action = 2; to = 3; guard = parameter 1 differs register 1 ∷ parameter 1 differs constant 1 ∷ []; assigns = second }

abbrev pub sample : Automaton
sample = workflow (revision (1 := register 1 ∷ 2 := parameter 1 ∷ []) ∷ [])

-- the sample without the line `8 1 1 1`
abbrev pub loose : Automaton
loose = workflow (revision (2 := parameter 1 ∷ []) ∷ [])

-- the sample that stops at location 2, "translated"
abbrev pub stopped : Automaton
stopped = workflow []

-- source 001, example 3
abbrev pub example3 : Automaton
example3 = record {
  registers = 3;
  constants = [];
  locations = 2;
  arities = 2 ∷ [];
  start = 1;
  starting = [];
  transitions = record {
    from = 1;
    action = 1;
    to = 2;
    guard = register 1 differs register 2 ∷ parameter 1 differs parameter 2 ∷ [];
    assigns = 1 := register 2 ∷ 2 := parameter 1 ∷ 3 := parameter 2 ∷ [];
  } ∷ [];
}

-- location 3, and location 3 with equal registers
abbrev pub delivered : Target
delivered = record { location = 3; conditions = [] }

abbrev pub delivered_by_one : Target
delivered_by_one = record { location = 3; conditions = register 1 equals register 2 ∷ [] }

abbrev pub move : ℕ → List ℕ → List ℕ → Move
move t ps w = record { transition = t; parameters = ps; valuation = w }

-- Document 01, the examples marked with a star, in its order; of EG document 02, W3, says that it becomes yes

abbrev pub starred : List Claim
starred =
    class_count 5 2 674
    ∷ class_count 5 0 52
    ∷ class_count 0 2 1
    ∷ class_list (0 ∷ []) (0 ∷ 7 ∷ 7 ∷ []) (1 ∷ 2 ∷ 2 ∷ [])
    ∷ no_class 2 1 (2 ∷ 1 ∷ 1 ∷ 2 ∷ [])
    ∷ no_class 1 0 (0 ∷ [])
    ∷ successors example3 (state 1 (1 ∷ 2 ∷ 2 ∷ []))
    (configuration 2 (1 ∷ 1 ∷ 2 ∷ []) ∷ configuration 2 (1 ∷ 2 ∷ 1 ∷ []) ∷ configuration 2 (1 ∷ 2 ∷ 3 ∷ []) ∷ [])
    ∷ shortest sample delivered 2 (0 ∷ 0 ∷ []) (move 1 (1 ∷ []) (1 ∷ 0 ∷ []) ∷ move 2 (2 ∷ []) (1 ∷ 2 ∷ []) ∷ [])
    ∷ never sample delivered_by_one
    ∷ shortest loose delivered_by_one 2 (0 ∷ 0 ∷ []) (move 1 (1 ∷ []) (1 ∷ 0 ∷ []) ∷ move 2 (2 ∷ []) (2 ∷ 2 ∷ []) ∷ [])
    ∷ holds sample (EG (atom (equal 1 1)))
    ∷ holds sample (AF (atom (at 3)))
    ∷ []

-- For each kind of row that these do not touch, what holds at the sample's start and what does not

-- the kind of a row on the places p and q, and on p alone
abbrev pub on_places : ℕ → ℕ → ℕ → Formula Atom
on_places kind p q = question (row 1 p 0 ∷ row 1 q 0 ∷ row kind 1 2 ∷ [])

abbrev pub on_place : ℕ → ℕ → Formula Atom
on_place kind p = question (row 1 p 0 ∷ row kind 1 0 ∷ [])

abbrev pub of_kinds : List Claim
of_kinds =
    -- 3: the translator is nobody; at every next moment the reviser is, and the translator is not
    holds sample (question (row 3 1 1 ∷ []))
    ∷ holds sample (question (row 3 2 1 ∷ row 11 1 0 ∷ []))
    ∷ fails sample (question (row 3 1 1 ∷ row 6 1 0 ∷ []))
    -- 5 and 4
    ∷ fails sample (on_places 5 1 2)
    ∷ holds sample (on_place 4 2)
    -- 6, EX: one step leads to place 2, not to place 3, and none stays at place 1
    ∷ holds sample (on_place 6 2)
    ∷ fails sample (on_place 6 3)
    ∷ fails sample (on_place 6 1)
    -- 7, E U: place 1 until place 2; not place 1 until place 3; with no step at all place 3 until place 1
    ∷ holds sample (on_places 7 1 2)
    ∷ fails sample (on_places 7 1 3)
    ∷ holds sample (on_places 7 3 1)
    -- 9, or
    ∷ holds sample (on_places 9 1 2)
    ∷ holds sample (on_places 9 2 1)
    ∷ fails sample (on_places 9 2 3)
    -- 10, implies
    ∷ fails sample (on_places 10 1 2)
    ∷ holds sample (on_places 10 2 1)
    ∷ holds sample (on_places 10 2 3)
    -- 11, AX: after two steps the segment is at place 3, and stays there
    ∷ holds sample (on_place 11 2)
    ∷ fails sample (on_place 11 3)
    ∷ fails sample (question (row 1 1 0 ∷ row 11 1 0 ∷ row 11 2 0 ∷ row 11 3 0 ∷ []))
    ∷ holds sample (question (row 1 3 0 ∷ row 11 1 0 ∷ row 11 2 0 ∷ row 11 3 0 ∷ []))
    -- 12, EF: place 3; with no step place 1; never place 3 with equal registers
    ∷ holds sample (on_place 12 3)
    ∷ holds sample (on_place 12 1)
    ∷ fails sample (question (row 1 3 0 ∷ row 2 1 2 ∷ row 5 1 2 ∷ row 12 3 0 ∷ []))
    -- 13, AG: never at place 3 with equal registers; not always at place 1
    ∷ holds sample (question (row 1 3 0 ∷ row 2 1 2 ∷ row 5 1 2 ∷ row 4 3 0 ∷ row 13 4 0 ∷ []))
    ∷ fails sample (on_place 13 1)
    ∷ []

-- The stays

-- one register, one constant, and a transition from location 1 to location 2 under this guard
abbrev pub gate : List Condition → Automaton
gate guard = record {
  registers = 1;
  constants = 0 ∷ [];
  locations = 2;
  arities = 0 ∷ [];
  start = 1;
  starting = [];
  transitions = record { from = 1; action = 1; to = 2; guard = guard; assigns = 1 := register 1 ∷ [] } ∷ [];
}

-- passed only with the constant, and never passed
abbrev pub partly : Automaton
partly = gate (register 1 equals constant 1 ∷ [])

abbrev pub shut : Automaton
shut = gate (register 1 differs register 1 ∷ [])

-- the register does not hold the constant, so that at location 1 of `partly` the transition does not fit
abbrev pub barred : Formula Atom → Formula Atom
barred f = implies (neg (atom (is 1 1))) f

abbrev pub stays : List Claim
stays =
    -- document 02's own: translated, and never delivered
    fails stopped (AF (atom (at 3)))
    ∷ holds stopped (AF (EG (atom (at 2))))
    -- location 1 has a transition, and is stuck for one class only: there it stays, at location 1
    ∷ fails partly (AF (atom (at 2)))
    ∷ holds partly (barred (EG (atom (at 1))))
    ∷ holds partly (barred (EX (atom (at 1))))
    ∷ fails partly (barred (AX (atom (at 2))))
    -- with the other class the transition is the only step
    ∷ fails partly (EX (atom (at 1)))
    ∷ holds partly (implies (atom (is 1 1)) (AF (atom (at 2))))
    -- a transition that is never met counts for nothing
    ∷ holds shut (AX (atom (at 1)))
    ∷ fails shut (AF (atom (at 2)))
    -- steps and runs know no stay: none leads on from where the segment is stuck
    ∷ successors partly (state 1 (0 ∷ [])) (configuration 2 (1 ∷ []) ∷ [])
    ∷ successors partly (state 1 (7 ∷ [])) []
    ∷ successors sample (state 3 (1 ∷ 2 ∷ [])) []
    ∷ []

abbrev pub examples : List Claim
examples = starred ++ of_kinds ++ stays

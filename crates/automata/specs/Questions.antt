-- Questions: formulas over steps with real identifiers (source 001, section 5) and stays (document 02, W3), and the rows in which document 01 writes them.
-- Assumes nothing.
use Rattle.std.specs.Prelude.{ℕ, pred, Bool, List, [], ◌∷◌, ◌++◌, ◌⊎◌, ◌≡◌, T, eqb, length, get_or}
use Rattle.graphs.specs.Lists.{item}
use Rattle.graphs.specs.Formulas.{Formula, Sat, or, implies, AX, EF, AG, AF}
use Rattle.graphs.specs.Formulas.Formula.{truth, atom, neg, both, EX, EU, EG}
use Rattle.automata.specs.Automaton.{Automaton}
use Rattle.automata.specs.Runs.{State, Step, permitted, initial}

-- what a state itself shows: its location, two equal registers, a register equal to a constant
pub data Atom : Type 0 where
  at : ℕ → Atom
  equal : ℕ → ℕ → Atom
  is : ℕ → ℕ → Atom

-- the state shows the atom
abbrev pub shows : Automaton → Atom → State → Bool
shows a (at l) s = eqb s.location l
shows a (equal i j) s = eqb (item s.valuation i) (item s.valuation j)
shows a (is i j) s = eqb (item s.valuation i) (item a.constants j)

-- no step leads from the state: no transition fits, with any parameters
abbrev pub Stuck : Automaton → State → Type 0
Stuck a s = (s' : State) → Step a s s' → ⊥

-- a step of questions: a step, or, from a state that is stuck, the one to itself
abbrev pub StepOrStay : Automaton → State → State → Type 0
StepOrStay a s s' = Step a s s' ⊎ (Stuck a s × (s ≡ s'))

-- the formula holds at the state, over the steps of questions
abbrev pub Holds : Automaton → Formula Atom → State → Type 0
Holds a f s = Sat (StepOrStay a) (λ x s'. T (shows a x s')) f s

-- the question's answer is yes: the formula holds at every permitted start
abbrev pub HoldsAtStarts : Automaton → Formula Atom → Type 0
HoldsAtStarts a f = (v : List ℕ) → T (permitted a v) → Holds a f (initial a v)

-- a row of a question: its kind, 1 to 14, and its two fields (document 01's a and b)
pub record Row : Type 0 where
  pub kind : ℕ
  pub first : ℕ
  pub second : ℕ

-- the row of this kind with these fields
abbrev pub row : ℕ → ℕ → ℕ → Row
row k a b = record { kind = k; first = a; second = b }

-- what a field of a row names: a location (document 01's place), a register, a constant, an earlier row, or nothing
pub data Use : Type 0 where
  location_number : Use
  register_number : Use
  constant_number : Use
  row_number : Use
  unused : Use

-- a kind of row: what its fields name, and its formula, given its fields and the formulas of the rows before it
pub record Kind : Type 0 where
  pub first : Use
  pub second : Use
  pub formula : List (Formula Atom) → ℕ → ℕ → Formula Atom

-- the formula of row i of these, counted from 1
abbrev pub row_of : List (Formula Atom) → ℕ → Formula Atom
row_of fs i = get_or fs (pred i) truth

abbrev pub kind : Use → Use → (List (Formula Atom) → ℕ → ℕ → Formula Atom) → Kind
kind u v f = record { first = u; second = v; formula = f }

-- the fourteen kinds of document 01, in order
abbrev pub kinds : List Kind
kinds =
    kind location_number unused (λ fs a b. atom (at a))
    ∷ kind register_number register_number (λ fs a b. atom (equal a b))
    ∷ kind register_number constant_number (λ fs a b. atom (is a b))
    ∷ kind row_number unused (λ fs a b. neg (row_of fs a))
    ∷ kind row_number row_number (λ fs a b. both (row_of fs a) (row_of fs b))
    ∷ kind row_number unused (λ fs a b. EX (row_of fs a))
    ∷ kind row_number row_number (λ fs a b. EU (row_of fs a) (row_of fs b))
    ∷ kind row_number unused (λ fs a b. EG (row_of fs a))
    ∷ kind row_number row_number (λ fs a b. or (row_of fs a) (row_of fs b))
    ∷ kind row_number row_number (λ fs a b. implies (row_of fs a) (row_of fs b))
    ∷ kind row_number unused (λ fs a b. AX (row_of fs a))
    ∷ kind row_number unused (λ fs a b. EF (row_of fs a))
    ∷ kind row_number unused (λ fs a b. AG (row_of fs a))
    ∷ kind row_number unused (λ fs a b. AF (row_of fs a))
    ∷ []

-- the kind of a number, counted from 1; outside of 1 to 14 it names nothing and is true
abbrev pub kind_of : ℕ → Kind
kind_of k = get_or kinds (pred k) (kind unused unused (λ fs a b. truth))

-- the formula of a row, given those of the rows before it
abbrev pub row_formula : List (Formula Atom) → Row → Formula Atom
row_formula fs r = (kind_of r.kind).formula fs r.first r.second

-- the formulas fs, then those of the rows rs, which follow them
abbrev pub formulas_from : List (Formula Atom) → List Row → List (Formula Atom)
formulas_from fs [] = fs
formulas_from fs (r ∷ rs) = formulas_from (fs ++ (row_formula fs r ∷ [])) rs

-- the formulas of all rows, in order
abbrev pub row_formulas : List Row → List (Formula Atom)
row_formulas rs = formulas_from [] rs

-- the question that the rows ask: the formula of the last
abbrev pub question : List Row → Formula Atom
question rs = row_of (row_formulas rs) (length rs)

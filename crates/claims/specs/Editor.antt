-- What the editor receives for a reply: 0 (never, no), 1 (reached, yes), or 100 plus the refusal's number. This is what a reader believes.
-- Assumes nothing.
use Rattle.std.specs.Prelude.{ℕ, ◌+◌, ◌≤◌, List, ◌↔◌, ◌≡◌, T, Result, Ok, Err}
use Rattle.automata.specs.Automaton.{Automaton}
use Rattle.automata.specs.Runs.{Move, Target, Reaches, permitted, initial}
use Rattle.automata.specs.Runs as meaning
use Rattle.graphs.specs.Formulas.{Formula}
use Rattle.automata.specs.Questions.{Atom, Row, Holds, HoldsAtStarts}
use Rattle.refusals.specs.declared.Refusal.{Refusal}
use Rattle.writing.specs.Said.{TableFile, TargetFile}
use Rattle.claims.specs.Demand.{QuestionSaid}
use Rattle.claims.specs.declared.Notation.{Notation}
use Rattle.witness.specs.declared.Answer.{Answer}
use Rattle.witness.specs.declared.Answer.TheVariants.{Never, Reached}
use Rattle.claims.specs.declared.Asking.{Asking}
use Rattle.claims.specs.declared.Asking.TheVariants.{Yes, No}

abbrev pub reach_code : Result Answer Refusal → ℕ
reach_code (Ok (Never count)) = 0
reach_code (Ok (Reached steps count)) = 1
reach_code (Err r) = 100 + r.number

abbrev pub ask_code : Result Asking Refusal → ℕ
ask_code (Ok Yes) = 1
ask_code (Ok (No class registers)) = 0
ask_code (Err r) = 100 + r.number

-- What the number n says, for the bytes s of a table and g of a target: 0 exactly for never, 1 exactly for reached, and 100 or more exactly where the bytes say no
-- table and target

pub record ReachCodeMeans (s g : List ℕ) (n : ℕ) : Type 0 where
  pub never : (a : Automaton) (x : Target) → TableFile s a → TargetFile a g x → (n ≡ 0) ↔ meaning.Never a x
  pub reached : (a : Automaton) (x : Target) → TableFile s a → TargetFile a g x → (n ≡ 1) ↔ ((v : List ℕ) × (ms : List Move) × Reaches a x v ms)
  pub refused : (100 ≤ n) ↔ ((a : Automaton) (x : Target) → TableFile s a → TargetFile a g x → ⊥)

-- the same for the bytes q of a question in the notation w: 0 exactly for no, 1 exactly for yes

pub record AskCodeMeans (w : Notation) (s q : List ℕ) (n : ℕ) : Type 0 where
  pub no : (a : Automaton) (f : Formula Atom) (rs : List Row) → TableFile s a → QuestionSaid w a q f rs
      → (n ≡ 0) ↔ ((v : List ℕ) × T (permitted a v) × (Holds a f (initial a v) → ⊥))
  pub yes : (a : Automaton) (f : Formula Atom) (rs : List Row) → TableFile s a → QuestionSaid w a q f rs → (n ≡ 1) ↔ HoldsAtStarts a f
  pub refused : (100 ≤ n) ↔ ((a : Automaton) (f : Formula Atom) (rs : List Row) → TableFile s a → QuestionSaid w a q f rs → ⊥)

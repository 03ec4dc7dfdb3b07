-- What the bytes of a table, a target and a question say: they are what is written for it, and its numbers are in range. This is what a reader believes.
-- Assumes nothing.
use Rattle.std.specs.Prelude.{ℕ, ◌≤◌, List, ◌≡◌, T, length}
use Rattle.automata.specs.Automaton.{Automaton}
use Rattle.automata.specs.Runs.{Target, permitted}
use Rattle.automata.specs.Questions.{Row}
use Rattle.automata.specs.WellFormed.{well_formed, limited, fits_target, fits_question}
use Rattle.writing.specs.Lines.{table_bytes, target_bytes, question_bytes, issued}

-- the bytes say the table a: they are what is written for it, its numbers are in range and within document 01's limits, and it has a permitted start
pub record TableFile (s : List ℕ) (a : Automaton) : Type 0 where
  pub written : s ≡ table_bytes a
  pub fits : T (well_formed a)
  pub small : T (limited a)
  pub issued : T (issued a)
  pub start : (v : List ℕ) × T (permitted a v)

-- the bytes say the target g of the table a
pub record TargetFile (a : Automaton) (s : List ℕ) (g : Target) : Type 0 where
  pub written : s ≡ target_bytes g
  pub fits : T (fits_target a g)
  pub few : length g.conditions ≤ 8

-- the bytes say the question of these rows to the table a
pub record QuestionFile (a : Automaton) (s : List ℕ) (rs : List Row) : Type 0 where
  pub written : s ≡ question_bytes rs
  pub fits : T (fits_question a rs)

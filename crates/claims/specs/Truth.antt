-- What the lent words of a question's rows say of formulas over steps with real identifiers and stays. This is what a reader believes.
-- Assumes nothing.
use Rattle.std.specs.Prelude.{ℕ, pred, ◌+◌, ◌*◌, ◌≤◌, ◌<◌, ◌^◌, List, ◌↔◌, ◌⊎◌, T, length, get_or}
use Rattle.lists.specs.Arrays.{Kept}
use Rattle.sets.specs.Members.{member}
use Rattle.automata.specs.Automaton.{Automaton}
use Rattle.automata.specs.Runs.{State}
use Rattle.automata.specs.Questions.{Row, Holds, row_of, row_formulas}
use Rattle.automata.specs.WellFormed.{Proper}
use Rattle.automata.specs.Configurations.{conf, number, configuration_count}

-- what the words of a question's rows say: rows are counted from 1, and row i begins at word (i - 1) × 337, which is bit (i - 1) × 10,784
pub record RowsClaim (a : Automaton) (rs : List Row) (before after : List ℕ) : Type 0 where
  -- bit c of row i is 1 exactly if the row's formula holds at the states of configuration c, over the steps of questions
  pub holds : (i : ℕ) → 1 ≤ i → i ≤ length rs → (s : State) → Proper a s → T (member after (10784 * pred i + number a (conf a s))) ↔ Holds a (row_of (row_formulas rs) i) s
  -- rows that the question does not use, and bits of no configuration, are 0
  pub unused : (i c : ℕ) → 1 ≤ i → i ≤ 32 → c < 10784 → (length rs < i) ⊎ (configuration_count a ≤ c) → T (member after (10784 * pred i + c)) → ⊥
  -- words of 32 bits; a longer buffer keeps its remainder
  pub words : (i : ℕ) → i < 10784 → get_or after i 0 < 2 ^ 32
  pub kept : Kept 10784 before after

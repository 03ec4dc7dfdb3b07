-- What reading a table guarantees of its form.
-- Assumes nothing.
use Rattle.std.specs.Prelude.{ℕ, List, ◌≡◌, T, length}
use Rattle.automata.specs.WellFormed.{well_formed, limited}
use Rattle.forms.specs.TableForm.{form_length}
use Rattle.forms.specs.FormAutomaton.{automaton_of}

-- a form whose automaton has all its numbers in range, within document 01's limits
pub record Readable (t : List ℕ) : Type 0 where
  pub long : length t ≡ form_length
  pub fits : T (well_formed (automaton_of t))
  pub small : T (limited (automaton_of t))

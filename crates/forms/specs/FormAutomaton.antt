-- The automaton and the target that a form stands for: what the code works on.
-- Assumes nothing.
use Rattle.std.specs.Prelude.{ℕ, ◌+◌, not, cond, List, map, eqb}
use Rattle.graphs.specs.Lists.{up_from, select}
use Rattle.automata.specs.Automaton.{Term, Condition, Assignment, Transition, Automaton}
use Rattle.automata.specs.Automaton.Term.{register, parameter, constant}
use Rattle.automata.specs.Runs.{Target}
use Rattle.forms.specs.TableForm.{counts_row, constant_rows, action_rows, start_row, starting_rows, transition_row, guard_rows, assignment_rows, cell}

-- those of the n rows from row i that hold a line
abbrev pub present : List ℕ → ℕ → ℕ → List ℕ
present t i n = select (λ row. not (eqb (cell t row 0) 0)) (up_from i n)

-- the term of a line: kind 1 a register, 2 a parameter, 3 a constant
abbrev pub term_of : ℕ → ℕ → Term
term_of kind number = cond (eqb kind 1) (register number) (cond (eqb kind 2) (parameter number) (constant number))

abbrev pub term_at : List ℕ → ℕ → ℕ → Term
term_at t row column = term_of (cell t row column) (cell t row (column + 1))

-- a line 5 or 7: relation 1 is equal, 2 different
abbrev pub condition_at : List ℕ → ℕ → Condition
condition_at t row = record { left = term_at t row 1; equal = eqb (cell t row 3) 1; right = term_at t row 4 }

-- a line 8
abbrev pub assignment_at : List ℕ → ℕ → Assignment
assignment_at t row = record { register = cell t row 1; source = term_at t row 2 }

-- the transition i, counted from 0: its line 6, 7 and 8
abbrev pub transition_at : List ℕ → ℕ → Transition
transition_at t i =
    record {
      from = cell t (transition_row i) 1;
      action = cell t (transition_row i) 2;
      to = cell t (transition_row i) 3;
      guard = map (condition_at t) (present t (guard_rows i) 8);
      assigns = map (assignment_at t) (present t (assignment_rows i) 5);
    }

-- the automaton that the lines of a table say
unfoldable pub automaton_of : List ℕ → Automaton
automaton_of t =
    record {
      registers = cell t counts_row 1;
      constants = map (λ i. cell t i 1) (up_from constant_rows (cell t counts_row 2));
      locations = cell t counts_row 3;
      arities = map (λ i. cell t i 1) (up_from action_rows (cell t counts_row 4));
      start = cell t start_row 1;
      starting = map (condition_at t) (present t starting_rows 8);
      transitions = map (transition_at t) (up_from 0 (cell t counts_row 5));
    }

-- the target that the lines of a target say
unfoldable pub target_of : List ℕ → Target
target_of t = record { location = cell t start_row 1; conditions = map (condition_at t) (present t starting_rows 8) }

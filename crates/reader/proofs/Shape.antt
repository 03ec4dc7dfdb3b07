-- The shape of the form of a table that is read (`Legal`), and of a target (`LegalTarget`): what later code may rely on, by rows and columns.
-- Assumes nothing.
use Prim.Native.Nat.{ℕ, ◌+◌, ◌^◌, ◌≤◌, ◌<◌}
use mathlib.Core.List.{List}
use mathlib.Core.Logic.{◌⊎◌}
use mathlib.Core.Path.{◌≡◌}
use lib.ListN.{length}
use Rattle.forms.specs.TableForm.{form_length, counts_row, constant_rows, action_rows, arity_row, start_row, starting_rows, transition_row, guard_rows, register_row, cell}
use Rattle.reader.specs.TableRules.{at}
use Rattle.reader.proofs.Accepted.{Inside, Named}
use Rattle.forms.proofs.FormRows.{row_at}

-- Rows of lines

-- a line 5 or 7: its terms are among r registers, q parameters and c constants
pub record ConditionRow (r q c : ℕ) (f : List ℕ) : Type 0 where
  pub kind : 1 ≤ at f 0
  pub left : Named r q c (at f 1) (at f 2)
  pub relation : Inside 2 (at f 3)
  pub right : Named r q c (at f 4) (at f 5)

-- a line 6: from, action, to
pub record HeadRow (l m : ℕ) (f : List ℕ) : Type 0 where
  pub from : Inside l (at f 1)
  pub action : Inside m (at f 2)
  pub to : Inside l (at f 3)

-- the line 8 of register j
pub record AssignmentRow (r q c j : ℕ) (f : List ℕ) : Type 0 where
  pub kind : 1 ≤ at f 0
  pub register : at f 1 ≡ j
  pub known : Inside r j
  pub source : Named r q c (at f 2) (at f 3)

-- of the eight rows from row b the first n hold conditions, and the others no line
pub record Guarded (r q c : ℕ) (t : List ℕ) (b n : ℕ) : Type 0 where
  pub few : n ≤ 8
  pub each : (j : ℕ) → j < n → ConditionRow r q c (row_at t (b + j))
  pub rest : (j : ℕ) → n ≤ j → j < 8 → cell t (b + j) 0 ≡ 0

-- the rows of transition i, counted from 0, with n conditions and q parameters; the line 8 of register j stands in its row
pub record TransitionRows (r c l m : ℕ) (t : List ℕ) (i n q : ℕ) : Type 0 where
  pub head : HeadRow l m (row_at t (transition_row i))
  pub arity : cell t (arity_row (cell t (transition_row i) 2)) 1 ≡ q
  pub guard : Guarded r q c t (guard_rows i) n
  pub assigns : (j : ℕ) → Inside 5 j → (cell t (register_row i j) 0 ≡ 0) ⊎ AssignmentRow r q c j (row_at t (register_row i j))

-- The form of a table that is read: sizes, counts and numbers
pub record Legal (t : List ℕ) : Type 0 where
  pub size : length t ≡ form_length
  pub issued : (i : ℕ) → at t i < 2 ^ 32
  pub registers : cell t counts_row 1 ≤ 5
  pub constants : cell t counts_row 2 ≤ 2
  pub locations : Inside 16 (cell t counts_row 3)
  pub actions : Inside 16 (cell t counts_row 4)
  pub transitions : cell t counts_row 5 ≤ 64
  pub rise : cell t counts_row 2 ≡ 2 → cell t constant_rows 1 < cell t (constant_rows + 1) 1
  pub arities : (i : ℕ) → i < cell t counts_row 4 → cell t (action_rows + i) 1 ≤ 3
  pub start : Inside (cell t counts_row 3) (cell t start_row 1)
  pub starts : ℕ
  pub starting : Guarded (cell t counts_row 1) 0 (cell t counts_row 2) t starting_rows starts
  pub moves : (i : ℕ) → i < cell t counts_row 5 → (n q : ℕ) × TransitionRows (cell t counts_row 1) (cell t counts_row 2) (cell t counts_row 3) (cell t counts_row 4) t i n q

-- the form of a target that is read, for r registers, c constants and l locations
pub record LegalTarget (r c l : ℕ) (t : List ℕ) : Type 0 where
  pub size : length t ≡ form_length
  pub issued : (i : ℕ) → at t i < 2 ^ 32
  pub location : Inside l (cell t start_row 1)
  pub conditions : ℕ
  pub guard : Guarded r 0 c t starting_rows conditions

-- The flat form of a table that is read: in which rows its lines stand. This is what a reader believes.
-- A form has 924 rows of six numbers, each the numbers of one line and then zeros; a row of zeros is no line. Line 1 has row 0; the lines 2 have
-- rows 1 and 2, the lines 3 rows 3 to 18, line 4 row 19, the lines 5 rows 20 to 27. Transition i (document 01's arc), counted from 0, has the 14 rows from
-- 28 + 14 i: its line 6, its lines 7 in order, and the line 8 of register r at 8 + r.
-- Assumes nothing.
use Rattle.std.specs.Prelude.{ℕ, ◌+◌, ◌*◌, List, get_or, replicate}
use Rattle.lists.specs.Filling.{filled}

-- a form's rows, and its numbers
abbrev pub row_count : ℕ
row_count = 924

abbrev pub form_length : ℕ
form_length = 6 * row_count

-- the row of line 1, the first row of the lines 2 and of the lines 3, the row of line 4, the first row of the lines 5
abbrev pub counts_row : ℕ
counts_row = 0

abbrev pub constant_rows : ℕ
constant_rows = 1

abbrev pub action_rows : ℕ
action_rows = 3

-- the row of the line 3 of an action, counted from 1
abbrev pub arity_row : ℕ → ℕ
arity_row action = 2 + action

abbrev pub start_row : ℕ
start_row = 19

abbrev pub starting_rows : ℕ
starting_rows = 20

-- how many rows a transition has
abbrev pub transition_size : ℕ
transition_size = 14

-- of transition i, counted from 0: the row of its line 6, the first row of its lines 7, and of its lines 8
abbrev pub transition_row : ℕ → ℕ
transition_row i = 28 + transition_size * i

abbrev pub guard_rows : ℕ → ℕ
guard_rows i = 29 + transition_size * i

abbrev pub assignment_rows : ℕ → ℕ
assignment_rows i = 37 + transition_size * i

-- the row of its line 8 of register r
abbrev pub register_row : ℕ → ℕ → ℕ
register_row i r = 36 + r + transition_size * i

-- the number in this row and column
abbrev pub cell : List ℕ → ℕ → ℕ → ℕ
cell t row column = get_or t (6 * row + column) 0

-- the form t with the first six numbers of f in this row
unfoldable pub put : List ℕ → ℕ → List ℕ → List ℕ
put t row f = filled t (6 * row) (λ i. get_or f i 0) 6

-- n rows with no line
abbrev pub without : ℕ → List ℕ
without n = replicate (6 * n) 0

-- The flat form of a question's rows: 96 numbers, row i (counted from 0) its kind and fields at 3 i, zeros after the last row.
-- This is what a reader believes.
-- Assumes nothing.
use Rattle.std.specs.Prelude.{ℕ, ◌+◌, ◌*◌, List, [], ◌∷◌, map, get_or, replicate}
use Rattle.lists.specs.Filling.{filled}
use Rattle.graphs.specs.Lists.{up_from}
use Rattle.automata.specs.Questions.{Row, row}

-- a form's numbers
abbrev pub question_length : ℕ
question_length = 96

-- a form with no rows
abbrev pub no_rows : List ℕ
no_rows = replicate question_length 0

-- the numbers of a row
abbrev pub numbers_of : Row → List ℕ
numbers_of r = r.kind ∷ r.first ∷ r.second ∷ []

-- the form t with r as row i
unfoldable pub put : List ℕ → ℕ → Row → List ℕ
put t i r = filled t (3 * i) (λ j. get_or (numbers_of r) j 0) 3

-- row i of the form
abbrev pub row_at : List ℕ → ℕ → Row
row_at t i = row (get_or t (3 * i) 0) (get_or t (3 * i + 1) 0) (get_or t (3 * i + 2) 0)

-- the first n rows of the form
abbrev pub rows_of : List ℕ → ℕ → List Row
rows_of t n = map (row_at t) (up_from 0 n)

-- The rules for a row of a question: which numbers its fields may have, and the refusal where they do not. This is what a reader believes.
-- Assumes nothing.
use Rattle.std.specs.Prelude.{ℕ, cond, List, eqb, get_or}
use Rattle.automata.specs.Questions.{Row, row, Use, kind_of}
use Rattle.automata.specs.Questions.Use.{location_number, register_number, constant_number, row_number, unused}
use Rattle.automata.specs.WellFormed.{inside}
use Rattle.questions.specs.declared.Counts.{Counts}

-- the refusal, or 0 where x counts from 1 up to most
abbrev pub judge_number : ℕ → ℕ → ℕ → ℕ
judge_number refusal most x = cond (inside most x) 0 refusal

-- the refusal of a field with the number x, or 0, where n rows stand before: forward (8) of a row, else range (5)
unfoldable pub judge_field : Counts → ℕ → Use → ℕ → ℕ
judge_field c n location_number x = judge_number 5 c.locations x
judge_field c n register_number x = judge_number 5 c.registers x
judge_field c n constant_number x = judge_number 5 c.constants x
judge_field c n row_number x = judge_number 8 n x
judge_field c n unused x = cond (eqb x 0) 0 5

-- of two refusals the first
abbrev pub first_of : ℕ → ℕ → ℕ
first_of x y = cond (eqb x 0) y x

-- the refusal of a row, or 0, where n rows stand before: its values from left to right
unfoldable pub judge_row : Counts → ℕ → Row → ℕ
judge_row c n r =
    cond (inside 14 r.kind)
    (first_of (judge_field c n (kind_of r.kind).first r.first) (judge_field c n (kind_of r.kind).second r.second))
    5

-- the row of a line
abbrev pub row_in : List ℕ → Row
row_in f = row (get_or f 0 0) (get_or f 1 0) (get_or f 2 0)

-- the refusal of a line of so many fields whose numbers are f, or 0, where n rows stand before: a row is a line of three fields
unfoldable pub judge_fields : Counts → ℕ → ℕ → List ℕ → ℕ
judge_fields c n count f = cond (eqb count 3) (judge_row c n (row_in f)) 2

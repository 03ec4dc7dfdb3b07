-- Numbers, lines and files as bytes: decimal, right-justified with spaces, a byte 10 after each line. This is what a reader believes.
-- Assumes nothing.
use Rattle.std.specs.Prelude.{ℕ, zero, suc, ◌+◌, ◌/◌, ◌%◌, ◌^◌, cond, ◌&&◌, List, [], ◌∷◌, ◌++◌, ltb, get_or}
use Rattle.columns.specs.declared.Sheet.{Sheet}
use Rattle.columns.specs.Widths.{width}

-- the column of the number v whose digit counts p, a power of ten: a space in front of the first digit, but for the last column
unfoldable pub column_of : ℕ → ℕ → ℕ
column_of v p = cond (ltb v p && ltb 1 p) 32 (48 + v / p % 10)

-- the number v in w columns: of each power of ten below 10 ^ w its digit, or a space in front of the first
abbrev pub column : ℕ → ℕ → List ℕ
column zero v = []
column (suc w) v = column_of v (10 ^ w) ∷ column w v

-- numbers in fields from number i on, field i in w i columns
abbrev pub columns : (ℕ → ℕ) → ℕ → List ℕ → List ℕ
columns w i [] = []
columns w i (v ∷ vs) = column (w i) v ++ columns w (suc i) vs

-- the numbers of a line on this sheet
abbrev pub line_columns : Sheet → List ℕ → List ℕ
line_columns s vs = columns (width s (get_or vs 0 0)) 0 vs

-- lines on this sheet
abbrev pub file_bytes : Sheet → List (List ℕ) → List ℕ
file_bytes s [] = []
file_bytes s (vs ∷ ls) = line_columns s vs ++ (10 ∷ file_bytes s ls)

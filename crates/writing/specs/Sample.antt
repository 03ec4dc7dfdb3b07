-- Document 01's sample as bytes, with the variant, the targets and the questions of its starred examples: the lines as that paper shows them, line 2 as
-- document 02 (W2) has it; the sample that stops behind its first transition; and a sample with the two largest identifiers.
-- This is what a reader believes.
-- Assumes nothing.
use Rattle.std.specs.Prelude.{ℕ, List, [], ◌∷◌, ◌++◌}
use Rattle.columns.specs.declared.Sheet.TheVariants.{Table, Plain}
use Rattle.columns.specs.Columns.{file_bytes}

-- its first transition; both, but for the second one's lines 8
abbrev pub first_move : List (List ℕ)
first_move = (6 ∷ 1 ∷ 1 ∷ 2 ∷ []) ∷ (7 ∷ 2 ∷ 1 ∷ 2 ∷ 3 ∷ 1 ∷ []) ∷ (8 ∷ 1 ∷ 2 ∷ 1 ∷ []) ∷ (8 ∷ 2 ∷ 3 ∷ 1 ∷ []) ∷ []

abbrev pub moves : List (List ℕ)
moves = first_move ++ ((6 ∷ 2 ∷ 2 ∷ 3 ∷ []) ∷ (7 ∷ 2 ∷ 1 ∷ 2 ∷ 1 ∷ 1 ∷ []) ∷ (7 ∷ 2 ∷ 1 ∷ 2 ∷ 3 ∷ 1 ∷ []) ∷ [])

-- the lines of the sample before its transitions, so many
abbrev pub heading : ℕ → List (List ℕ)
heading transitions =
    (1 ∷ 2 ∷ 1 ∷ 3 ∷ 2 ∷ transitions ∷ [])
    ∷ (2 ∷ 0 ∷ [])
    ∷ (3 ∷ 1 ∷ [])
    ∷ (3 ∷ 1 ∷ [])
    ∷ (4 ∷ 1 ∷ [])
    ∷ (5 ∷ 1 ∷ 1 ∷ 1 ∷ 3 ∷ 1 ∷ [])
    ∷ (5 ∷ 1 ∷ 2 ∷ 1 ∷ 3 ∷ 1 ∷ [])
    ∷ []

-- the sample's sixteen lines
abbrev pub sample_bytes : List ℕ
sample_bytes = file_bytes Table (heading 2 ++ moves ++ ((8 ∷ 1 ∷ 1 ∷ 1 ∷ []) ∷ (8 ∷ 2 ∷ 2 ∷ 1 ∷ []) ∷ []))

-- without the line `8 1 1 1`
abbrev pub loose_bytes : List ℕ
loose_bytes = file_bytes Table (heading 2 ++ moves ++ ((8 ∷ 2 ∷ 2 ∷ 1 ∷ []) ∷ []))

-- with the first transition only: it stops at "translated" (document 02, W3)
abbrev pub stopped_bytes : List ℕ
stopped_bytes = file_bytes Table (heading 1 ++ first_move)

-- the sample with the two largest identifiers as constants, one in each register at the start (document 02, W2)
abbrev pub largest_bytes : List ℕ
largest_bytes =
    file_bytes Table
    ((1 ∷ 2 ∷ 2 ∷ 3 ∷ 2 ∷ 2 ∷ [])
    ∷ (2 ∷ 4294967294 ∷ [])
    ∷ (2 ∷ 4294967295 ∷ [])
    ∷ (3 ∷ 1 ∷ [])
    ∷ (3 ∷ 1 ∷ [])
    ∷ (4 ∷ 1 ∷ [])
    ∷ (5 ∷ 1 ∷ 1 ∷ 1 ∷ 3 ∷ 1 ∷ [])
    ∷ (5 ∷ 1 ∷ 2 ∷ 1 ∷ 3 ∷ 2 ∷ [])
    ∷ (moves ++ ((8 ∷ 1 ∷ 1 ∷ 1 ∷ []) ∷ (8 ∷ 2 ∷ 2 ∷ 1 ∷ []) ∷ [])))

-- place 3, and place 3 with registers equal
abbrev pub delivered_bytes : List ℕ
delivered_bytes = file_bytes Table ((4 ∷ 3 ∷ []) ∷ [])

abbrev pub delivered_by_one_bytes : List ℕ
delivered_by_one_bytes = file_bytes Table ((4 ∷ 3 ∷ []) ∷ (5 ∷ 1 ∷ 1 ∷ 1 ∷ 1 ∷ 2 ∷ []) ∷ [])

-- EG of register 1 = register 1; EG place 1; AF place 3
abbrev pub always_bytes : List ℕ
always_bytes = file_bytes Plain ((2 ∷ 1 ∷ 1 ∷ []) ∷ (8 ∷ 1 ∷ 0 ∷ []) ∷ [])

abbrev pub waiting_bytes : List ℕ
waiting_bytes = file_bytes Plain ((1 ∷ 1 ∷ 0 ∷ []) ∷ (8 ∷ 1 ∷ 0 ∷ []) ∷ [])

abbrev pub inevitable_bytes : List ℕ
inevitable_bytes = file_bytes Plain ((1 ∷ 3 ∷ 0 ∷ []) ∷ (14 ∷ 1 ∷ 0 ∷ []) ∷ [])

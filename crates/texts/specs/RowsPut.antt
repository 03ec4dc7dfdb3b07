-- The rows of a text in the flat form of a question, of which the first 32 have room.
-- Assumes nothing.
use Rattle.std.specs.Prelude.{ℕ, ◌+◌, cond, List, [], ◌∷◌, ltb}
use Rattle.automata.specs.Questions.{Row}
use Rattle.forms.specs.QuestionForm.{put}

-- row n, counted from 0, written if it is one of the first 32
unfoldable pub put_first : List ℕ → ℕ → Row → List ℕ
put_first t n r = cond (ltb n 32) (put t n r) t

-- rows written from row n on
abbrev pub put_rows : List ℕ → ℕ → List Row → List ℕ
put_rows t n [] = t
put_rows t n (r ∷ rs) = put_rows (put_first t n r) (n + 1) rs

-- What reading a question as a line of text gives, for every list of bytes; what it means, said of the grammar, is `text-means`.
-- Assumes nothing.
use Rattle.std.specs.Prelude.{ℕ, ◌+◌, cond, List, [], ◌∷◌, ◌≡◌, eqb, leb, length, Result, Ok, Err}
use Rattle.refusals.specs.Judged.{Judged, refusal, ◌then◌, require}
use Rattle.refusals.specs.Judged.Judged.{accepted, refused}
use Rattle.automata.specs.Questions.{Row}
use Rattle.grammar.specs.Grammar.{Question, size, rows_from}
use Rattle.grammar.specs.Parser.{Parse, parse}
use Rattle.grammar.specs.Parser.Parse.{parsed, outside}
use Rattle.forms.specs.QuestionForm.{no_rows}
use Rattle.questions.specs.declared.Counts.{Counts}
use Rattle.questions.specs.QuestionRules.{judge_row}
use Rattle.questions.specs.Question.{Rows, counts}
use Rattle.texts.specs.RowsPut.{put_rows}

-- of rows that follow n others, the number of the first that does not fit the table, or 0
abbrev pub first_misfit : Counts → ℕ → List Row → ℕ
first_misfit c n [] = 0
first_misfit c n (r ∷ rs) = cond (eqb (judge_row c n r) 0) (first_misfit c (n + 1) rs) (n + 1)

-- the rows of a question, as they are read
abbrev pub rows_read : Question → Rows
rows_read q = record { form = put_rows no_rows 0 (rows_from 0 q); count = size q }

-- a question whose first row out of range is x, or 0
abbrev pub ranged : ℕ → Question → Judged Rows
ranged x q = require (eqb x 0) (refusal 5 2 x) then (λ ok. accepted (rows_read q))

-- outside the grammar (11), then more than 32 rows (12), then range (5)
abbrev pub judged : Counts → Parse → Judged Rows
judged c (outside p) = refused (refusal 11 2 p)
judged c (parsed q) = require (leb (size q) 32) (refusal 12 2 0) then (λ ok. ranged (first_misfit c 0 (rows_from 0 q)) q)

-- a text to a table with these counts: file 2, at most 400 bytes
unfoldable pub read_text : ℕ → ℕ → ℕ → List ℕ → Judged Rows
read_text registers constants locations s = require (leb (length s) 400) (refusal 1 2 0) then (λ ok. judged (counts registers constants locations) (parse s))

-- what a scan of the whole text answers, with the form t before and t' after
abbrev pub RightText : List ℕ → List ℕ → Result ℕ ℕ → List ℕ → Type 0
RightText s t (Ok n) t' = (q : Question) × (parse s ≡ parsed q) × (n ≡ size q) × (t' ≡ put_rows t 0 (rows_from 0 q))
RightText s t (Err p) t' = parse s ≡ outside p

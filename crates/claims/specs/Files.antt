-- What a call reads from the bytes of its two files: the forms that it works on, or the first refusal in document 01's order. This is what a reader believes.
-- Assumes nothing.
use Rattle.std.specs.Prelude.{ℕ, Bool, ◌&&◌, List, leb, length}
use Rattle.refusals.specs.Judged.{Judged, refusal, ◌then◌, require}
use Rattle.refusals.specs.Judged.Judged.{accepted}
use Rattle.automata.specs.Automaton.{Automaton}
use Rattle.automata.specs.WellFormed.{constant_count}
use Rattle.forms.specs.FormAutomaton.{automaton_of}
use Rattle.reader.specs.Table.{read_target}
use Rattle.questions.specs.Question.{Rows, read_question}
use Rattle.texts.specs.Texts.{read_text}
use Rattle.opening.specs.Opening.{open_table}
use Rattle.claims.specs.declared.Notation.{Notation}
use Rattle.claims.specs.declared.Notation.TheVariants.{Rows as in_rows, Text as in_text}

-- a table's form with the form of a target
pub record WithTarget : Type 0 where
  pub table : List ℕ
  pub target : List ℕ

abbrev pub with_target : List ℕ → List ℕ → WithTarget
with_target t g = record { table = t; target = g }

-- a table's form with the rows of a question
pub record WithQuestion : Type 0 where
  pub table : List ℕ
  pub rows : Rows

abbrev pub with_question : List ℕ → Rows → WithQuestion
with_question t q = record { table = t; rows = q }

-- a table and then its target
abbrev pub target_files : List ℕ → List ℕ → Judged WithTarget
target_files s g = open_table s then (λ t. read_target t g then (λ u. accepted (with_target t u)))

-- a question to an automaton, in each notation
abbrev pub question_to : Notation → Automaton → List ℕ → Judged Rows
question_to in_rows a q = read_question a.registers (constant_count a) a.locations q
question_to in_text a q = read_text a.registers (constant_count a) a.locations q

-- a table and then its question
abbrev pub question_files : Notation → List ℕ → List ℕ → Judged WithQuestion
question_files w s q = open_table s then (λ t. question_to w (automaton_of t) q then (λ r. accepted (with_question t r)))

-- The lent buffers

-- of the call on a target: words, least steps and links of a search, a run in the replayer's form, and the lines of its moments
pub record ReachBuffers : Type 0 where
  pub words : List ℕ
  pub least : List ℕ
  pub links : List ℕ
  pub run : List ℕ
  pub lines : List ℕ

abbrev pub reach_buffers : (words least links run lines : List ℕ) → ReachBuffers
reach_buffers words least links run lines = record { words = words; least = least; links = links; run = run; lines = lines }

-- room for 10,784 configurations, and for a run of 10,784 steps
abbrev pub search_room : ReachBuffers → Bool
search_room b =
    leb 337 (length b.words) && leb 10784 (length b.least) && leb 10784 (length b.links) && leb 97061 (length b.run) && leb 129420 (length b.lines)

-- of the call on a question: the words of its rows, and the contents that a no names
pub record AskBuffers : Type 0 where
  pub rows : List ℕ
  pub contents : List ℕ

abbrev pub ask_buffers : (rows contents : List ℕ) → AskBuffers
ask_buffers rows contents = record { rows = rows; contents = contents }

-- room for 32 rows of 337 words
abbrev pub rows_room : AskBuffers → Bool
rows_room b = leb 10784 (length b.rows)

-- what the call on a target reads, where these buffers are lent: 9 comes before every refusal of a file
unfoldable pub reach_files : ReachBuffers → List ℕ → List ℕ → Judged WithTarget
reach_files b s g = require (search_room b) (refusal 9 0 0) then (λ ok. target_files s g)

-- the same of the call on a question
unfoldable pub ask_files : Notation → AskBuffers → List ℕ → List ℕ → Judged WithQuestion
ask_files w b s q = require (rows_room b) (refusal 9 0 0) then (λ ok. question_files w s q)

-- What reading a question gives, for every list of bytes. This is what a reader believes.
-- Assumes nothing.
use Rattle.std.specs.Prelude.{ℕ, ◌+◌, List, ltb}
use Rattle.refusals.specs.Judged.{Judged}
use Rattle.columns.specs.declared.Sheet.TheVariants.{Plain}
use Rattle.fields.specs.LineFiles.{Rules, read_file}
use Rattle.forms.specs.QuestionForm.{no_rows, put}
use Rattle.questions.specs.declared.Counts.{Counts}
use Rattle.questions.specs.QuestionRules.{row_in, judge_fields}

-- the rows that are read: their form and their number
pub record Rows : Type 0 where
  pub form : List ℕ
  pub count : ℕ

-- before the first line
abbrev pub nothing_read : Rows
nothing_read = record { form = no_rows; count = 0 }

-- a line is a row, and there is one at least
abbrev pub question_rules : Counts → Rules Rows
question_rules c =
    record {
      sheet = Plain;
      judge = λ q. judge_fields c q.count;
      accept = λ q f. record { form = put q.form q.count (row_in f); count = q.count + 1 };
      complete = λ q. ltb 0 q.count;
    }

abbrev pub counts : ℕ → ℕ → ℕ → Counts
counts registers constants locations = record { registers = registers; constants = constants; locations = locations }

-- a question to a table with these counts: file 2, at most 608 bytes
unfoldable pub read_question : ℕ → ℕ → ℕ → List ℕ → Judged Rows
read_question registers constants locations s = read_file (question_rules (counts registers constants locations)) 2 608 nothing_read s

-- What reading a table or a target gives, for every list of bytes. This is what a reader believes.
-- Assumes nothing.
use Rattle.std.specs.Prelude.{ℕ, List}
use Rattle.refusals.specs.Judged.{Judged, ◌then◌}
use Rattle.refusals.specs.Judged.Judged.{accepted}
use Rattle.columns.specs.declared.Sheet.TheVariants.{Table as OnTable}
use Rattle.fields.specs.LineFiles.{Rules, read_file}
use Rattle.forms.specs.TableForm.{row_count, counts_row, cell, without}
use Rattle.reader.specs.declared.Progress.{Progress}
use Rattle.reader.specs.TableRules.{judge_line, further, placed, at_start, before_target, complete}

-- what is read of a table: how far, and the form
pub record Read : Type 0 where
  pub progress : Progress
  pub form : List ℕ

-- a line goes to its row of the form
abbrev pub table_rules : Rules Read
table_rules =
    record {
      sheet = OnTable;
      judge = λ x. judge_line x.progress;
      accept = λ x f. record { progress = further x.progress f x.form; form = placed x.progress f x.form };
      complete = λ x. complete x.progress;
    }

-- a form with no lines
abbrev pub blank_form : List ℕ
blank_form = without row_count

-- the form of a file of at most limit bytes, its first line after p
abbrev pub read_form : (file limit : ℕ) → Progress → List ℕ → Judged (List ℕ)
read_form file limit p s = ◌then◌ (read_file table_rules file limit (record { progress = p; form = blank_form }) s) (λ x. accepted x.form)

-- a table, which is file 1
abbrev pub read_table : List ℕ → Judged (List ℕ)
read_table s = read_form 1 40000 at_start s

-- a target of the table with the form t, file 2: a line 4 and lines 5, as they stand in a table after its lines 3
abbrev pub read_target : List ℕ → List ℕ → Judged (List ℕ)
read_target t s = read_form 2 309 (before_target (cell t counts_row 1) (cell t counts_row 2) (cell t counts_row 3)) s

-- The invariant of `texts::judge_rows`.
use Rattle.std.proofs.Common.{◌≡◌, ◌-◌, map}
use Rattle.graphs.specs.Lists.{up_from}
use Rattle.forms.specs.QuestionForm.{row_at, rows_of}
use Rattle.texts.specs.Texts.{first_misfit}
use Rattle.texts.proofs.judge_rows.Given as goal

abbrev pub invariant-loop-i : goal.invariant-loop-i
invariant-loop-i l = first_misfit l.c 0 (rows_of l.t l.n) ≡ first_misfit l.c l.i (map (row_at l.t) (up_from l.i (l.n - l.i)))

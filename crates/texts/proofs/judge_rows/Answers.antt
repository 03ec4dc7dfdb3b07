-- Answers for `texts::judge_rows`.
use Rattle.std.proofs.Common.{is_err, ◌+◌, arith, sym, ap, ◌∙◌}
use Rattle.refusals.specs.Judged.{verdict}
use Rattle.refusals.proofs.Verdicts.{verdict-is_err, verdict-not_err, verdict-refused}
use Rattle.texts.proofs.WholeTexts.{misfit_more, misfit_here}
use Rattle.texts.proofs.judge_rows.Goals as goal

pub returns-then-is_err : goal.returns-then-is_err
returns-then-is_err c =
    let a = c.args in
    let z = verdict-is_err _ (ap is_err (sym c.judge_row.ensures) ∙ sym c.is_err.ensures.value ∙ c.if-is_err.true) in
    verdict-refused (c.loop-i.i + 1) (λ e. omega arith) ∙ ap verdict (sym (c.loop-i.invariant ∙ misfit_here a.c a.t.now c.loop-i.i a.n c.loop-i-test.true z))

pub loop-i-preserved : goal.loop-i-preserved
loop-i-preserved c =
    let a = c.args in
    let z = verdict-not_err _ (ap is_err (sym c.judge_row.ensures) ∙ sym c.is_err.ensures.value ∙ c.if-is_err.false) in
    c.loop-i.invariant ∙ misfit_more a.c a.t.now c.loop-i.i a.n c.loop-i-test.true z

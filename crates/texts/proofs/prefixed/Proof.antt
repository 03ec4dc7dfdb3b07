-- `texts::prefixed` meets its contract. Assumes nothing.
use mathlib.Core.Path.{sym, ap, ◌∙◌}
use Rattle.texts.specs.Descent.{prefixed_step, prefixed_rows}
use Rattle.texts.proofs.StepCodes.{step-stopped, step-read}
use borrow.Author.Rules.{rules}
use Rattle.texts.proofs.prefixed.Statement.{statement}
use Rattle.texts.proofs.prefixed.Tie as tie

returns : tie.Need-returns-then-q-lt1024
returns c =
    let a = c.args in
    let e = step-stopped a.q c.if-q-lt1024.true in
    (e ∙ sym (ap prefixed_step e), sym (ap (prefixed_rows a.k a.t.now) e))

returns-2 : tie.Need-returns
returns-2 c =
    let a = c.args in
    let e = step-read a.q c.if-q-lt1024.false in
    (c.closed.ensures.1 ∙ sym (ap prefixed_step e), c.closed.ensures.0 ∙ sym (ap (prefixed_rows a.k a.t.now) e))

pub prefixed_spec : {M : Type 1} → statement M
prefixed_spec =
    tie.close
    (tie.spec
    returns
    (λ c κs. search rules)
    returns-2)

-- Answers for `reader::judge_fields`.
use Rattle.std.proofs.Common.{◌≡◌, ◌∙◌, sym, ap, ℕ, cond}
use Rattle.refusals.specs.Judged.{verdict}
use Rattle.reader.specs.declared.Kind.{Kind}
use Rattle.reader.specs.TableRules.{expected, judge_values}
use Rattle.reader.proofs.Bounds.{judge_kind}
use Rattle.reader.proofs.judge_fields.Goals as goal

pub returns-then-not-may_stand : goal.returns-then-not-may_stand
returns-then-not-may_stand c =
    let a = c.args in
    let judge : Kind → ℕ = λ k. cond (expected a.p k a.n) (judge_values a.p k a.f) 2 in
    let is : 2 ≡ judge c.kind_at-k.result = simp (sym c.may_stand.ensures ∙ c.if-not-may_stand.true) in
    ap verdict (is ∙ ap judge c.kind_at-k.ensures ∙ judge_kind a.p a.n a.f)

pub returns : goal.returns
returns c =
    let a = c.args in
    let judge : Kind → ℕ = λ k. cond (expected a.p k a.n) (judge_values a.p k a.f) 2 in
    let is : judge_values a.p c.kind_at-k.result a.f ≡ judge c.kind_at-k.result = simp (sym c.may_stand.ensures ∙ c.if-not-may_stand.false) in
    c.judge_values.ensures ∙ ap verdict (is ∙ ap judge c.kind_at-k.ensures ∙ judge_kind a.p a.n a.f)

-- Answers for `fields::read_lines`.
use Rattle.std.proofs.Common.{◌≡◌, ◌+◌, ◌∙◌, sym, ap, subst, arith}
use Rattle.refusals.specs.Judged.{refusal}
use Rattle.refusals.specs.Judged.Judged.{refused}
use Rattle.fields.specs.Format.{fields}
use Rattle.fields.specs.LineRead.{count_of, Held}
use Rattle.fields.proofs.LineFiles.{onward, onward-accepted, onward-refused}
use Rattle.fields.proofs.read_lines.Goals as goal

pub returns-in-Err : goal.returns-in-Err
returns-in-Err g c =
    let m = g.R.Rules in
    let a = c.args in
    let v = c.loop-rest in
    let line = c.in-Some.line.now in
    let n = c.read_line-n in
    let count = subst (λ k. n.result ≡ count_of (fields k 6 line)) c.sheet.ensures n.ensures.0 in
    let held = subst (λ k. Held (fields k 6 line) n.new.row) c.sheet.ensures n.ensures.1 in
    let e = onward-refused (m.rules v.r) a.file v.lines (m.read v.r v.t) v.rest.now line c.in-Some.after.now c.in-Some.ensures.split n.result n.new.row count held
    c.in-Err.number (sym (c.judge.ensures v.t) ∙ c.in-Err.is) in
    sym v.invariant.same ∙ subst (λ k. onward k a.file v.lines (m.read v.r v.t) v.rest.now ≡ refused (refusal c.in-Err.number a.file (v.lines + 1))) v.invariant.rules e
    ∙ ap refused (sym c.refusal_after-in-Err.ensures)

pub loop-rest-preserved : goal.loop-rest-preserved
loop-rest-preserved g c =
    let m = g.R.Rules in
    let a = c.args in
    let v = c.loop-rest in
    let line = c.in-Some.line.now in
    let after = c.in-Some.after.now in
    let n = c.read_line-n in
    let now = m.read v.r v.t in
    let count = subst (λ k. n.result ≡ count_of (fields k 6 line)) c.sheet.ensures n.ensures.0 in
    let held = subst (λ k. Held (fields k 6 line) n.new.row) c.sheet.ensures n.ensures.1 in
    let e = onward-accepted (m.rules v.r) a.file v.lines now v.rest.now line after c.in-Some.ensures.split n.result n.new.row count held
    c.in_default-judge.field-0 (sym (c.judge.ensures v.t) ∙ c.in_default-judge.is) in
    let step = e ∙ ap (λ s. onward (m.rules v.r) a.file (v.lines + 1) s after) (sym c.accept.ensures.read) in
    let next = m.read c.accept.new.self c.accept.new.t in
    record {
      few = omega (arith, c.in-Some.ensures.shorter);
      small = c.accept.ensures.small v.lines v.invariant.small;
      rules = c.accept.ensures.same ∙ v.invariant.rules;
      same = sym (subst (λ k. onward k a.file v.lines now v.rest.now ≡ onward k a.file (v.lines + 1) next after) v.invariant.rules step) ∙ v.invariant.same;
    }

-- The reply and the rows, at each return.
-- Assumes nothing.
use Rattle.std.proofs.Common.{◌≡◌, ◌≤◌, ◌<◌, ℕ, List, ◌++◌, length, take, Result, Ok, Err, sym, ap, ap₂, subst, refl, ◌∙◌}
use Rattle.std.proofs.Math.Seq.{take-append_seam}
use Rattle.refusals.specs.declared.Refusal.{Refusal}
use Rattle.refusals.specs.Judged.{Judged, refusal}
use Rattle.refusals.specs.Judged.Judged.{refused}
use Rattle.refusals.proofs.Verdicts.{verdict-Ok, verdict-Err}
use Rattle.grammar.specs.Grammar.{size}
use Rattle.forms.specs.QuestionForm.{no_rows, rows_of}
use Rattle.questions.specs.declared.Counts.{Counts}
use Rattle.questions.specs.Question.{Rows, counts}
use Rattle.questions.specs.QuestionReply.{reply_of, form_of}
use Rattle.texts.specs.Texts.{RightText, first_misfit, rows_read, read_text}
use Rattle.texts.proofs.WholeTexts.{text-long, text-outside, text-many, text_misfit, text-rows}
use Rattle.texts.proofs.read_text.Goals as goal

-- a refusal is told, and the rows are left
turned : (o : Judged Rows) (x : Refusal) (r : Result ℕ Refusal) (u : List ℕ) → o ≡ refused x → r ≡ Err x → (r ≡ reply_of o) × (u ≡ form_of o u)
turned o x r u e d = (d ∙ sym (ap reply_of e), sym (ap (λ j. form_of j u) e))

-- what is read of the copy u of s, which has z behind it, is read of s
told : (s u z : List ℕ) (r : Result ℕ ℕ) (t : List ℕ) → u ≡ s → RightText (take (length s) (u ++ z)) no_rows r t → RightText s no_rows r t
told s u z r t e h = subst (λ x. RightText x no_rows r t) (ap (λ x. take (length s) (x ++ z)) e ∙ take-append_seam s z) h

-- a text of at most 400 bytes that is read to its end, with n rows in the form t; u is the form before
module _ (registers constants locations : ℕ) (s : List ℕ) (short : length s ≤ 400) (u : List ℕ) (n : ℕ) (t : List ℕ) (w : RightText s no_rows (Ok n) t) where
  abbrev c : Counts
  c = counts registers constants locations

  abbrev o : Judged Rows
  o = read_text registers constants locations s

  many : (r : Result ℕ Refusal) → 32 < n → r ≡ Err (refusal 12 2 0) → (r ≡ reply_of o) × (u ≡ form_of o u)
  many r k d = turned o _ r u (text-many registers constants locations s short w.0 w.1 (subst (λ y. 32 < y) w.2 k)) d

  -- and x its first row out of range, or 0
  module _ (k : n ≤ 32) (x : ℕ) (f : x ≡ first_misfit c 0 (rows_of t n)) where
    few : size w.0 ≤ 32
    few = subst (λ y. y ≤ 32) w.2 k

    ranged : x ≡ first_misfit c 0 (rows_of (rows_read w.0).form (size w.0))
    ranged = f ∙ ap₂ (λ t n. first_misfit c 0 (rows_of t n)) w.3 w.2

    out_of_range : (r : Result ℕ Refusal) → (x ≡ 0 → ⊥) → r ≡ Err (refusal 5 2 x) → (r ≡ reply_of o) × (u ≡ form_of o u)
    out_of_range r z d = turned o _ r u (text_misfit registers constants locations s short w.0 w.1 few x ranged z) d

    in_range : x ≡ 0 → (Ok n ≡ reply_of o) × (t ≡ form_of o u)
    in_range z =
        let e = text-rows registers constants locations s short w.0 w.1 few x ranged z in
        (ap Ok w.2 ∙ sym (ap reply_of e), w.3 ∙ sym (ap (λ j. form_of j u) e))

pub returns-then-s-gt400 : goal.returns-then-s-gt400
returns-then-s-gt400 c =
    let a = c.args in
    turned _ _ _ a.rows.now (text-long a.registers a.constants a.locations a.s.now c.if-s-gt400.true) (ap Err c.refused.ensures)

pub returns-in-Err : goal.returns-in-Err
returns-in-Err c =
    let a = c.args in
    let e = told a.s.now _ _ (Err c.in-Err.p) c.scan.new.t c.copy_from_slice.ensures.after c.in-Err.ensures in
    turned _ _ _ a.rows.now (text-outside a.registers a.constants a.locations a.s.now c.if-s-gt400.false c.in-Err.p e) (ap Err c.refused-in-Err.ensures)

pub returns-then-n-gt32 : goal.returns-then-n-gt32
returns-then-n-gt32 c =
    let a = c.args in
    let w = told a.s.now _ _ (Ok c.in-Ok.n) c.scan.new.t c.copy_from_slice.ensures.after c.in-Ok.ensures in
    many a.registers a.constants a.locations a.s.now c.if-s-gt400.false a.rows.now c.in-Ok.n c.scan.new.t w
    _ c.if-n-gt32.true (ap Err c.refused-then-n-gt32.ensures)

pub returns-in-Err-judge_rows : goal.returns-in-Err-judge_rows
returns-in-Err-judge_rows c =
    let a = c.args in
    let w = told a.s.now _ _ (Ok c.in-Ok.n) c.scan.new.t c.copy_from_slice.ensures.after c.in-Ok.ensures in
    let (e, z) = verdict-Err _ c.in-Err-judge_rows.i (sym c.judge_rows.ensures ∙ c.in-Err-judge_rows.is) in
    out_of_range a.registers a.constants a.locations a.s.now c.if-s-gt400.false a.rows.now c.in-Ok.n c.scan.new.t w
    c.if-n-gt32.false c.in-Err-judge_rows.i (sym e) _ (λ k. z (e ∙ k)) (ap Err c.refused-in-Err-judge_rows.ensures)

pub returns : goal.returns
returns c =
    let a = c.args in
    let w = told a.s.now _ _ (Ok c.in-Ok.n) c.scan.new.t c.copy_from_slice.ensures.after c.in-Ok.ensures in
    let z = verdict-Ok _ c.in_default.field-0 (sym c.judge_rows.ensures ∙ c.in_default.is) in
    in_range a.registers a.constants a.locations a.s.now c.if-s-gt400.false a.rows.now c.in-Ok.n c.scan.new.t w c.if-n-gt32.false 0 (sym z) refl

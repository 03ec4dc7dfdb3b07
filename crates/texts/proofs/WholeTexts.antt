-- A whole text, the rows that it leaves in the form, and the reply.
-- Assumes nothing.
use Prim.Native.Nat.{ℕ, suc, ◌+◌, ◌-◌, ◌≤◌, ◌<◌}
use mathlib.Core.Bool.{Bool, true, false, cond}
use mathlib.Core.List.{List, [], ◌∷◌, ◌++◌, map, append-nil, append_assoc}
use mathlib.Core.Path.{◌≡◌, refl, sym, ap, ◌∙◌}
use native.Mathlib.Omega.{arith}
use lib.Dec.{leb, ltb}
use lib.ListN.{length, drop, length-drop, drop_of_length-le, length-replicate}
use borrow.Author.Tests.{ne_eqb, lt-ltb, le-leb, lt-leb}
use Rattle.refusals.specs.Judged.{Judged, refusal}
use Rattle.refusals.specs.Judged.Judged.{accepted, refused}
use Rattle.refusals.proofs.Composed.{passes, fails}
use Rattle.graphs.specs.Lists.{up_from}
use Rattle.automata.specs.Questions.{Row}
use Rattle.grammar.specs.Grammar.{Question, size, rows_from}
use Rattle.grammar.specs.Parser.{parse}
use Rattle.grammar.specs.Parser.Parse.{parsed, outside}
use Rattle.grammar.specs.Parser.Read.{got, stop}
use Rattle.grammar.proofs.TextRows.{rows-size}
use Rattle.forms.specs.QuestionForm.{question_length, no_rows, put, row_at, rows_of}
use Rattle.forms.proofs.QuestionRows.{has-row, rows-put, put-length}
use Rattle.questions.specs.declared.Counts.{Counts}
use Rattle.questions.specs.QuestionRules.{judge_row}
use Rattle.questions.specs.Question.{Rows, counts}
use Rattle.texts.specs.RowsPut.{put_first, put_rows}
use Rattle.texts.specs.Descent.{from}
use Rattle.texts.specs.Texts.{first_misfit, rows_read, ranged, judged, read_text}
use Rattle.texts.proofs.Openings.{drop-next}

module _ (s : List ℕ) where
  pub whole_stops : (p : ℕ) → from s 0 ≡ stop (drop p s) → p ≤ length s → parse s ≡ outside (p + 1)
  unfolding from parse
  whole_stops p e h = let z : suc (length s) - length (drop p s) ≡ p + 1 = omega (arith, length-drop p s) in rw e (ap outside z)

  pub whole_more : (q : Question) (p : ℕ) → from s 0 ≡ got q (drop p s) → p < length s → parse s ≡ outside (p + 1)
  unfolding from parse
  whole_more q p e h =
      let z : length s - length (drop (p + 1) s) ≡ p + 1 = omega (arith, length-drop (p + 1) s) in
      rw e (rw (drop-next s p h) (ap outside z))

  pub whole-read : (q : Question) (p : ℕ) → from s 0 ≡ got q (drop p s) → length s ≤ p → parse s ≡ parsed q
  unfolding from parse
  whole-read q p e h = rw e (rw (drop_of_length-le s {i = p} h) refl)

-- The form

put-first-length : (t : List ℕ) (n : ℕ) (r : Row) → length (put_first t n r) ≡ length t
unfolding put_first
put-first-length t n r = step (ltb n 32)
  where
    step : (b : Bool) → length (cond b (put t n r) t) ≡ length t
    step true = put-length t n r
    step false = refl

pub put-rows-length : (t : List ℕ) (n : ℕ) (rs : List Row) → length (put_rows t n rs) ≡ length t
put-rows-length t n [] = refl
put-rows-length t n (r ∷ rs) = put-rows-length (put_first t n r) (n + 1) rs ∙ put-first-length t n r

first-put : (t : List ℕ) (n : ℕ) (r : Row) → n < 32 → put_first t n r ≡ put t n r
unfolding put_first
first-put t n r h = rw (lt-ltb n 32 h) refl

rows_written : (t : List ℕ) (n : ℕ) (rs : List Row) → length t ≡ question_length → n + length rs ≤ 32 → rows_of (put_rows t n rs) (n + length rs) ≡ rows_of t n ++ rs
rows_written t n [] l h = let e : n + 0 ≡ n = omega arith in rw e (sym (append-nil (rows_of t n)))
rows_written t n (r ∷ rs) l h =
    let e : n + suc (length rs) ≡ n + 1 + length rs = omega arith in
    let p : put_first t n r ≡ put t n r = first-put t n r (omega arith) in
    rw e (rows_written (put_first t n r) (n + 1) rs (put-first-length t n r ∙ l) (omega arith)
    ∙ (ap (λ z. rows_of z (n + 1) ++ rs) p ∙ (ap (λ z. z ++ rs) (rows-put t n r (has-row t n l (omega arith))) ∙ append_assoc (rows_of t n) (r ∷ []) rs)))

-- the rows that the form of a question has are its own
pub form-rows : (q : Question) → size q ≤ 32 → rows_of (rows_read q).form (size q) ≡ rows_from 0 q
form-rows q h =
    let e : size q ≡ 0 + length (rows_from 0 q) = omega (arith, rows-size 0 q) in
    ap (rows_of (put_rows no_rows 0 (rows_from 0 q))) e ∙ rows_written no_rows 0 (rows_from 0 q) (length-replicate {A = ℕ} question_length 0) (omega (arith, rows-size 0 q))

-- The loop over the rows

module _ (c : Counts) (t : List ℕ) (i n : ℕ) where
  -- one row further
  pub misfit_more : i < n → judge_row c i (row_at t i) ≡ 0
      → first_misfit c i (map (row_at t) (up_from i (n - i))) ≡ first_misfit c (i + 1) (map (row_at t) (up_from (i + 1) (n - (i + 1))))
  misfit_more h e =
      let z : n - i ≡ suc (n - (i + 1)) = omega arith in
      let y : suc i ≡ i + 1 = omega arith in
      rw z (rw e (rw y refl))

  pub misfit_here : i < n → (judge_row c i (row_at t i) ≡ 0 → ⊥) → first_misfit c i (map (row_at t) (up_from i (n - i))) ≡ i + 1
  misfit_here h e =
      let z : n - i ≡ suc (n - (i + 1)) = omega arith in
      rw z (rw (ne_eqb (judge_row c i (row_at t i)) 0 e) refl)

  pub misfit_none : n ≤ i → first_misfit c i (map (row_at t) (up_from i (n - i))) ≡ 0
  misfit_none h = let z : n - i ≡ 0 = omega arith in rw z refl

-- The reply

module _ (registers constants locations : ℕ) (s : List ℕ) where
  abbrev c : Counts
  c = counts registers constants locations

  pub text-long : 400 < length s → read_text registers constants locations s ≡ refused (refusal 1 2 0)
  unfolding read_text
  text-long h = fails (refusal 1 2 0) (λ ok. judged c (parse s)) (leb (length s) 400) (lt-leb (length s) 400 h)

  module _ (h : length s ≤ 400) where
    text-judged : read_text registers constants locations s ≡ judged c (parse s)
    unfolding read_text
    text-judged = passes (refusal 1 2 0) (λ ok. judged c (parse s)) (leb (length s) 400) (le-leb (length s) 400 h)

    pub text-outside : (p : ℕ) → parse s ≡ outside p → read_text registers constants locations s ≡ refused (refusal 11 2 p)
    text-outside p e = text-judged ∙ ap (judged c) e

    module _ (q : Question) (e : parse s ≡ parsed q) where
      abbrev rest : ℕ → Unit {0} → Judged Rows
      rest x ok = ranged x q

      pub text-many : 32 < size q → read_text registers constants locations s ≡ refused (refusal 12 2 0)
      text-many k = text-judged ∙ (ap (judged c) e ∙ fails (refusal 12 2 0) (rest (first_misfit c 0 (rows_from 0 q))) (leb (size q) 32) (lt-leb (size q) 32 k))

      module _ (k : size q ≤ 32) (x : ℕ) (f : x ≡ first_misfit c 0 (rows_of (rows_read q).form (size q))) where
        text-ranged : read_text registers constants locations s ≡ ranged x q
        text-ranged =
            text-judged ∙ (ap (judged c) e ∙ (passes (refusal 12 2 0) (rest (first_misfit c 0 (rows_from 0 q))) (leb (size q) 32) (le-leb (size q) 32 k)
            ∙ ap (λ y. ranged y q) (ap (first_misfit c 0) (sym (form-rows q k)) ∙ sym f)))

        pub text_misfit : (x ≡ 0 → ⊥) → read_text registers constants locations s ≡ refused (refusal 5 2 x)
        text_misfit z = text-ranged ∙ rw (ne_eqb x 0 z) refl

        pub text-rows : x ≡ 0 → read_text registers constants locations s ≡ accepted (rows_read q)
        text-rows z = text-ranged ∙ rw z refl

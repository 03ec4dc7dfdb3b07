-- What reading a text means, for all bytes and every table: exactly the texts of the grammar within document 02's limits are read, as the questions that are
-- written so, and a refusal is the one that the grammar and the rows give.
-- Assumes nothing.
use Prim.Native.Nat.{ℕ, zero, suc, pred, ◌+◌, ◌≤◌, ◌<◌}
use mathlib.Core.Bool.{Bool, true, false, cond}
use mathlib.Core.List.{List, [], ◌∷◌}
use mathlib.Core.Logic.{◌↔◌, ◌≢◌, by_cases}
use mathlib.Core.Logic.◌⊎◌.{inl, inr}
use mathlib.Core.Path.{◌≡◌, refl, sym, ap, subst, subst⁻¹, ◌∙◌}
use native.Mathlib.Decide.{dec_lt, ℕ_discrete}
use native.Mathlib.Omega.{arith}
use borrow.Author.Tests.{eqb-true, eqb-false}
use lib.Dec.{T, eqb, leb, leb→le, le→leb}
use lib.Ieee.Fits.{and_i, and_l, and_r}
use lib.ListN.{length, take, length-replicate}
use lib.Seq.{take-length}
use Rattle.refusals.specs.declared.Refusal.{Refusal}
use Rattle.refusals.specs.Judged.{Judged, refusal}
use Rattle.refusals.specs.Judged.Judged.{accepted, refused}
use Rattle.automata.specs.Automaton.{Automaton}
use Rattle.automata.specs.Questions.{Row}
use Rattle.automata.specs.Questions as meaning
use Rattle.automata.specs.WellFormed.{inside, constant_count, fits_row, fits_rows, fits_question}
use Rattle.grammar.specs.Grammar.{Question, Writes, StopsAt, size, rows_from, formula_of, TextFile}
use Rattle.grammar.specs.Parser.{Parse, parse}
use Rattle.grammar.specs.Parser.Parse.{parsed, outside}
use Rattle.grammar.proofs.TextRows.{rows-size, size_positive, rows-question}
use Rattle.grammar.proofs.TextsRead.{Means, reads_right, parsed-exact, outside-exact, write_unique}
use Rattle.forms.specs.QuestionForm.{question_length, no_rows, rows_of}
use Rattle.questions.specs.QuestionRules.{judge_row}
use Rattle.questions.specs.Question.{Rows}
use Rattle.questions.proofs.Fits.{counts_of, row_fits, row-judged, Asks}
use Rattle.texts.specs.TextRefusals.{FirstMisfit, TextRefused}
use Rattle.texts.specs.Texts.{first_misfit, rows_read, read_text}
use Rattle.texts.proofs.WholeTexts.{put-rows-length, form-rows, text-long, text-outside, text-many, text_misfit, text-rows}

module _ (a : Automaton) where
  -- Range

  -- none of the rows, which follow n others, is out of range: they all fit
  none_out : (rs : List Row) (n : ℕ) → first_misfit (counts_of a) n rs ≡ 0 → T (fits_rows a n rs)
  none_out [] n e = tt
  none_out (r ∷ rs) n e = by (eqb (judge_row (counts_of a) n r) 0) refl e (none_out rs (n + 1))
    where
      by : (k : Bool) → eqb (judge_row (counts_of a) n r) 0 ≡ k → cond k (first_misfit (counts_of a) (n + 1) rs) (n + 1) ≡ 0 → (first_misfit (counts_of a) (n + 1) rs ≡ 0 → T (fits_rows a (n + 1) rs)) → T (fits_rows a n (r ∷ rs))
      by true h e more =
          let z : n + 1 ≡ suc n = omega arith in
          and_i (fits_row a n r) (fits_rows a (suc n) rs) (row_fits a n r (eqb-true (judge_row (counts_of a) n r) 0 h)) (rw z at (more e))
      by false h e more = absurd (omega arith)

  all_in : (rs : List Row) (n : ℕ) → T (fits_rows a n rs) → first_misfit (counts_of a) n rs ≡ 0
  all_in [] n t = refl
  all_in (r ∷ rs) n t =
      let z : suc n ≡ n + 1 = omega arith in
      let h : T (fits_rows a (n + 1) rs) = rw z at (and_r (fits_row a n r) (fits_rows a (suc n) rs) t) in
      rw (row-judged a n r (and_l (fits_row a n r) (fits_rows a (suc n) rs) t)) (all_in rs (n + 1) h)

  -- the first row out of range, after k that fit
  record Out (n : ℕ) (rs : List Row) (x : ℕ) : Type 0 where
    place : ℕ
    number : x ≡ n + suc place
    there : place < length rs
    before : T (fits_rows a n (take place rs))
    out : T (fits_rows a n (take (suc place) rs)) → ⊥

  first_out : (rs : List Row) (n x : ℕ) → first_misfit (counts_of a) n rs ≡ x → x ≢ 0 → Out n rs x
  first_out [] n x e z = absurd (z (sym e))
  first_out (r ∷ rs) n x e z = by (eqb (judge_row (counts_of a) n r) 0) refl e (λ d. first_out rs (n + 1) x d z)
    where
      by : (k : Bool) → eqb (judge_row (counts_of a) n r) 0 ≡ k → cond k (first_misfit (counts_of a) (n + 1) rs) (n + 1) ≡ x → (first_misfit (counts_of a) (n + 1) rs ≡ x → Out (n + 1) rs x) → Out n (r ∷ rs) x
      by true h e more =
          let o = more e in
          let y : n + 1 ≡ suc n = omega arith in
          let fit : T (fits_row a n r) = row_fits a n r (eqb-true (judge_row (counts_of a) n r) 0 h) in
          record {
            place = suc o.place;
            number = omega (arith, o.number);
            there = omega (arith, o.there);
            before = and_i (fits_row a n r) (fits_rows a (suc n) (take o.place rs)) fit (rw y at o.before);
            out = λ t. o.out (rw (sym y) at (and_r (fits_row a n r) (fits_rows a (suc n) (take (suc o.place) rs)) t));
          }
      by false h e more = record {
        place = 0;
        number = omega arith;
        there = omega arith;
        before = tt;
        out = λ t. eqb-false (judge_row (counts_of a) n r) 0 h (row-judged a n r (and_l (fits_row a n r) true t));
      }

  misfit_first : (rs : List Row) (x : ℕ) → first_misfit (counts_of a) 0 rs ≡ x → x ≢ 0 → FirstMisfit a rs x
  misfit_first rs x e z =
      let o = first_out rs 0 x e z in
      let y : suc o.place ≡ x = omega (arith, o.number) in
      subst (FirstMisfit a rs) y (omega arith, omega (arith, o.there), o.before, o.out)

  -- fewer rows fit too
  fits_fewer : (rs : List Row) (n j k : ℕ) → j ≤ k → T (fits_rows a n (take k rs)) → T (fits_rows a n (take j rs))
  fits_fewer rs n zero k h t = tt
  fits_fewer [] n (suc j) k h t = tt
  fits_fewer (r ∷ rs) n (suc j) zero h t = absurd (omega arith)
  fits_fewer (r ∷ rs) n (suc j) (suc k) h t =
      and_i (fits_row a n r) (fits_rows a (suc n) (take j rs)) (and_l (fits_row a n r) (fits_rows a (suc n) (take k rs)) t)
      (fits_fewer rs (suc n) j k (omega arith) (and_r (fits_row a n r) (fits_rows a (suc n) (take k rs)) t))

  not_before : (rs : List Row) (i j : ℕ) → FirstMisfit a rs i → FirstMisfit a rs j → i < j → ⊥
  not_before rs i j (least, most, before, out) (least', most', before', out') h = out (fits_fewer rs 0 i (pred j) (omega arith) before')

  -- there is one first row out of range, and it is the one that is told
  first_misfit_lem : (rs : List Row) (i : ℕ) → FirstMisfit a rs i → first_misfit (counts_of a) 0 rs ≡ i
  first_misfit_lem rs i m =
      let x : ℕ = first_misfit (counts_of a) 0 rs in
      by_cases (ℕ_discrete x 0)
      (λ z.
      let (least, most, before, out) = m in
      absurd (out (fits_fewer rs 0 i (length rs) most (subst⁻¹ (λ l. T (fits_rows a 0 l)) (take-length rs) (none_out rs 0 z)))))
      (λ z.
      let f : FirstMisfit a rs x = misfit_first rs x refl z in
      by_cases (dec_lt x i) (λ h. absurd (not_before rs x i f m h)) (λ h. by_cases (dec_lt i x) (λ k. absurd (not_before rs i x m f k)) (λ k. omega arith)))

  -- Reading

  abbrev pub text_read : List ℕ → Judged Rows
  text_read s = read_text a.registers (constant_count a) a.locations s

  -- what is read is the rows of the question that is written so; a refusal is the grammar's
  abbrev pub TextMeans : List ℕ → Judged Rows → Type 0
  TextMeans s (accepted r) = (q : Question) × TextFile a s q × (r ≡ rows_read q)
  TextMeans s (refused n) = TextRefused a s n

  fits_all : (q : Question) → size q ≤ 32 → T (fits_rows a 0 (rows_from 0 q)) → T (fits_question a (rows_from 0 q))
  fits_all q h t =
      let (n, e) = size_positive q in
      let l : ℕ = length (rows_from 0 q) in
      and_i (inside 32 l) (fits_rows a 0 (rows_from 0 q)) (and_i (leb 1 l) (leb l 32) (le→leb 1 l (omega (arith, rows-size 0 q))) (le→leb l 32 (omega (arith, rows-size 0 q)))) t

  pub text-means : (s : List ℕ) → TextMeans s (text_read s)
  text-means s =
      by_cases (dec_lt 400 (length s))
      (λ h. subst⁻¹ (TextMeans s) (text-long a.registers (constant_count a) a.locations s h) (inl (h, refl)))
      (λ h. short (omega arith) (parse s) refl (reads_right s))
    where
      few : length s ≤ 400 → (q : Question) → parse s ≡ parsed q → Writes q s → size q ≤ 32 → (x : ℕ) → x ≡ first_misfit (counts_of a) 0 (rows_of (rows_read q).form (size q)) → TextMeans s (text_read s)
      few h q e w k x f =
          let d : first_misfit (counts_of a) 0 (rows_from 0 q) ≡ x = ap (first_misfit (counts_of a) 0) (sym (form-rows q k)) ∙ sym f in
          by_cases (ℕ_discrete x 0)
          (λ z.
          subst⁻¹ (TextMeans s) (text-rows a.registers (constant_count a) a.locations s h q e k x f z)
          (q, record { written = w; short = h; fits = fits_all q k (none_out (rows_from 0 q) 0 (d ∙ z)) }, refl))
          (λ z.
          subst⁻¹ (TextMeans s) (text_misfit a.registers (constant_count a) a.locations s h q e k x f z)
          (inr (inr (inr (h, (q, w, k, (x, misfit_first (rows_from 0 q) x d z, refl)))))))

      short : length s ≤ 400 → (o : Parse) → parse s ≡ o → Means s o → TextMeans s (text_read s)
      short h (outside p) e m = subst⁻¹ (TextMeans s) (text-outside a.registers (constant_count a) a.locations s h p e) (inr (inl (h, (p, m, refl))))
      short h (parsed q) e m =
          by_cases (dec_lt 32 (size q))
          (λ k. subst⁻¹ (TextMeans s) (text-many a.registers (constant_count a) a.locations s h q e k) (inr (inr (inl (h, (q, m, k, refl))))))
          (λ k. few h q e m (omega arith) (first_misfit (counts_of a) 0 (rows_of (rows_read q).form (size q))) refl)

  refused-text : (s : List ℕ) (n : Refusal) → TextRefused a s n → text_read s ≡ refused n
  refused-text s n (inl (h, e)) = text-long a.registers (constant_count a) a.locations s h ∙ ap refused (sym e)
  refused-text s n (inr (inl (h, (p, stops, e)))) = text-outside a.registers (constant_count a) a.locations s h p ((outside-exact s p).1 stops) ∙ ap refused (sym e)
  refused-text s n (inr (inr (inl (h, (q, w, k, e))))) = text-many a.registers (constant_count a) a.locations s h q ((parsed-exact s q).1 w) k ∙ ap refused (sym e)
  refused-text s n (inr (inr (inr (h, (q, w, k, (i, m, e)))))) =
      let f : i ≡ first_misfit (counts_of a) 0 (rows_of (rows_read q).form (size q)) = sym (ap (first_misfit (counts_of a) 0) (form-rows q k) ∙ first_misfit_lem (rows_from 0 q) i m) in
      text_misfit a.registers (constant_count a) a.locations s h q ((parsed-exact s q).1 w) k i f (λ z. omega (arith, m.0)) ∙ ap refused (sym e)

  -- a text is turned back exactly as the grammar and the rows have it
  pub text-refused : (s : List ℕ) (n : Refusal) → (text_read s ≡ refused n) ↔ TextRefused a s n
  text-refused s n = ((λ e. subst (TextMeans s) e (text-means s)), refused-text s n)

  few-rows : (s : List ℕ) (q : Question) → TextFile a s q → size q ≤ 32
  few-rows s q file =
      let l : ℕ = length (rows_from 0 q) in
      let h : l ≤ 32 = leb→le l 32 (and_r (leb 1 l) (leb l 32) (and_l (inside 32 l) (fits_rows a 0 (rows_from 0 q)) file.fits)) in
      omega (arith, rows-size 0 q)

  -- the rows that are read are the question's, and what they ask is its formula
  abbrev pub Reads : Question → Rows → Type 0
  Reads q r = (rows_of r.form r.count ≡ rows_from 0 q) × (meaning.question (rows_of r.form r.count) ≡ formula_of q)

  file_reads : (s : List ℕ) (q : Question) → TextFile a s q → Reads q (rows_read q)
  file_reads s q file = let e = form-rows q (few-rows s q file) in (e, ap meaning.question e ∙ rows-question q)

  -- every text within the limits is read
  pub text-read : (s : List ℕ) (q : Question) → TextFile a s q → (r : Rows) × (text_read s ≡ accepted r) × Reads q r
  text-read s q file =
      let k = few-rows s q file in
      let e : parse s ≡ parsed q = (parsed-exact s q).1 file.written in
      let f : first_misfit (counts_of a) 0 (rows_of (rows_read q).form (size q)) ≡ 0 =
      ap (first_misfit (counts_of a) 0) (form-rows q k) ∙ all_in (rows_from 0 q) 0 (and_r (inside 32 (length (rows_from 0 q))) (fits_rows a 0 (rows_from 0 q)) file.fits) in
      (rows_read q, text-rows a.registers (constant_count a) a.locations s file.short q e k 0 (sym f) refl, file_reads s q file)

  -- and nothing else is
  pub read-text : (s : List ℕ) (r : Rows) → text_read s ≡ accepted r → (q : Question) × TextFile a s q × Reads q r
  read-text s r e = let (q, file, d) = subst (TextMeans s) e (text-means s) in (q, file, subst⁻¹ (Reads q) d (file_reads s q file))

  -- and as one question
  pub one-text : (s : List ℕ) (p q : Question) → TextFile a s p → TextFile a s q → p ≡ q
  one-text s p q f g = write_unique p q f.written.0 g.written.0 (f.written.1 ∙ sym g.written.1)

  -- what is read is a question to the table
  pub text-form : (s : List ℕ) (r : Rows) → text_read s ≡ accepted r → Asks a r.form r.count
  text-form s r e =
      let (q, file, d) = subst (TextMeans s) e (text-means s) in
      let (n, p) = size_positive q in
      subst⁻¹ (λ r. Asks a r.form r.count) d (record {
        long = put-rows-length no_rows 0 (rows_from 0 q) ∙ length-replicate {A = ℕ} question_length 0;
        least = omega arith;
        most = few-rows s q file;
        fits = subst⁻¹ (λ rs. T (fits_question a rs)) (form-rows q (few-rows s q file)) file.fits;
      })

  -- a refusal's number is one of document 02's, and it points to a byte of the text, or the one behind it, or to a row
  pub text_bounds : (s : List ℕ) (n : Refusal) → text_read s ≡ refused n → (n.number ≤ 12) × (n.file ≤ 2) × (n.line ≤ 401)
  text_bounds s n e = by ((text-refused s n).0 e)
    where
      told : (x l : ℕ) → n ≡ refusal x 2 l → x ≤ 12 → l ≤ 401 → (n.number ≤ 12) × (n.file ≤ 2) × (n.line ≤ 401)
      told x l d h k = subst⁻¹ (λ m. (m.number ≤ 12) × (m.file ≤ 2) × (m.line ≤ 401)) d (h, omega arith, k)

      stop : (p : ℕ) → length s ≤ 400 → StopsAt s p → p ≤ 401
      stop p h (inl (a, b, never, begins)) = omega arith
      stop p h (inr (d, viable, none)) = omega arith

      by : TextRefused a s n → (n.number ≤ 12) × (n.file ≤ 2) × (n.line ≤ 401)
      by (inl (h, d)) = told 1 0 d (omega arith) (omega arith)
      by (inr (inl (h, (p, stops, d)))) = told 11 p d (omega arith) (stop p h stops)
      by (inr (inr (inl (h, (q, w, k, d))))) = told 12 0 d (omega arith) (omega arith)
      by (inr (inr (inr (h, (q, w, k, (i, (least, most, before, out), d)))))) = told 5 i d (omega arith) (omega (arith, rows-size 0 q))

-- What the form of an accepted question satisfies: its rows are a question to the table (`question-form`, `question-fits`). A row is judged to fit exactly if it does.
-- Assumes nothing.
use Prim.Native.Nat.{ℕ, suc, ◌+◌, ◌*◌, ◌≤◌}
use mathlib.Core.Bool.{Bool, true, false, cond, ◌&&◌}
use mathlib.Core.List.{List, [], ◌∷◌, ◌++◌}
use mathlib.Core.Path.{◌≡◌, refl, sym, ◌∙◌, subst}
use borrow.Author.Tests.{eqb-true, eqb-false, ltb-true}
use native.Mathlib.Omega.{arith}
use lib.Dec.{T, leb, eqb, eqb→eq, le→leb}
use lib.Ieee.Fits.{and_i, and_l, and_r}
use lib.ListN.{length, get_or, length-replicate}
use Rattle.refusals.specs.Judged.Judged.{accepted}
use Rattle.lists.specs.Arrays.{padded}
use Rattle.graphs.proofs.Lists.{T_true}
use Rattle.fields.specs.LineRead.{judge_read}
use Rattle.std.specs.Prelude.{Option, Some, None}
use Rattle.fields.proofs.LineFiles.{file_keeps}
use Rattle.automata.specs.Automaton.{Automaton}
use Rattle.automata.specs.Questions.{Row, Use, kind_of}
use Rattle.automata.specs.Questions.Use.{location_number, register_number, constant_number, row_number, unused}
use Rattle.automata.specs.WellFormed.{inside, constant_count, fits_use, fits_row, fits_rows, fits_question}
use Rattle.automata.proofs.Equivariance.{inside→}
use Rattle.questions.specs.declared.Counts.{Counts}
use Rattle.questions.specs.QuestionRules.{first_of, judge_field, judge_row, row_in, judge_fields}
use Rattle.forms.specs.QuestionForm.{question_length, rows_of}
use Rattle.forms.proofs.QuestionRows.{HasRow, has-row, put-length, rows-length, rows-put}
use Rattle.questions.specs.Question.{Rows, nothing_read, question_rules, counts, read_question}

-- An accepted row

passed : (k : Bool) (x : ℕ) → cond k 0 (suc x) ≡ 0 → T k
passed true x e = tt
passed false x e = absurd (omega arith)

both-passed : (k : Bool) (x y : ℕ) → cond k (first_of x y) 5 ≡ 0 → T k × (x ≡ 0) × (y ≡ 0)
both-passed false x y e = absurd (omega arith)
both-passed true x y e = by (eqb x 0) refl e
  where
    by : (k : Bool) → eqb x 0 ≡ k → cond k y x ≡ 0 → Unit {0} × (x ≡ 0) × (y ≡ 0)
    by true h e = (tt, eqb-true x 0 h, e)
    by false h e = absurd (eqb-false x 0 h e)

-- a line has three fields, which is 19 bytes
pub three_fields : (k : Bool) (count x : ℕ) → eqb count 3 ≡ k → cond k x 2 ≡ 0 → (count ≡ 3) × (x ≡ 0)
three_fields true count x h e = (eqb-true count 3 h, e)
three_fields false count x h e = absurd (omega arith)

-- the numbers of a row that is accepted are at most m, as the counts are
module _ (c : Counts) (n m : ℕ) (r : c.registers ≤ m) (k : c.constants ≤ m) (l : c.locations ≤ m) (h : n ≤ m) where
  field-small : (u : Use) (x : ℕ) → judge_field c n u x ≡ 0 → x ≤ m
  unfolding judge_field
  field-small location_number x e = omega (arith, inside→ c.locations x (passed (inside c.locations x) 4 e))
  field-small register_number x e = omega (arith, inside→ c.registers x (passed (inside c.registers x) 4 e))
  field-small constant_number x e = omega (arith, inside→ c.constants x (passed (inside c.constants x) 4 e))
  field-small row_number x e = omega (arith, inside→ n x (passed (inside n x) 7 e))
  field-small unused x e = omega (arith, eqb→eq x 0 (passed (eqb x 0) 4 e))

  row_small : (f : Row) → judge_row c n f ≡ 0 → 14 ≤ m → (f.kind ≤ m) × (f.first ≤ m) × (f.second ≤ m)
  unfolding judge_row
  row_small f e w =
      let (v, s, t) = both-passed (inside 14 f.kind) (judge_field c n (kind_of f.kind).first f.first) (judge_field c n (kind_of f.kind).second f.second) e in
      (omega (arith, inside→ 14 f.kind v), field-small (kind_of f.kind).first f.first s, field-small (kind_of f.kind).second f.second t)

  -- of a line as it is read
  pub line_small : (l : Option ℕ) (f : List ℕ) → judge_read (judge_fields c n) l f ≡ 0 → 14 ≤ m → (get_or f 0 0 ≤ m) × (get_or f 1 0 ≤ m) × (get_or f 2 0 ≤ m)
  unfolding judge_fields
  line_small (Some k) f z w = row_small (row_in f) (three_fields (eqb k 3) k (judge_row c n (row_in f)) refl z).1 w
  line_small None f z w = absurd (omega arith)

rows_snoc : (a : Automaton) (n m : ℕ) (rs : List Row) (r : Row) → n + length rs ≡ m → T (fits_rows a n rs) → T (fits_row a m r) → T (fits_rows a n (rs ++ (r ∷ [])))
rows_snoc a n m [] r e h k = let z : n ≡ m = omega arith in and_i (fits_row a n r) true (rw z k) tt
rows_snoc a n m (q ∷ rs) r e h k =
    and_i (fits_row a n q) (fits_rows a (suc n) (rs ++ (r ∷ []))) (and_l (fits_row a n q) (fits_rows a (suc n) rs) h)
    (rows_snoc a (suc n) m rs r (omega arith) (and_r (fits_row a n q) (fits_rows a (suc n) rs) h) k)

module _ (a : Automaton) where
  -- how many registers, constants and locations it has
  abbrev pub counts_of : Counts
  counts_of = counts a.registers (length a.constants) a.locations

  fits-field : (n : ℕ) (u : Use) (x : ℕ) → judge_field counts_of n u x ≡ 0 → T (fits_use a n u x)
  unfolding judge_field
  fits-field n location_number x e = passed (inside a.locations x) 4 e
  fits-field n register_number x e = passed (inside a.registers x) 4 e
  fits-field n constant_number x e = passed (inside (length a.constants) x) 4 e
  fits-field n row_number x e = passed (inside n x) 7 e
  fits-field n unused x e = passed (eqb x 0) 4 e

  field-judged : (n : ℕ) (u : Use) (x : ℕ) → T (fits_use a n u x) → judge_field counts_of n u x ≡ 0
  unfolding judge_field
  field-judged n location_number x h = rw (T_true (inside a.locations x) h)
  field-judged n register_number x h = rw (T_true (inside a.registers x) h)
  field-judged n constant_number x h = rw (T_true (inside (constant_count a) x) h)
  field-judged n row_number x h = rw (T_true (inside n x) h)
  field-judged n unused x h = rw (T_true (eqb x 0) h)

  module _ (n : ℕ) (r : Row) (e : judge_row counts_of n r ≡ 0) where
    judged-row : T (inside 14 r.kind) × (judge_field counts_of n (kind_of r.kind).first r.first ≡ 0) × (judge_field counts_of n (kind_of r.kind).second r.second ≡ 0)
    unfolding judge_row
    judged-row = both-passed (inside 14 r.kind) _ _ e

    -- a row that is judged to fit does
    pub row_fits : T (fits_row a n r)
    row_fits =
        let (k, x, y) = judged-row in
        and_i (inside 14 r.kind && fits_use a n (kind_of r.kind).first r.first) (fits_use a n (kind_of r.kind).second r.second)
        (and_i (inside 14 r.kind) (fits_use a n (kind_of r.kind).first r.first) k (fits-field n (kind_of r.kind).first r.first x))
        (fits-field n (kind_of r.kind).second r.second y)

  -- and a row that fits is judged so
  pub row-judged : (n : ℕ) (r : Row) → T (fits_row a n r) → judge_row counts_of n r ≡ 0
  unfolding judge_row
  row-judged n r t =
      let k : T (inside 14 r.kind) = search (and_l, and_r) in
      let x : T (fits_use a n (kind_of r.kind).first r.first) = search (and_l, and_r) in
      let y : T (fits_use a n (kind_of r.kind).second r.second) = search (and_l, and_r) in
      rw (T_true (inside 14 r.kind) k, field-judged n (kind_of r.kind).first r.first x, field-judged n (kind_of r.kind).second r.second y)

  -- the rows q after m bytes
  record After (m : ℕ) (q : Rows) : Type 0 where
    size : length q.form ≡ question_length
    used : 19 * q.count ≤ m
    fits : T (fits_rows a 0 (rows_of q.form q.count))

  after-row : (m k : ℕ) (q : Rows) (fs : List ℕ) → judge_fields counts_of q.count (length fs) (padded 6 fs) ≡ 0 → 6 * length fs ≤ k → m + (k + 1) ≤ 608 → After m q
      → After (m + (k + 1)) ((question_rules counts_of).accept q (padded 6 fs))
  unfolding judge_fields
  after-row m l q fs e w h s =
      let n = q.count in
      let t = q.form in
      let r : Row = row_in (padded 6 fs) in
      let g = three_fields (eqb (length fs) 3) (length fs) (judge_row counts_of n r) refl e in
      let j : judge_row counts_of n r ≡ 0 = g.1 in
      let k : HasRow t n = has-row t n s.size (omega (arith, s.used, g.0)) in
      let z : 0 + length (rows_of t n) ≡ n = omega (arith, rows-length t n) in
      record {
        size = put-length t n r ∙ s.size;
        used = omega (arith, s.used, g.0);
        fits = subst (λ (rs : List Row). T (fits_rows a 0 rs)) (sym (rows-put t n r k)) (rows_snoc a 0 n (rows_of t n) r z s.fits (row_fits n r j));
      }

  -- the form t of n rows holds a question to the table
  pub record Asks (t : List ℕ) (n : ℕ) : Type 0 where
    pub long : length t ≡ question_length
    pub least : 1 ≤ n
    pub most : n ≤ 32
    pub fits : T (fits_question a (rows_of t n))

  -- what holds of every question that is read
  pub question-form : (s : List ℕ) (q : Rows) → read_question a.registers (length a.constants) a.locations s ≡ accepted q → Asks q.form q.count
  unfolding read_question
  question-form s q e =
      let k = file_keeps (question_rules counts_of) 2 608 (λ m x. (m ≤ 608) × After m x) (λ m k x fs j w h p. (h, after-row m k x fs j w h p.1)) q nothing_read s (omega arith, begins) e in
      let f = k.1.1 in
      let t = q.form in
      let n = q.count in
      let least : 1 ≤ n = ltb-true 0 n k.2 in
      let most : n ≤ 32 = omega (arith, f.used, k.1.0) in
      let c : n ≡ length (rows_of t n) = sym (rows-length t n) in
      record {
        long = f.size;
        least = least;
        most = most;
        fits =
            and_i (inside 32 (length (rows_of t n))) (fits_rows a 0 (rows_of t n))
            (subst (λ (x : ℕ). T (inside 32 x)) c (and_i (leb 1 n) (leb n 32) (le→leb 1 n least) (le→leb n 32 most)))
            f.fits;
      }
    where
      begins : After 0 nothing_read
      begins = record { size = length-replicate {A = ℕ} question_length 0; used = omega arith; fits = tt }

  pub question-fits : (s : List ℕ) (q : Rows) → read_question a.registers (length a.constants) a.locations s ≡ accepted q → T (fits_question a (rows_of q.form q.count))
  question-fits s q e = (question-form s q e).fits

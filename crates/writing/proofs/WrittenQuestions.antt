-- A question that is read is the one that is written of its rows (`question_canonical`), and a question that fits is read back (`question-written`).
-- Assumes nothing.
use Prim.Native.Nat.{ℕ, suc, ◌+◌, ◌*◌, ◌≤◌, ◌<◌}
use mathlib.Core.List.{List, [], ◌∷◌, ◌++◌, append_assoc, append-nil}
use mathlib.Core.Path.{◌≡◌, refl, sym, ap, ◌∙◌, subst}
use borrow.Author.Tests.{lt-ltb}
use native.Mathlib.Omega.{arith}
use lib.Dec.{T, eqb, eqb→eq}
use lib.Ieee.Fits.{and_l, and_r}
use lib.ListN.{length, length-replicate, length-append}
use Rattle.refusals.specs.Judged.Judged.{accepted}
use Rattle.lists.specs.Arrays.{padded}
use Rattle.automata.specs.Automaton.{Automaton}
use Rattle.automata.specs.Questions.{Row, row, Use, kind_of}
use Rattle.automata.specs.Questions.Use.{location_number, register_number, constant_number, row_number, unused}
use Rattle.automata.specs.WellFormed.{inside, constant_count, fits_use, fits_row, fits_rows, fits_question}
use Rattle.automata.proofs.Equivariance.{inside→}
use Rattle.forms.specs.QuestionForm.{put, rows_of}
use Rattle.forms.proofs.QuestionRows.{put-length, rows-put}
use Rattle.questions.specs.declared.Counts.{Counts}
use Rattle.questions.specs.QuestionRules.{judge_row, row_in, judge_fields}
use Rattle.questions.proofs.Fits.{three_fields, counts_of, row-judged}
use Rattle.questions.specs.Question.{Rows, nothing_read, question_rules, counts, read_question}
use Rattle.columns.specs.declared.Sheet.TheVariants.{Plain}
use Rattle.columns.specs.Columns.{line_columns}
use Rattle.writing.specs.Lines.{question_lines, question_bytes}
use Rattle.columns.proofs.Columns.{plain_length}
use Rattle.writing.proofs.Accepting.{low-written, low3}
use Rattle.writing.proofs.Reading.{Written, Taken, file_written, file_read}

-- the bytes of a question
question-length : (rs : List Row) → length (question_bytes rs) ≡ 19 * length rs
question-length [] = omega arith
question-length (r ∷ rs) =
    let vs : List ℕ = r.kind ∷ r.first ∷ r.second ∷ [] in
    omega (arith, question-length rs, length-append (line_columns Plain vs) (10 ∷ question_bytes rs), plain_length Plain vs (λ i. refl))

-- What is read is written

module _ (c : Counts) where
  -- lines that are taken are rows
  rows-lines : (ls : List (List ℕ)) (q u : Rows) → Taken (question_rules c) ls q u → (rs : List Row) × (ls ≡ question_lines rs)
  unfolding judge_fields
  rows-lines [] q u taken = ([], refl)
  rows-lines (vs ∷ ls) q u (plain, z, taken) =
      let (rs, e) = rows-lines ls ((question_rules c).accept q (padded 6 vs)) u taken in
      by vs (three_fields (eqb (length vs) 3) (length vs) (judge_row c q.count (row_in (padded 6 vs))) refl z).0 rs e
    where
      by : (vs : List ℕ) → length vs ≡ 3 → (rs : List Row) → ls ≡ question_lines rs → (rs : List Row) × (vs ∷ ls ≡ question_lines rs)
      by [] h rs e = absurd (omega arith)
      by (k ∷ []) h rs e = absurd (omega arith)
      by (k ∷ a ∷ []) h rs e = absurd (omega arith)
      by (k ∷ a ∷ b ∷ []) h rs e = (row k a b ∷ rs, ap (λ (l : List (List ℕ)). (k ∷ a ∷ b ∷ []) ∷ l) e)
      by (k ∷ a ∷ b ∷ d ∷ vs) h rs e = absurd (omega arith)

  -- and stand in the form
  rows_stand : (rs : List Row) (q u : Rows) → 3 * (q.count + length rs) ≤ length q.form → Taken (question_rules c) (question_lines rs) q u → rows_of u.form u.count ≡ rows_of q.form q.count ++ rs
  unfolding padded
  rows_stand [] q u h (same, z) = ap (λ x. rows_of x.form x.count) (sym same) ∙ sym (append-nil (rows_of q.form q.count))
  rows_stand (r ∷ rs) q u h (plain, z, taken) =
      rows_stand rs (record { form = put q.form q.count r; count = q.count + 1 }) u (omega (arith, put-length q.form q.count r)) taken
      ∙ ap (λ x. x ++ rs) (rows-put q.form q.count r (omega arith))
      ∙ append_assoc (rows_of q.form q.count) (r ∷ []) rs

  -- a whole question
  rows_all : (rs : List Row) (u : Rows) → length rs ≤ 32 → Taken (question_rules c) (question_lines rs) nothing_read u → rows_of u.form u.count ≡ rs
  rows_all rs u h taken = rows_stand rs nothing_read u (omega (arith, length-replicate {A = ℕ} 96 0)) taken

-- a question that is read has these bytes and no others
pub question_canonical : (r c l : ℕ) (s : List ℕ) (u : Rows) → read_question r c l s ≡ accepted u → s ≡ question_bytes (rows_of u.form u.count)
unfolding read_question
question_canonical r c l s u e =
    let k : Counts = counts r c l in
    let (short, (ls, f, taken)) = file_written (question_rules k) 2 u 608 nothing_read s e in
    let (rs, same) = rows-lines k ls nothing_read u taken in
    let bytes : s ≡ question_bytes rs = rw same at f in
    bytes ∙ ap question_bytes (sym (rows_all k rs u (omega (arith, ap length bytes, question-length rs)) (subst (λ x. Taken (question_rules k) x nothing_read u) same taken)))

-- What fits is read

module _ (a : Automaton) where
  -- of numbers that can be written
  module _ (rs : a.registers < 1000000) (cs : constant_count a < 1000000) (ls : a.locations < 1000000) where
    use_low : (n : ℕ) (u : Use) (x : ℕ) → n ≤ 32 → T (fits_use a n u x) → x < 1000000
    use_low n location_number x h t = omega (arith, inside→ a.locations x t)
    use_low n register_number x h t = omega (arith, inside→ a.registers x t)
    use_low n constant_number x h t = omega (arith, inside→ (constant_count a) x t)
    use_low n row_number x h t = omega (arith, inside→ n x t)
    use_low n unused x h t = omega (arith, eqb→eq x 0 t)

    -- a row that fits is a line that is taken
    row-taken : (n : ℕ) (r : Row) → n ≤ 32 → T (fits_row a n r) → Written Plain (r.kind ∷ r.first ∷ r.second ∷ []) × (judge_row (counts_of a) n r ≡ 0)
    row-taken n r h t =
        let k : T (inside 14 r.kind) = search (and_l, and_r) in
        let x : T (fits_use a n (kind_of r.kind).first r.first) = search (and_l, and_r) in
        let y : T (fits_use a n (kind_of r.kind).second r.second) = search (and_l, and_r) in (
          low-written Plain (r.kind ∷ r.first ∷ r.second ∷ [])
              (low3 r.kind r.first r.second (omega (arith, inside→ 14 r.kind k)) (use_low n (kind_of r.kind).first r.first h x) (use_low n (kind_of r.kind).second r.second h y)),
          row-judged a n r t,
        )

    rows_taken : (qs : List Row) (n : ℕ) (q : Rows) → q.count ≡ n → n + length qs ≤ 32 → 1 ≤ n + length qs → T (fits_rows a n qs) → (u : Rows) × Taken (question_rules (counts_of a)) (question_lines qs) q u
    unfolding judge_fields padded
    rows_taken [] n q e h k t = (q, (refl, lt-ltb 0 q.count (omega arith)))
    rows_taken (r ∷ qs) n q e h k t =
        let (plain, judged) = row-taken q.count r (omega arith) (rw e (and_l (fits_row a n r) (fits_rows a (suc n) qs) t)) in
        let (u, taken) = rows_taken qs (suc n) (record { form = put q.form q.count r; count = q.count + 1 }) (omega arith) (omega arith) (omega arith) (and_r (fits_row a n r) (fits_rows a (suc n) qs) t) in
        (u, (plain, judged, taken))

    -- a question that fits is read back
    pub question-written : (qs : List Row) → T (fits_question a qs)
        → (u : Rows) × (read_question a.registers (constant_count a) a.locations (question_bytes qs) ≡ accepted u) × (rows_of u.form u.count ≡ qs)
    unfolding read_question
    question-written qs f =
        let (least, most) = inside→ 32 (length qs) (and_l (inside 32 (length qs)) (fits_rows a 0 qs) f) in
        let (u, taken) = rows_taken qs 0 nothing_read refl (omega arith) (omega arith) (and_r (inside 32 (length qs)) (fits_rows a 0 qs) f) in
        (u, file_read (question_rules (counts_of a)) 2 u 608 nothing_read (question_lines qs) (omega (arith, question-length qs)) taken, rows_all (counts_of a) qs u most taken)

-- Files of lines over any rules: a file that is read is written of lines that are accepted one after the other (`file_written`), and such lines are read (`file_read`);
-- the first line that is not accepted turns a file back (`file_refused`).
-- Assumes nothing.
use Prim.Native.Nat.{ℕ, suc, ◌+◌, ◌*◌, ◌-◌, ◌≤◌}
use mathlib.Core.Bool.{Bool, true, false, cond}
use mathlib.Core.List.{List, [], ◌∷◌, ◌++◌, append_assoc, append-nil}
use mathlib.Core.Logic.{◌≢◌}
use mathlib.Core.Option.{Option, some, none}
use mathlib.Core.Path.{◌≡◌, refl, sym, ◌∙◌, ap, ap₂, subst}
use borrow.Author.Tests.{le-ltb, ltb-false, eqb-true, ne_eqb}
use native.Mathlib.Nat.{mul-suc}
use native.Mathlib.Omega.{arith}
use lib.Dec.{ltb, eqb}
use lib.ListN.{length, length-append}
use Rattle.refusals.specs.Judged.{refusal}
use Rattle.refusals.specs.Judged.Judged.{accepted, refused}
use Rattle.fields.specs.Format.{fields, pieces}
use Rattle.lists.specs.Arrays.{padded}
use Rattle.fields.specs.LineFiles.{Rules, row_of, judge_line, judged, read_lines, read_file}
use Rattle.fields.proofs.LineFiles.{not-accepted}
use Rattle.columns.specs.declared.Sheet.{Sheet}
use Rattle.columns.specs.Columns.{line_columns, file_bytes}
use Rattle.columns.proofs.Columns.{InColumns}
use Rattle.writing.proofs.FileBytes.{fields-columns, columns-fields, pieces-columns, joined, pieces-joined}

-- a line that can be written: at most six numbers that fit in their fields
pub record Written (s : Sheet) (vs : List ℕ) : Type 0 where
  pub few : length vs ≤ 6
  pub fits : InColumns s vs

module _ {S : Type 0} (r : Rules S) where
  -- the lines are accepted one after the other, the first at s, and u is read
  abbrev pub Taken : List (List ℕ) → S → S → Type 0
  Taken [] s u = (s ≡ u) × (r.complete s ≡ true)
  Taken (vs ∷ rs) s u = Written r.sheet vs × (r.judge s (length vs) (padded 6 vs) ≡ 0) × Taken rs (r.accept s (padded 6 vs)) u

  -- the same before the end: they leave t
  abbrev pub Passed : List (List ℕ) → S → S → Type 0
  Passed [] s t = s ≡ t
  Passed (vs ∷ rs) s t = Written r.sheet vs × (r.judge s (length vs) (padded 6 vs) ≡ 0) × Passed rs (r.accept s (padded 6 vs)) t

  -- a line that is written is judged by its numbers
  line-judged : (file n : ℕ) (s : S) (vs rest : List ℕ) → Written r.sheet vs → let bytes : List ℕ = line_columns r.sheet vs ++ (10 ∷ rest) in
      read_lines r file n s (pieces bytes).0 (pieces bytes).1
      ≡ judged file (n + 1) (r.judge s (length vs) (padded 6 vs)) (read_lines r file (n + 1) (r.accept s (padded 6 vs)) (pieces rest).0 (pieces rest).1)
  line-judged file n s vs rest h =
      ap (λ (q : List ℕ × List (List ℕ)). read_lines r file n s q.0 q.1) (pieces-columns r.sheet vs rest)
      ∙ ap (λ (o : Option (List ℕ)). judged file (n + 1) (judge_line (r.judge s) o) (read_lines r file (n + 1) (r.accept s (row_of o)) (pieces rest).0 (pieces rest).1)) (fields-columns r.sheet 6 vs h.few h.fits)

  module _ (file : ℕ) (u : S) where
    -- What is read is written

    abbrev Lines : S → List ℕ → Type 0
    Lines s bytes = (rs : List (List ℕ)) × (bytes ≡ file_bytes r.sheet rs) × Taken rs s u

    lines-written : (ls : List (List ℕ)) (n : ℕ) (s : S) (l : List ℕ) → read_lines r file n s l ls ≡ accepted u → Lines s (joined l ls)
    lines-written [] n s (b ∷ l) e = not-accepted _ u e
    lines-written [] n s [] e = by (r.complete s) refl e
      where
        by : (k : Bool) → r.complete s ≡ k → cond k (accepted s) (refused (refusal 2 file (n + 1))) ≡ accepted u → Lines s []
        by true z e = let same : s ≡ u = cc in ([], refl, (same, z))
        by false z e = not-accepted _ u e
    lines-written (m ∷ ls) n s l e = by (fields r.sheet 6 l) refl e (λ t. lines-written ls (n + 1) t m)
      where
        by : (o : Option (List ℕ)) → fields r.sheet 6 l ≡ o → judged file (n + 1) (judge_line (r.judge s) o) (read_lines r file (n + 1) (r.accept s (row_of o)) m ls) ≡ accepted u
            → ((t : S) → read_lines r file (n + 1) t m ls ≡ accepted u → Lines t (joined m ls)) → Lines s (l ++ (10 ∷ joined m ls))
        by none x e rec = not-accepted _ u e
        by (some vs) x e rec = go (eqb (r.judge s (length vs) (padded 6 vs)) 0) refl e
          where
            go : (k : Bool) → eqb (r.judge s (length vs) (padded 6 vs)) 0 ≡ k
                → cond k (read_lines r file (n + 1) (r.accept s (padded 6 vs)) m ls) (refused (refusal (r.judge s (length vs) (padded 6 vs)) file (n + 1))) ≡ accepted u
                → Lines s (l ++ (10 ∷ joined m ls))
            go false z e = not-accepted _ u e
            go true z e =
                let (same, few, fits) = columns-fields r.sheet 6 l vs x in
                let (rs, f, taken) = rec (r.accept s (padded 6 vs)) e in
                (vs ∷ rs, ap₂ (λ (x y : List ℕ). x ++ (10 ∷ y)) same f, (record { few = few; fits = fits }, eqb-true _ _ z, taken))

    pub file_written : (limit : ℕ) (s : S) (bytes : List ℕ) → read_file r file limit s bytes ≡ accepted u → (length bytes ≤ limit) × Lines s bytes
    unfolding read_file
    file_written limit s bytes e = by (ltb limit (length bytes)) refl e
      where
        by : (k : Bool) → ltb limit (length bytes) ≡ k → cond k (refused (refusal 1 file 0)) (read_lines r file 0 s (pieces bytes).0 (pieces bytes).1) ≡ accepted u
            → (length bytes ≤ limit) × Lines s bytes
        by true z e = not-accepted _ u e
        by false z e =
            let (rs, f, taken) = lines-written (pieces bytes).1 0 s (pieces bytes).0 e in
            (ltb-false limit (length bytes) z, (rs, pieces-joined bytes ∙ f, taken))

    -- What is written is read

    lines-read : (rs : List (List ℕ)) (n : ℕ) (s : S) → Taken rs s u → read_lines r file n s (pieces (file_bytes r.sheet rs)).0 (pieces (file_bytes r.sheet rs)).1 ≡ accepted u
    lines-read [] n s (same, z) = ap (λ k. cond k (accepted s) (refused (refusal 2 file (n + 1)))) z ∙ ap accepted same
    lines-read (vs ∷ rs) n s (h, z, taken) =
        let rest : List ℕ = file_bytes r.sheet rs in
        line-judged file n s vs rest h
        ∙ ap (λ (x : ℕ). judged file (n + 1) x (read_lines r file (n + 1) (r.accept s (padded 6 vs)) (pieces rest).0 (pieces rest).1)) z
        ∙ lines-read rs (n + 1) (r.accept s (padded 6 vs)) taken

    pub file_read : (limit : ℕ) (s : S) (rs : List (List ℕ)) → length (file_bytes r.sheet rs) ≤ limit → Taken rs s u → read_file r file limit s (file_bytes r.sheet rs) ≡ accepted u
    unfolding read_file
    file_read limit s rs h taken =
        ap (λ (b : Bool). cond b (refused (refusal 1 file 0)) (read_lines r file 0 s (pieces (file_bytes r.sheet rs)).0 (pieces (file_bytes r.sheet rs)).1)) (le-ltb limit (length (file_bytes r.sheet rs)) h)
        ∙ lines-read rs 0 s taken

  -- What is turned back: behind lines that are accepted, a line that is written and has the refusal x; whatever follows

  module _ (file : ℕ) (t : S) (vs rest : List ℕ) (h : Written r.sheet vs) (x : ℕ) (is : r.judge t (length vs) (padded 6 vs) ≡ x) (some-x : x ≢ 0) where
    -- the line and what follows
    abbrev here : List ℕ
    here = line_columns r.sheet vs ++ (10 ∷ rest)

    lines-refused : (rs : List (List ℕ)) (n : ℕ) (s : S) → Passed rs s t → let bytes : List ℕ = file_bytes r.sheet rs ++ here in
        read_lines r file n s (pieces bytes).0 (pieces bytes).1 ≡ refused (refusal x file (n + length rs + 1))
    lines-refused [] n s same =
        let z : n + 1 ≡ n + 0 + 1 = omega arith in
        ap (λ (y : S). read_lines r file n y (pieces here).0 (pieces here).1) same
        ∙ line-judged file n t vs rest h
        ∙ ap (λ (y : ℕ). judged file (n + 1) y (read_lines r file (n + 1) (r.accept t (padded 6 vs)) (pieces rest).0 (pieces rest).1)) is
        ∙ ap (λ (k : Bool). cond k (read_lines r file (n + 1) (r.accept t (padded 6 vs)) (pieces rest).0 (pieces rest).1) (refused (refusal x file (n + 1)))) (ne_eqb x 0 some-x)
        ∙ ap (λ k. refused (refusal x file k)) z
    lines-refused (us ∷ rs) n s (w, z, passed) =
        let more : List ℕ = file_bytes r.sheet rs ++ here in
        let e : n + 1 + length rs + 1 ≡ n + suc (length rs) + 1 = omega arith in
        ap (λ b. read_lines r file n s (pieces b).0 (pieces b).1) (append_assoc (line_columns r.sheet us) (10 ∷ file_bytes r.sheet rs) here)
        ∙ line-judged file n s us more w
        ∙ ap (λ (y : ℕ). judged file (n + 1) y (read_lines r file (n + 1) (r.accept s (padded 6 us)) (pieces more).0 (pieces more).1)) z
        ∙ lines-refused rs (n + 1) (r.accept s (padded 6 us)) passed
        ∙ ap (λ k. refused (refusal x file k)) e

    pub file_refused : (limit : ℕ) (s : S) (rs : List (List ℕ)) → length (file_bytes r.sheet rs ++ here) ≤ limit → Passed rs s t
        → read_file r file limit s (file_bytes r.sheet rs ++ here) ≡ refused (refusal x file (length rs + 1))
    unfolding read_file
    file_refused limit s rs l passed =
        let bytes : List ℕ = file_bytes r.sheet rs ++ here in
        let z : 0 + length rs + 1 ≡ length rs + 1 = omega arith in
        ap (λ (b : Bool). cond b (refused (refusal 1 file 0)) (read_lines r file 0 s (pieces bytes).0 (pieces bytes).1)) (le-ltb limit (length bytes) l)
        ∙ lines-refused rs 0 s passed ∙ ap (λ k. refused (refusal x file k)) z

  -- what every accepted line keeps, with the lines so far, holds at the end
  pub taken-keeps : (Q : List (List ℕ) → S → Type 0)
      → ((done : List (List ℕ)) (s : S) (vs : List ℕ) → Written r.sheet vs → r.judge s (length vs) (padded 6 vs) ≡ 0 → Q done s → Q (done ++ (vs ∷ [])) (r.accept s (padded 6 vs)))
      → (rs done : List (List ℕ)) (s u : S) → Taken rs s u → Q done s → Q (done ++ rs) u × (r.complete u ≡ true)
  taken-keeps Q step [] done s u (same, z) q =
      (subst (λ l. Q l u) (sym (append-nil done)) (subst (Q done) same q), subst (λ (x : S). r.complete x ≡ true) same z)
  taken-keeps Q step (vs ∷ rs) done s u (h, z, taken) q =
      subst (λ l. Q l u × (r.complete u ≡ true)) (append_assoc done (vs ∷ []) rs)
      (taken-keeps Q step rs (done ++ (vs ∷ [])) (r.accept s (padded 6 vs)) u taken (step done s vs h z q))

  -- where a line has at most m bytes
  pub taken-short : (m : ℕ) → ((vs : List ℕ) → length vs ≤ 6 → length (line_columns r.sheet vs) + 1 ≤ m) → (rs : List (List ℕ)) (s u : S) → Taken rs s u → length (file_bytes r.sheet rs) ≤ m * length rs
  taken-short m h [] s u t = omega arith
  taken-short m h (vs ∷ rs) s u (w, z, t) =
      let e : m * suc (length rs) ≡ m * length rs + m = mul-suc m (length rs) in
      omega (arith, e, taken-short m h rs (r.accept s (padded 6 vs)) u t, h vs w.few, length-append (line_columns r.sheet vs) (10 ∷ file_bytes r.sheet rs))

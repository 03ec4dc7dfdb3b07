-- Lines and files: the fields of a line that is written are its numbers, a line that is read is its numbers written, and a file falls into its lines.
-- Assumes nothing.
use Prim.Native.Nat.{ℕ, zero, suc, ◌+◌, ◌/◌, ◌%◌, ◌^◌, ◌≤◌, ◌<◌}
use mathlib.Core.Bool.{Bool, true, false, cond, ◌&&◌}
use mathlib.Core.List.{List, [], ◌∷◌, ◌++◌, append_assoc, append-nil}
use mathlib.Core.Option.{some, none}
use mathlib.Core.Path.{◌≡◌, refl, sym, ◌∙◌, ap, ap₂, subst}
use borrow.Author.Tests.{eqb-true, ne_eqb, le-leb}
use native.Mathlib.Nat.{one-le-pow}
use native.Mathlib.Omega.{arith}
use lib.Dec.{T, leb, ltb, eqb, ltb→lt, lt→ltb}
use lib.Ieee.Fits.{and_i, and_l, and_r}
use lib.ListN.{length, get_or, take, drop, length-append, take-append-drop}
use lib.Seq.{take_at, drop_at, length-take-le}
use Rattle.graphs.specs.Lists.{all_of}
use Rattle.columns.specs.declared.Sheet.{Sheet}
use Rattle.columns.specs.Widths.{width}
use Rattle.columns.specs.Columns.{column_of, column, columns, line_columns, file_bytes}
use Rattle.columns.proofs.Columns.{width_is, width-first, InColumns, column-length}
use Rattle.fields.specs.Format.{field, next_width, on_number, fields_after, fields, onto, pieces}
use Rattle.fields.proofs.Digits.{no_number_lem, field-low, next-read}
use Rattle.writing.proofs.ColumnNumbers.{field-column, column-field}

-- Fields

module _ (s : Sheet) where
  -- the field behind fs is as wide as in the line of all numbers
  next-is : (fs vs : List ℕ) → next_width s fs ≡ width s (get_or (fs ++ vs) 0 0) (length fs)
  next-is [] vs = width-first s 0 ∙ sym (width-first s (get_or vs 0 0))
  next-is (x ∷ fs) vs = refl

  -- the next field of a line that is written, and the rest
  next-written : (n : ℕ) (fs l m : List ℕ) (v : ℕ) → length l ≡ next_width s fs → field l ≡ some v → fields_after s fs (suc n) (l ++ m) ≡ fields_after s (fs ++ (v ∷ [])) n m
  next-written n fs [] m v h e = no_number_lem e
  next-written n fs (b ∷ l) m v h e =
      let w : ℕ = next_width s fs in
      let room : leb w (length ((b ∷ l) ++ m)) ≡ true = le-leb w (length ((b ∷ l) ++ m)) (omega (arith, length-append (b ∷ l) m)) in
      let front : take w ((b ∷ l) ++ m) ≡ b ∷ l = take_at (b ∷ l) m w h in
      let back : drop w ((b ∷ l) ++ m) ≡ m = drop_at (b ∷ l) m w h in
      ap₂ (λ (k : Bool) (x : List ℕ). on_number (cond k (field x) none) (λ u. fields_after s (fs ++ (u ∷ [])) n (drop w ((b ∷ l) ++ m)))) room front
      ∙ ap (λ o. on_number o (λ u. fields_after s (fs ++ (u ∷ [])) n (drop w ((b ∷ l) ++ m)))) e
      ∙ ap (fields_after s (fs ++ (v ∷ [])) n) back

  -- a number that fits in its field is read back
  field_back : (w v : ℕ) → 6 ≤ w → v < 10 ^ w → field (column w v) ≡ some v
  field_back zero v h l = absurd (omega arith)
  field_back (suc w) v h l = field-column w v l

  none_left : (k i : ℕ) (fs : List ℕ) (n : ℕ) → fields_after s fs n (columns (width s k) i []) ≡ some (fs ++ [])
  none_left k i fs zero = ap some (sym (append-nil fs))
  none_left k i fs (suc n) = ap some (sym (append-nil fs))

  module _ (k : ℕ) where
    after-columns : (n : ℕ) (vs fs : List ℕ) (i : ℕ) → length fs ≡ i → length vs ≤ n → get_or (fs ++ vs) 0 0 ≡ k → ((j : ℕ) → get_or vs j 0 < 10 ^ width s k (i + j))
        → fields_after s fs n (columns (width s k) i vs) ≡ some (fs ++ vs)
    after-columns n [] fs i h few first low = none_left k i fs n
    after-columns zero (v ∷ vs) fs i h few first low = absurd (omega arith)
    after-columns (suc n) (v ∷ vs) fs i h few first low =
        let w : ℕ = width s k i in
        let wide : w ≡ next_width s fs = ap₂ (width s) (sym first) (sym h) ∙ sym (next-is fs (v ∷ vs)) in
        let fits : v < 10 ^ w = let z : i + 0 ≡ i = omega arith in subst (λ x. v < 10 ^ width s k x) z (low 0) in
        next-written n fs (column w v) (columns (width s k) (suc i) vs) v (column-length w v ∙ wide) (field_back w v (width_is s k i).0 fits)
        ∙ after-columns n vs (fs ++ (v ∷ [])) (suc i) (omega (arith, length-append fs (v ∷ []))) (omega arith) (ap (λ x. get_or x 0 0) (append_assoc fs (v ∷ []) vs) ∙ first)
        (λ j. let z : i + suc j ≡ suc i + j = omega arith in subst (λ x. get_or vs j 0 < 10 ^ width s k x) z (low (suc j)))
        ∙ ap some (append_assoc fs (v ∷ []) vs)

  -- a line that is written is read as its numbers
  pub fields-columns : (n : ℕ) (vs : List ℕ) → length vs ≤ n → InColumns s vs → fields s n (line_columns s vs) ≡ some vs
  fields-columns n vs h l =
      after-columns (get_or vs 0 0) n vs [] 0 refl h refl (λ j. let z : j ≡ 0 + j = omega arith in subst (λ x. get_or vs j 0 < 10 ^ width s (get_or vs 0 0) x) z (l j))

  -- What is read from a line after the numbers fs: the numbers us, of a line of the numbers vs
  record Behind (fs us vs l : List ℕ) (n : ℕ) : Type 0 where
    all : vs ≡ fs ++ us
    few : length us ≤ n
    bytes : l ≡ columns (width s (get_or vs 0 0)) (length fs) us
    low : (j : ℕ) → get_or us j 0 < 10 ^ width s (get_or vs 0 0) (length fs + j)

  end_read : (n : ℕ) (fs vs : List ℕ) → fs ≡ vs → Behind fs [] vs [] n
  end_read n fs vs e = record { all = sym e ∙ sym (append-nil fs); few = omega arith; bytes = refl; low = λ j. one-le-pow (width s (get_or vs 0 0) (length fs + j)) 10 (omega arith) }

  after-fields : (n : ℕ) (fs l vs : List ℕ) → fields_after s fs n l ≡ some vs → (us : List ℕ) × Behind fs us vs l n
  after-fields zero fs [] vs e = let z : fs ≡ vs = cc in ([], end_read zero fs vs z)
  after-fields zero fs (b ∷ l) vs e = no_number_lem e
  after-fields (suc n) fs [] vs e = let z : fs ≡ vs = cc in ([], end_read (suc n) fs vs z)
  after-fields (suc n) fs (b ∷ l) vs e =
      let w : ℕ = next_width s fs in
      let (v, room, f, rest) = next-read s n fs b l vs e in
      let (us, r) = after-fields n (fs ++ (v ∷ [])) (drop w (b ∷ l)) vs rest in
      let all : vs ≡ fs ++ (v ∷ us) = r.all ∙ append_assoc fs (v ∷ []) us in
      let wide : w ≡ width s (get_or vs 0 0) (length fs) = next-is fs (v ∷ us) ∙ ap (λ x. width s (get_or x 0 0) (length fs)) (sym all) in
      let size : length (take w (b ∷ l)) ≡ w = length-take-le w (b ∷ l) room in
      let more : length (fs ++ (v ∷ [])) ≡ suc (length fs) = omega (arith, length-append fs (v ∷ [])) in
      let this : v < 10 ^ width s (get_or vs 0 0) (length fs) = subst (λ x. v < 10 ^ x) (size ∙ wide) (field-low (take w (b ∷ l)) v f) in (
        v ∷ us,
        record {
          all = all;
          few = omega (arith, r.few);
          bytes = sym (take-append-drop w (b ∷ l))
              ∙ ap₂ (λ (x y : List ℕ). x ++ y) (column-field (take w (b ∷ l)) v f ∙ ap (λ x. column x v) (size ∙ wide)) (r.bytes ∙ ap (λ x. columns (width s (get_or vs 0 0)) x us) more);
          low = below vs us v (length fs) this (subst (λ x. (j : ℕ) → get_or us j 0 < 10 ^ width s (get_or vs 0 0) (x + j)) more r.low);
        },
      )
    where
      below : (vs us : List ℕ) (v i : ℕ) → v < 10 ^ width s (get_or vs 0 0) i → ((j : ℕ) → get_or us j 0 < 10 ^ width s (get_or vs 0 0) (suc i + j))
          → (j : ℕ) → get_or (v ∷ us) j 0 < 10 ^ width s (get_or vs 0 0) (i + j)
      below vs us v i h rest zero = let z : i ≡ i + 0 = omega arith in subst (λ x. v < 10 ^ width s (get_or vs 0 0) x) z h
      below vs us v i h rest (suc j) = let z : suc i + j ≡ i + suc j = omega arith in subst (λ x. get_or us j 0 < 10 ^ width s (get_or vs 0 0) x) z (rest j)

  -- a line that is read is its numbers, written, and they fit in their fields
  pub columns-fields : (n : ℕ) (l vs : List ℕ) → fields s n l ≡ some vs → (l ≡ line_columns s vs) × (length vs ≤ n) × InColumns s vs
  columns-fields n l vs e =
      let (us, r) = after-fields n [] l vs e in
      let same : us ≡ vs = sym r.all in (
        r.bytes ∙ ap (columns (width s (get_or vs 0 0)) 0) same,
        omega (arith, r.few, ap length same),
        λ j. let z : 0 + j ≡ j = omega arith in subst (λ x. get_or x j 0 < 10 ^ width s (get_or vs 0 0) j) same (subst (λ x. get_or us j 0 < 10 ^ width s (get_or vs 0 0) x) z (r.low j)),
      )

-- Lines

-- every byte is above 10
abbrev above : List ℕ → Bool
above l = all_of (λ b. ltb 10 b) l

above_more : (k l : List ℕ) → T (above k) → T (above l) → T (above (k ++ l))
above_more [] l t u = u
above_more (b ∷ k) l t u = and_i (ltb 10 b) (above (k ++ l)) (and_l (ltb 10 b) (above k) t) (above_more k l (and_r (ltb 10 b) (above k) t) u)

above-one : (v p : ℕ) → T (ltb 10 (column_of v p))
unfolding column_of
above-one v p = by (ltb v p && ltb 1 p)
  where
    by : (k : Bool) → T (ltb 10 (cond k 32 (48 + v / p % 10)))
    by true = tt
    by false = lt→ltb 10 (48 + v / p % 10) (omega arith)

above-column : (w v : ℕ) → T (above (column w v))
above-column zero v = tt
above-column (suc w) v = and_i (ltb 10 (column_of v (10 ^ w))) (above (column w v)) (above-one v (10 ^ w)) (above-column w v)

above-columns : (w : ℕ → ℕ) (i : ℕ) (vs : List ℕ) → T (above (columns w i vs))
above-columns w i [] = tt
above-columns w i (v ∷ vs) = above_more (column (w i) v) (columns w (suc i) vs) (above-column (w i) v) (above-columns w (suc i) vs)

pieces-line : (l s : List ℕ) → T (above l) → pieces (l ++ (10 ∷ s)) ≡ (l, (pieces s).0 ∷ (pieces s).1)
pieces-line [] s t = refl
pieces-line (b ∷ l) s t =
    let h : 10 < b = ltb→lt 10 b (and_l (ltb 10 b) (above l) t) in
    let n : eqb b 10 ≡ false = ne_eqb b 10 (λ e. omega arith) in
    rw n (ap (λ (q : List ℕ × List (List ℕ)). onto false b q) (pieces-line l s (and_r (ltb 10 b) (above l) t)))

-- a line that is written, and what follows it
pub pieces-columns : (s : Sheet) (vs rest : List ℕ) → pieces (line_columns s vs ++ (10 ∷ rest)) ≡ (line_columns s vs, (pieces rest).0 ∷ (pieces rest).1)
pieces-columns s vs rest = pieces-line (line_columns s vs) rest (above-columns (width s (get_or vs 0 0)) 0 vs)

-- the file of these pieces
abbrev pub joined : List ℕ → List (List ℕ) → List ℕ
joined l [] = l
joined l (m ∷ ls) = l ++ (10 ∷ joined m ls)

pub pieces-joined : (s : List ℕ) → s ≡ joined (pieces s).0 (pieces s).1
pieces-joined [] = refl
pieces-joined (b ∷ s) = by (eqb b 10) refl (pieces s) (pieces-joined s)
  where
    by : (k : Bool) → eqb b 10 ≡ k → (q : List ℕ × List (List ℕ)) → s ≡ joined q.0 q.1 → (b ∷ s) ≡ joined (onto k b q).0 (onto k b q).1
    by true z q e = ap₂ (λ (x : ℕ) (y : List ℕ). x ∷ y) (eqb-true b 10 z) e
    by false z q e = ap (λ (y : List ℕ). b ∷ y) e ∙ front q.0 q.1
      where
        front : (l : List ℕ) (ls : List (List ℕ)) → (b ∷ joined l ls) ≡ joined (b ∷ l) ls
        front l [] = refl
        front l (m ∷ ls) = refl

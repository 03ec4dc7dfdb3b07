-- Bytes stored one after another, widths, and the columns of numbers: their lengths, and each from what is left of the number.
-- Assumes nothing.
use Prim.Native.Nat.{ℕ, zero, suc, ◌+◌, ◌*◌, ◌-◌, ◌/◌, ◌%◌, ◌^◌, ◌≤◌, ◌<◌}
use mathlib.Core.Bool.{Bool, true, false, cond, ◌&&◌, not, and-false}
use mathlib.Core.List.{List, [], ◌∷◌, ◌++◌}
use mathlib.Core.Path.{◌≡◌, refl, sym, ◌∙◌, ap, ap₂}
use borrow.Author.Tests.{lt-ltb, ltb-true, ltb-false, eqb-true, eqb-false, eq-eqb, ne_eqb, le-leb}
use native.Mathlib.Nat.{pow-suc, one-le-pow, le-div_iff_mul-le, div-eq_of_lt, div-div-eq-div-mul, lt_of_lt_of_le, pow-le-pow_right, mul-zero, mul-suc, add_comm}
use native.Mathlib.Numerals.{add-one}
use native.Mathlib.Omega.{arith}
use lib.Dec.{ltb, eqb}
use lib.ListN.{length, get_or, set, drop, length-append}
use lib.Seq.{sets, set_comm, drop-cons}
use Rattle.columns.specs.declared.Sheet.{Sheet}
use Rattle.columns.specs.declared.Sheet.TheVariants.{Table, Run, Answer, Plain}
use Rattle.columns.specs.Widths.{identifier, width}
use Rattle.columns.specs.Columns.{column_of, column, columns, line_columns}

-- Widths

pub width_is : (s : Sheet) (k i : ℕ) → (6 ≤ width s k i) × (width s k i ≤ 12)
unfolding width
width_is s k i = by (identifier s k i)
  where
    by : (b : Bool) → (6 ≤ cond b 12 6) × (cond b 12 6 ≤ 12)
    by true = (omega arith, omega arith)
    by false = (omega arith, omega arith)

-- what a line begins with has six columns
pub width-first : (s : Sheet) (k : ℕ) → width s k 0 ≡ 6
unfolding width
width-first Table k = ap (λ b. cond b 12 6) (and-false (eqb k 2))
width-first Run k = refl
width-first Answer k = ap (λ b. cond b 12 6) (and-false (eqb k 0))
width-first Plain k = refl

-- the numbers of a line on this sheet fit in their fields
abbrev pub InColumns : Sheet → List ℕ → Type 0
InColumns s vs = (i : ℕ) → get_or vs i 0 < 10 ^ width s (get_or vs 0 0) i

-- numbers of six digits do on every sheet
pub six_digits : (s : Sheet) (vs : List ℕ) → ((i : ℕ) → get_or vs i 0 < 1000000) → InColumns s vs
six_digits s vs h i = lt_of_lt_of_le (h i) (pow-le-pow_right {n = 10} (omega arith) (width_is s (get_or vs 0 0) i).0)

-- Stores

-- bytes, and then more
pub sets-append : (xs ys l : List ℕ) (i : ℕ) → sets l i (xs ++ ys) ≡ sets (sets l i xs) (i + length xs) ys
sets-append [] ys l i = ap (λ k. sets l k ys) (omega arith)
sets-append (x ∷ xs) ys l i = sets-append xs ys (set l i x) (suc i) ∙ ap (λ k. sets (sets (set l i x) (suc i) xs) k ys) (omega arith)

-- a byte in front of others may be stored last
pub sets_before : (xs l : List ℕ) (i j b : ℕ) → j < i → set (sets l i xs) j b ≡ sets (set l j b) i xs
sets_before [] l i j b h = refl
sets_before (x ∷ xs) l i j b h = sets_before xs (set l i x) (suc i) j b (omega arith) ∙ ap (λ m. sets m (suc i) xs) (set_comm l i j x b (λ e. omega arith))

-- Lengths

pub column-length : (w v : ℕ) → length (column w v) ≡ w
column-length zero v = refl
column-length (suc w) v = ap suc (column-length w v)

-- each field has at most twelve columns
pub columns_most : (w : ℕ → ℕ) → ((i : ℕ) → (6 ≤ w i) × (w i ≤ 12)) → (i : ℕ) (vs : List ℕ) → length (columns w i vs) ≤ 12 * length vs
columns_most w is i [] = omega arith
columns_most w is i (v ∷ vs) = omega (arith, length-append (column (w i) v) (columns w (suc i) vs), column-length (w i) v, columns_most w is (suc i) vs, is i)

-- from field i on in n columns each
columns-length : (n : ℕ) (w : ℕ → ℕ) (i : ℕ) → ((j : ℕ) → w (i + j) ≡ n) → (vs : List ℕ) → length (columns w i vs) ≡ n * length vs
columns-length n w i h [] = sym (mul-zero n)
columns-length n w i h (v ∷ vs) =
    let z : i + 0 ≡ i = omega arith in
    let rest : length (columns w (suc i) vs) ≡ n * length vs = columns-length n w (suc i) (λ j. let e : suc i + j ≡ i + suc j = omega arith in ap w e ∙ h (suc j)) vs in
    length-append (column (w i) v) (columns w (suc i) vs) ∙ ap₂ (λ x y. x + y) (column-length (w i) v ∙ ap w (sym z) ∙ h 0) rest ∙ add_comm n (n * length vs) ∙ sym (mul-suc n (length vs))

-- a line with no identifier
pub plain_length : (s : Sheet) (vs : List ℕ) → ((i : ℕ) → identifier s (get_or vs 0 0) i ≡ false) → length (line_columns s vs) ≡ 6 * length vs
unfolding width
plain_length s vs h = columns-length 6 (width s (get_or vs 0 0)) 0 (λ j. ap (λ b. cond b 12 6) (h (0 + j))) vs

-- of a table's lines one field is wide at most
pub table_most : (vs : List ℕ) → length (line_columns Table vs) ≤ 6 * length vs + 6
unfolding width
table_most [] = omega arith
table_most (a ∷ []) = omega (arith, length-append (column (width Table a 0) a) [], column-length (width Table a 0) a, width-first Table a)
table_most (a ∷ b ∷ vs) =
    let w : ℕ → ℕ = width Table a in
    let narrow : (j : ℕ) → w (2 + j) ≡ 6 = λ j. ap (λ k. cond (eqb a 2 && k) 12 6) (ne_eqb (2 + j) 1 (λ e. omega arith)) ∙ ap (λ k. cond k 12 6) (and-false (eqb a 2)) in
    omega (
      arith,
      length-append (column (w 0) a) (columns w 1 (b ∷ vs)),
      length-append (column (w 1) b) (columns w 2 vs),
      column-length (w 0) a,
      column-length (w 1) b,
      width-first Table a,
      width_is Table a 1,
      columns-length 6 w 2 narrow vs,
    )

-- document 02's widths: a table's line 2, a moment of a run, an answer that is no
pub constant-length : (v : ℕ) → length (line_columns Table (2 ∷ v ∷ [])) ≡ 6 + 12
unfolding width
constant-length v = refl

pub moment_length : (k i l : ℕ) (vs : List ℕ) → length (line_columns Run (k ∷ i ∷ l ∷ vs)) ≡ 3 * 6 + 12 * length vs
unfolding width
moment_length k i l vs = omega (arith, columns-length 12 (width Run k) 3 (λ j. ap (λ b. cond b 12 6) (le-leb 3 (3 + j) (omega arith))) vs)

pub answer-length : (k : ℕ) (vs : List ℕ) → length (line_columns Answer (0 ∷ k ∷ vs)) ≡ 2 * 6 + 12 * length vs
unfolding width
answer-length k vs = omega (arith, columns-length 12 (width Answer 0) 2 (λ j. ap (λ b. cond b 12 6) (le-leb 2 (2 + j) (omega arith))) vs)

-- A column from what is left of the number

-- a number is smaller than a power exactly if nothing is left
none_left : (v p : ℕ) → 1 ≤ p → eqb (v / p) 0 ≡ ltb v p
none_left v p h = by (ltb v p) refl
  where
    by : (k : Bool) → ltb v p ≡ k → eqb (v / p) 0 ≡ k
    by true e = eq-eqb (v / p) 0 (div-eq_of_lt (ltb-true v p e))
    by false e =
        let some : 1 ≤ v / p = (le-div_iff_mul-le {k = p} {x = 1} {y = v} h).1 (omega (arith, ltb-false v p e)) in
        ne_eqb (v / p) 0 (λ z. omega arith)

-- the power is above 1 exactly if columns stand behind
columns-behind : (k : ℕ) → not (eqb k 0) ≡ ltb 1 (10 ^ k)
columns-behind zero = refl
columns-behind (suc k) = let e = pow-suc 10 k in ap not (ne_eqb (suc k) 0 (λ z. omega arith)) ∙ sym (lt-ltb 1 (10 ^ suc k) (omega (arith, one-le-pow k 10 (omega arith))))

column_byte : (v k : ℕ) → cond (eqb (v / 10 ^ k) 0 && not (eqb k 0)) 32 (48 + v / 10 ^ k % 10) ≡ column_of v (10 ^ k)
unfolding column_of
column_byte v k = ap₂ (λ (x y : Bool). cond (x && y) 32 (48 + v / 10 ^ k % 10)) (none_left v (10 ^ k) (one-le-pow k 10 (omega arith))) (columns-behind k)

-- one column more, in front of those that are written: of w columns, those from number i on; one digit less is left
module _ (l₀ l : List ℕ) (at w v i j rest : ℕ) (next : i ≡ suc j) (low : i ≤ w) (are : l ≡ sets l₀ (at + i) (column (w - i) v)) (left : rest ≡ v / 10 ^ (w - i)) where
  wider : w - j ≡ suc (w - i)
  wider = omega arith

  pub column_more : (b : ℕ) → b ≡ cond (eqb rest 0 && not (eqb i w)) 32 (48 + rest % 10) → set l (at + j) b ≡ sets l₀ (at + j) (column (w - j) v)
  column_more b is =
      let last : eqb i w ≡ eqb (w - i) 0 = by (eqb i w) refl in
      let byte : b ≡ column_of v (10 ^ (w - i)) = is ∙ ap₂ (λ (x : ℕ) (y : Bool). cond (eqb x 0 && not y) 32 (48 + x % 10)) left last ∙ column_byte v (w - i) in
      let k : at + i ≡ suc (at + j) = omega arith in
      ap (λ x. set x (at + j) b) (are ∙ ap (λ n. sets l₀ n (column (w - i) v)) k)
      ∙ sets_before (column (w - i) v) l₀ (suc (at + j)) (at + j) b (omega arith)
      ∙ ap (λ x. sets l₀ (at + j) (x ∷ column (w - i) v)) byte
      ∙ ap (λ n. sets l₀ (at + j) (column n v)) (sym wider)
    where
      by : (k : Bool) → eqb i w ≡ k → k ≡ eqb (w - i) 0
      by true e = sym (eq-eqb (w - i) 0 (omega (arith, eqb-true i w e)))
      by false e = sym (ne_eqb (w - i) 0 (λ z. eqb-false i w e (omega arith)))

  pub tens_left : rest / 10 ≡ v / 10 ^ (w - j)
  tens_left = ap (λ x. x / 10) left ∙ div-div-eq-div-mul v (10 ^ (w - i)) 10 ∙ ap (λ n. v / n) (sym (pow-suc 10 (w - i)) ∙ ap (λ n. 10 ^ n) (sym wider))

-- Numbers, one after another: o is the line with all of them, and those from number i on are still to come

module _ (vs : List ℕ) (w : ℕ → ℕ) where
  module _ (i : ℕ) (h : i < length vs) where
    next : drop i vs ≡ get_or vs i 0 ∷ drop (i + 1) vs
    next = drop-cons vs i 0 h ∙ ap (λ n. get_or vs i 0 ∷ drop n vs) (sym (add-one i))

    abbrev rest : List ℕ
    rest = columns w (i + 1) (drop (i + 1) vs)

    these : columns w i (drop i vs) ≡ column (w i) (get_or vs i 0) ++ rest
    these = ap (columns w i) next ∙ ap (λ n. column (w i) (get_or vs i 0) ++ columns w n (drop (i + 1) vs)) (sym (add-one i))

    pub number-room : length (columns w i (drop i vs)) ≡ w i + length (columns w (i + 1) (drop (i + 1) vs))
    number-room = ap length these ∙ length-append (column (w i) (get_or vs i 0)) rest ∙ ap (λ n. n + length rest) (column-length (w i) (get_or vs i 0))

    pub number_more : (l o : List ℕ) (end : ℕ) → sets l end (columns w i (drop i vs)) ≡ o → sets (sets l end (column (w i) (get_or vs i 0))) (end + w i) (columns w (i + 1) (drop (i + 1) vs)) ≡ o
    number_more l o end e =
        let x : ℕ = get_or vs i 0 in
        ap (λ k. sets (sets l end (column (w i) x)) (end + k) rest) (sym (column-length (w i) x)) ∙ sym (sets-append (column (w i) x) rest l end) ∙ ap (sets l end) (sym these) ∙ e

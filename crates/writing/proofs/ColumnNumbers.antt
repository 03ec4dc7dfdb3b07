-- Numbers in columns: reading a field gives back the number that was written (`field-column`), and nothing else is read as it (`column-field`).
-- Assumes nothing.
use Prim.Native.Nat.{ℕ, zero, suc, ◌+◌, ◌*◌, ◌-◌, ◌/◌, ◌%◌, ◌^◌, ◌≤◌, ◌<◌}
use mathlib.Core.Bool.{Bool, true, false, cond}
use mathlib.Core.List.{List, [], ◌∷◌, ◌++◌, append_assoc, append-nil}
use mathlib.Core.Option.{some, none}
use mathlib.Core.Path.{◌≡◌, refl, sym, ◌∙◌, ap, ap₂}
use borrow.Author.Tests.{leb-true, eqb-true, eqb-false, ne_eqb, le-leb}
use native.Mathlib.Nat.{pow-suc}
use native.Mathlib.Omega.{arith}
use lib.Dec.{leb, eqb}
use lib.ListN.{length, replicate, replicate-append-replicate}
use Rattle.fields.specs.Format.{Glyph, glyph_of, on_digit, digits_from, on_field, field}
use Rattle.fields.specs.Format.Glyph.{Blank, Digit, Other}
use Rattle.fields.proofs.LineParts.{digit_low}
use Rattle.fields.proofs.Digits.{no_number_lem}
use Rattle.columns.specs.Columns.{column}
use Rattle.writing.proofs.ColumnDigits.{digits, by_tens, column_tens}

-- Bytes

-- a digit's byte
glyph_digit : (d : ℕ) → d ≤ 9 → glyph_of (48 + d) ≡ Digit d
unfolding glyph_of
glyph_digit d h =
    let a : eqb (48 + d) 32 ≡ false = ne_eqb (48 + d) 32 (λ e. omega arith) in
    let b : leb 48 (48 + d) ≡ true = le-leb 48 (48 + d) (omega arith) in
    let c : leb (48 + d) 57 ≡ true = le-leb (48 + d) 57 (omega arith) in
    let e : 48 + d - 48 ≡ d = omega arith in
    rw (a, b, c, e)

-- the byte of a digit
digit_byte : (b d : ℕ) → glyph_of b ≡ Digit d → (b ≡ 48 + d) × (d ≤ 9)
unfolding glyph_of
digit_byte b d e = (go (eqb b 32) (leb 48 b) (leb b 57) refl e, digit_low b d e)
  where
    go : (p q r : Bool) → leb 48 b ≡ q → cond p Blank (cond q (cond r (Digit (b - 48)) Other) Other) ≡ Digit d → b ≡ 48 + d
    go true q r g e = let z : ◌≡◌ {A = ℕ} 0 1 = cc in absurd (omega arith)
    go false false r g e = let z : ◌≡◌ {A = ℕ} 0 1 = cc in absurd (omega arith)
    go false true false g e = let z : ◌≡◌ {A = ℕ} 0 1 = cc in absurd (omega arith)
    go false true true g e = let z : b - 48 ≡ d = cc in omega (arith, leb-true 48 b g)

blank_byte : (b : ℕ) → glyph_of b ≡ Blank → b ≡ 32
unfolding glyph_of
blank_byte b e = go (eqb b 32) (leb 48 b) (leb b 57) refl e
  where
    go : (p q r : Bool) → eqb b 32 ≡ p → cond p Blank (cond q (cond r (Digit (b - 48)) Other) Other) ≡ Blank → b ≡ 32
    go true q r g e = eqb-true b 32 g
    go false false r g e = let z : ◌≡◌ {A = ℕ} 0 1 = cc in absurd (omega arith)
    go false true false g e = let z : ◌≡◌ {A = ℕ} 0 1 = cc in absurd (omega arith)
    go false true true g e = let z : ◌≡◌ {A = ℕ} 0 1 = cc in absurd (omega arith)

glyph_blank : glyph_of 32 ≡ Blank
unfolding glyph_of
glyph_blank = refl

-- Reading what is written

-- one more digit after digits that make a number above 0
digits_more : (bs : List ℕ) (v u d : ℕ) → d ≤ 9 → 0 < u → digits_from v bs ≡ some u → digits_from v (bs ++ ((48 + d) ∷ [])) ≡ some (u * 10 + d)
digits_more [] v u d h p e =
    let z : v ≡ u = cc in
    let n : eqb v 0 ≡ false = ne_eqb v 0 (λ x. omega arith) in
    rw (glyph_digit d h, n) (ap (λ x. some (x * 10 + d)) z)
digits_more (b ∷ bs) v u d h p e = go (glyph_of b) e (λ w. digits_more bs w u d h p)
  where
    go : (g : Glyph) → on_digit g v (λ w. digits_from w bs) ≡ some u
        → ((w : ℕ) → digits_from w bs ≡ some u → digits_from w (bs ++ ((48 + d) ∷ [])) ≡ some (u * 10 + d))
        → on_digit g v (λ w. digits_from w (bs ++ ((48 + d) ∷ []))) ≡ some (u * 10 + d)
    go Blank e rec = no_number_lem e
    go Other e rec = no_number_lem e
    go (Digit c) e rec = by (eqb v 0) e
      where
        by : (k : Bool) → cond k none (digits_from (v * 10 + c) bs) ≡ some u → cond k none (digits_from (v * 10 + c) (bs ++ ((48 + d) ∷ []))) ≡ some (u * 10 + d)
        by true e = no_number_lem e
        by false e = rec (v * 10 + c) e

field_more : (bs : List ℕ) (u d : ℕ) → d ≤ 9 → 0 < u → field bs ≡ some u → field (bs ++ ((48 + d) ∷ [])) ≡ some (u * 10 + d)
field_more [] u d h p e = no_number_lem e
field_more (b ∷ bs) u d h p e = go (glyph_of b) e (field_more bs u d h p)
  where
    go : (g : Glyph) → on_field g (field bs) (λ c. digits_from c bs) ≡ some u → (field bs ≡ some u → field (bs ++ ((48 + d) ∷ [])) ≡ some (u * 10 + d))
        → on_field g (field (bs ++ ((48 + d) ∷ []))) (λ c. digits_from c (bs ++ ((48 + d) ∷ []))) ≡ some (u * 10 + d)
    go Blank e rec = rec e
    go Other e rec = no_number_lem e
    go (Digit c) e rec = digits_more bs c u d h p e

-- a single digit after spaces
field_single : (w d : ℕ) → d ≤ 9 → field (replicate w 32 ++ ((48 + d) ∷ [])) ≡ some d
field_single zero d h = rw (glyph_digit d h)
field_single (suc w) d h = rw glyph_blank (field_single w d h)

digits-none : (w : ℕ) → digits w 0 ≡ replicate w 32
digits-none zero = refl
digits-none (suc w) = refl

low_tens : (w v : ℕ) → v < 10 ^ suc w → v / 10 < 10 ^ w
low_tens w v h = let e = pow-suc 10 w in omega arith

-- the last digit, after the digits of the tens
field_last : (w v : ℕ) → (0 < v / 10 → field (digits w (v / 10)) ≡ some (v / 10)) → field (digits w (v / 10) ++ ((48 + v % 10) ∷ [])) ≡ some v
field_last w v rec = by (eqb (v / 10) 0) refl
  where
    by : (k : Bool) → eqb (v / 10) 0 ≡ k → field (digits w (v / 10) ++ ((48 + v % 10) ∷ [])) ≡ some v
    by true z =
        let e : v / 10 ≡ 0 = eqb-true _ _ z in
        rw (e, digits-none w) (field_single w (v % 10) (omega arith) ∙ ap some (omega arith))
    by false z =
        let p : 0 < v / 10 = omega (arith, eqb-false (v / 10) 0 z) in
        field_more (digits w (v / 10)) (v / 10) (v % 10) (omega arith) p (rec p) ∙ ap some (omega arith)

field-digits : (w v : ℕ) → 0 < v → v < 10 ^ w → field (digits w v) ≡ some v
field-digits zero v p h = absurd (omega arith)
field-digits (suc w) v p h =
    let n : eqb v 0 ≡ false = ne_eqb v 0 (λ e. omega arith) in
    rw n (field_last w v (λ q. field-digits w (v / 10) q (low_tens w v h)))

-- a number that fits its columns is read back
pub field-column : (w v : ℕ) → v < 10 ^ suc w → field (column (suc w) v) ≡ some v
field-column w v h = ap field (column_tens (suc w) v) ∙ field_last w v (λ q. field-digits w (v / 10) q (low_tens w v h))

-- Writing what is read

-- one more digit
digit_more : (l : List ℕ) (n v b d : ℕ) → 0 < v → l ≡ digits n v → (b ≡ 48 + d) × (d ≤ 9) → l ++ (b ∷ []) ≡ digits (suc n) (v * 10 + d)
digit_more l n v b d p e h =
    let z : eqb (v * 10 + d) 0 ≡ false = ne_eqb (v * 10 + d) 0 (λ x. omega arith) in
    let q : (v * 10 + d) / 10 ≡ v = omega (arith, h.1) in
    let r : 48 + (v * 10 + d) % 10 ≡ b = omega (arith, h.0, h.1) in
    rw (z, q, r, e)

-- further digits, after columns with a number above 0
more_digits : (bs l : List ℕ) (n v u : ℕ) → 0 < v → l ≡ digits n v → digits_from v bs ≡ some u → (l ++ bs ≡ digits (n + length bs) u) × (0 < u)
more_digits [] l n v u p e f =
    let z : v ≡ u = cc in
    let m : n ≡ n + 0 = omega arith in
    (append-nil l ∙ e ∙ ap₂ digits m z, omega arith)
more_digits (b ∷ bs) l n v u p e f = go (glyph_of b) refl f (λ k w q x. more_digits bs k (suc n) w u q x)
  where
    go : (g : Glyph) → glyph_of b ≡ g → on_digit g v (λ w. digits_from w bs) ≡ some u
        → ((k : List ℕ) (w : ℕ) → 0 < w → k ≡ digits (suc n) w → digits_from w bs ≡ some u → (k ++ bs ≡ digits (suc n + length bs) u) × (0 < u))
        → (l ++ (b ∷ bs) ≡ digits (n + suc (length bs)) u) × (0 < u)
    go Blank x f rec = no_number_lem f
    go Other x f rec = no_number_lem f
    go (Digit d) x f rec = by (eqb v 0) f
      where
        by : (k : Bool) → cond k none (digits_from (v * 10 + d) bs) ≡ some u → (l ++ (b ∷ bs) ≡ digits (n + suc (length bs)) u) × (0 < u)
        by true f = no_number_lem f
        by false f =
            let h = rec (l ++ (b ∷ [])) (v * 10 + d) (omega arith) (digit_more l n v b d p e (digit_byte b d x)) f in
            let m : suc n + length bs ≡ n + suc (length bs) = omega arith in
            (sym (append_assoc l (b ∷ []) bs) ∙ h.0 ∙ ap (λ k. digits k u) m, h.1)

digits_tens : (w v : ℕ) → 0 < v → digits (suc w) v ≡ by_tens (suc w) v
digits_tens w v p = let n : eqb v 0 ≡ false = ne_eqb v 0 (λ e. omega arith) in rw n

-- a zero is not followed by a digit
after-zero : (bs : List ℕ) (u : ℕ) → digits_from 0 bs ≡ some u → (bs ≡ []) × (u ≡ 0)
after-zero [] u f = let z : 0 ≡ u = cc in (refl, sym z)
after-zero (b ∷ bs) u f = go (glyph_of b) f
  where
    go : (g : Glyph) → on_digit g 0 (λ w. digits_from w bs) ≡ some u → ◌≡◌ {A = List ℕ} (b ∷ bs) [] × (u ≡ 0)
    go Blank f = no_number_lem f
    go Other f = no_number_lem f
    go (Digit d) f = no_number_lem f

-- a field after k spaces
spaces_field : (bs : List ℕ) (k u : ℕ) → field bs ≡ some u → replicate k 32 ++ bs ≡ by_tens (k + length bs) u
spaces_field [] k u f = no_number_lem f
spaces_field (b ∷ bs) k u f = go (glyph_of b) refl f (spaces_field bs (suc k) u)
  where
    m : suc k + length bs ≡ k + suc (length bs)
    m = omega arith

    go : (g : Glyph) → glyph_of b ≡ g → on_field g (field bs) (λ d. digits_from d bs) ≡ some u
        → (field bs ≡ some u → replicate (suc k) 32 ++ bs ≡ by_tens (suc k + length bs) u) → replicate k 32 ++ (b ∷ bs) ≡ by_tens (k + suc (length bs)) u
    go Blank x f rec =
        let i : k + 1 ≡ suc k = omega arith in
        ap (λ c. replicate k 32 ++ (c ∷ bs)) (blank_byte b x)
        ∙ sym (append_assoc (replicate k 32) (32 ∷ []) bs)
        ∙ ap (λ l. l ++ bs) (replicate-append-replicate k 1 32 ∙ ap (λ n. replicate n 32) i)
        ∙ rec f ∙ ap (λ n. by_tens n u) m
    go Other x f rec = no_number_lem f
    go (Digit d) x f rec = by (eqb d 0) refl
      where
        h : (b ≡ 48 + d) × (d ≤ 9)
        h = digit_byte b d x

        by : (c : Bool) → eqb d 0 ≡ c → replicate k 32 ++ (b ∷ bs) ≡ by_tens (k + suc (length bs)) u
        by true z =
            let y : d ≡ 0 = eqb-true d 0 z in
            let a = after-zero bs u (rw y at f) in
            let c : b ≡ 48 = omega (arith, h.0) in
            let i : k + suc zero ≡ suc k = omega arith in
            rw (a.0, a.1, c, i, digits-none k)
        by false z =
            let p : 0 < d = omega (arith, eqb-false d 0 z) in
            let t : d / 10 ≡ 0 = omega (arith, h.1) in
            let r : 48 + d % 10 ≡ b = omega (arith, h.0, h.1) in
            let s : replicate k 32 ++ (b ∷ []) ≡ digits (suc k) d = rw (ne_eqb d 0 (λ e. omega arith), t, r, digits-none k) in
            let g = more_digits bs (replicate k 32 ++ (b ∷ [])) (suc k) d u p s f in
            let i : suc k + length bs ≡ suc (k + length bs) = omega arith in
            let j : suc (k + length bs) ≡ k + suc (length bs) = omega arith in
            sym (append_assoc (replicate k 32) (b ∷ []) bs) ∙ g.0 ∙ ap (λ n. digits n u) i ∙ digits_tens (k + length bs) u g.1 ∙ ap (λ n. by_tens n u) j

-- what is read as a number is this number, written
pub column-field : (l : List ℕ) (v : ℕ) → field l ≡ some v → l ≡ column (length l) v
column-field l v f = let i : 0 + length l ≡ length l = omega arith in spaces_field l 0 v f ∙ ap (λ n. by_tens n v) i ∙ sym (column_tens (length l) v)

-- The numbers of a line fit in their columns, and each has six at least. Assumes nothing.
use Prim.Native.Nat.{ℕ, zero, suc, ◌+◌, ◌*◌, ◌^◌, ◌≤◌, ◌<◌}
use mathlib.Core.Bool.{Bool, true, false, cond}
use mathlib.Core.List.{List, [], ◌∷◌, ◌++◌}
use mathlib.Core.Option.{Option, some, none}
use mathlib.Core.Path.{◌≡◌, refl, sym, ◌∙◌, ap, subst}
use native.Mathlib.Nat.{pow-succ', mul_assoc}
use native.Mathlib.Omega.{arith}
use borrow.Author.Tests.{leb-true}
use lib.Dec.{leb, eqb}
use lib.ListN.{length, get_or, take, drop, length-append, length-drop}
use Rattle.columns.specs.declared.Sheet.{Sheet}
use Rattle.columns.proofs.Columns.{width_is}
use Rattle.fields.specs.Format.{Glyph, glyph_of, on_digit, digits_from, on_field, field, field_in, next_width, on_number, fields_after, fields}
use Rattle.fields.specs.Format.Glyph.{Blank, Digit, Other}
use Rattle.fields.proofs.LineParts.{digit_low}

pub no_number_lem : {A : Type 0} {B : Type 0} {w : B} → none ≡ some w → A
no_number_lem e = let z : ◌≡◌ {A = ℕ} 0 1 = cc in absurd (omega arith)

tens : (m n : ℕ) → m * 10 * 10 ^ n ≡ m * 10 ^ suc n
tens m n = mul_assoc m 10 (10 ^ n) ∙ ap (λ x. m * x) (sym (pow-succ' 10 n))

-- further digits after a number below m
digits_low : (bs : List ℕ) (v w m : ℕ) → v < m → digits_from v bs ≡ some w → w < m * 10 ^ length bs
digits_low [] v w m h e = let z : v ≡ w = cc in omega arith
digits_low (b ∷ bs) v w m h e = go (glyph_of b) refl e (λ u w k. digits_low bs u w (m * 10) k)
  where
    go : (g : Glyph) → glyph_of b ≡ g → on_digit g v (λ u. digits_from u bs) ≡ some w
        → ((u w : ℕ) → u < m * 10 → digits_from u bs ≡ some w → w < m * 10 * 10 ^ length bs) → w < m * 10 ^ suc (length bs)
    go Blank k e rec = no_number_lem e
    go Other k e rec = no_number_lem e
    go (Digit d) k e rec = by (eqb v 0) e
      where
        by : (x : Bool) → cond x none (digits_from (v * 10 + d) bs) ≡ some w → w < m * 10 ^ suc (length bs)
        by true e = no_number_lem e
        by false e = subst (λ n. w < n) (tens m (length bs)) (rec (v * 10 + d) w (omega (arith, digit_low b d k)) e)

-- the number in the columns of a field
pub field-low : (bs : List ℕ) (w : ℕ) → field bs ≡ some w → w < 10 ^ length bs
field-low [] w e = no_number_lem e
field-low (b ∷ bs) w e = go (glyph_of b) refl e (field-low bs w)
  where
    more : 10 * 10 ^ length bs ≡ 10 ^ suc (length bs)
    more = sym (pow-succ' 10 (length bs))

    go : (g : Glyph) → glyph_of b ≡ g → on_field g (field bs) (λ d. digits_from d bs) ≡ some w → (field bs ≡ some w → w < 10 ^ length bs) → w < 10 ^ suc (length bs)
    go Blank k e rec = omega (arith, rec e, more)
    go Other k e rec = no_number_lem e
    go (Digit d) k e rec = subst (λ n. w < n) more (digits_low bs d w 10 (omega (arith, digit_low b d k)) e)

-- Lines

pub field_in_lem : (w : ℕ) (l : List ℕ) (v : ℕ) → field_in w l ≡ some v → (w ≤ length l) × (field (take w l) ≡ some v)
field_in_lem w l v e = by (leb w (length l)) refl e
  where
    by : (k : Bool) → leb w (length l) ≡ k → cond k (field (take w l)) none ≡ some v → (w ≤ length l) × (field (take w l) ≡ some v)
    by true z e = (leb-true w (length l) z, e)
    by false z e = no_number_lem e

pub number_read : (o : Option ℕ) (more : ℕ → Option (List ℕ)) (vs : List ℕ) → on_number o more ≡ some vs → (v : ℕ) × (o ≡ some v) × (more v ≡ some vs)
number_read none more vs e = no_number_lem e
number_read (some v) more vs e = (v, refl, e)

module _ (s : Sheet) where
  -- the next field of a line that is read, and the rest
  pub next-read : (n : ℕ) (fs : List ℕ) (b : ℕ) (l vs : List ℕ) → fields_after s fs (suc n) (b ∷ l) ≡ some vs → let w : ℕ = next_width s fs in
      (v : ℕ) × (w ≤ length (b ∷ l)) × (field (take w (b ∷ l)) ≡ some v) × (fields_after s (fs ++ (v ∷ [])) n (drop w (b ∷ l)) ≡ some vs)
  next-read n fs b l vs e =
      let w : ℕ = next_width s fs in
      let (v, o, rest) = number_read (field_in w (b ∷ l)) (λ v. fields_after s (fs ++ (v ∷ [])) n (drop w (b ∷ l))) vs e in
      let (h, f) = field_in_lem w (b ∷ l) v o in
      (v, h, f, rest)

  after-least : (n : ℕ) (fs l vs : List ℕ) → fields_after s fs n l ≡ some vs → 6 * length vs ≤ 6 * length fs + length l
  after-least zero fs [] vs e = let z : fs ≡ vs = cc in omega (arith, ap length z)
  after-least zero fs (b ∷ l) vs e = no_number_lem e
  after-least (suc n) fs [] vs e = let z : fs ≡ vs = cc in omega (arith, ap length z)
  after-least (suc n) fs (b ∷ l) vs e =
      let w : ℕ = next_width s fs in
      let (v, h, f, rest) = next-read n fs b l vs e in
      omega (arith, h, after-least n (fs ++ (v ∷ [])) (drop w (b ∷ l)) vs rest, length-append fs (v ∷ []), length-drop w (b ∷ l), width_is s (get_or fs 0 0) (length fs))

  -- a line has six bytes at least for each field
  pub fields-least : (n : ℕ) (l vs : List ℕ) → fields s n l ≡ some vs → 6 * length vs ≤ length l
  fields-least n l vs e = omega (arith, after-least n [] l vs e)

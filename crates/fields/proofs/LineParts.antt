-- The bytes of a file from one place up to another, where lines end among them, and what a byte is.
-- Assumes nothing.
use Rattle.std.proofs.Common.{◌≡◌, ◌≢◌, ◌==◌, ℕ, suc, ◌+◌, ◌-◌, ◌≤◌, ◌<◌, Bool, true, false, cond, not, List, [], ◌∷◌, length, take, drop, Some, None, refl, sym, ◌∙◌, ap, ap₂, add-one, arith}
use Rattle.std.proofs.lemmas.List.{take_all}
use Rattle.std.specs.List.{position, position_or_len}
use Rattle.std.specs.Char.{IsAsciiDigit, IsNotAsciiDigit}
use Rattle.std.proofs.Math.Option.{Option, none}
use mathlib.Core.Logic.{inl, inr}
use borrow.Author.Tests.{ne_eqb, le-leb, lt-leb, leb-true, ltb-true, ltb-false}
use lib.Dec.{leb, eqb, ltb}
use Rattle.fields.specs.Format.{glyph_of, on_digit, onto, pieces}
use Rattle.fields.specs.Format.Glyph.{Blank, Digit, Other}

-- Where lines end

pub piece_front : (bs : List ℕ) → (pieces bs).0 ≡ take (length (pieces bs).0) bs
piece_front [] = refl
piece_front (b ∷ bs) = by (eqb b 10) (piece_front bs)
  where
    by : (k : Bool) → (pieces bs).0 ≡ take (length (pieces bs).0) bs → (onto k b (pieces bs)).0 ≡ take (length (onto k b (pieces bs)).0) (b ∷ bs)
    by true e = refl
    by false e = ap (λ l. b ∷ l) e

pub piece_last : (bs : List ℕ) → length bs ≤ length (pieces bs).0 → (pieces bs).1 ≡ []
piece_last [] h = refl
piece_last (b ∷ bs) h = by (eqb b 10) h (piece_last bs)
  where
    by : (k : Bool) → suc (length bs) ≤ length (onto k b (pieces bs)).0 → (length bs ≤ length (pieces bs).0 → (pieces bs).1 ≡ []) → (onto k b (pieces bs)).1 ≡ []
    by true h rec = absurd (omega arith)
    by false h rec = rec (omega arith)

-- the lines after the first
abbrev Next : List ℕ → List (List ℕ) → ℕ → Type 0
Next bs ls n = ls ≡ (pieces (drop (suc n) bs)).0 ∷ (pieces (drop (suc n) bs)).1

pub piece_next : (bs : List ℕ) → length (pieces bs).0 < length bs → Next bs (pieces bs).1 (length (pieces bs).0)
piece_next [] h = absurd (omega arith)
piece_next (b ∷ bs) h = by (eqb b 10) h (piece_next bs)
  where
    by : (k : Bool) → length (onto k b (pieces bs)).0 < suc (length bs) → (length (pieces bs).0 < length bs → Next bs (pieces bs).1 (length (pieces bs).0))
        → Next (b ∷ bs) (onto k b (pieces bs)).1 (length (onto k b (pieces bs)).0)
    by true h rec = refl
    by false h rec = rec (omega arith)

-- how long a line is: up to its byte 10, or to the end
length-line : (s : List ℕ) → length (pieces s).0 ≡ position_or_len (λ b. b == 10) s
length-line [] = refl
length-line (b ∷ s) = by (b == 10) (length-line s)
  where
    by : (k : Bool) → length (pieces s).0 ≡ position_or_len (λ b. b == 10) s → length (onto k b (pieces s)).0 ≡ cond (not k) (1 + position_or_len (λ b. b == 10) s) 0
    by true e = refl
    by false e = omega arith

module _ (p : ℕ → Bool) (s : List ℕ) where
  -- the first byte that passes a test, and the bytes before it; or no byte passes
  pub found : (n : ℕ) → position p s ≡ Some n → (n < length s) × (position_or_len p s ≡ n)
  found n e = by (ltb (position_or_len p s) (length s)) refl e
    where
      by : (k : Bool) → ltb (position_or_len p s) (length s) ≡ k → cond k (Some (position_or_len p s)) None ≡ Some n → (n < length s) × (position_or_len p s ≡ n)
      by true z e = let same : position_or_len p s ≡ n = cc in (omega (arith, ltb-true _ _ z), same)
      by false z e = absurd cc

  pub found_none : position p s ≡ None → length s ≤ position_or_len p s
  found_none e = by (ltb (position_or_len p s) (length s)) refl e
    where
      by : (k : Bool) → ltb (position_or_len p s) (length s) ≡ k → cond k (Some (position_or_len p s)) None ≡ None → length s ≤ position_or_len p s
      by true z e = absurd cc
      by false z e = ltb-false _ _ z

pub line_alone : (s : List ℕ) → position (λ b. b == 10) s ≡ None → pieces s ≡ (s, [])
line_alone s e =
    let long : length s ≤ length (pieces s).0 = omega (arith, length-line s, found_none (λ b. b == 10) s e) in
    ap₂ (λ l ls. (l, ls)) (piece_front s ∙ take_all (length (pieces s).0) s long) (piece_last s long)

module _ (s : List ℕ) (n : ℕ) (e : position (λ b. b == 10) s ≡ Some n) where
  pub line_first : pieces s ≡ (take n s, (pieces (drop (n + 1) s)).0 ∷ (pieces (drop (n + 1) s)).1)
  line_first =
      let (h, at) = found (λ b. b == 10) s n e in
      let size : length (pieces s).0 ≡ n = length-line s ∙ at in
      ap₂ (λ l ls. (l, ls)) (piece_front s ∙ ap (λ m. take m s) size)
      (piece_next s (omega arith) ∙ ap (λ m. (pieces (drop m s)).0 ∷ (pieces (drop m s)).1) (ap suc size ∙ sym (add-one n)))

  pub line_within : n < length s
  line_within = (found (λ b. b == 10) s n e).0

-- What a byte is

pub glyph_other : (b : ℕ) → IsNotAsciiDigit b → b ≢ 32 → glyph_of b ≡ Other
unfolding glyph_of
glyph_other b (inl h) e = simp (ne_eqb b 32 e, lt-leb 48 b h)
glyph_other b (inr h) e = let k : 48 ≤ b = omega arith in simp (ne_eqb b 32 e, le-leb 48 b k, lt-leb b 57 h)

pub glyph_digit : (b : ℕ) → IsAsciiDigit b → glyph_of b ≡ Digit (b - 48)
unfolding glyph_of
glyph_digit b (h, k) = let n : b ≢ 32 = λ e. omega arith in simp (ne_eqb b 32 n, le-leb 48 b h, le-leb b 57 k)

-- no digit
pub stop : (b v : ℕ) (more : ℕ → Option ℕ) → IsNotAsciiDigit b → on_digit (glyph_of b) v more ≡ none
unfolding glyph_of
stop b v more (inl h) = simp (lt-leb 48 b h) (by (eqb b 32))
  where
    by : (k : Bool) → on_digit (cond k Blank Other) v more ≡ none
    by true = refl
    by false = refl
stop b v more (inr h) = let n : b ≢ 32 = λ e. omega arith in rw (glyph_other b (inr h) n)

low : (p q r : Bool) (b d : ℕ) → leb b 57 ≡ r → cond p Blank (cond q (cond r (Digit (b - 48)) Other) Other) ≡ Digit d → d ≤ 9
low true q r b d h e = let z : ◌≡◌ {A = ℕ} 0 1 = cc in omega arith
low false false r b d h e = let z : ◌≡◌ {A = ℕ} 0 1 = cc in omega arith
low false true false b d h e = let z : ◌≡◌ {A = ℕ} 0 1 = cc in omega arith
low false true true b d h e = let z : b - 48 ≡ d = cc in omega (arith, leb-true b 57 h)

pub digit_low : (b d : ℕ) → glyph_of b ≡ Digit d → d ≤ 9
unfolding glyph_of
digit_low b d e = low (eqb b 32) (leb 48 b) (leb b 57) b d refl e

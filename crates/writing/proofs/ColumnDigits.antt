-- A number in columns, by powers of ten, is its last digit after the columns of the tens (`column_tens`): the form by which numbers are read and written.
-- Assumes nothing.
use Prim.Native.Nat.{ℕ, zero, suc, ◌+◌, ◌*◌, ◌/◌, ◌%◌, ◌^◌, ◌≤◌, ◌<◌}
use mathlib.Core.Bool.{Bool, true, false, cond, ◌&&◌, and-true, and-false}
use mathlib.Core.List.{List, [], ◌∷◌, ◌++◌}
use mathlib.Core.Path.{◌≡◌, refl, sym, ◌∙◌, ap, ap₂}
use borrow.Author.Tests.{lt-ltb, le-ltb, ltb-true, ltb-false, eqb-true, eqb-false}
use native.Mathlib.Nat.{pow-suc, pow-succ', div-div-eq-div-mul, div-one}
use native.Mathlib.Omega.{arith}
use lib.Dec.{ltb, eqb}
use lib.ListN.{replicate}
use Rattle.columns.specs.Columns.{column_of, column}

-- the digits of v in the last of w columns and spaces before them; 0 has no digit
abbrev pub digits : ℕ → ℕ → List ℕ
digits zero v = []
digits (suc w) v = cond (eqb v 0) (replicate (suc w) 32) (digits w (v / 10) ++ ((48 + v % 10) ∷ []))

-- the last digit of v, and before it those of the tens
abbrev pub by_tens : ℕ → ℕ → List ℕ
by_tens zero v = []
by_tens (suc w) v = digits w (v / 10) ++ ((48 + v % 10) ∷ [])

-- the column of a digit, or a space where the number is smaller
abbrev spot : ℕ → ℕ → ℕ
spot u p = cond (ltb u p) 32 (48 + u / p % 10)

abbrev spots : ℕ → ℕ → List ℕ
spots zero u = []
spots (suc w) u = spot u (10 ^ w) ∷ spots w u

tens_less : (u p : ℕ) → ltb u (p * 10) ≡ ltb (u / 10) p
tens_less u p = by (ltb (u / 10) p) refl
  where
    by : (k : Bool) → ltb (u / 10) p ≡ k → ltb u (p * 10) ≡ k
    by true e = lt-ltb u (p * 10) (omega (arith, ltb-true (u / 10) p e))
    by false e = le-ltb u (p * 10) (omega (arith, ltb-false (u / 10) p e))

tens_of : (w u : ℕ) → u / 10 ^ suc w ≡ u / 10 / 10 ^ w
tens_of w u = ap (λ x. u / x) (pow-succ' 10 w) ∙ sym (div-div-eq-div-mul u 10 (10 ^ w))

spot_tens : (w u : ℕ) → spot u (10 ^ suc w) ≡ spot (u / 10) (10 ^ w)
spot_tens w u =
    ap₂ (λ (k : Bool) (v : ℕ). cond k 32 (48 + v % 10)) (ap (ltb u) (pow-suc 10 w) ∙ tens_less u (10 ^ w)) (tens_of w u)

spots_last : (w u : ℕ) → spots (suc w) u ≡ spots w (u / 10) ++ (spot u 1 ∷ [])
spots_last zero u = refl
spots_last (suc w) u = ap₂ (λ (x : ℕ) (l : List ℕ). x ∷ l) (spot_tens w u) (spots_last w u)

power_some : (w : ℕ) → 1 ≤ 10 ^ w
power_some zero = omega arith
power_some (suc w) = let e = pow-suc 10 w in omega (arith, power_some w)

spots_zero : (w : ℕ) → spots w 0 ≡ replicate w 32
spots_zero zero = refl
spots_zero (suc w) = ap₂ (λ (k : Bool) (l : List ℕ). cond k 32 (48 + 0 / 10 ^ w % 10) ∷ l) (lt-ltb 0 (10 ^ w) (power_some w)) (spots_zero w)

spot_one : (u : ℕ) → 1 ≤ u → spot u 1 ≡ 48 + u % 10
spot_one u h = ap₂ (λ (k : Bool) (v : ℕ). cond k 32 (48 + v % 10)) (le-ltb u 1 h) (div-one u)

spots_digits : (w u : ℕ) → spots w u ≡ digits w u
spots_digits zero u = refl
spots_digits (suc w) u = by (eqb u 0) refl (spots_digits w (u / 10))
  where
    by : (k : Bool) → eqb u 0 ≡ k → spots w (u / 10) ≡ digits w (u / 10) → spots (suc w) u ≡ cond k (replicate (suc w) 32) (digits w (u / 10) ++ ((48 + u % 10) ∷ []))
    by true e rec = ap (spots (suc w)) (eqb-true u 0 e) ∙ spots_zero (suc w)
    by false e rec = spots_last w u ∙ ap₂ (λ (l : List ℕ) (x : ℕ). l ++ (x ∷ [])) rec (spot_one u (omega (arith, eqb-false u 0 e)))

column-first : (w v : ℕ) → column_of v (10 ^ suc w) ≡ spot (v / 10) (10 ^ w)
unfolding column_of
column-first w v =
    let h : 1 < 10 ^ suc w = let e = pow-suc 10 w in omega (arith, power_some w) in
    ap (λ (k : Bool). cond (ltb v (10 ^ suc w) && k) 32 (48 + v / 10 ^ suc w % 10)) (lt-ltb 1 (10 ^ suc w) h)
    ∙ ap (λ (k : Bool). cond k 32 (48 + v / 10 ^ suc w % 10)) (and-true (ltb v (10 ^ suc w)))
    ∙ spot_tens w v

column-one : (v : ℕ) → column_of v 1 ≡ 48 + v % 10
unfolding column_of
column-one v = ap₂ (λ (k : Bool) (u : ℕ). cond k 32 (48 + u % 10)) (and-false (ltb v 1)) (div-one v)

powers_last : (w v : ℕ) → column (suc w) v ≡ spots w (v / 10) ++ ((48 + v % 10) ∷ [])
powers_last zero v = ap (λ (x : ℕ). x ∷ []) (column-one v)
powers_last (suc w) v = ap₂ (λ (x : ℕ) (l : List ℕ). x ∷ l) (column-first w v) (powers_last w v)

pub column_tens : (w v : ℕ) → column w v ≡ by_tens w v
column_tens zero v = refl
column_tens (suc w) v = powers_last w v ∙ ap (λ (l : List ℕ). l ++ ((48 + v % 10) ∷ [])) (spots_digits w (v / 10))

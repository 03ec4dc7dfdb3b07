-- Numbers of one or two digits.
-- Assumes nothing.
use Prim.Native.Nat.{ℕ, ◌+◌, ◌*◌, ◌-◌, ◌≤◌, ◌<◌, ◌/◌, ◌%◌}
use mathlib.Core.Bool.{Bool, true, false, cond, ◌&&◌}
use mathlib.Core.List.{List, [], ◌∷◌, ◌++◌}
use mathlib.Core.Logic.{by_cases}
use mathlib.Core.Path.{◌≡◌, refl, sym, ap}
use native.Mathlib.Decide.{dec_lt}
use native.Mathlib.Omega.{arith}
use lib.Dec.{T, leb, leb→le, le→leb}
use lib.Ieee.Fits.{and_i, and_l, and_r}
use lib.ListN.{length}
use borrow.Author.Tests.{lt-ltb, le-ltb}
use Rattle.graphs.proofs.Lists.{T_true}
use Rattle.automata.specs.WellFormed.{inside}
use Rattle.grammar.specs.Grammar.{digits}
use Rattle.grammar.specs.Parser.{second, number, digit}
use Rattle.grammar.specs.Parser.Read.{got, stop}
use Rattle.grammar.proofs.ParserLaws.{Grammar, Outcome, Reads}

-- a number of one digit is not followed by a digit
abbrev pub Before : ℕ → List ℕ → Type 0
Before n [] = Unit {0}
Before n (c ∷ t) = n < 10 → digit c ≡ false

abbrev pub Number : Grammar ℕ
Number = record { bytes = digits; legal = λ n. T (inside 99 n); before = Before }

-- from a to b
between-true : (a b x : ℕ) → a ≤ x → x ≤ b → leb a x && leb x b ≡ true
between-true a b x h k = T_true (leb a x && leb x b) (and_i (leb a x) (leb x b) (le→leb a x h) (le→leb x b k))

between_is : (a b x : ℕ) → leb a x && leb x b ≡ true → (a ≤ x) × (x ≤ b)
between_is a b x e =
    let t : T (leb a x && leb x b) = rw e tt in
    (leb→le a x (and_l (leb a x) (leb x b) t), leb→le x b (and_r (leb a x) (leb x b) t))

inside_is : (n : ℕ) → T (inside 99 n) → (1 ≤ n) × (n ≤ 99)
inside_is n t = (leb→le 1 n (and_l (leb 1 n) (leb n 99) t), leb→le n 99 (and_r (leb 1 n) (leb n 99) t))

is-inside : (n : ℕ) → 1 ≤ n → n ≤ 99 → T (inside 99 n)
is-inside n h k = and_i (leb 1 n) (leb n 99) (le→leb 1 n h) (le→leb n 99 k)

digits-one : (n : ℕ) → n < 10 → digits n ≡ (48 + n) ∷ []
unfolding digits
digits-one n h = rw (lt-ltb n 10 h) refl

digits_two : (n : ℕ) → 10 ≤ n → digits n ≡ (48 + n / 10) ∷ (48 + n % 10) ∷ []
unfolding digits
digits_two n h = rw (le-ltb n 10 h) refl

tens : (d e : ℕ) → e < 10 → (10 * d + e) / 10 ≡ d
tens d e h = omega arith

units : (d e : ℕ) → e < 10 → (10 * d + e) % 10 ≡ e
units d e h = omega arith

pub number_ahead : (v : ℕ) (d : List ℕ) (b : ℕ) (x y : List ℕ) → Before v (d ++ (b ∷ x)) → Before v (d ++ (b ∷ y))
number_ahead v [] b x y h = h
number_ahead v (c ∷ d) b x y h = h

module _ (n : ℕ) where
  -- after the first digit b
  second_outcome : (b : ℕ) → 49 ≤ b → b ≤ 57 → (s : List ℕ) → Outcome Number n number (b ∷ s) (second (b - 48) s)
  second_outcome b h k [] = (
    is-inside (b - 48) (omega arith) (omega arith),
    (let e : b ≡ 48 + (b - 48) = omega arith in rw (digits-one (b - 48) (omega arith)) (ap (λ x. x ∷ []) e)),
    tt,
  )
  second_outcome b h k (c ∷ s) = step (digit c) refl
    where
      step : (o : Bool) → digit c ≡ o → Outcome Number n number (b ∷ c ∷ s) (cond o (got (10 * (b - 48) + (c - 48)) s) (got (b - 48) (c ∷ s)))
      step true e =
          let (lc, hc) = between_is 48 57 c e in
          let v : ℕ = 10 * (b - 48) + (c - 48) in
          let i : b ≡ 48 + (10 * (b - 48) + (c - 48)) / 10 = omega (arith, tens (b - 48) (c - 48) (omega arith)) in
          let j : c ≡ 48 + (10 * (b - 48) + (c - 48)) % 10 = omega (arith, units (b - 48) (c - 48) (omega arith)) in (
            is-inside (10 * (b - 48) + (c - 48)) (omega arith) (omega arith),
            rw (digits_two (10 * (b - 48) + (c - 48)) (omega arith)) (cc),
            late s,
          )
        where
          late : (t : List ℕ) → Before (10 * (b - 48) + (c - 48)) t
          late [] = tt
          late (x ∷ t) = λ l. absurd (omega arith)
      step false e = (
        is-inside (b - 48) (omega arith) (omega arith),
        (let i : b ≡ 48 + (b - 48) = omega arith in rw (digits-one (b - 48) (omega arith)) (ap (λ x. x ∷ c ∷ s) i)),
        λ l. e,
      )

  number_outcome : (s : List ℕ) → length s ≤ n → Outcome Number n number s (number s)
  unfolding number
  number_outcome [] l = ([], refl, (1, digits 1, tt, refl), λ x u y ex ly. let z : ◌≡◌ {A = ℕ} 0 1 = cc in absurd (omega arith))
  number_outcome (b ∷ s) l = step (leb 49 b && leb b 57) refl
    where
      step : (o : Bool) → leb 49 b && leb b 57 ≡ o → Outcome Number n number (b ∷ s) (cond o (second (b - 48) s) (stop (b ∷ s)))
      step true e = let (h, k) = between_is 49 57 b e in second_outcome b h k s
      step false e = ([], refl, (1, digits 1, tt, refl), λ x u y ex ly. let i : b ≡ x = cc in rw (sym i) (rw e refl))

  one-complete : (v : ℕ) (t : List ℕ) → 1 ≤ v → v < 10 → Before v t → number ((48 + v) ∷ t) ≡ got v t
  unfolding number
  one-complete v [] h k b = let e : 48 + v - 48 ≡ v = omega arith in rw (between-true 49 57 (48 + v) (omega arith) (omega arith)) (rw e refl)
  one-complete v (c ∷ t) h k b = let e : 48 + v - 48 ≡ v = omega arith in rw (between-true 49 57 (48 + v) (omega arith) (omega arith)) (rw (b k) (rw e refl))

  two_complete : (v : ℕ) (t : List ℕ) → 10 ≤ v → v ≤ 99 → number ((48 + v / 10) ∷ (48 + v % 10) ∷ t) ≡ got v t
  unfolding number
  two_complete v t h k =
      let e : 10 * (48 + v / 10 - 48) + (48 + v % 10 - 48) ≡ v = omega arith in
      rw (between-true 49 57 (48 + v / 10) (omega arith) (omega arith)) (rw (between-true 48 57 (48 + v % 10) (omega arith) (omega arith)) (rw e refl))

  number-complete : (v : ℕ) (t : List ℕ) → length (digits v ++ t) ≤ n → T (inside 99 v) → Before v t → number (digits v ++ t) ≡ got v t
  number-complete v t l i b =
      let (h, k) = inside_is v i in
      by_cases (dec_lt v 10)
      (λ lt. rw (digits-one v lt) (one-complete v t h lt b))
      (λ ge. rw (digits_two v (omega arith)) (two_complete v t (omega arith) k))

  pub reads_number : Reads Number n number
  reads_number = record { outcome = number_outcome; complete = number-complete; example = (1, tt); ahead = number_ahead }

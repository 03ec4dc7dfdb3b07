-- What the tests of the calls say, one after another, and what a call promises by them.
-- Assumes nothing.
use Prim.Native.Nat.{ℕ, ◌≤◌, ◌<◌}
use mathlib.Core.Bool.{Bool, true, false, ◌&&◌, and-eq-true_iff}
use mathlib.Core.List.{List, [], ◌∷◌}
use mathlib.Core.Option.{Option}
use mathlib.Core.Path.{◌≡◌, refl, sym, ap, ap₂, ◌∙◌, subst, subst⁻¹}
use native.Mathlib.Omega.{arith}
use borrow.Author.Tests.{leb-true, le-leb}
use lib.Dec.{T, leb, ltb}
use lib.ListN.{length}
use Rattle.std.specs.Prelude.{Result, Ok, Err, Some, None, ok_or}
use Rattle.std.specs.Prelude as rust
use Rattle.refusals.specs.declared.Refusal.{Refusal}
use Rattle.refusals.specs.Judged.{Judged, refusal, ◌then◌, require, told}
use Rattle.refusals.specs.Judged.Judged.{accepted, refused}
use Rattle.refusals.proofs.Composed.{then-accepted, required, passes}
use Rattle.graphs.proofs.Lists.{T_true}
use Rattle.classes.specs.Renaming.{rising}
use Rattle.classification.specs.ClassTests.{test_counts, test_lists, test_range, class_found, number_of, done_of, written_of, numbers_of, written_numbers}
use Rattle.classification.specs.ClassClaims.{FitCounts, FitConstants}

-- A test of two parts

pub both : (p q : Bool) → (p && q) ≡ true → (p ≡ true) × (q ≡ true)
both p q = (and-eq-true_iff p q).0

-- What tests that were told to be done or refused say of what follows them

module _ {A B : Type 0} (j : Judged A) (next : A → Judged B) (q : Result (Unit {0}) Refusal) (e : q ≡ done_of j) where
  pub told-refused : (r : Refusal) → q ≡ Err r → (j then next) ≡ refused r
  told-refused r d = go j (sym e ∙ d)
    where
      go : (j : Judged A) → done_of j ≡ Err r → (j then next) ≡ refused r
      go (accepted x) h = let z : ◌≡◌ {A = ℕ} 0 1 = cc in absurd (omega arith)
      go (refused s) h = let z : s ≡ r = cc in ap refused z

pub told-done : (j : Judged (Unit {0})) (q : Result (Unit {0}) Refusal) → q ≡ done_of j → q ≡ Ok tt → j ≡ accepted tt
told-done (accepted x) q e d = refl
told-done (refused r) q e d = let z : ◌≡◌ {A = ℕ} 0 1 = cc in absurd (omega arith)

-- the tests are done, and then the next decides
pub told-next : {B : Type 0} (j : Judged (Unit {0})) (next : Unit {0} → Judged B) (q : Result (Unit {0}) Refusal) → q ≡ done_of j → q ≡ Ok tt → (j then next) ≡ next tt
told-next j next q e d = ap (λ x. x then next) (told-done j q e d)

-- Replies in document 01's numbers

numbers_told : (j : Judged ℕ) → numbers_of (number_of j) ≡ told (λ n. n ∷ []) j
numbers_told (accepted n) = refl
numbers_told (refused r) = refl

pub written-told : {A : Type 0} (j : Judged A) → written_numbers (done_of j) ≡ told (λ x. []) j
written-told (accepted x) = refl
written-told (refused r) = refl

-- The whole promise, from what the definition gives and a claim that holds of it

abbrev pub NumberPromise : (Result ℕ Refusal → Type 0) → Judged ℕ → Result ℕ Refusal → Type 0
NumberPromise P j q = (q ≡ number_of j) × (numbers_of q ≡ told (λ n. n ∷ []) j) × P q

pub number_promised : (P : Result ℕ Refusal → Type 0) (j : Judged ℕ) → P (number_of j) → (i : Judged ℕ) → j ≡ i → NumberPromise P j (number_of i)
number_promised P j p i e = subst (λ i. NumberPromise P j (number_of i)) e (refl, numbers_told j, p)

abbrev pub WrittenPromise : (Result (Unit {0}) Refusal → List ℕ → Type 0) → Judged (List ℕ) → (before : List ℕ) → Result (Unit {0}) Refusal → (after : List ℕ) → Type 0
WrittenPromise P j before q after = (q ≡ done_of j) × (written_numbers q ≡ told (λ xs. []) j) × (after ≡ written_of j before) × P q after

pub written_promised : (P : Result (Unit {0}) Refusal → List ℕ → Type 0) (j : Judged (List ℕ)) (before : List ℕ) → P (done_of j) (written_of j before)
    → (i : Judged (List ℕ)) (after : List ℕ) → j ≡ i → after ≡ written_of i before → WrittenPromise P j before (done_of i) after
written_promised P j before p i after e f =
    subst⁻¹ (WrittenPromise P j before (done_of i)) f (subst (λ i. WrittenPromise P j before (done_of i) (written_of i before)) e (refl, written-told j, refl, p))

-- The tests of the code, in its order

passed : (n : Refusal) (b : Bool) → require b n ≡ accepted tt → b ≡ true
passed n true h = refl
passed n false h = let z : ◌≡◌ {A = ℕ} 0 1 = cc in absurd (omega arith)

module _ (r c : ℕ) where
  abbrev few : Bool
  few = leb r 5 && leb c 2

  fitting : (b : Bool) → b ≡ true → test_counts b r c ≡ require few (refusal 3 0 0)
  fitting b e = passes (refusal 9 0 0) (λ ok. require few (refusal 3 0 0)) b e

  counts-taken : (b : Bool) → b ≡ true → r ≤ 5 → c ≤ 2 → Ok tt ≡ done_of (test_counts b r c)
  counts-taken b e h k = sym (ap done_of (fitting b e) ∙ rw (le-leb r 5 h, le-leb c 2 k) refl)

  -- lengths and counts that are taken
  pub counts_fit : (b : Bool) → b ≡ true → FitCounts r c → test_counts b r c ≡ accepted tt
  counts_fit b e (h, k) = told-done _ (Ok tt) (counts-taken b e h k) refl

  pub counts_pass : (b : Bool) → test_counts b r c ≡ accepted tt → (b ≡ true) × FitCounts r c
  counts_pass b e =
      let (f, g) = required (refusal 9 0 0) (λ ok. require few (refusal 3 0 0)) b tt e in
      let (x, y) = both (leb r 5) (leb c 2) (passed (refusal 3 0 0) few g) in
      (f, (leb-true r 5 x, leb-true c 2 y))

module _ (b : Bool) (r : ℕ) (cs : List ℕ) where
  order-told : (q : Result (Unit {0}) Refusal) → q ≡ done_of (test_counts b r (length cs)) → q ≡ Ok tt → (up : Bool) → rising cs ≡ up → done_of (require up (refusal 4 0 0)) ≡ done_of (test_lists b r cs)
  order-told q e d up h = sym (ap done_of (told-next (test_counts b r (length cs)) (λ ok. require (rising cs) (refusal 4 0 0)) q e d) ∙ ap (λ x. done_of (require x (refusal 4 0 0))) h)

  pub lists_pass : test_lists b r cs ≡ accepted tt → (b ≡ true) × FitConstants r cs
  lists_pass e =
      let (x, f, g) = then-accepted (test_counts b r (length cs)) (λ ok. require (rising cs) (refusal 4 0 0)) tt e in
      let (p, few) = counts_pass r (length cs) b f in
      (p, (few, subst⁻¹ T (passed (refusal 4 0 0) (rising cs) g) tt))

  pub lists_fit : b ≡ true → FitConstants r cs → test_lists b r cs ≡ accepted tt
  lists_fit e (few, t) = told-done _ (Ok tt) (order-told (Ok tt) (sym (ap done_of (counts_fit r (length cs) b e few))) refl true (T_true (rising cs) t)) refl

-- What follows tests that pass: a number in range or not, a class that is found or not

module _ {B : Type 0} (t : Judged (Unit {0})) (pass : t ≡ accepted tt) where
  pub ranged-is : (k n : ℕ) (y : B) (b : Bool) → ltb k n ≡ b → (t then (λ ok. test_range k n then (λ inside. accepted y))) ≡ (require b (refusal 5 0 0) then (λ inside. accepted y))
  ranged-is k n y b e = ap₂ (λ x b. x then (λ ok. require b (refusal 5 0 0) then (λ inside. accepted y))) pass e

  pub searched_is : (f : List ℕ → B) (o p : Option (List ℕ)) → o ≡ p → (t then (λ ok. class_found o then (λ l. accepted (f l)))) ≡ (class_found p then (λ l. accepted (f l)))
  searched_is f o p e = ap₂ (λ x y. x then (λ ok. class_found y then (λ l. accepted (f l)))) pass e

-- What `ok_or` gives

pub ok_or-err : (o : rust.Option ℕ) (n e : Refusal) → ok_or o n ≡ Err e → (None ≡ o) × (n ≡ e)
ok_or-err None n e h = let z : n ≡ e = cc in (refl, z)
ok_or-err (Some k) n e h = let z : ◌≡◌ {A = ℕ} 0 1 = cc in absurd (omega arith)

pub ok_or-ok : (o : rust.Option ℕ) (n : Refusal) (k : ℕ) → ok_or o n ≡ Ok k → Some k ≡ o
ok_or-ok None n k h = let z : ◌≡◌ {A = ℕ} 0 1 = cc in absurd (omega arith)
ok_or-ok (Some i) n k h = let z : i ≡ k = cc in ap Some (sym z)

-- Constants

pub rises_short : (cs : List ℕ) → length cs < 2 → true ≡ rising cs
rises_short [] h = refl
rises_short (x ∷ []) h = refl
rises_short (x ∷ (y ∷ ys)) h = absurd (omega arith)

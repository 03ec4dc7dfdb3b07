-- One test after another: what is accepted passed them all, and a refusal is that of the first that refuses.
-- Assumes nothing.
use Prim.Native.Nat.{ℕ}
use mathlib.Core.Bool.{Bool, true, false}
use mathlib.Core.Logic.{◌⊎◌}
use mathlib.Core.Logic.◌⊎◌.{inl, inr}
use mathlib.Core.Path.{◌≡◌, refl, ap}
use native.Mathlib.Omega.{arith}
use Rattle.refusals.specs.declared.Refusal.{Refusal}
use Rattle.refusals.specs.Judged.{Judged, ◌then◌, require}
use Rattle.refusals.specs.Judged.Judged.{accepted, refused}

module _ {A B : Type 0} where
  pub then-accepted : (j : Judged A) (next : A → Judged B) (y : B) → (j then next) ≡ accepted y → (x : A) × (j ≡ accepted x) × (next x ≡ accepted y)
  then-accepted (accepted x) next y e = (x, refl, e)
  then-accepted (refused r) next y e = let z : ◌≡◌ {A = ℕ} 0 1 = cc in absurd (omega arith)

  pub then-refused : (j : Judged A) (next : A → Judged B) (r : Refusal) → (j then next) ≡ refused r
      → (j ≡ refused r) ⊎ ((x : A) × (j ≡ accepted x) × (next x ≡ refused r))
  then-refused (accepted x) next r e = inr (x, refl, e)
  then-refused (refused q) next r e = let d : q ≡ r = cc in inl (ap refused d)

module _ {B : Type 0} (r : Refusal) (next : Unit {0} → Judged B) where
  pub required : (b : Bool) (y : B) → (require b r then next) ≡ accepted y → (b ≡ true) × (next tt ≡ accepted y)
  required true y e = (refl, e)
  required false y e = let z : ◌≡◌ {A = ℕ} 0 1 = cc in absurd (omega arith)

  pub passes : (b : Bool) → b ≡ true → (require b r then next) ≡ next tt
  passes b e = ap (λ x. require x r then next) e

  pub fails : (b : Bool) → b ≡ false → (require b r then next) ≡ refused r
  fails b e = ap (λ x. require x r then next) e

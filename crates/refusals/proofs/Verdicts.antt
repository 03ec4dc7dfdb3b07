-- What a verdict says of the number that it was made of. Assumes nothing.
use Rattle.std.proofs.Common.{◌≡◌, ◌≢◌, ℕ, zero, suc, true, false, Ok, Err, is_err, refl, arith}
use Rattle.refusals.specs.Judged.{verdict}

pub verdict-Ok : (n : ℕ) (u : Unit {0}) → verdict n ≡ Ok u → n ≡ 0
verdict-Ok zero u e = refl
verdict-Ok (suc n) u e = absurd cc

pub verdict-Err : (n x : ℕ) → verdict n ≡ Err x → (n ≡ x) × (n ≢ 0)
verdict-Err zero x e = absurd cc
verdict-Err (suc n) x e = (cc, λ z. omega arith)

pub verdict-is_err : (n : ℕ) → is_err (verdict n) ≡ true → n ≢ 0
verdict-is_err zero e = absurd cc
verdict-is_err (suc n) e = λ z. omega arith

pub verdict-not_err : (n : ℕ) → is_err (verdict n) ≡ false → n ≡ 0
verdict-not_err zero e = refl
verdict-not_err (suc n) e = absurd cc

pub verdict-refused : (n : ℕ) → n ≢ 0 → Err n ≡ verdict n
verdict-refused zero z = absurd (z refl)
verdict-refused (suc n) z = refl

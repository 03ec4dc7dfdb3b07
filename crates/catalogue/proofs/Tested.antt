-- A test that is computed at every number below a bound, and what it says at each.
-- Assumes nothing.
use Prim.Native.Nat.{ℕ, zero, suc, ◌<◌}
use mathlib.Core.Bool.{Bool, true, ◌&&◌}
use mathlib.Core.Logic.{by_cases}
use mathlib.Core.Path.{subst⁻¹}
use native.Mathlib.Decide.{ℕ_discrete}
use native.Mathlib.Omega.{arith}
use lib.Dec.{T}
use Rattle.graphs.proofs.Lists.{and_elim}

abbrev pub below : ℕ → (ℕ → Bool) → Bool
below zero f = true
below (suc n) f = f n && below n f

pub below_at : (n : ℕ) (f : ℕ → Bool) → T (below n f) → (i : ℕ) → i < n → T (f i)
below_at zero f t i h = absurd (omega arith)
below_at (suc n) f t i h =
    let (here, rest) = and_elim (f n) (below n f) t in
    by_cases (ℕ_discrete i n) (λ e. subst⁻¹ (λ j. T (f j)) e here) (λ d. below_at n f rest i (omega arith))

-- a test over pairs
pub below-pair : (m n : ℕ) (f : ℕ → ℕ → Bool) → T (below m (λ i. below n (f i))) → (i j : ℕ) → i < m → j < n → T (f i j)
below-pair m n f t i j h k = below_at n (f i) (below_at m (λ i. below n (f i)) t i h) j k

-- Only one list of contents is given back for a class.
-- Assumes nothing.
use Prim.Native.Nat.{ℕ, zero, suc, ◌≤◌, ◌<◌}
use mathlib.Core.List.{List}
use mathlib.Core.Logic.{◌⊎◌, ◌≢◌, inl, inr, ⊎_elim, by_cases}
use mathlib.Core.Path.{◌≡◌, refl, sym, ap, ◌∙◌, subst}
use native.Mathlib.Decide.{ℕ_discrete, dec_le}
use native.Mathlib.Omega.{arith}
use lib.ListN.{length, get_or}
use lib.Seq.{ext_get_or}
use Rattle.classes.specs.Classes.{Unused, GivenBack}

-- one of the first i entries is x, or none is
earlier : (k : List ℕ) (x i : ℕ) → ((j : ℕ) × (j < i) × (get_or k j 0 ≡ x)) ⊎ ((j : ℕ) → j < i → get_or k j 0 ≢ x)
earlier k x zero = inr (λ j h. absurd (omega arith))
earlier k x (suc i) = by_cases (ℕ_discrete (get_or k i 0) x)
    (λ e. inl (i, omega arith, e))
    (λ d. ⊎_elim (λ (j, h, e). inl (j, omega arith, e)) (λ none. inr (λ j h. by_cases (ℕ_discrete j i) (λ z e. d (ap (λ m. get_or k m 0) (sym z) ∙ e)) (λ z. none j (omega arith)))) (earlier k x i))

module _ (cs k v w : List ℕ) (p : GivenBack cs k v) (q : GivenBack cs k w) where
  -- what is unused does not depend on which of the two it is asked of
  moved : (u x : List ℕ) (i d : ℕ) → ((j : ℕ) → j < i → get_or u j 0 ≡ get_or x j 0) → Unused cs u i d → Unused cs x i d
  moved u x i d same (away, none) = (away, λ j h e. none j h (same j h ∙ e))

  entry : (i : ℕ) → i < length k → ((j : ℕ) → j < i → get_or v j 0 ≡ get_or w j 0) → get_or v i 0 ≡ get_or w i 0
  entry i h same = by_cases (dec_le (get_or k i 0) (length cs))
      (λ c. p.constants i h c ∙ sym (q.constants i h c))
      (λ c. ⊎_elim
      (λ (j, l, e). sym (p.blocks j i l h e) ∙ same j l ∙ q.blocks j i l h e)
      (λ new.
      let (uv, lv) = p.smallest i h (omega arith) new in
      let (uw, lw) = q.smallest i h (omega arith) new in
      omega (arith, lv (get_or w i 0) (moved w v i (get_or w i 0) (λ j l. sym (same j l)) uw), lw (get_or v i 0) (moved v w i (get_or v i 0) same uv)))
      (earlier k (get_or k i 0) i))

  below : (i : ℕ) → i ≤ length k → (j : ℕ) → j < i → get_or v j 0 ≡ get_or w j 0
  below zero h j l = absurd (omega arith)
  below (suc i) h j l = by_cases (ℕ_discrete j i)
      (λ z. subst (λ m. get_or v m 0 ≡ get_or w m 0) (sym z) (entry i (omega arith) (below i (omega arith))))
      (λ z. below i (omega arith) j (omega arith))

  pub one-given : v ≡ w
  one-given = ext_get_or 0 v w (p.wide ∙ sym q.wide) (λ i l. below (length k) (omega arith) i (omega (arith, p.wide)))

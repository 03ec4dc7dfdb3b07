-- Selected numbers of a range, part by part.
-- Assumes nothing.
use Prim.Native.Nat.{ℕ, zero, suc, ◌+◌, ◌≤◌, ◌<◌}
use mathlib.Core.Bool.{Bool, true, false, cond}
use mathlib.Core.List.{List, [], ◌∷◌, ◌++◌, map, map-append}
use mathlib.Core.Path.{◌≡◌, refl, sym, ◌∙◌, ap, ap₂}
use native.Mathlib.Omega.{arith}
use Rattle.graphs.specs.Lists.{up_from, select}
use Rattle.graphs.proofs.Lists.{select-append, up_from-append}

module _ {A : Type 0} where
  -- f of those of the n numbers from b that pass the test s
  abbrev pub gather : (ℕ → Bool) → (ℕ → A) → ℕ → ℕ → List A
  gather s f b n = map f (select s (up_from b n))

  pub gather_split : (s : ℕ → Bool) (f : ℕ → A) (b m k : ℕ) → gather s f b (m + k) ≡ gather s f b m ++ gather s f (b + m) k
  gather_split s f b m k =
      ap (λ l. map f (select s l)) (sym (up_from-append b m k)) ∙ ap (map f) (select-append s (up_from b m) (up_from (b + m) k))
      ∙ map-append f (select s (up_from b m)) (select s (up_from (b + m) k))

  pub gather_one : (s : ℕ → Bool) (f : ℕ → A) (b : ℕ) → s b ≡ true → gather s f b 1 ≡ f b ∷ []
  gather_one s f b e = rw e

  pub gather_none : (s : ℕ → Bool) (f : ℕ → A) (b n : ℕ) → ((x : ℕ) → b ≤ x → x < b + n → s x ≡ false) → gather s f b n ≡ []
  gather_none s f b zero h = refl
  gather_none s f b (suc n) h = rw (h b (omega arith) (omega arith)) (gather_none s f (suc b) n (λ x u v. h x (omega arith) (omega arith)))

  -- two tests that agree, and values that agree where they hold
  pub gather_agree : (s s' : ℕ → Bool) (f g : ℕ → A) (b n : ℕ) → ((x : ℕ) → b ≤ x → x < b + n → s x ≡ s' x) → ((x : ℕ) → b ≤ x → x < b + n → s x ≡ true → f x ≡ g x)
      → gather s f b n ≡ gather s' g b n
  gather_agree s s' f g b zero h k = refl
  gather_agree s s' f g b (suc n) h k =
      rw (← h b (omega arith) (omega arith)) (by (s b) refl (gather_agree s s' f g (suc b) n (λ x u v. h x (omega arith) (omega arith)) (λ x u v. k x (omega arith) (omega arith))))
    where
      by : (c : Bool) → s b ≡ c → gather s f (suc b) n ≡ gather s' g (suc b) n
          → map f (cond c (b ∷ select s (up_from (suc b) n)) (select s (up_from (suc b) n))) ≡ map g (cond c (b ∷ select s' (up_from (suc b) n)) (select s' (up_from (suc b) n)))
      by true e r = ap₂ (λ (x : A) (l : List A). x ∷ l) (k b (omega arith) (omega arith) e) r
      by false e r = r

  -- the first n of m pass, and no other
  pub gather_first : (s : ℕ → Bool) (f g : ℕ → A) (b n m : ℕ) → n ≤ m → ((x : ℕ) → b ≤ x → x < b + n → (s x ≡ true) × (f x ≡ g x)) → ((x : ℕ) → b + n ≤ x → x < b + m → s x ≡ false)
      → gather s f b m ≡ map g (up_from b n)
  gather_first s f g b zero m h y z = gather_none s f b m (λ x u v. z x (omega arith) v)
  gather_first s f g b (suc n) zero h y z = absurd (omega arith)
  gather_first s f g b (suc n) (suc m) h y z =
      let (passes, same) = y b (omega arith) (omega arith) in
      rw passes
      (ap₂ (λ (x : A) (l : List A). x ∷ l) same
      (gather_first s f g (suc b) n m (omega arith) (λ x u v. y x (omega arith) (omega arith)) (λ x u v. z x (omega arith) (omega arith))))

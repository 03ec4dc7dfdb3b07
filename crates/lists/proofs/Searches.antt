-- Searches through numbers in a row: what they find, and one turn of the loop that makes them.
-- Assumes nothing.
use Prim.Native.Nat.{ℕ, zero, suc, ◌+◌, ◌-◌, ◌≤◌, ◌<◌}
use mathlib.Core.Bool.{Bool, true, false, cond, ◌&&◌, ◌||◌, or-false}
use mathlib.Core.Logic.{◌≢◌, ◌⊎◌, inl, inr, ⊎_elim, by_cases}
use mathlib.Core.Path.{◌≡◌, refl, sym, ap, ◌∙◌, subst, subst⁻¹}
use native.Mathlib.Decide.{ℕ_discrete}
use native.Mathlib.Omega.{arith}
use lib.Dec.{T}
use lib.Ieee.Fits.{and_i, and_l, and_r}
use Rattle.lists.specs.Searches.{any_from, all_from, first_from, any_below}

-- what is left of n from i on
pub left_over : (n i : ℕ) → i < n → n - i ≡ suc (n - (i + 1))
left_over n i h = omega arith

pub nothing_left : (n i : ℕ) → n ≤ i → n - i ≡ 0
nothing_left n i h = omega arith

pub whole-left : (n : ℕ) → n - 0 ≡ n
whole-left n = omega arith

pub next : (i : ℕ) → i + 1 ≡ suc i
next i = omega arith

-- a claim about a place, at the place or behind it
behind : (P : ℕ → Type 0) (i j : ℕ) → i ≤ j → P i → (suc i ≤ j → P j) → P j
behind P i j h p q = by_cases (ℕ_discrete i j) (λ e. subst P e p) (λ d. q (omega arith))

cond-true : (b c : Bool) → T b → T (cond b true c)
cond-true true c t = tt
cond-true false c t = absurd t

cond-rest : (b c : Bool) → T c → T (cond b true c)
cond-rest true c t = tt
cond-rest false c t = t

cond_cases : (b c : Bool) → T (cond b true c) → T b ⊎ T c
cond_cases true c t = inl tt
cond_cases false c t = inr t

cond_yes : (b : Bool) (x y : ℕ) → T b → cond b x y ≡ x
cond_yes true x y t = refl
cond_yes false x y t = absurd t

or_left : (b c : Bool) → T b → T (b || c)
or_left true c t = tt
or_left false c t = absurd t

or_right : (b c : Bool) → T c → T (b || c)
or_right true c t = tt
or_right false c t = t

or_cases : (b c : Bool) → T (b || c) → T b ⊎ T c
or_cases true c t = inl tt
or_cases false c t = inr t

-- Some number passes

module _ (p : ℕ → Bool) (n i : ℕ) where
  any_turn : i < n → any_from p i (n - i) ≡ cond (p i) true (any_from p (i + 1) (n - (i + 1)))
  unfolding any_from
  any_turn h = ap (any_from p i) (left_over n i h) ∙ ap (λ j. cond (p i) true (any_from p j (n - (i + 1)))) (sym (next i))

  pub any_start : any_from p 0 (n - 0) ≡ any_from p 0 n
  any_start = ap (any_from p 0) (whole-left n)

  pub any_here : i < n → p i ≡ true → any_from p i (n - i) ≡ true
  any_here h e = any_turn h ∙ ap (λ b. cond b true (any_from p (i + 1) (n - (i + 1)))) e

  pub any_later : i < n → p i ≡ false → any_from p i (n - i) ≡ any_from p (i + 1) (n - (i + 1))
  any_later h e = any_turn h ∙ ap (λ b. cond b true (any_from p (i + 1) (n - (i + 1)))) e

  pub any_none : n ≤ i → any_from p i (n - i) ≡ false
  unfolding any_from
  any_none h = ap (any_from p i) (nothing_left n i h)

pub any_from-intro : (p : ℕ → Bool) (i n j : ℕ) → i ≤ j → j < i + n → T (p j) → T (any_from p i n)
unfolding any_from
any_from-intro p i zero j h l t = absurd (omega arith)
any_from-intro p i (suc n) j h l t = by_cases (ℕ_discrete i j)
    (λ e. cond-true (p i) (any_from p (suc i) n) (rw e t))
    (λ d. cond-rest (p i) (any_from p (suc i) n) (any_from-intro p (suc i) n j (omega arith) (omega arith) t))

pub any_from-elim : (p : ℕ → Bool) (i n : ℕ) → T (any_from p i n) → (j : ℕ) × (i ≤ j) × (j < i + n) × T (p j)
unfolding any_from
any_from-elim p i zero t = absurd t
any_from-elim p i (suc n) t = ⊎_elim (λ u. (i, omega arith, omega arith, u))
    (λ u. let (j, h, l, v) = any_from-elim p (suc i) n u in (j, omega arith, omega arith, v)) (cond_cases (p i) (any_from p (suc i) n) t)

-- Every number passes

module _ (p : ℕ → Bool) (n i : ℕ) where
  all-turn : i < n → all_from p i (n - i) ≡ (p i && all_from p (i + 1) (n - (i + 1)))
  unfolding all_from
  all-turn h = ap (all_from p i) (left_over n i h) ∙ ap (λ j. p i && all_from p j (n - (i + 1))) (sym (next i))

  pub all_start : all_from p 0 (n - 0) ≡ all_from p 0 n
  all_start = ap (all_from p 0) (whole-left n)

  pub all-fails : i < n → p i ≡ false → all_from p i (n - i) ≡ false
  all-fails h e = all-turn h ∙ ap (λ b. b && all_from p (i + 1) (n - (i + 1))) e

  pub all_more : i < n → p i ≡ true → all_from p i (n - i) ≡ all_from p (i + 1) (n - (i + 1))
  all_more h e = all-turn h ∙ ap (λ b. b && all_from p (i + 1) (n - (i + 1))) e

  pub all_done : n ≤ i → all_from p i (n - i) ≡ true
  unfolding all_from
  all_done h = ap (all_from p i) (nothing_left n i h)

pub all_from-intro : (p : ℕ → Bool) (i n : ℕ) → ((j : ℕ) → i ≤ j → j < i + n → T (p j)) → T (all_from p i n)
unfolding all_from
all_from-intro p i zero h = tt
all_from-intro p i (suc n) h =
    and_i (p i) (all_from p (suc i) n) (h i (omega arith) (omega arith)) (all_from-intro p (suc i) n (λ j k l. h j (omega arith) (omega arith)))

pub all_from-elim : (p : ℕ → Bool) (i n : ℕ) → T (all_from p i n) → (j : ℕ) → i ≤ j → j < i + n → T (p j)
unfolding all_from
all_from-elim p i zero t j h l = absurd (omega arith)
all_from-elim p i (suc n) t j h l =
    behind (λ k. T (p k)) i j h (and_l (p i) (all_from p (suc i) n) t) (λ d. all_from-elim p (suc i) n (and_r (p i) (all_from p (suc i) n) t) j d (omega arith))

-- The first number that passes

module _ (p : ℕ → Bool) (n i : ℕ) where
  first-turn : i < n → first_from p i (n - i) ≡ cond (p i) i (first_from p (i + 1) (n - (i + 1)))
  unfolding first_from
  first-turn h = ap (first_from p i) (left_over n i h) ∙ ap (λ j. cond (p i) i (first_from p j (n - (i + 1)))) (sym (next i))

  pub first-start : first_from p 0 (n - 0) ≡ first_from p 0 n
  first-start = ap (first_from p 0) (whole-left n)

  pub first-here : i < n → p i ≡ true → first_from p i (n - i) ≡ i
  first-here h e = first-turn h ∙ ap (λ b. cond b i (first_from p (i + 1) (n - (i + 1)))) e

  pub first-later : i < n → p i ≡ false → first_from p i (n - i) ≡ first_from p (i + 1) (n - (i + 1))
  first-later h e = first-turn h ∙ ap (λ b. cond b i (first_from p (i + 1) (n - (i + 1)))) e

  pub first-none : n ≤ i → first_from p i (n - i) ≡ i
  unfolding first_from
  first-none h = ap (first_from p i) (nothing_left n i h)

-- where it stands, and what it passed by
pub first_range : (p : ℕ → Bool) (i n : ℕ) → (i ≤ first_from p i n) × (first_from p i n ≤ i + n)
unfolding first_from
first_range p i zero = (omega arith, omega arith)
first_range p i (suc n) = go (p i) (first_range p (suc i) n)
  where
    go : (b : Bool) → (suc i ≤ first_from p (suc i) n) × (first_from p (suc i) n ≤ suc i + n)
        → (i ≤ cond b i (first_from p (suc i) n)) × (cond b i (first_from p (suc i) n) ≤ i + suc n)
    go true h = (omega arith, omega arith)
    go false (h, l) = (omega arith, omega arith)

pub first_before : (p : ℕ → Bool) (i n j : ℕ) → i ≤ j → j < first_from p i n → p j ≡ false
unfolding first_from
first_before p i zero j h l = absurd (omega arith)
first_before p i (suc n) j h l = go (p i) refl l (first_before p (suc i) n j)
  where
    go : (b : Bool) → p i ≡ b → j < cond b i (first_from p (suc i) n) → (suc i ≤ j → j < first_from p (suc i) n → p j ≡ false) → p j ≡ false
    go true e k rest = absurd (omega arith)
    go false e k rest = behind (λ m. p m ≡ false) i j h e (λ d. rest d k)

-- it passes, where there is one
pub first_passes : (p : ℕ → Bool) (i n : ℕ) → first_from p i n < i + n → T (p (first_from p i n))
unfolding first_from
first_passes p i zero h = absurd (omega arith)
first_passes p i (suc n) h = go (p i) refl h (first_passes p (suc i) n)
  where
    go : (b : Bool) → p i ≡ b → cond b i (first_from p (suc i) n) < i + suc n → (first_from p (suc i) n < suc i + n → T (p (first_from p (suc i) n))) → T (p (cond b i (first_from p (suc i) n)))
    go true e h rest = subst⁻¹ T e tt
    go false e h rest = rest (omega arith)

-- and that determines it
pub first_unique : (p : ℕ → Bool) (i n x : ℕ) → i ≤ x → x ≤ i + n → ((j : ℕ) → i ≤ j → j < x → p j ≡ false) → (x < i + n → T (p x)) → first_from p i n ≡ x
unfolding first_from
first_unique p i zero x h l before here = omega arith
first_unique p i (suc n) x h l before here = by_cases (ℕ_discrete i x)
    (λ e. cond_yes (p i) i (first_from p (suc i) n) (subst (λ k. T (p k)) (sym e) (here (omega arith))) ∙ e)
    (λ d.
    ap (λ b. cond b i (first_from p (suc i) n)) (before i (omega arith) (omega arith))
    ∙ first_unique p (suc i) n x (omega arith) (omega arith) (λ j k m. before j (omega arith) m) (λ m. here (omega arith)))

pub first_agree : (p q : ℕ → Bool) (i n : ℕ) → ((j : ℕ) → i ≤ j → j < i + n → p j ≡ q j) → first_from p i n ≡ first_from q i n
unfolding first_from
first_agree p q i zero e = refl
first_agree p q i (suc n) e = cc (e i (omega arith) (omega arith), first_agree p q (suc i) n (λ j h l. e j (omega arith) (omega arith)))

-- Some number below n passes

pub any_below-none : (p : ℕ → Bool) (n : ℕ) → ((i : ℕ) → i < n → p i ≡ false) → any_below p n ≡ false
unfolding any_below
any_below-none p zero h = refl
any_below-none p (suc n) h = rw (any_below-none p n (λ i l. h i (omega arith)), h n (omega arith))

-- only i can pass
pub any_below-only : (p : ℕ → Bool) (n i : ℕ) → i < n → ((j : ℕ) → j < n → j ≢ i → p j ≡ false) → any_below p n ≡ p i
unfolding any_below
any_below-only p zero i l h = absurd (omega arith)
any_below-only p (suc n) i l h = by_cases (ℕ_discrete i n)
    (λ e. rw (any_below-none p n (λ j k. h j (omega arith) (λ d. omega arith)), e))
    (λ e. rw (any_below-only p n i (omega arith) (λ j k d. h j (omega arith) d), h n (omega arith) (λ d. e (sym d))) (or-false (p i)))

pub any_below_agree : (p q : ℕ → Bool) (n : ℕ) → ((i : ℕ) → i < n → p i ≡ q i) → any_below p n ≡ any_below q n
unfolding any_below
any_below_agree p q zero h = refl
any_below_agree p q (suc n) h = cc (any_below_agree p q n (λ i l. h i (omega arith)), h n (omega arith))

pub any_below-elim : (p : ℕ → Bool) (n : ℕ) → T (any_below p n) → (i : ℕ) × (i < n) × T (p i)
unfolding any_below
any_below-elim p zero t = absurd t
any_below-elim p (suc n) t = ⊎_elim (λ u. let (i, l, v) = any_below-elim p n u in (i, omega arith, v)) (λ u. (n, omega arith, u)) (or_cases (any_below p n) (p n) t)

pub any_below-intro : (p : ℕ → Bool) (n i : ℕ) → i < n → T (p i) → T (any_below p n)
unfolding any_below
any_below-intro p zero i l t = absurd (omega arith)
any_below-intro p (suc n) i l t = by_cases (ℕ_discrete i n)
    (λ e. or_right (any_below p n) (p n) (subst (λ j. T (p j)) e t))
    (λ d. or_left (any_below p n) (p n) (any_below-intro p n i (omega arith) t))

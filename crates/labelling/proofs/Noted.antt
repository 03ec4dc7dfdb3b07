-- Identifiers as a struct: what is known of it, with one identifier more, and after values have been labelled.
-- Assumes nothing.
use Prim.Native.Nat.{ℕ, zero, suc, ◌+◌, ◌-◌, ◌≤◌, ◌<◌}
use mathlib.Core.List.{List, [], ◌∷◌, ◌++◌, append-nil}
use mathlib.Core.Path.{◌≡◌, refl, sym, ap, ◌∙◌, subst⁻¹}
use native.Mathlib.Omega.{arith}
use lib.ListN.{length, get_or, take, set, replicate, length-append}
use Rattle.lists.specs.Arrays.{padded}
use Rattle.lists.proofs.Arrays.{padded_zeros, padded-take, padded_more}
use Rattle.graphs.specs.Lists.{up_from}
use Rattle.labelling.specs.declared.seen.Seen.TheInside.{Inside}
use Rattle.labelling.specs.Listed.{seen_of, Tidy}

-- Five entries, one by one

pub five_padded : (xs : List ℕ) → get_or xs 0 0 ∷ get_or xs 1 0 ∷ get_or xs 2 0 ∷ get_or xs 3 0 ∷ get_or xs 4 0 ∷ [] ≡ padded 5 xs
unfolding padded
five_padded [] = refl
five_padded (a ∷ []) = refl
five_padded (a ∷ b ∷ []) = refl
five_padded (a ∷ b ∷ c ∷ []) = refl
five_padded (a ∷ b ∷ c ∷ d ∷ []) = refl
five_padded (a ∷ b ∷ c ∷ d ∷ e ∷ xs) = refl

pub five_numbers : (xs : List ℕ) → length xs ≡ 5 → get_or xs 0 0 ∷ get_or xs 1 0 ∷ get_or xs 2 0 ∷ get_or xs 3 0 ∷ get_or xs 4 0 ∷ [] ≡ xs
five_numbers xs e = five_padded xs ∙ ap (λ n. padded n xs) (sym e) ∙ padded_zeros (length xs) xs (omega arith) ∙ all (length xs)
  where
    all : (n : ℕ) → xs ++ replicate (n - n) 0 ≡ xs
    all n = let z : n - n ≡ 0 = omega arith in ap (λ k. xs ++ replicate k 0) z ∙ append-nil xs

-- The struct of a list

pub tidy-seen_of : (xs : List ℕ) → length xs ≤ 17 → Tidy (seen_of xs)
tidy-seen_of xs h = record { few = h; given_back = ap seen_of (padded-take 17 xs h) }

module _ (s : Inside) (t : Tidy s) where
  abbrev known : List ℕ
  known = take s.count s.ids

  pub known-length : length known ≡ s.count
  known-length = ap (λ r. r.count) t.given_back

  -- one identifier more
  pub push_is : (x : ℕ) → length known < 17 → record { count = s.count + 1; ids = set s.ids s.count x } ≡ seen_of (known ++ (x ∷ []))
  push_is x h =
      let c : s.count + 1 ≡ length (known ++ (x ∷ [])) = omega (arith, length-append known (x ∷ []), known-length) in
      let d : set s.ids s.count x ≡ padded 17 (known ++ (x ∷ [])) =
      ap (λ r. set r.ids s.count x) (sym t.given_back) ∙ ap (λ k. set (padded 17 known) k x) (sym known-length) ∙ padded_more 17 known x h in
      λ i. record { count = c i; ids = d i }

  pub push-tidy : (x : ℕ) → length known < 17 → Tidy (record { count = s.count + 1; ids = set s.ids s.count x })
  push-tidy x h = subst⁻¹ Tidy (push_is x h) (tidy-seen_of (known ++ (x ∷ [])) (omega (arith, length-append known (x ∷ []))))

  pub push-view : (x : ℕ) → length known < 17 → take (s.count + 1) (set s.ids s.count x) ≡ known ++ (x ∷ [])
  push-view x h = ap (λ r. take r.count r.ids) (push_is x h) ∙ padded-take 17 (known ++ (x ∷ [])) (omega (arith, length-append known (x ∷ [])))

-- A few constants

pub take-le : (c : ℕ) (xs : List ℕ) → length (take c xs) ≤ c
take-le zero xs = omega arith
take-le (suc c) [] = omega arith
take-le (suc c) (x ∷ xs) = omega (arith, take-le c xs)

-- the labels of at most two constants
pub marks-take : (c : ℕ) → c ≤ 2 → take c (1 ∷ 2 ∷ []) ≡ up_from 1 c
marks-take zero h = refl
marks-take (suc zero) h = refl
marks-take (suc (suc zero)) h = refl
marks-take (suc (suc (suc c))) h = absurd (omega arith)

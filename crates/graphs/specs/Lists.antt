-- Functions on lists that the definitions share.
-- Assumes nothing.
use Rattle.std.specs.Prelude.{ℕ, zero, suc, pred, ◌<◌, Bool, true, false, ◌&&◌, cond, ◌⊎◌, ◌≡◌, eqb, get_or}
use mathlib.Core.List.{List, [], ◌∷◌, map, flat_map, ◌++◌}
use Rattle.std.proofs.Math.Option.{Option, none, some}

-- the nodes that k links, followed back from node c, lead through
abbrev pub follow : (ℕ → ℕ) → ℕ → ℕ → List ℕ
follow back zero c = c ∷ []
follow back (suc k) c = follow back k (back c) ++ (c ∷ [])

-- the i-th entry, counted from 1
abbrev pub item : List ℕ → ℕ → ℕ
item xs i = get_or xs (pred i) 0

-- i, i + 1, .. , i + n - 1
abbrev pub up_from : ℕ → ℕ → List ℕ
up_from i zero = []
up_from i (suc n) = i ∷ up_from (suc i) n

abbrev pub eq_list : List ℕ → List ℕ → Bool
eq_list [] [] = true
eq_list [] (y ∷ ys) = false
eq_list (x ∷ xs) [] = false
eq_list (x ∷ xs) (y ∷ ys) = eqb x y && eq_list xs ys

module _ {A : Type 0} where
  abbrev pub all_of : (A → Bool) → List A → Bool
  all_of p [] = true
  all_of p (x ∷ xs) = p x && all_of p xs

  abbrev pub any_of : (A → Bool) → List A → Bool
  any_of p [] = false
  any_of p (x ∷ xs) = cond (p x) true (any_of p xs)

  abbrev pub select : (A → Bool) → List A → List A
  select p [] = []
  select p (x ∷ xs) = cond (p x) (x ∷ select p xs) (select p xs)

  -- the first entry that passes the test
  abbrev pub first : (A → Bool) → List A → Option A
  first p [] = none
  first p (x ∷ xs) = cond (p x) (some x) (first p xs)

-- all f x y, row after row
abbrev pub table : {A B C : Type 0} → (A → B → C) → List A → List B → List C
table f xs ys = flat_map (λ x. map (f x) ys) xs

-- the first list stands before the second in dictionary order
abbrev pub Dictionary : List ℕ → List ℕ → Type 0
Dictionary [] [] = ⊥
Dictionary [] (y ∷ ys) = Unit {0}
Dictionary (x ∷ xs) [] = ⊥
Dictionary (x ∷ xs) (y ∷ ys) = (x < y) ⊎ ((x ≡ y) × Dictionary xs ys)

-- the first list is the second, or stands before it
abbrev pub AtMost : List ℕ → List ℕ → Type 0
AtMost xs ys = (xs ≡ ys) ⊎ Dictionary xs ys

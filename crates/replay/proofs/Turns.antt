-- Tests of slots one by one.
-- Assumes nothing.
use Prim.Native.Nat.{ℕ, zero, suc}
use mathlib.Core.Bool.{Bool, ◌&&◌}
use mathlib.Core.List.{List, [], ◌∷◌}
use mathlib.Core.Path.{◌≡◌, refl, ap}
use lib.Dec.{eqb}
use lib.ListN.{get_or}
use Rattle.lists.specs.Searches.{all_from}
use Rattle.std.specs.List.{list_all}
use Rattle.graphs.specs.Lists.{all_of, eq_list}
use Rattle.forms.specs.Slots.{values_from}

-- a test of each element, as std says it and as the definitions here do
pub listed-all : {A : Type 0} (p : A → Bool) (xs : List A) → list_all p xs ≡ all_of p xs
listed-all p [] = refl
listed-all p (x ∷ xs) = ap (λ b. p x && b) (listed-all p xs)

-- assignments are tested one by one
pub assigned-is : (old new source target : List ℕ) (i n : ℕ)
    → all_from (λ j. eqb (get_or new (get_or target j 0) 0) (get_or old (get_or source j 0) 0)) i n ≡ eq_list (values_from new target i n) (values_from old source i n)
unfolding all_from
assigned-is old new source target i zero = refl
assigned-is old new source target i (suc n) = ap (λ b. eqb (get_or new (get_or target i 0) 0) (get_or old (get_or source i 0) 0) && b) (assigned-is old new source target (suc i) n)

-- Each list of the classes is the one before it, raised: one test, computed for every r ≤ 5 and c ≤ 2.
-- Assumes nothing.
use Prim.Native.Nat.{ℕ, zero, suc, ◌≤◌, ◌<◌}
use mathlib.Core.Bool.{Bool, true, ◌&&◌}
use mathlib.Core.List.{List, [], ◌∷◌, flat_map}
use mathlib.Core.Path.{◌≡◌}
use native.Mathlib.Omega.{arith}
use lib.Dec.{T, leb}
use lib.ListN.{length, get_or, replicate}
use Rattle.graphs.specs.Lists.{eq_list, all_of}
use Rattle.graphs.proofs.Lists.{and_elim, eq_list→eq}
use Rattle.classes.specs.Classes.{lists}
use Rattle.lists.specs.Arrays.{padded}
use Rattle.lists.specs.Filling.{filled}
use Rattle.catalogue.specs.Listing.{raised}
use Rattle.catalogue.proofs.Tested.{below, below-pair}

-- the list k is followed by the first of ls
abbrev follows : ℕ → ℕ → List ℕ → List (List ℕ) → Bool
follows r c k [] = true
follows r c k (l ∷ ls) = eq_list (raised r c (padded 5 k)) (padded 5 l)

-- each list has small labels, and is followed by the next
abbrev chained : ℕ → ℕ → List (List ℕ) → Bool
chained r c [] = true
chained r c (k ∷ ls) = all_of (λ x. leb x 7) (padded 5 k) && (follows r c k ls && chained r c ls)

abbrev begins : ℕ → List (List ℕ) → Bool
begins r [] = true
begins r (k ∷ ls) = eq_list (filled (replicate 5 0) 0 (λ i. 1) r) (padded 5 k)

right : ℕ → ℕ → Bool
right r c = begins r (lists r c) && chained r c (lists r c)

tested : T (below 6 (λ r. below 3 (right r)))
unfolding right raised filled padded flat_map
tested = tt

begun : (r : ℕ) (ls : List (List ℕ)) → T (begins r ls) → 0 < length ls → filled (replicate 5 0) 0 (λ i. 1) r ≡ padded 5 (get_or ls 0 [])
begun r [] t h = absurd (omega arith)
begun r (k ∷ ls) t h = eq_list→eq (filled (replicate 5 0) 0 (λ i. 1) r) (padded 5 k) t

small_at : (r c : ℕ) (ls : List (List ℕ)) → T (chained r c ls) → (k : ℕ) → k < length ls → T (all_of (λ x. leb x 7) (padded 5 (get_or ls k [])))
small_at r c [] t k h = absurd (omega arith)
small_at r c (l ∷ ls) t zero h = (and_elim (all_of (λ x. leb x 7) (padded 5 l)) (follows r c l ls && chained r c ls) t).0
small_at r c (l ∷ ls) t (suc k) h =
    let (s, u) = and_elim (all_of (λ x. leb x 7) (padded 5 l)) (follows r c l ls && chained r c ls) t in
    small_at r c ls (and_elim (follows r c l ls) (chained r c ls) u).1 k (omega arith)

next-at : (r c : ℕ) (ls : List (List ℕ)) → T (chained r c ls) → (k : ℕ) → suc k < length ls → raised r c (padded 5 (get_or ls k [])) ≡ padded 5 (get_or ls (suc k) [])
next-at r c [] t k h = absurd (omega arith)
next-at r c (l ∷ []) t k h = absurd (omega arith)
next-at r c (l ∷ m ∷ ls) t zero h =
    let (s, u) = and_elim (all_of (λ x. leb x 7) (padded 5 l)) (follows r c l (m ∷ ls) && chained r c (m ∷ ls)) t in
    eq_list→eq (raised r c (padded 5 l)) (padded 5 m) (and_elim (follows r c l (m ∷ ls)) (chained r c (m ∷ ls)) u).0
next-at r c (l ∷ m ∷ ls) t (suc k) h =
    let (s, u) = and_elim (all_of (λ x. leb x 7) (padded 5 l)) (follows r c l (m ∷ ls) && chained r c (m ∷ ls)) t in
    next-at r c (m ∷ ls) (and_elim (follows r c l (m ∷ ls)) (chained r c (m ∷ ls)) u).1 k (omega arith)

module _ (r c : ℕ) (h : r ≤ 5) (l : c ≤ 2) where
  both : T (begins r (lists r c)) × T (chained r c (lists r c))
  unfolding right
  both = and_elim (begins r (lists r c)) (chained r c (lists r c)) (below-pair 6 3 right tested r c (omega arith) (omega arith))

  -- the first list
  pub listed-first : 0 < length (lists r c) → filled (replicate 5 0) 0 (λ i. 1) r ≡ padded 5 (get_or (lists r c) 0 [])
  listed-first k = begun r (lists r c) both.0 k

  pub listed_small : (k : ℕ) → k < length (lists r c) → T (all_of (λ x. leb x 7) (padded 5 (get_or (lists r c) k [])))
  listed_small k m = small_at r c (lists r c) both.1 k m

  -- the list after list k
  pub listed_next : (k : ℕ) → suc k < length (lists r c) → raised r c (padded 5 (get_or (lists r c) k [])) ≡ padded 5 (get_or (lists r c) (suc k) [])
  listed_next k m = next-at r c (lists r c) both.1 k m

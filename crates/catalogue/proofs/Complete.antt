-- The catalogue is legal, rising and complete: its rows are the lists for five registers and two constants.
-- Assumes nothing.
use Prim.Native.Nat.{ℕ, zero, suc, ◌<◌}
use mathlib.Core.List.{List, [], ◌∷◌, flat_map, Memᴰ}
use mathlib.Core.Path.{◌≡◌, refl, subst, ◌∙◌}
use native.Mathlib.Omega.{arith}
use lib.ListN.{length, get_or}
use Rattle.graphs.specs.Lists.{Dictionary}
use Rattle.graphs.proofs.Lists.{get_or-mem, mem-get_or}
use Rattle.classes.specs.Classes.{lists}
use Rattle.classes.specs.Contents.{Legal, Ascending}
use Rattle.classes.proofs.Catalogue.{mem-lists, lists-mem, lists_ascending}
use Rattle.catalogue.specs.FlatCatalogue.{catalogue, row, Complete}
use Rattle.catalogue.proofs.Copying.{flat_length, flat_row}

-- a list of the definition is legal, and as long as there are registers
pub lists-legal : (r c n : ℕ) → n < length (lists r c) → Legal c (get_or (lists r c) n []) × (length (get_or (lists r c) n []) ≡ r)
lists-legal r c n h = lists-mem r c (get_or (lists r c) n []) (get_or-mem (lists r c) n [] h)

pub lists-width : (r c : ℕ) (k : List ℕ) → Memᴰ k (lists r c) → length k ≡ r
lists-width r c k m = (lists-mem r c k m).1

ascending_at : (ks : List (List ℕ)) (i j : ℕ) → Ascending ks → i < j → j < length ks → Dictionary (get_or ks i []) (get_or ks j [])
ascending_at [] i j a h l = absurd (omega arith)
ascending_at (k ∷ ks) i zero a h l = absurd (omega arith)
ascending_at (k ∷ ks) zero (suc j) (before, a) h l = before (get_or ks j []) (get_or-mem ks j [] (omega arith))
ascending_at (k ∷ ks) (suc i) (suc j) (before, a) h l = ascending_at ks i j a (omega arith) (omega arith)

pub catalogue-count : length (lists 5 2) ≡ 674
unfolding flat_map
catalogue-count = refl

pub catalogue-length : length catalogue ≡ 3370
unfolding catalogue
catalogue-length = omega (arith, flat_length (λ k. k) 5 (lists 5 2) (lists-width 5 2), catalogue-count)

pub catalogue-row : (n : ℕ) → n < 674 → row catalogue n ≡ get_or (lists 5 2) n []
unfolding catalogue
catalogue-row n h = flat_row (λ k. k) 5 (lists 5 2) [] (lists-width 5 2) n (omega (arith, catalogue-count))

pub catalogue-complete : Complete catalogue
catalogue-complete = record {
  size = catalogue-length;
  legal = λ n h. rw (catalogue-row n h) (lists-legal 5 2 n (omega (arith, catalogue-count)));
  rising = λ m n h l. rw (catalogue-row m (omega arith), catalogue-row n l) (ascending_at (lists 5 2) m n (lists_ascending 5 2) h (omega (arith, catalogue-count)));
  complete = λ k l e.
      let listed : Memᴰ k (lists 5 2) = subst (λ n. Memᴰ k (lists n 2)) e (mem-lists 2 k l) in
      let (n, h, f) = mem-get_or [] listed in
      (n, omega (arith, catalogue-count), catalogue-row n (omega (arith, catalogue-count)) ∙ f);
}

-- The lists for fewer registers and constants are rows of the catalogue, narrowed: one test, computed for every r ≤ 5 and c ≤ 2.
-- Assumes nothing.
use Prim.Native.Nat.{ℕ, suc, ◌+◌, ◌*◌, ◌-◌, ◌≤◌, ◌<◌}
use mathlib.Core.Bool.{Bool, true, false, ◌&&◌}
use mathlib.Core.List.{List, [], ◌∷◌, map, map-map, flat_map}
use mathlib.Core.Path.{◌≡◌, refl, sym, ap, ◌∙◌}
use native.Mathlib.Nat.{sub-zero}
use native.Mathlib.Numerals.{add-one}
use native.Mathlib.Omega.{arith}
use lib.Dec.{T}
use lib.ListN.{length, get_or, take, drop, set, length-map, length-drop}
use lib.Seq.{length-take-le, get_or-take}
use Rattle.graphs.specs.Lists.{up_from, eq_list, select}
use Rattle.graphs.proofs.Lists.{and_elim, eq_list→eq, get_d_map, get_or-mem, select-mem, up_from-mem}
use Rattle.classes.specs.Classes.{lists}
use Rattle.lists.specs.Arrays.{written}
use Rattle.lists.specs.Searches.{all_from}
use Rattle.catalogue.specs.FlatCatalogue.{catalogue, row}
use Rattle.catalogue.specs.Serving.{serves, narrow, narrow_row, serving_rows}
use Rattle.catalogue.proofs.Tested.{below, below-pair}
use Rattle.catalogue.proofs.Copying.{drop_head, overlay, overlay_next, overlay_all, row-entry}
use Rattle.catalogue.proofs.Complete.{catalogue-count, catalogue-row, lists-legal}

abbrev eq_rows : List (List ℕ) → List (List ℕ) → Bool
eq_rows [] [] = true
eq_rows [] (l ∷ ls) = false
eq_rows (k ∷ ks) [] = false
eq_rows (k ∷ ks) (l ∷ ls) = eq_list k l && eq_rows ks ls

eq_rows→eq : (ks ls : List (List ℕ)) → T (eq_rows ks ls) → ks ≡ ls
eq_rows→eq [] [] t = refl
eq_rows→eq (k ∷ ks) (l ∷ ls) t = let (h, r) = and_elim (eq_list k l) (eq_rows ks ls) t in cc (eq_list→eq k l h, eq_rows→eq ks ls r)
eq_rows→eq [] (l ∷ ls) t = elim t [ ]
eq_rows→eq (k ∷ ks) [] t = elim t [ ]

right : ℕ → ℕ → Bool
right r c = eq_rows (map (narrow_row r c) (select (serves r c) (lists 5 2))) (lists r c)

tested : T (below 6 (λ r. below 3 (right r)))
unfolding right serves all_from narrow flat_map
tested = tt

narrowed : (r c : ℕ) → r ≤ 5 → c ≤ 2 → map (narrow_row r c) (select (serves r c) (lists 5 2)) ≡ lists r c
unfolding right
narrowed r c h k =
    eq_rows→eq (map (narrow_row r c) (select (serves r c) (lists 5 2))) (lists r c) (below-pair 6 3 right tested r c (omega arith) (omega arith))

-- rows picked by their numbers are the rows that pass
picked : (p : List ℕ → Bool) (g : ℕ → List ℕ) (rows : List (List ℕ)) (i : ℕ) → ((j : ℕ) → j < length rows → g (i + j) ≡ get_or rows j [])
    → map g (select (λ n. p (g n)) (up_from i (length rows))) ≡ select p rows
picked p g [] i h = refl
picked p g (k ∷ rows) i h =
    step (p k) refl (picked p g rows (suc i) (λ j l. let e : i + suc j ≡ suc i + j = omega arith in rw e at (h (suc j) (omega arith))))
  where
    here : g i ≡ k
    here = let e : i + 0 ≡ i = omega arith in rw e at (h 0 (omega arith))

    step : (b : Bool) → p k ≡ b → map g (select (λ n. p (g n)) (up_from (suc i) (length rows))) ≡ select p rows
        → map g (select (λ n. p (g n)) (up_from i (suc (length rows)))) ≡ select p (k ∷ rows)
    step true e rest = rw (here, e) (cc (here, rest))
    step false e rest = rw (here, e) rest

-- the lists for r registers and c constants are the rows that serve, narrowed
pub serving_lists : (r c : ℕ) → r ≤ 5 → c ≤ 2 → map (λ n. narrow_row r c (row catalogue n)) (serving_rows r c) ≡ lists r c
unfolding serving_rows
serving_lists r c h k =
    sym (map-map (narrow_row r c) (row catalogue) (serving_rows r c))
    ∙ ap (λ m. map (narrow_row r c) (map (row catalogue) (select (λ n. serves r c (row catalogue n)) (up_from 0 m)))) (sym catalogue-count)
    ∙ ap (map (narrow_row r c)) (picked (serves r c) (row catalogue) (lists 5 2) 0
    (λ j l. let e : 0 + j ≡ j = omega arith in rw e (catalogue-row j (omega (arith, catalogue-count)))))
    ∙ narrowed r c h k

pub serving_length : (r c : ℕ) → r ≤ 5 → c ≤ 2 → length (serving_rows r c) ≡ length (lists r c)
serving_length r c h k = sym (length-map (serving_rows r c) (λ n. narrow_row r c (row catalogue n))) ∙ ap (λ l. length l) (serving_lists r c h k)

pub serving_rows_lem : (r c : ℕ) → serving_rows r c ≡ select (λ n. serves r c (row catalogue n)) (up_from 0 674)
unfolding serving_rows
serving_rows_lem r c = refl

selected_below : (p : ℕ → Bool) (total i : ℕ) → i < length (select p (up_from 0 total)) → get_or (select p (up_from 0 total)) i 0 < total
selected_below p total i h =
    let (m, t) = select-mem p (up_from 0 total) (get_or-mem (select p (up_from 0 total)) i 0 h) in
    let (low, high) = up_from-mem 0 total m in
    omega arith

pub serving_below : (r c i : ℕ) → i < length (serving_rows r c) → get_or (serving_rows r c) i 0 < 674
unfolding serving_rows
serving_below r c i h = selected_below (λ n. serves r c (row catalogue n)) 674 i h

-- the list with a number is the row that serves for it, narrowed
pub serving_row : (r c number : ℕ) → r ≤ 5 → c ≤ 2 → number < length (lists r c)
    → narrow_row r c (row catalogue (get_or (serving_rows r c) number 0)) ≡ get_or (lists r c) number []
serving_row r c number h k l =
    sym (get_d_map (λ n. narrow_row r c (row catalogue n)) (serving_rows r c) number 0 [] (omega (arith, serving_length r c h k)))
    ∙ ap (λ ls. get_or ls number []) (serving_lists r c h k)

-- a label of that list
pub serving_label : (r c number i : ℕ) → r ≤ 5 → c ≤ 2 → number < length (lists r c) → i < r
    → narrow c (get_or catalogue (get_or (serving_rows r c) number 0 * 5 + i) 0) ≡ get_or (get_or (lists r c) number []) i 0
serving_label r c number i h k l b =
    let n : ℕ = get_or (serving_rows r c) number 0 in
    let below : n < 674 = serving_below r c number (omega (arith, serving_length r c h k)) in
    let five : length (row catalogue n) ≡ 5 = rw (catalogue-row n below) (lists-legal 5 2 n (omega (arith, catalogue-count))).1 in
    ap (narrow c) (sym (get_or-take r (row catalogue n) i 0 b ∙ row-entry catalogue 5 n i (omega arith)))
    ∙ sym (get_d_map (narrow c) (take r (row catalogue n)) i 0 0 (omega (arith, length-take-le r (row catalogue n) (omega arith))))
    ∙ ap (λ q. get_or q i 0) (serving_row r c number h k l)

-- Filling the list of row numbers: the rows up to n are tested, and `count` of them are written

pub record Filling (p : ℕ → Bool) (total : ℕ) (all buffer rows : List ℕ) (count n : ℕ) : Type 0 where
  pub within : n ≤ total
  pub few : count ≤ length all
  pub left : drop count all ≡ select p (up_from n (total - n))
  pub done : rows ≡ overlay all buffer count

module _ (p : ℕ → Bool) (total : ℕ) (all buffer : List ℕ) where
  pub filling_first : all ≡ select p (up_from 0 total) → Filling p total all buffer buffer 0 0
  filling_first e = record { within = omega arith; few = omega arith; left = rw (sub-zero total) e; done = refl }

  module _ (rows : List ℕ) (count n : ℕ) (f : Filling p total all buffer rows count n) (h : n < total) where
    from-here : up_from n (total - n) ≡ n ∷ up_from (n + 1) (total - (n + 1))
    from-here = let e : total - n ≡ suc (total - (n + 1)) = omega arith in rw (e, add-one n)

    kept : p n ≡ true → drop count all ≡ n ∷ select p (up_from (n + 1) (total - (n + 1)))
    kept t = f.left ∙ ap (select p) from-here ∙ rw t

    pub filling_room : p n ≡ true → count < length all
    filling_room t = (drop_head all count n _ (kept t)).0

    pub filling_kept : p n ≡ true → length all ≤ length buffer → Filling p total all buffer (set rows count n) (count + 1) (n + 1)
    filling_kept t room =
        let (l, e, rest) = drop_head all count n _ (kept t) in
        record {
          within = omega arith;
          few = omega arith;
          left = rw (add-one count) rest;
          done = rw f.done (overlay_next all buffer count n l (omega arith) e);
        }

    pub filling_passed : p n ≡ false → Filling p total all buffer rows count (n + 1)
    filling_passed t = record { within = omega arith; few = f.few; left = f.left ∙ ap (select p) from-here ∙ rw t; done = f.done }

  pub filling_ended : (rows : List ℕ) (count n : ℕ) → Filling p total all buffer rows count n → total ≤ n → rows ≡ written all buffer
  filling_ended rows count n f h =
      let z : total - n ≡ 0 = omega arith in
      let none : drop count all ≡ [] = f.left ∙ rw z in
      f.done ∙ overlay_all all buffer count (omega (arith, length-drop count all, ap (λ l. length l) none, f.few))

-- The flat list of the labels of all classes: its length, its rows and its entries.
-- Assumes nothing.
use Prim.Native.Nat.{ℕ, ◌+◌, ◌*◌, ◌≤◌, ◌<◌}
use mathlib.Core.List.{List, []}
use mathlib.Core.Path.{◌≡◌, sym, ap, ◌∙◌}
use native.Mathlib.Omega.{arith}
use lib.ListN.{length, get_or, take, drop}
use lib.Seq.{paste, take_all}
use Rattle.classes.specs.Classes.{lists}
use Rattle.lists.specs.Arrays.{padded}
use Rattle.lists.proofs.Arrays.{padded-length, padded-entry}
use Rattle.catalogue.specs.Serving.{label_rows}
use Rattle.catalogue.proofs.Copying.{flat_length, flat_row, row-entry, overlay, overlay_row}
use Rattle.catalogue.proofs.Complete.{lists-legal}

module _ (r c : ℕ) (h : r ≤ 5) where
  pub label_rows-length : length (label_rows r c) ≡ length (lists r c) * 5
  unfolding label_rows
  label_rows-length = flat_length (padded 5) 5 (lists r c) (λ k m. padded-length 5 k)

  pub label_rows-row : (k : ℕ) → k < length (lists r c) → take 5 (drop (k * 5) (label_rows r c)) ≡ padded 5 (get_or (lists r c) k [])
  unfolding label_rows
  label_rows-row k l = flat_row (padded 5) 5 (lists r c) [] (λ q m. padded-length 5 q) k l

  -- the labels of one class more
  pub label_rows_more : (buffer : List ℕ) (k : ℕ) → k < length (lists r c) → 5 * length (lists r c) ≤ length buffer
      → paste (overlay (label_rows r c) buffer (k * 5)) (k * 5) (padded 5 (get_or (lists r c) k [])) 5 ≡ overlay (label_rows r c) buffer ((k + 1) * 5)
  label_rows_more buffer k l room =
      let e : k * 5 + 5 ≡ (k + 1) * 5 = omega arith in
      overlay_row (label_rows r c) buffer (k * 5) 5 (padded 5 (get_or (lists r c) k [])) (omega (arith, label_rows-length)) (omega arith)
      (take_all 5 (padded 5 (get_or (lists r c) k [])) (omega (arith, padded-length 5 (get_or (lists r c) k []))) ∙ sym (label_rows-row k l))
      ∙ ap (overlay (label_rows r c) buffer) e

  -- label i of class k
  pub label_rows-entry : (k i : ℕ) → k < length (lists r c) → i < 5 → get_or (label_rows r c) (5 * k + i) 0 ≡ get_or (get_or (lists r c) k []) i 0
  label_rows-entry k i l b =
      let e : 5 * k + i ≡ k * 5 + i = omega arith in
      ap (λ j. get_or (label_rows r c) j 0) e
      ∙ sym (row-entry (label_rows r c) 5 k i b)
      ∙ ap (λ q. get_or q i 0) (label_rows-row k l)
      ∙ padded-entry 5 (get_or (lists r c) k []) i (omega (arith, (lists-legal r c k l).1))

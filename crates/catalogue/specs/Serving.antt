-- The lists for r ≤ 5 registers and c ≤ 2 constants, read off the catalogue. There a list stands with its blocks after two constants,
-- and with label 1 in the registers that it does not have. That keeps the dictionary order, so the rows of this form serve in their order.
-- Assumes nothing.
use Rattle.std.specs.Prelude.{ℕ, ◌-◌, Bool, true, false, cond, ◌||◌, eqb, leb, ltb, get_or, take}
use mathlib.Core.List.{List, map, flat_map}
use Rattle.lists.specs.Searches.{all_from}
use Rattle.graphs.specs.Lists.{select, up_from}
use Rattle.classes.specs.Classes.{lists}
use Rattle.lists.specs.Arrays.{padded}
use Rattle.catalogue.specs.FlatCatalogue.{catalogue, row}

-- whether a label may stand in a register: none of a constant above c, and 1 where the register is not there
abbrev pub serves_label : Bool → ℕ → ℕ → Bool
serves_label true c x = leb x c || ltb 2 x
serves_label false c x = eqb x 1

-- whether a row serves r registers and c constants
unfoldable pub serves : ℕ → ℕ → List ℕ → Bool
serves r c k = all_from (λ i. serves_label (ltb i r) c (get_or k i 0)) 0 5

-- a label of such a row, for c constants
unfoldable pub narrow : ℕ → ℕ → ℕ
narrow c x = cond (leb x c) x (x - (2 - c))

-- the list for which such a row serves
abbrev pub narrow_row : ℕ → ℕ → List ℕ → List ℕ
narrow_row r c k = map (narrow c) (take r k)

-- the numbers, rising, of the catalogue's rows that serve r registers and c constants
unfoldable pub serving_rows : ℕ → ℕ → List ℕ
serving_rows r c = select (λ n. serves r c (row catalogue n)) (up_from 0 674)

-- the lists of all classes, five labels to a class with zeros after its own, one after the other
unfoldable pub label_rows : ℕ → ℕ → List ℕ
label_rows r c = flat_map (padded 5) (lists r c)

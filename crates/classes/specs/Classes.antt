-- A class of valuations as a list of labels: a constant's number, or the number of constants plus the block's number (source 001, section 3); and the contents
-- given back for it.
-- Assumes nothing.
use Rattle.std.specs.Prelude.{ℕ, zero, suc, ◌≤◌, ◌<◌, max, cond, ◌≢◌, ◌≡◌, eqb, ltb, length, get_or}
use mathlib.Core.List.{List, [], ◌∷◌, ◌++◌, map, flat_map}
use Rattle.graphs.specs.Lists.{item, up_from, eq_list}
use Rattle.classes.specs.Renaming.{Absent}

-- the position of d in xs, counted from 0; length xs where it is not there
abbrev pub position : List ℕ → ℕ → ℕ
position [] d = 0
position (x ∷ xs) d = cond (eqb x d) 0 (suc (position xs d))

-- the identifiers that have a label, in label order, once d has one
abbrev pub noted : List ℕ → ℕ → List ℕ
noted seen d = cond (ltb (position seen d) (length seen)) seen (seen ++ (d ∷ []))

-- the labels of a valuation, given the identifiers that have a label already, in label order from 1
abbrev pub labels : List ℕ → List ℕ → List ℕ
labels seen [] = []
labels seen (d ∷ ds) = suc (position seen d) ∷ labels (noted seen d) ds

-- all legal lists of n labels over b constants, in dictionary order
abbrev pub lists : ℕ → ℕ → List (List ℕ)
lists zero b = [] ∷ []
lists (suc n) b = flat_map (λ x. map (λ l. x ∷ l) (lists n (max b x))) (up_from 1 (suc b))

-- the number of a list in a catalogue, counted from 0
abbrev pub index : List (List ℕ) → List ℕ → ℕ
index [] k = 0
index (l ∷ ls) k = cond (eq_list l k) 0 (suc (index ls k))

-- d is no constant, and none of the first i registers of v holds it
abbrev pub Unused : List ℕ → List ℕ → ℕ → ℕ → Type 0
Unused cs v i d = Absent d cs × ((j : ℕ) → j < i → get_or v j 0 ≢ d)

-- v are the contents that document 01 gives back for the class k: a constant by its label, one identifier for each block, and for the first register of a
-- block the smallest identifier that is no constant and not yet used
pub record GivenBack (cs k v : List ℕ) : Type 0 where
  pub wide : length v ≡ length k
  pub constants : (i : ℕ) → i < length k → get_or k i 0 ≤ length cs → get_or v i 0 ≡ item cs (get_or k i 0)
  pub blocks : (i j : ℕ) → i < j → j < length k → get_or k i 0 ≡ get_or k j 0 → get_or v i 0 ≡ get_or v j 0
  pub smallest : (i : ℕ) → i < length k → length cs < get_or k i 0 → ((j : ℕ) → j < i → get_or k j 0 ≢ get_or k i 0)
      → Unused cs v i (get_or v i 0) × ((d : ℕ) → Unused cs v i d → get_or v i 0 ≤ d)

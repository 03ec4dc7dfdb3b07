-- The catalogue: all lists for five registers and two constants, one after the other.
-- Assumes nothing.
use Rattle.std.specs.Prelude.{ℕ, ◌*◌, ◌<◌, ◌≡◌, length, take, drop}
use mathlib.Core.List.{List, flat_map}
use Rattle.graphs.specs.Lists.{Dictionary}
use Rattle.classes.specs.Classes.{lists}
use Rattle.classes.specs.Contents.{Legal}

-- the catalogue, five labels to a row
unfoldable pub catalogue : List ℕ
catalogue = flat_map (λ k. k) (lists 5 2)

-- row n, counted from 0, of a flat list with five labels to a row
abbrev pub row : List ℕ → ℕ → List ℕ
row flat n = take 5 (drop (n * 5) flat)

-- a flat list is legal, rising and complete: its 674 rows are the legal lists of five labels over two constants, in dictionary order
pub record Complete (flat : List ℕ) : Type 0 where
  pub size : length flat ≡ 3370
  pub legal : (n : ℕ) → n < 674 → Legal 2 (row flat n) × (length (row flat n) ≡ 5)
  pub rising : (m n : ℕ) → m < n → n < 674 → Dictionary (row flat m) (row flat n)
  pub complete : (k : List ℕ) → Legal 2 k → length k ≡ 5 → (n : ℕ) × (n < 674) × (row flat n ≡ k)

-- The class of a matrix: the answer, and a valuation that has the matrix where any has it.
-- Assumes nothing.
use Rattle.std.specs.Prelude.{ℕ, ◌+◌, ◌*◌, ◌-◌, Bool, cond, not, List, map, eqb, leb, get_or, Option, Some, None}
use Rattle.std.proofs.Math.Option as math
use Rattle.lists.specs.Searches.{first_from}
use Rattle.graphs.specs.Lists.{up_from}
use Rattle.classes.specs.Classes.{lists, index}

-- the class number of the list that has the matrix, or that no contents have it
abbrev pub found : ℕ → ℕ → math.Option (List ℕ) → Option ℕ
found r c math.none = None
found r c (math.some k) = Some (index (lists r c) k)

-- entry j, counted from place `at`, is not 0
abbrev pub is_equal : List ℕ → ℕ → ℕ → Bool
is_equal m at j = not (eqb (get_or m (at + j) 0) 0)

-- the first such of n entries, or n: where a row begins at this place, the first register that is equal to the row's own
abbrev pub first_equal : List ℕ → ℕ → ℕ → ℕ
first_equal m at n = first_from (is_equal m at) 0 n

-- an identifier for a register, by its entry on the diagonal and its first equal register: the constant's label, or 3 + that register
abbrev pub register_of : ℕ → ℕ → ℕ
register_of d first = cond (leb 2 d) (d - 1) (3 + first)

-- the valuation that these make, over the constants 1 and 2
unfoldable pub valuation_of : ℕ → List ℕ → List ℕ
valuation_of r m = map (λ i. register_of (get_or m (i * r + i) 0) (first_equal m (i * r) r)) (up_from 0 r)

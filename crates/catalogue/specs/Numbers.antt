-- How many legal lists there are, by a recurrence, and how many stand before a list.
-- Assumes nothing.
use Rattle.std.specs.Prelude.{ℕ, zero, suc, ◌+◌, ◌*◌, ◌-◌, max, List, [], ◌∷◌, length}

-- the number of legal lists of n labels over b constants: each label up to b is followed by as many lists
unfoldable pub list_count : ℕ → ℕ → ℕ
list_count zero b = 1
list_count (suc n) b = b * list_count n b + list_count n (suc b)

-- the number of legal lists, as many labels long and over b constants, that stand before k
unfoldable pub rank : ℕ → List ℕ → ℕ
rank b [] = 0
rank b (x ∷ k) = (x - 1) * list_count (length k) b + rank (max b x) k

-- How lists stand in arrays and in lent buffers, so that a contract determines each whole.
-- Assumes nothing.
use Rattle.std.specs.Prelude.{ℕ, zero, suc, List, [], ◌∷◌, ◌++◌, ◌≡◌, length, drop}

-- the first n entries, with zeros where there are fewer
unfoldable pub padded : ℕ → List ℕ → List ℕ
padded zero xs = []
padded (suc n) [] = 0 ∷ padded n []
padded (suc n) (x ∷ xs) = x ∷ padded n xs

-- a list written to the front of a buffer: the rest is kept
abbrev pub written : List ℕ → List ℕ → List ℕ
written xs buffer = xs ++ drop (length xs) buffer

-- from place n on a buffer is as it was
abbrev pub Kept : ℕ → (before after : List ℕ) → Type 0
Kept n before after = (length after ≡ length before) × (drop n after ≡ drop n before)

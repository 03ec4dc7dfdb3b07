-- Arrays as loops fill them, one number after the other.
-- Assumes nothing.
use Rattle.std.specs.Prelude.{ℕ, zero, suc, ◌+◌, List, ◌≡◌, length, take, set}

-- a buffer has the list at its front
abbrev pub Begins : List ℕ → List ℕ → Type 0
Begins xs buffer = take (length xs) buffer ≡ xs

-- the list xs, with f 0, .., f (n - 1) from place to on
unfoldable pub filled : List ℕ → ℕ → (ℕ → ℕ) → ℕ → List ℕ
filled xs to f zero = xs
filled xs to f (suc n) = set (filled xs to f n) (to + n) (f n)

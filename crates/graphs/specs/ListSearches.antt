-- Searches through lists: how answers are found.
-- Assumes nothing.
use Rattle.std.specs.Prelude.{ℕ, Bool}
use Rattle.std.proofs.Math.Option.{Option}
use Rattle.graphs.specs.Lists.{up_from, first}

-- the least of i, i + 1, .. , i + n - 1 that passes the test
abbrev pub least : (ℕ → Bool) → ℕ → ℕ → Option ℕ
least p i n = first p (up_from i n)

-- How identifiers in order lie in their struct, and that their list gives the struct back.
-- Assumes nothing.
use Rattle.std.specs.Prelude.{ℕ, ◌≤◌, List, ◌≡◌, length, take}
use Rattle.lists.specs.Arrays.{padded}
use Rattle.labelling.specs.declared.seen.Seen.TheInside.{Inside}

-- the struct of these identifiers
abbrev pub seen_of : List ℕ → Inside
seen_of xs = record { count = length xs; ids = padded 17 xs }

-- at most 17 identifiers, and zeros after them
pub record Tidy (s : Inside) : Type 0 where
  pub few : s.count ≤ 17
  pub given_back : seen_of (take s.count s.ids) ≡ s

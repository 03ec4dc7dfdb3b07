-- The one number that a function of the reader returns, and what it says.
-- Assumes nothing.
use Rattle.std.specs.Prelude.{ℕ, ◌/◌, ◌%◌, cond, ltb}

-- read up to a byte, with the rows up to there or the value of a numeral, or stopped at a byte, each counted from 0
pub data Step : Type 0 where
  read : ℕ → ℕ → Step
  stopped : ℕ → Step

-- below 1024 a number is the byte at which it stops; any other has the next byte as its remainder by 1024, and what was read as the quotient
unfoldable pub step_of : ℕ → Step
step_of r = cond (ltb r 1024) (Step.stopped r) (Step.read (r % 1024) (r / 1024))

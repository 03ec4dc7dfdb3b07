-- How wide the fields of a line are: the one place that reading and printing look at. This is what a reader believes.
-- Assumes nothing.
use Rattle.std.specs.Prelude.{ℕ, Bool, false, cond, ◌&&◌, leb, eqb}
use Rattle.columns.specs.declared.Sheet.{Sheet}
use Rattle.columns.specs.declared.Sheet.TheVariants.{Table, Run, Answer, Plain}

-- field i, from 0, of a line that begins with the number k is an identifier: in a table what follows the kind 2; of a run's moment what follows moment,
-- transition and location; of a question's answer, where it is no, what follows 0 and the class
abbrev pub identifier : Sheet → ℕ → ℕ → Bool
identifier Table k i = eqb k 2 && eqb i 1
identifier Run k i = leb 3 i
identifier Answer k i = eqb k 0 && leb 2 i
identifier Plain k i = false

-- identifiers have twelve columns, all other numbers six
unfoldable pub width : Sheet → ℕ → ℕ → ℕ
width s k i = cond (identifier s k i) 12 6

-- the largest identifier: twelve columns hold more
abbrev pub largest : ℕ
largest = 4294967295

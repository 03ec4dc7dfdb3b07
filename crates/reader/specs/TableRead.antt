-- The counters of a table's reader between two lines. Not to be believed.
-- Assumes nothing.
use Rattle.std.specs.Prelude.{ℕ, ◌≤◌}
use Rattle.std.proofs.Common.{arith}
use Rattle.reader.specs.declared.Progress.{Progress}

-- the counters are at most n, as after n lines
pub record Small (p : Progress) (n : ℕ) : Type 0 where
  pub ids_small : p.ids ≤ n
  pub acts_small : p.acts ≤ n
  pub transition-small : p.transition ≤ n
  pub place_small : p.place ≤ n
  pub conds_small : p.conds ≤ n

pub small_weaken : (p : Progress) (n m : ℕ) → n ≤ m → Small p n → Small p m
small_weaken p n m h s = record { ids_small = omega arith; acts_small = omega arith; transition-small = omega arith; place_small = omega arith; conds_small = omega arith }

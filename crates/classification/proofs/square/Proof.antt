-- `classification::square` meets its contract.
-- Assumes nothing.
use borrow.Author.Rules.{rules}
use native.Mathlib.Nat.{mul-le-mul}
use Prim.Native.Nat.{◌≤◌}
use native.Mathlib.Omega.{arith}
use Rattle.classification.proofs.square.Statement.{statement}
use Rattle.classification.proofs.square.Tie as tie

mul-result : tie.Need-overflow_mul-result
mul-result c =
    let p : c.args.n ≤ 4294967295 = omega arith in
    omega (arith, mul-le-mul p p)

pub square_spec : {M : Type 1} → statement M
square_spec = tie.close (tie.spec mul-result (λ c. search rules))

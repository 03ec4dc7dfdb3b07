-- `texts::location` meets its contract. Assumes nothing.
use Prim.Native.Nat.{◌≤◌}
use native.Mathlib.Omega.{arith}
use lib.ListN.{length, take}
use Rattle.texts.proofs.Openings.{take_short}
use Rattle.texts.proofs.StepCodes.{step-stopped, number-stopped, number_read}
use Rattle.texts.proofs.Walks.{right-location, right-location_broken}
use borrow.Author.Rules.{rules}
use Rattle.texts.proofs.location.Statement.{statement}
use Rattle.texts.proofs.location.Tie as tie

short : (c : tie.Start) → length (take c.args.n c.args.s.now) ≤ 400
short c = take_short c.args.n c.args.s.now c.requires.1

returns : tie.Need-returns-then-v-lt1024
returns c =
    let a = c.args in
    let s = take a.n a.s.now in
    right-location_broken s a.at a.rows a.t.now _ (number-stopped s a.at _ c.number-v.ensures c.if-v-lt1024.true) _ a.t.now (step-stopped _ c.if-v-lt1024.true)

closed-requires : tie.Need-closed-requires
closed-requires c κs = omega (arith, short c.before.before.before)

returns-2 : tie.Need-returns
returns-2 c =
    let a = c.args in
    let s = take a.n a.s.now in
    right-location s a.at a.rows a.t.now _ _ (number_read s a.at _ c.number-v.ensures c.if-v-lt1024.false) _ _ c.closed.ensures.1 c.closed.ensures.0

pub location_spec : {M : Type 1} → statement M
location_spec =
    tie.close
    (tie.spec
    (λ c κs. search rules)
    returns
    closed-requires
    returns-2)

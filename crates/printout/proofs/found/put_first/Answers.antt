-- The line of an answer to a target has room, and its numbers are the answer's.
use Rattle.std.proofs.Common.{◌≡◌, ◌∷◌, [], Ok, arith}
use Rattle.witness.specs.declared.Answer.TheVariants.{Never, Reached}
use Rattle.printout.proofs.PutLines.{plain_few}
use Rattle.printout.proofs.found.put_first.Goals as goal

pub put_line-requires : goal.put_line-requires
put_line-requires c = omega (arith, c.requires.1, plain_few (0 ∷ 0 ∷ c.in-Ok-Never.reached ∷ []) (omega arith))

pub put_line-requires-in-Ok-Reached : goal.put_line-requires-in-Ok-Reached
put_line-requires-in-Ok-Reached c = omega (arith, c.requires.1, plain_few (1 ∷ c.in-Ok-Reached.steps ∷ c.in-Ok-Reached.reached ∷ []) (omega arith))

pub put_line-requires-in-Err : goal.put_line-requires-in-Err
put_line-requires-in-Err c = let r = c.in-Err.r in omega (arith, c.requires.1, plain_few (2 ∷ r.number ∷ r.file ∷ r.line ∷ []) (omega arith))

pub returns-in-Ok-Never : goal.returns-in-Ok-Never
returns-in-Ok-Never c =
    let p = c.put_line.ensures.0 in
    let outer : c.args.reply ≡ Ok c.in-Ok-Never.field-0 = c.in-Ok-Never.is in
    let inner = rw c.in-Ok-Never.is at c.in-Ok-Never.field-0-is in
    let e : c.args.reply ≡ Ok (Never c.in-Ok-Never.reached) = cc in
    rw e (omega (arith, p.ends, plain_few (0 ∷ 0 ∷ c.in-Ok-Never.reached ∷ []) (omega arith)), p)

pub returns-in-Ok-Reached : goal.returns-in-Ok-Reached
returns-in-Ok-Reached c =
    let p = c.put_line-in-Ok-Reached.ensures.0 in
    let outer : c.args.reply ≡ Ok c.in-Ok-Reached.field-0 = c.in-Ok-Reached.is in
    let inner = rw c.in-Ok-Reached.is at c.in-Ok-Reached.field-0-is in
    let e : c.args.reply ≡ Ok (Reached c.in-Ok-Reached.steps c.in-Ok-Reached.reached) = cc in
    rw e (omega (arith, p.ends, plain_few (1 ∷ c.in-Ok-Reached.steps ∷ c.in-Ok-Reached.reached ∷ []) (omega arith)), p)

pub returns-in-Err : goal.returns-in-Err
returns-in-Err c =
    let p = c.put_line-in-Err.ensures.0 in
    let r = c.in-Err.r in
    rw c.in-Err.is (omega (arith, p.ends, plain_few (2 ∷ r.number ∷ r.file ∷ r.line ∷ []) (omega arith)), p)

-- The line of an answer to a question has room, and its numbers are the answer's.
use Rattle.std.proofs.Common.{◌≡◌, ◌∷◌, [], ◌+◌, ◌≤◌, ℕ, List, min, length, take, get_or, Ok, subst, arith}
use Rattle.claims.specs.declared.Asking.TheVariants.{No}
use Rattle.std.proofs.Math.Seq.{length-take-le}
use native.Mathlib.Nat.{min-le_right}
use Rattle.columns.specs.declared.Sheet.TheVariants.{Answer}
use Rattle.columns.specs.Columns.{file_bytes}
use Rattle.printout.specs.Text.{Put}
use Rattle.printout.proofs.MomentSlots.{five_taken}
use Rattle.printout.proofs.PutLines.{answer-few, answer_four}
use Rattle.printout.proofs.asked.put_answer.Goals as goal

pub put_line-requires : goal.put_line-requires
put_line-requires c = omega (arith, c.requires.1, answer-few (1 ∷ []) (omega arith))

-- the class and the five slots, of which so many are set
abbrev slots : ℕ → List ℕ → List ℕ
slots k v = 0 ∷ k ∷ get_or v 0 0 ∷ get_or v 1 0 ∷ get_or v 2 0 ∷ get_or v 3 0 ∷ get_or v 4 0 ∷ []

few : (n k r : ℕ) (v : List ℕ) → n ≡ min r 5 → length (take (2 + n) (slots k v)) ≤ 7
few n k r v e =
    let h : 2 + n ≤ 7 = omega (arith, min-le_right r 5) in
    omega (arith, length-take-le (2 + n) (slots k v) h)

pub put_line-requires-in-Ok-No : goal.put_line-requires-in-Ok-No
put_line-requires-in-Ok-No c =
    omega (arith, c.requires.1, answer-few (take (2 + c.min.result) (slots c.in-Ok-No.class c.args.contents)) (few c.min.result c.in-Ok-No.class c.in-Ok-No.registers c.args.contents c.min.ensures))

pub put_line-requires-in-Err : goal.put_line-requires-in-Err
put_line-requires-in-Err c = answer_four _ _ _ _ _ c.requires.1

pub returns-in-Ok-No : goal.returns-in-Ok-No
returns-in-Ok-No c =
    let v = c.args.contents in
    let p = c.put_line-in-Ok-No in
    let e : take (2 + c.min.result) (slots c.in-Ok-No.class v) ≡ 0 ∷ c.in-Ok-No.class ∷ take c.in-Ok-No.registers v =
    five_taken 0 c.in-Ok-No.class v c.in-Ok-No.registers c.min.result (2 + c.min.result) (omega (arith, c.well_formed)) c.min.ensures (omega arith) in
    let outer : c.args.reply ≡ Ok c.in-Ok-No.field-0 = c.in-Ok-No.is in
    let inner = rw c.in-Ok-No.is at c.in-Ok-No.field-0-is in
    let is : c.args.reply ≡ Ok (No c.in-Ok-No.class c.in-Ok-No.registers) = cc in
    rw is (subst (λ x. Put (file_bytes Answer (x ∷ [])) 0 p.result c.args.text.now p.new.text) e p.ensures.0, p.ensures.1)

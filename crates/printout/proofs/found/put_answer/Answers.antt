-- The answer's line, and then the moments.
use Rattle.std.proofs.Common.{◌∷◌, [], ◌++◌, ◌≤◌, length, subst, sym, arith}
use Rattle.std.proofs.Math.Seq.{length-take-le}
use Rattle.columns.specs.declared.Sheet.TheVariants.{Run, Plain}
use Rattle.columns.specs.Columns.{file_bytes}
use Rattle.claims.specs.AnswerNumbers.{reach_numbers}
use Rattle.printout.specs.PrintedLines.{moments}
use Rattle.printout.specs.Text.{Put}
use Rattle.printout.proofs.PutLines.{put_more, put-length}
use Rattle.printout.proofs.found.put_answer.Goals as goal

pub put_moments-requires : goal.put_moments-requires
put_moments-requires c =
    let p = c.put_first-at in
    (omega (arith, c.requires.0, c.requires.1, p.ensures.0, c.moments.ensures, put-length _ _ _ _ _ p.ensures.1), omega (arith, c.requires.0, c.requires.2, c.moments.ensures))

pub returns : goal.returns
returns c =
    let a = c.args in
    let p = c.put_first-at in
    let q = c.put_moments in
    let h : q.result ≤ length q.new.text =
    omega (arith, c.requires.0, c.requires.1, p.ensures.0, c.moments.ensures, q.ensures.0, put-length _ _ _ _ _ p.ensures.1, put-length _ _ _ _ _ q.ensures.1) in (
      subst (λ n. Put (file_bytes Plain (reach_numbers a.reply ∷ []) ++ file_bytes Run (moments n a.slots.now)) 0 q.result a.text.now q.new.text) c.moments.ensures
          (put_more _ _ 0 p.result q.result a.text.now p.new.text q.new.text p.ensures.1 q.ensures.1),
      (h, sym (length-take-le q.result q.new.text h)),
    )

-- The printout is the line of the answer.
use Rattle.std.proofs.Common.{◌≤◌, ℕ, List, length, subst, T, replicate}
use lib.Dec.{le→leb}
use Rattle.columns.specs.declared.Sheet.TheVariants.{Answer}
use Rattle.columns.specs.Columns.{file_bytes}
use Rattle.claims.specs.Files.{AskBuffers, ask_buffers, rows_room}
use Rattle.printout.specs.Text.{Put}
use Rattle.printout.proofs.PrintoutMeaning.{class-printed, asked_line, ask_printout}
use Rattle.printout.proofs.asked.put_asking_over.Goals as goal

-- the memory that is lent to the checker
abbrev buffers : List ℕ → AskBuffers
buffers rows = ask_buffers rows (replicate 5 0)

room : (rows : List ℕ) → 10784 ≤ length rows → T (rows_room (buffers rows))
room rows h = le→leb 10784 (length rows) h

pub put_answer-requires : goal.put_answer-requires
put_answer-requires c =
    let a = c.args in
    let k = c.ask_in-reply.ensures in
    (class-printed a.notation a.table.now a.question.now (buffers a.rows.now) (room a.rows.now c.requires.0) _ _ k.0 k.1, c.requires.1)

pub returns : goal.returns
returns c =
    let a = c.args in
    let k = c.ask_in-reply.ensures in
    let p = c.put_answer in
    record {
      put =
          subst (λ ls. Put (file_bytes Answer ls) 0 p.result a.text.now p.new.text)
          (asked_line a.notation a.table.now a.question.now (buffers a.rows.now) (room a.rows.now c.requires.0) _ _ k.0 k.1) p.ensures.0;
      counts = p.ensures.1;
      means = ask_printout a.notation a.table.now a.question.now;
    }

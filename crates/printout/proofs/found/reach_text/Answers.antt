-- The printout of what the checker returns.
use Rattle.std.proofs.Common.{subst, T, replicate, rules}
use Rattle.claims.specs.Files.{ReachBuffers, reach_buffers, search_room}
use Rattle.printout.specs.Document.{reach_bytes}
use Rattle.printout.specs.Text.{Put}
use Rattle.printout.proofs.PrintoutMeaning.{moments-few, found-lines, reach_printout}
use Rattle.printout.proofs.found.reach_text.Goals as goal

-- the memory that is lent to the checker
abbrev buffers : ReachBuffers
buffers = reach_buffers (replicate 337 0) (replicate 10784 0) (replicate 10784 0) (replicate 97061 0) (replicate 129420 0)

room : T (search_room buffers)
room = tt

pub put_answer-requires : goal.put_answer-requires
put_answer-requires c =
    let a = c.args in
    let k = c.reach-reply.ensures in
    (moments-few a.table.now a.target.now buffers room _ _ k.0 k.6, search rules, search rules)

pub returns : goal.returns
returns c =
    let a = c.args in
    let k = c.reach-reply.ensures in
    let w = c.put_answer in
    record {
      put = subst (λ ls. Put (reach_bytes ls) 0 w.result a.text.now w.new.text) (found-lines a.table.now a.target.now buffers room _ _ k.0 k.6) w.ensures.0;
      counts = w.ensures.1;
      means = reach_printout a.table.now a.target.now;
    }

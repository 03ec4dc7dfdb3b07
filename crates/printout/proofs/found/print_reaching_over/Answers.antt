-- What is handed over is the printout for what was read.
use Rattle.printout.proofs.PutLines.{put_front}
use Rattle.printout.proofs.found.print_reaching_over.Goals as goal

pub hand_over-written-requires : goal.hand_over-written-requires
hand_over-written-requires g c = let x = c.reach_text-n in put_front _ x.result c.args.text.now x.new.text x.ensures.put x.ensures.counts.0

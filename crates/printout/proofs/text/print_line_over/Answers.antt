-- What is handed over is the line.
use Rattle.std.proofs.Common.{arith, [], ◌∷◌}
use Rattle.columns.specs.declared.Sheet.TheVariants.{Plain}
use Rattle.columns.specs.Columns.{file_bytes}
use Rattle.printout.proofs.PutLines.{put_front, one-length}
use Rattle.printout.proofs.text.print_line_over.Goals as goal

pub put_line-end-requires : goal.put_line-end-requires
put_line-end-requires g c = omega (arith, c.requires, one-length c.args.number)

pub hand_over-requires : goal.hand_over-requires
hand_over-requires g c =
    let p = c.put_line-end in
    put_front (file_bytes Plain ((c.args.number ∷ []) ∷ [])) p.result c.args.text.now p.new.text p.ensures.0 p.ensures.1.0

pub returns : goal.returns
returns g c =
    let p = c.put_line-end.ensures.0 in
    record { ends = omega (arith, one-length c.args.number, p.ends); text = p.text }

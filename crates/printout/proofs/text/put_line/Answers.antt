-- `printout::text::put_line` meets its contract.
use Rattle.std.proofs.Common.{arith, ◌+◌, ◌≤◌, length, set, length-set, sym}
use Rattle.std.proofs.Math.Seq.{length-take-le}
use Rattle.columns.specs.Columns.{line_columns}
use Rattle.printout.proofs.PutLines.{line-length, put_ended}
use Rattle.printout.proofs.text.put_line.Goals as goal

pub put_numbers-end-requires : goal.put_numbers-end-requires
put_numbers-end-requires c = omega (arith, c.requires, line-length c.args.sheet c.args.numbers.now)

pub bounds-text-end : goal.bounds-text-end
bounds-text-end c = omega (arith, c.requires, line-length c.args.sheet c.args.numbers.now)

pub overflow_add-result : goal.overflow_add-result
overflow_add-result c = omega (arith, c.requires, line-length c.args.sheet c.args.numbers.now)

pub returns : goal.returns
returns c =
    let p = c.put_numbers-end in
    let h : p.result + 1 ≤ length (set p.new.line p.result 10) = simp length-set (omega (arith, c.requires, line-length c.args.sheet c.args.numbers.now)) in (
      put_ended (line_columns c.args.sheet c.args.numbers.now) c.args.at p.result c.args.text.now p.new.line p.ensures.0 p.ensures.1,
      (h, sym (length-take-le (p.result + 1) (set p.new.line p.result 10) h)),
    )

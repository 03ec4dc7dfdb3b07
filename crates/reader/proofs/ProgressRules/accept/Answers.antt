-- Answers for `reader::ProgressRules::accept`.
use Rattle.std.proofs.Common.{rules, arith, ap, get_or, w32, Fits}
use Rattle.reader.specs.declared.Kind.{Kind}
use Rattle.reader.proofs.Accepted.{read-issued}
use Rattle.reader.proofs.Bounds.{row_low, small-advance}
use Rattle.reader.proofs.ProgressRules.accept.Goals as goal

pub row_of-f-requires : goal.row_of-f-requires
row_of-f-requires c = read-issued c.args.self.now c.requires.judged.0 c.args.f c.requires.judged.1

pub put_row-requires : goal.put_row-requires
put_row-requires c =
    let p = c.args.self.now in
    let f = c.row_of-f.result in
    let h : Fits w32 (get_or f 1 0) = search rules in
    omega (arith, ap (λ (k : Kind). k.row) c.kind_at-k.ensures, row_low p (get_or f 0 0) (get_or f 1 0) c.requires.small h.fits)

pub returns-clause-small : goal.returns-clause-small
returns-clause-small c n s = rw c.advanced.ensures (small-advance c.args.self.now _ _ _ n s)

-- So many moments have their lines, and then one more.
use Rattle.std.proofs.Common.{arith}
use Rattle.columns.specs.declared.Sheet.TheVariants.{Run}
use Rattle.printout.proofs.MomentSlots.{moments-none, moments_more}
use Rattle.printout.proofs.text.put_moments.Goals as goal

pub loop-k-init : goal.loop-k-init
loop-k-init c = let a = c.args in (omega arith, moments-none Run a.slots.now a.at a.text.now)

pub loop-k-preserved : goal.loop-k-preserved
loop-k-preserved c =
    let a = c.args in
    let l = c.loop-k in
    let p = c.put_moment-end in (
      omega (arith, p.ensures.0, l.invariant.0),
      moments_more Run l.k a.slots.now a.at l.end p.result a.text.now l.text p.new.text l.invariant.1 p.ensures.1,
    )

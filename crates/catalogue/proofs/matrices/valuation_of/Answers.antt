-- `matrices::valuation_of` meets its contract.
use Rattle.std.proofs.Common.{sym, ◌∙◌, arith}
use Rattle.catalogue.specs.MatrixCells.{valuation_of}
use Rattle.catalogue.proofs.Copying.{copied_first, copied_next, copied_ended}
use Rattle.catalogue.proofs.MatrixRows.{valuation-length, valuation-entry}
use Rattle.catalogue.proofs.matrices.valuation_of.Goals as goal

pub loop-i-init : goal.loop-i-init
loop-i-init c =
    let a = c.args in
    let len = valuation-length a.r a.matrix.now in
    copied_first (valuation_of a.r a.matrix.now) (omega arith)

pub loop-i-preserved : goal.loop-i-preserved
loop-i-preserved c =
    let a = c.args in
    let l = c.loop-i in
    let len = valuation-length a.r a.matrix.now in
    copied_next (valuation_of a.r a.matrix.now) l.list l.i c.register_of.result l.invariant (omega arith)
    (valuation-entry a.r a.matrix.now l.i (omega arith) ∙ sym (c.register_of.ensures ∙ rw c.first_equal.ensures.0))

pub returns : goal.returns
returns c =
    let a = c.args in
    let l = c.loop-i in
    let len = valuation-length a.r a.matrix.now in
    copied_ended (valuation_of a.r a.matrix.now) l.list l.i l.invariant (omega arith)

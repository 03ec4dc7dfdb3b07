-- `matrices::matrix_of` meets its contract.
use Rattle.std.proofs.Common.{◌≡◌, ◌<◌, ◌+◌, ◌-◌, ◌*◌, map, length, get_or, take, sym, ap₂, ◌∙◌, arith, rules}
use Rattle.std.proofs.lemmas.List.{length-map}
use Rattle.std.proofs.lemmas.Slice.{put_mid-paste}
use Rattle.classes.specs.Matrix.{cell, matrix}
use Rattle.catalogue.proofs.Copying.{overlay_all}
use Rattle.catalogue.proofs.MatrixRows.{cells_own, matrix-length, matrix_more}
use Rattle.catalogue.proofs.matrices.matrix_of.Goals as goal

pub loop-i-preserved : goal.loop-i-preserved
loop-i-preserved c =
    let a = c.args in
    let l = c.loop-i in
    let v = take a.r a.contents in
    let x = get_or v l.i 0 in
    let len : length v ≡ a.r = search rules in
    let i : l.i < a.r = omega arith in
    let row : c.fill_row.new.row ≡ map (cell (take a.c a.constants) x) v =
    c.fill_row.ensures ∙ rw c.own_entry-own.ensures (cells_own (take a.c a.constants) x v) in
    put_mid-paste (l.i * a.r) (l.i * a.r + a.r - l.i * a.r) l.out c.fill_row.new.row _ a.r row (omega arith) (omega (arith, length-map v (cell (take a.c a.constants) x)))
    ∙ rw l.invariant (matrix_more (take a.c a.constants) v a.r a.out.now l.i len i c.requires.2)

pub returns : goal.returns
returns c =
    let a = c.args in
    let l = c.loop-i in
    let len : length (take a.r a.contents) ≡ a.r = search rules in
    let e : l.i ≡ a.r = omega arith in
    l.invariant
    ∙ overlay_all (matrix (take a.c a.constants) (take a.r a.contents)) a.out.now (l.i * a.r)
    (sym (matrix-length (take a.c a.constants) (take a.r a.contents) ∙ ap₂ ◌*◌ (len ∙ sym e) len))

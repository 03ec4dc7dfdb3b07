-- `matrices::fill_row` meets its contract.
use Rattle.std.proofs.Common.{◌≡◌, cond, eqb, map, List, ℕ, get_or, length, sym, ◌∙◌, arith}
use Rattle.std.proofs.Common.{eq-eqb, ne_eqb}
use Rattle.std.proofs.lemmas.List.{length-map}
use Rattle.graphs.proofs.Lists.{get_d_map}
use Rattle.catalogue.proofs.Copying.{overlay_next}
use Rattle.catalogue.proofs.matrices.fill_row.Goals as goal
use Rattle.catalogue.proofs.matrices.fill_row.Goals.{then-y-x, else-y-x}

pub loop-j-preserved : goal.loop-j-preserved
loop-j-preserved c =
    let a = c.args in
    let l = c.loop-j in
    let entry = λ (y : ℕ). cond (eqb a.x y) a.own 0 in
    let s : List ℕ = map entry a.contents.now in
    let len : length s ≡ length a.contents.now = length-map a.contents.now entry in
    let e : get_or s l.j 0 ≡ entry (get_or a.contents.now l.j 0) = get_d_map entry a.contents.now l.j 0 0 (omega arith) in
    rw l.invariant (overlay_next s a.row.now l.j c.if-y-x.row (omega arith) (omega arith)
    (elim c.if-y-x.branch [
      | then-y-x w ↦ e ∙ rw (eq-eqb a.x (get_or a.contents.now l.j 0) (sym w.if-y-x.true)) (sym w.row-is)
      | else-y-x w ↦ e ∙ rw (ne_eqb a.x (get_or a.contents.now l.j 0) (λ q. w.if-y-x.false (sym q))) (sym w.row-is)
    ]))

-- `matrices::class_of_matrix` meets its contract: the matrix of the valuation is compared with the one that was given.
use Rattle.std.proofs.Common.{T, sym, ◌∙◌}
use mathlib.Core.Path.{subst⁻¹}
use Rattle.catalogue.proofs.MatrixRows.{found-same, found_other}
use Rattle.catalogue.proofs.matrices.class_of_matrix.Goals as goal

pub returns-then-same_entries : goal.returns-then-same_entries
returns-then-same_entries c =
    let a = c.args in
    let p = c.requires in
    let v = c.valuation_of-contents in
    let o = c.matrix_of in
    found-same a.r a.c p.0 p.1 a.matrix.now v.result v.ensures o.new.out _ p.2 o.ensures
    (subst⁻¹ T (sym c.same_entries.ensures ∙ c.if-same_entries.true) tt) c.class_of.result c.class_of.ensures

pub returns-else-same_entries : goal.returns-else-same_entries
returns-else-same_entries c =
    let a = c.args in
    let p = c.requires in
    let v = c.valuation_of-contents in
    let o = c.matrix_of in
    found_other a.r a.c p.0 p.1 a.matrix.now v.result v.ensures o.new.out _ p.2 o.ensures (sym c.same_entries.ensures ∙ c.if-same_entries.false)

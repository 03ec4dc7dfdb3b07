-- `matrices::class_matrix` meets its contract: the constants are the labels 1 to c.
use mathlib.Core.Path.{◌∙◌}
use native.Mathlib.Omega.{arith}
use borrow.Author.Rules.{rules}
use Rattle.labelling.proofs.Noted.{marks-take}
use Rattle.catalogue.proofs.matrices.class_matrix.Statement.{statement}
use Rattle.catalogue.proofs.matrices.class_matrix.Tie as tie

returns : tie.Need-returns
returns c =
    let a = c.args in
    c.matrix_of.ensures
    ∙ rw (marks-take a.c (omega arith), c.wide_labels.ensures)

pub class_matrix_spec : {M : Type 1} → statement M
class_matrix_spec =
    tie.close (tie.spec (λ c κs. search rules) (λ c κs. search rules) (λ c. search rules) returns)

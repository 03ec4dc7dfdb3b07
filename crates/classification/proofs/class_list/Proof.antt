-- `classification::class_list` meets its contract.
-- Assumes nothing.
use borrow.Author.Rules.{rules}
use Rattle.lists.proofs.Arrays.{written-begins}
use Rattle.catalogue.specs.Serving.{serving_rows}
use Rattle.classes.proofs.Catalogue.{few-lists}
use Rattle.classification.proofs.class_list.Statement.{statement}
use Rattle.classification.proofs.class_list.Tie as tie

fill-rows-requires : tie.Need-fill_rows-requires
fill-rows-requires c κs = let e = c in (c.table-table.ensures, e.requires.0, e.requires.1, few-lists e.args.r e.args.c e.requires.0 e.requires.1)

class-labels-requires : tie.Need-class_labels-requires
class-labels-requires c κs =
    let e = c in
    (c.table-table.ensures, e.requires.0, e.requires.1, rw c.fill_rows.ensures (written-begins (serving_rows e.args.r e.args.c) _), e.requires.2)

pub class_list_spec : {M : Type 1} → statement M
class_list_spec =
    tie.close
    (tie.spec
    (λ c κs. search rules)
    (λ c. search rules)
    (λ c. search rules)
    fill-rows-requires
    (λ c. search rules)
    (λ c. search rules)
    class-labels-requires
    (λ c. search rules))

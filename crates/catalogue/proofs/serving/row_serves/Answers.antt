-- `serving::row_serves` meets its contract.
use Rattle.std.proofs.Common.{ℕ, Bool, ltb, List, get_or, sym, ap, ◌∙◌, arith}
use Rattle.lists.proofs.Searches.{all_start, all-fails, all_more, all_done}
use Rattle.catalogue.specs.FlatCatalogue.{row}
use Rattle.catalogue.specs.Serving.{serves_label, serves}
use Rattle.catalogue.proofs.Copying.{row-entry}
use Rattle.catalogue.proofs.serving.row_serves.Goals as goal

abbrev label : List ℕ → ℕ → ℕ → ℕ → ℕ → Bool
label table n r c i = serves_label (ltb i r) c (get_or (row table n) i 0)

pub loop-i-init : goal.loop-i-init
unfolding serves
loop-i-init c = let a = c.args in all_start (label a.table.now a.n a.r a.c) 5 0

pub returns-then-not-label_serves : goal.returns-then-not-label_serves
returns-then-not-label_serves c =
    let a = c.args in
    let i = c.loop-i.i in
    sym (all-fails (label a.table.now a.n a.r a.c) 5 i (omega arith)
    (ap (serves_label (ltb i a.r) a.c) (row-entry a.table.now 5 a.n i (omega arith)) ∙ sym c.label_serves.ensures ∙ c.if-not-label_serves.true))
    ∙ c.loop-i.invariant

pub loop-i-preserved : goal.loop-i-preserved
loop-i-preserved c =
    let a = c.args in
    let i = c.loop-i.i in
    sym (all_more (label a.table.now a.n a.r a.c) 5 i (omega arith)
    (ap (serves_label (ltb i a.r) a.c) (row-entry a.table.now 5 a.n i (omega arith)) ∙ sym c.label_serves.ensures ∙ c.if-not-label_serves.false))
    ∙ c.loop-i.invariant

pub returns : goal.returns
returns c =
    let a = c.args in
    sym (all_done (label a.table.now a.n a.r a.c) 5 c.loop-i.i (omega arith)) ∙ c.loop-i.invariant

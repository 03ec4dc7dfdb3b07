-- `serving::fill_rows` meets its contract.
use Rattle.std.proofs.Common.{ℕ, ◌≡◌, Bool, length, sym, ap, ◌∙◌, arith, rules}
use Rattle.catalogue.specs.FlatCatalogue.{catalogue, row}
use Rattle.catalogue.specs.Serving.{serves, serving_rows}
use Rattle.catalogue.proofs.Complete.{catalogue-length}
use Rattle.catalogue.proofs.Narrowed.{serving_rows_lem, serving_length, filling_first, filling_room, filling_kept, filling_passed, filling_ended}
use Rattle.catalogue.proofs.serving.fill_rows.Goals as goal
use Rattle.catalogue.proofs.serving.fill_rows.Goals.{then-row_serves, else-row_serves}

pub loop-n-init : goal.loop-n-init
loop-n-init c =
    let a = c.args in
    filling_first (λ m. serves a.r a.c (row catalogue m)) 674 (serving_rows a.r a.c) a.rows.now (serving_rows_lem a.r a.c)

pub row_serves-requires : goal.row_serves-requires
row_serves-requires c =
    let len : length c.args.table.now ≡ 3370 = ap (λ t. length t) c.requires.0 ∙ catalogue-length in
    search rules

pub bounds-rows-count : goal.bounds-rows-count
bounds-rows-count c =
    let a = c.args in
    let l = c.loop-n in
    omega (
      arith,
      serving_length a.r a.c c.requires.1 c.requires.2,
      filling_room (λ m. serves a.r a.c (row catalogue m)) 674 (serving_rows a.r a.c) a.rows.now l.rows l.count l.n l.invariant (omega arith)
          (rw (← c.requires.0) (sym c.row_serves.ensures ∙ c.if-row_serves.true)),
    )

pub loop-n-preserved : goal.loop-n-preserved
loop-n-preserved c =
    let a = c.args in
    let l = c.loop-n in
    let p : ℕ → Bool = λ m. serves a.r a.c (row catalogue m) in
    let all = serving_rows a.r a.c in
    let room = serving_length a.r a.c c.requires.1 c.requires.2 in
    elim c.if-row_serves.branch [
      | then-row_serves w ↦ rw (w.rows-is, w.count-is) (filling_kept p 674 all a.rows.now l.rows l.count l.n l.invariant (omega arith)
          (rw (← c.requires.0) (sym c.row_serves.ensures ∙ w.if-row_serves.true)) (omega arith))
      | else-row_serves w ↦ rw (w.rows-is, w.count-is) (filling_passed p 674 all a.rows.now l.rows l.count l.n l.invariant (omega arith)
          (rw (← c.requires.0) (sym c.row_serves.ensures ∙ w.if-row_serves.false)))
    ]

pub returns : goal.returns
returns c =
    let a = c.args in
    let l = c.loop-n in
    filling_ended (λ m. serves a.r a.c (row catalogue m)) 674 (serving_rows a.r a.c) a.rows.now l.rows l.count l.n l.invariant (omega arith)

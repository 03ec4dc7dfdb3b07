-- `serving::class_labels` meets its contract.
use Rattle.std.proofs.Common.{ℕ, ◌≡◌, ◌<◌, ◌≤◌, ◌+◌, ◌-◌, ◌*◌, List, [], get_or, length, take, drop, sym, ap, ◌∙◌, arith, rules, refl, get_or-take, get_or-drop, length-take, length-drop}
use Rattle.classes.specs.Classes.{lists}
use Rattle.lists.specs.Filling.{Begins}
use Rattle.catalogue.specs.FlatCatalogue.{catalogue}
use Rattle.catalogue.specs.Serving.{narrow, serving_rows}
use Rattle.lists.proofs.Arrays.{begins-entry, begins-length}
use Rattle.catalogue.proofs.Copying.{copied_first, copied_next, copied_ended}
use Rattle.catalogue.proofs.Complete.{catalogue-length, lists-legal}
use Rattle.catalogue.proofs.Narrowed.{serving_length, serving_below, serving_label}
use Rattle.catalogue.proofs.serving.class_labels.Goals as goal

module _ (rows : List ℕ) (r c number : ℕ) (h : r ≤ 5) (k : c ≤ 2) (b : Begins (serving_rows r c) rows) (l : number < length (lists r c)) where
  room : number < length rows
  room = omega (arith, begins-length (serving_rows r c) rows b, serving_length r c h k)

  -- the number that is read is that of the row that serves
  read : get_or rows number 0 ≡ get_or (serving_rows r c) number 0
  read = begins-entry (serving_rows r c) rows number b (omega (arith, serving_length r c h k))

  row-below : get_or rows number 0 < 674
  row-below = rw read (serving_below r c number (omega (arith, serving_length r c h k)))

  -- a label that is read, narrowed
  label : (at w i x : ℕ) → at ≡ get_or rows number 0 * 5 → w ≡ r → i < r → x ≡ narrow c (get_or (take w (drop at catalogue)) i 0) → get_or (get_or (lists r c) number []) i 0 ≡ x
  label at w i x e f m n =
      sym (serving_label r c number i h k l m)
      ∙ ap (λ j. narrow c (get_or catalogue (j * 5 + i) 0)) (sym read)
      ∙ ap (λ j. narrow c (get_or catalogue (j + i) 0)) (sym e)
      ∙ ap (narrow c) (sym (get_or-take w (drop at catalogue) i 0 (omega arith) ∙ get_or-drop at catalogue i 0))
      ∙ sym n

pub offset_bounds-rows-number : goal.offset_bounds-rows-number
offset_bounds-rows-number c =
    let a = c.args in
    let p = c.requires in
    let h = room a.rows.now a.r a.c a.number p.1 p.2 p.3 p.4 in
    search rules

pub bounds-rows-number : goal.bounds-rows-number
bounds-rows-number c =
    let a = c.args in
    let p = c.requires in
    room a.rows.now a.r a.c a.number p.1 p.2 p.3 p.4

pub slice_bounds-x-items-end : goal.slice_bounds-x-items-end
slice_bounds-x-items-end c =
    let a = c.args in
    let p = c.requires in
    let h = row-below a.rows.now a.r a.c a.number p.1 p.2 p.3 p.4 in
    let len : length a.table.now ≡ 3370 = ap (λ t. length t) p.0 ∙ catalogue-length in
    search rules

pub loop-i-init : goal.loop-i-init
loop-i-init c =
    let a = c.args in
    copied_first (get_or (lists a.r a.c) a.number []) (omega (arith, (lists-legal a.r a.c a.number c.requires.4).1))

pub loop-i-preserved : goal.loop-i-preserved
loop-i-preserved c =
    let a = c.args in
    let p = c.requires in
    let l = c.loop-i in
    let legal : length (get_or (lists a.r a.c) a.number []) ≡ a.r = (lists-legal a.r a.c a.number p.4).1 in
    let at : ℕ = get_or a.rows.now a.number 0 * 5 in
    let i : l.i < a.r = omega (arith, length-take {A = ℕ}) in
    copied_next (get_or (lists a.r a.c) a.number []) l.labels l.i c.narrowed.result l.invariant (omega arith)
    (label a.rows.now a.r a.c a.number p.1 p.2 p.3 p.4 at (at + a.r - at) l.i c.narrowed.result refl (omega arith) i (rw (← p.0) c.narrowed.ensures))

pub returns : goal.returns
returns c =
    let a = c.args in
    let p = c.requires in
    let l = c.loop-i in
    let legal : length (get_or (lists a.r a.c) a.number []) ≡ a.r = (lists-legal a.r a.c a.number p.4).1 in
    let h = row-below a.rows.now a.r a.c a.number p.1 p.2 p.3 p.4 in
    let len : length a.table.now ≡ 3370 = ap (λ t. length t) p.0 ∙ catalogue-length in
    copied_ended (get_or (lists a.r a.c) a.number []) l.labels l.i l.invariant (omega (arith, length-take {A = ℕ}, length-drop {A = ℕ}))

-- The slots that are lent are those that are shown.
use Rattle.std.proofs.Common.{◌≡◌, ◌-◌, ◌+◌, ◌≤◌, ℕ, min, List, [], ◌∷◌, ap, ◌∙◌, subst, arith, length, get_or, take, drop, length-take}
use native.Mathlib.Nat.{min-le_left, min-le_right}
use Rattle.columns.specs.declared.Sheet.TheVariants.{Run}
use Rattle.columns.specs.Columns.{file_bytes}
use Rattle.printout.specs.PrintedLines.{shown}
use Rattle.printout.specs.Text.{Put}
use Rattle.printout.proofs.PutLines.{run-few}
use Rattle.printout.proofs.text.put_moment.Goals as goal

module _ (slots : List ℕ) (n : ℕ) (few : n ≡ min (get_or slots 0 0) 11) where
  lent-shown : take (1 + n - 1) (drop 1 slots) ≡ shown slots
  lent-shown = let k : 1 + n - 1 ≡ n = omega arith in ap (λ m. take m (drop 1 slots)) (k ∙ few)

  shown-few : length (file_bytes Run (shown slots ∷ [])) ≤ 115
  shown-few =
      run-few (shown slots)
      (omega (arith, length-take (min (get_or slots 0 0) 11) (drop 1 slots), min-le_left (min (get_or slots 0 0) 11) (length (drop 1 slots)), min-le_right (get_or slots 0 0) 11))

pub put_line-requires : goal.put_line-requires
put_line-requires c =
    let a = c.args in
    let n = c.min in
    omega (arith, c.requires.0, shown-few a.slots.now n.result n.ensures, ap (λ x. length (file_bytes Run (x ∷ []))) (lent-shown a.slots.now n.result n.ensures))

pub returns : goal.returns
returns c =
    let a = c.args in
    let p = c.put_line in
    let n = c.min in
    let q : Put (file_bytes Run (shown a.slots.now ∷ [])) a.at p.result a.text.now p.new.text =
    subst (λ x. Put (file_bytes Run (x ∷ [])) a.at p.result a.text.now p.new.text) (lent-shown a.slots.now n.result n.ensures) p.ensures.0 in
    (omega (arith, q.ends, shown-few a.slots.now n.result n.ensures), q)

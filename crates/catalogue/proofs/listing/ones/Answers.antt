-- `listing::ones` meets its contract.
use Rattle.std.proofs.Common.{◌≡◌, ◌+◌, ◌-◌, ap, refl, ◌∙◌, arith, set}
use Rattle.lists.specs.Filling.{filled}
use Rattle.lists.proofs.Arrays.{filled_none, filled_more}
use Rattle.catalogue.proofs.listing.ones.Goals as goal

pub loop-i-init : goal.loop-i-init
loop-i-init c =
    let a = c.args in record {
      within = omega arith;
      done = filled_none a.list a.from (λ j. 1) ∙ ap (filled a.list a.from (λ j. 1)) (omega arith);
    }

pub loop-i-preserved : goal.loop-i-preserved
loop-i-preserved c =
    let a = c.args in
    let l = c.loop-i in
    let at : l.i ≡ a.from + (l.i - a.from) = omega arith in record {
      within = omega arith;
      done =
          ap (λ k. set l.next k 1) at
          ∙ filled_more a.list l.next a.from (λ j. 1) (l.i - a.from) 1 l.invariant.done refl
          ∙ ap (filled a.list a.from (λ j. 1)) (omega arith);
    }

pub returns : goal.returns
returns c =
    let a = c.args in
    c.loop-i.invariant.done ∙ ap (filled a.list a.from (λ j. 1)) (omega arith)

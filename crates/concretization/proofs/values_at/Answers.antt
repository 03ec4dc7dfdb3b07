-- `concretization::values_at` meets its contract: one value more.
use Rattle.std.proofs.Common.{◌≡◌, arith, ap, refl, ◌∙◌}
use Rattle.lists.specs.Arrays.{padded}
use Rattle.forms.specs.Slots.{values_from}
use Rattle.labelling.proofs.NotedTurns.{entry_more}
use Rattle.forms.proofs.TermValues.{values_length}
use Rattle.concretization.proofs.SlotValues.{values_step}
use Rattle.concretization.proofs.values_at.Goals as goal

pub loop-i-init : goal.loop-i-init
unfolding padded
loop-i-init c = refl

pub loop-i-preserved : goal.loop-i-preserved
loop-i-preserved c =
    let a = c.args in
    let l = c.loop-i in
    entry_more (values_from a.vals a.slots 0 l.i) l.i _ l.invariant (values_length a.vals a.slots 0 l.i) (omega arith)
    ∙ ap (padded 5) (values_step a.vals a.slots l.i)

pub returns : goal.returns
returns c =
    let a = c.args in
    let z : c.loop-i.i ≡ a.n = omega arith in
    c.loop-i.invariant ∙ ap (λ k. padded 5 (values_from a.vals a.slots 0 k)) z

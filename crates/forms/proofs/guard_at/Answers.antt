-- `forms::guard_at` meets its contract. Assumes nothing.
use Rattle.std.proofs.Common.{refl, ap, ◌∙◌, ◌+◌, arith}
use Rattle.lists.specs.Arrays.{padded}
use Rattle.forms.specs.FormAutomaton.{condition_at}
use Rattle.forms.specs.Slots.{guard_with}
use Rattle.automata.specs.WellFormed.{fits_condition}
use Rattle.forms.proofs.Encoding.{lines-le, line-passes, guard_more}
use Rattle.forms.proofs.guard_at.Goals as goal

pub loop-i-init : goal.loop-i-init
unfolding padded
loop-i-init c = refl

pub with_condition-g-requires : goal.with_condition-g-requires
with_condition-g-requires c =
    let t = c.args.form.now in (
      omega (arith, c.requires.1),
      c.requires.0,
      omega (arith, ap (λ g. g.count) c.loop-i.invariant, lines-le (condition_at t) t c.args.row c.loop-i.i),
      line-passes (condition_at t) t c.args.row (fits_condition 2 5 3) 8 c.requires.2 c.loop-i.i (omega arith),
    )

pub loop-i-preserved : goal.loop-i-preserved
loop-i-preserved c =
    c.with_condition-g.ensures ∙ ap (λ g. guard_with g c.args.form.now (c.args.row + c.loop-i.i)) c.loop-i.invariant
    ∙ guard_more c.args.form.now c.args.row c.loop-i.i (omega arith)

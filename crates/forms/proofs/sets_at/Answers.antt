-- `forms::sets_at` meets its contract. Assumes nothing.
use Rattle.std.proofs.Common.{refl, ap, ◌∙◌, ◌+◌, arith}
use Rattle.lists.specs.Arrays.{padded}
use Rattle.forms.specs.FormAutomaton.{assignment_at}
use Rattle.forms.specs.Slots.{sets_with}
use Rattle.automata.specs.WellFormed.{fits_assignment}
use Rattle.forms.proofs.Encoding.{lines-le, line-passes, sets_more}
use Rattle.forms.proofs.sets_at.Goals as goal

pub loop-i-init : goal.loop-i-init
unfolding padded
loop-i-init c = refl

pub with_set-s-requires : goal.with_set-s-requires
with_set-s-requires c =
    let t = c.args.form.now in (
      omega (arith, c.requires.1),
      c.requires.0,
      omega (arith, ap (λ g. g.count) c.loop-i.invariant, lines-le (assignment_at t) t c.args.row c.loop-i.i),
      line-passes (assignment_at t) t c.args.row (fits_assignment 2 5 3) 5 c.requires.2 c.loop-i.i (omega arith),
    )

pub loop-i-preserved : goal.loop-i-preserved
loop-i-preserved c =
    c.with_set-s.ensures ∙ ap (λ s. sets_with s c.args.form.now (c.args.row + c.loop-i.i)) c.loop-i.invariant
    ∙ sets_more c.args.form.now c.args.row c.loop-i.i (omega arith)

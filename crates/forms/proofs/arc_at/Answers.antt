-- `forms::arc_at` meets its contract. Assumes nothing.
use Rattle.std.proofs.Common.{arith}
use Rattle.forms.proofs.Forms.{located, arc_made}
use Rattle.forms.proofs.arc_at.Goals as goal

pub guard_at-guard-requires : goal.guard_at-guard-requires
guard_at-guard-requires c =
    let f = located c.args.form.now c.requires.0 c.args.i c.requires.1 in
    (c.requires.0.long, omega (arith, f.low), f.guard)

pub sets_at-s-requires : goal.sets_at-s-requires
sets_at-s-requires c =
    let f = located c.args.form.now c.requires.0 c.args.i c.requires.1 in
    (c.requires.0.long, omega (arith, f.low), f.assigns)

pub returns : goal.returns
returns c =
    arc_made c.args.form.now c.requires.0 c.args.i c.requires.1 c.field-from.ensures c.field-action.ensures
    c.field-to.ensures c.parameters-params.ensures.0 c.guard_at-guard.ensures c.sets_at-s.ensures

pub overflow_cast-result : goal.overflow_cast-result
overflow_cast-result c = omega (arith, c.field-from.ensures, (located c.args.form.now c.requires.0 c.args.i c.requires.1).from.1)

pub overflow_cast-result-2 : goal.overflow_cast-result-2
overflow_cast-result-2 c = omega (arith, c.field-action.ensures, (located c.args.form.now c.requires.0 c.args.i c.requires.1).action.1)

pub overflow_cast-result-3 : goal.overflow_cast-result-3
overflow_cast-result-3 c = omega (arith, c.field-to.ensures, (located c.args.form.now c.requires.0 c.args.i c.requires.1).to.1)

-- `forms::with_condition` meets its contract. Assumes nothing.
use Rattle.std.proofs.Common.{sym}
use Rattle.forms.proofs.Forms.{guard_with-none, guard_with-line}
use Rattle.forms.proofs.with_condition.Goals as goal

pub returns-then-form-at-eq0 : goal.returns-then-form-at-eq0
returns-then-form-at-eq0 c = sym (guard_with-none c.args.g c.args.form.now c.args.row c.if-form-at-eq0.true)

pub returns : goal.returns
returns c = guard_with-line c.args.g c.args.form.now c.args.row c.if-form-at-eq0.false c.slot.ensures c.sign.ensures c.slot-2.ensures

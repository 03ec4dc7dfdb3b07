-- `forms::with_set` meets its contract. Assumes nothing.
use Rattle.std.proofs.Common.{sym}
use Rattle.forms.proofs.Forms.{sets_with-none, sets_with-line}
use Rattle.forms.proofs.with_set.Goals as goal

pub returns-then-form-at-eq0 : goal.returns-then-form-at-eq0
returns-then-form-at-eq0 c = sym (sets_with-none c.args.s c.args.form.now c.args.row c.if-form-at-eq0.true)

pub returns : goal.returns
returns c = sets_with-line c.args.s c.args.form.now c.args.row c.if-form-at-eq0.false c.slot.ensures

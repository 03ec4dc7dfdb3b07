-- `forms::store` meets its contract: past the end nothing is written. Assumes nothing.
use Rattle.std.proofs.Common.{sym}
use Rattle.std.proofs.Math.Seq.{set_out}
use Rattle.forms.proofs.rows.store.Goals as goal

pub returns-else-i-form : goal.returns-else-i-form
returns-else-i-form c = sym (set_out c.args.form.now c.args.i c.args.v c.if-i-form.false)

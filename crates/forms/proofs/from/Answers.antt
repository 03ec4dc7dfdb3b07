-- `forms::from` meets its contract: the number in the form is that of its transition. Assumes nothing.
use Rattle.forms.proofs.Accessors.{from_is}
use Rattle.forms.proofs.from.Goals as goal

pub returns : goal.returns
returns c = rw c.field.ensures (from_is c.args.form.now c.requires.0 c.args.i c.requires.1)

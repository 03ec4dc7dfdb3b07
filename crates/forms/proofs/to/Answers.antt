-- `forms::to` meets its contract: the number in the form is that of its transition. Assumes nothing.
use Rattle.forms.proofs.Accessors.{to_is}
use Rattle.forms.proofs.to.Goals as goal

pub returns : goal.returns
returns c = rw c.field.ensures (to_is c.args.form.now c.requires.0 c.args.i c.requires.1)

-- `forms::constants` meets its contract: the number in the form is that of its automaton. Assumes nothing.
use Rattle.forms.proofs.Accessors.{constants-is}
use Rattle.forms.proofs.constants.Goals as goal

pub returns : goal.returns
returns c = constants-is c.args.form.now c.requires

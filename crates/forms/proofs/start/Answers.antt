-- `forms::start` meets its contract: the number in the form is that of its automaton. Assumes nothing.
use Rattle.forms.proofs.Accessors.{start_is}
use Rattle.forms.proofs.start.Goals as goal

pub returns : goal.returns
returns c = start_is c.args.form.now c.requires

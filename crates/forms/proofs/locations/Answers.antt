-- `forms::locations` meets its contract: the number in the form is that of its automaton. Assumes nothing.
use Rattle.forms.proofs.Accessors.{locations-is}
use Rattle.forms.proofs.locations.Goals as goal

pub returns : goal.returns
returns c = locations-is c.args.form.now c.requires

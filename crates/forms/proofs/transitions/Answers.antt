-- `forms::transitions` meets its contract: the number in the form is that of its automaton. Assumes nothing.
use Rattle.forms.proofs.Accessors.{transitions-is}
use Rattle.forms.proofs.transitions.Goals as goal

pub returns : goal.returns
returns c = transitions-is c.args.form.now c.requires

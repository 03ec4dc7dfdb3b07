-- `forms::registers` meets its contract: the number in the form is that of its automaton. Assumes nothing.
use Rattle.forms.proofs.Accessors.{registers-is}
use Rattle.forms.proofs.registers.Goals as goal

pub returns : goal.returns
returns c = registers-is c.args.form.now c.requires

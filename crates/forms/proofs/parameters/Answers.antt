-- `forms::parameters` meets its contract. Assumes nothing.
use Rattle.std.proofs.Common.{arith}
use Rattle.forms.proofs.Forms.{located}
use Rattle.forms.proofs.Accessors.{parameters_are}
use Rattle.forms.proofs.parameters.Goals as goal

pub action_arity-requires : goal.action_arity-requires
action_arity-requires c = (c.requires.0.long, omega (arith, c.field-action.ensures, (located c.args.form.now c.requires.0 c.args.i c.requires.1).action.1))

pub returns : goal.returns
returns c = rw c.action_arity.ensures (parameters_are c.args.form.now c.requires.0 c.args.i c.requires.1 _ c.field-action.ensures)

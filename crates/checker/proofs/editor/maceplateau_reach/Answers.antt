-- `editor::maceplateau_reach`: the number is low, and says what the reply means.
use Rattle.std.proofs.Common.{◌∙◌, arith}
use Rattle.checker.proofs.Codes.{code-low, reach_meant}
use Rattle.checker.proofs.editor.maceplateau_reach.Goals as goal

pub code-requires : goal.code-requires
code-requires c = omega (arith, c.reaches.ensures, code-low c.args.table.now c.args.target.now)

pub returns : goal.returns
returns c = reach_meant c.args.table.now c.args.target.now _ (c.code.ensures ∙ c.reaches.ensures)

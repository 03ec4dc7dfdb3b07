-- `editor::maceplateau_ask`: the number is low, and says what the reply means.
use Rattle.std.proofs.Common.{◌∙◌, arith}
use Rattle.claims.specs.declared.Notation.TheVariants.{Rows}
use Rattle.checker.proofs.Codes.{ask-low, ask_meant}
use Rattle.checker.proofs.editor.maceplateau_ask.Goals as goal

pub code-requires : goal.code-requires
code-requires c = omega (arith, c.holds.ensures, ask-low Rows c.args.table.now c.args.question.now)

pub returns : goal.returns
returns c = ask_meant Rows c.args.table.now c.args.question.now _ (c.code.ensures ∙ c.holds.ensures)

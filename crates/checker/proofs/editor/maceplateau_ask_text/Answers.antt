-- `editor::maceplateau_ask_text`: the number is low, and says what the reply means.
use Rattle.std.proofs.Common.{◌∙◌, arith}
use Rattle.claims.specs.declared.Notation.TheVariants.{Text}
use Rattle.checker.proofs.Codes.{ask-low, ask_meant}
use Rattle.checker.proofs.editor.maceplateau_ask_text.Goals as goal

pub code-requires : goal.code-requires
code-requires c = omega (arith, c.holds.ensures, ask-low Text c.args.table.now c.args.text.now)

pub returns : goal.returns
returns c = ask_meant Text c.args.table.now c.args.text.now _ (c.code.ensures ∙ c.holds.ensures)

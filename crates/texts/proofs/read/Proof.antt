-- `texts::read` meets its contract. Assumes nothing.
use Rattle.texts.proofs.StepCodes.{step_code}
use borrow.Author.Rules.{rules}
use Rattle.texts.proofs.read.Statement.{statement}
use Rattle.texts.proofs.read.Tie as tie

returns : tie.Need-returns
returns c = step_code c.args.at c.args.n c.requires.0 c.requires.1

pub read_spec : {M : Type 1} → statement M
read_spec = tie.close (tie.spec (λ c. search rules) (λ c. search rules) returns)

-- `numbers::class_count` meets its contract.
use mathlib.Core.Path.{sym, ◌∙◌}
use borrow.Author.Rules.{rules}
use Rattle.catalogue.proofs.Ranked.{length-lists}
use Rattle.catalogue.proofs.numbers.class_count.Statement.{statement}
use Rattle.catalogue.proofs.numbers.class_count.Tie as tie

returns : tie.Need-returns
returns c = let a = c.args in c.count_of.ensures ∙ sym (length-lists a.r a.c)

pub class_count_spec : {M : Type 1} → statement M
class_count_spec = tie.close (tie.spec (λ c κs. search rules) (λ c. search rules) returns)

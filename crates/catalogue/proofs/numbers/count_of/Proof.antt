-- `numbers::count_of` meets its contract: the table is `count_table`, whose rule is one computed test.
use mathlib.Core.List.{flat_map}
use borrow.Author.Rules.{rules}
use Rattle.catalogue.specs.Numbers.{list_count}
use Rattle.catalogue.proofs.Ranked.{count_table, count_at}
use Rattle.catalogue.proofs.numbers.count_of.Statement.{statement}
use Rattle.catalogue.proofs.numbers.count_of.Tie as tie

returns : tie.Need-returns
unfolding count_table list_count flat_map
returns c = count_at c.args.n c.args.b (search rules) (search rules)

pub count_of_spec : {M : Type 1} → statement M
count_of_spec = tie.close (tie.spec (λ c. search rules) (λ c. search rules) (λ c. search rules) (λ c. search rules) returns)

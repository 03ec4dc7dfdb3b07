-- `flat::table` meets its contract: the constant is the definition's lists, one after the other. This is the catalogue's one test,
-- computed entry by entry.
use mathlib.Core.List.{flat_map}
use mathlib.Core.Path.{refl}
use Rattle.catalogue.specs.FlatCatalogue.{catalogue}
use Rattle.catalogue.proofs.flat.table.Statement.{statement}
use Rattle.catalogue.proofs.flat.table.Tie as tie

pub table_spec : {M : Type 1} → statement M
unfolding flat_map catalogue
table_spec = tie.close (tie.spec (λ c. refl))

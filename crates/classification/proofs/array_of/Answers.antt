-- `classification::array_of` meets its contract.
use Rattle.std.proofs.Common.{◌++◌, length, sym, ap₂, ◌∙◌}
use Rattle.std.proofs.lemmas.List.{drop-replicate}
use Rattle.lists.proofs.Arrays.{padded_zeros}
use Rattle.classification.proofs.array_of.Goals as goal

pub returns : goal.returns
returns g c = ap₂ ◌++◌ c.copy_from_slice.ensures.after (drop-replicate (length c.args.list.now) g.row.N 0) ∙ sym (padded_zeros g.row.N c.args.list.now c.requires)

-- `listing::raise` meets its contract.
use Rattle.std.proofs.Common.{ap, ◌∙◌}
use Rattle.catalogue.specs.Listing.{raised_at, raised}
use Rattle.catalogue.proofs.listing.raise.Goals as goal

pub returns : goal.returns
unfolding raised
returns c = let a = c.args in c.ones.ensures ∙ ap (λ p. raised_at a.r p a.list) c.rising-at.ensures.0

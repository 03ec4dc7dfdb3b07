-- `serving::narrowed` meets its contract.
use Rattle.std.proofs.Common.{le-leb}
use Rattle.std.proofs.lemmas.Bool.{lt-leb}
use Rattle.catalogue.specs.Serving.{narrow}
use Rattle.catalogue.proofs.serving.narrowed.Goals as goal

pub returns-then-x-c : goal.returns-then-x-c
unfolding narrow
returns-then-x-c c = rw (le-leb _ _ c.if-x-c.true)

pub returns-else-x-c : goal.returns-else-x-c
unfolding narrow
returns-else-x-c c = rw (lt-leb _ _ c.if-x-c.false) c.saturating_sub.ensures

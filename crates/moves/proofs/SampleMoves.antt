-- Document 01's sample: the walk that is found, and that of the sample without the line `8 1 1 1`.
-- Assumes nothing.
use mathlib.Core.List.{flat_map}
use mathlib.Core.Option.{some}
use mathlib.Core.Path.{◌≡◌, refl}
use Rattle.graphs.specs.Search.{Walk}
use Rattle.graphs.specs.Search.Walk.{start, ◌▸◌}
use Rattle.automata.specs.Answers.{nearest_to}
use Rattle.automata.specs.Examples.{sample, loose, delivered, delivered_by_one}

abbrev pub walk : Walk
walk = start 0 ▸ 7 ▸ 14

pub sample-walk : nearest_to sample delivered ≡ some walk
unfolding flat_map
sample-walk = refl

abbrev pub loose_walk : Walk
loose_walk = start 0 ▸ 7 ▸ 13

pub loose-walk : nearest_to loose delivered_by_one ≡ some loose_walk
unfolding flat_map
loose-walk = refl

-- All examples pass their tests, by computation.
-- Assumes nothing.
use mathlib.Core.List.{◌++◌, flat_map, zip_with}
use lib.Dec.{T}
use Rattle.graphs.specs.Lists.{all_of}
use Rattle.graphs.proofs.Lists.{all_of-append}
use Rattle.automata.specs.Examples.{check, starred, of_kinds, stays, examples}

starred_pass : T (all_of check starred)
unfolding flat_map zip_with
starred_pass = tt

kinds_pass : T (all_of check of_kinds)
unfolding flat_map zip_with
kinds_pass = tt

stays_pass : T (all_of check stays)
unfolding flat_map zip_with
stays_pass = tt

pub passes : T (all_of check examples)
passes = all_of-append check starred (of_kinds ++ stays) starred_pass (all_of-append check of_kinds stays kinds_pass stays_pass)

-- When a table has a start at all (document 01's refusal 7). This is what a reader believes.
-- Assumes nothing.
use Rattle.std.specs.Prelude.{Bool, []}
use Rattle.graphs.specs.Lists.{all_of, any_of}
use Rattle.automata.specs.Automaton.{Automaton, meets}
use Rattle.automata.specs.Configurations.{classes}
use Rattle.automata.specs.ConfigurationGraph.{marks}

-- some class meets the start conditions; `startable-exact` shows that this is so exactly if some contents meet them
unfoldable pub startable : Automaton → Bool
startable a = any_of (λ k. all_of (meets (marks a) k []) a.starting) (classes a)

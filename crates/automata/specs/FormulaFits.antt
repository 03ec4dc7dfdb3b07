-- The formulas all of whose numbers are in range.
-- Assumes nothing.
use Rattle.std.specs.Prelude.{Bool, ◌&&◌}
use Rattle.graphs.specs.Formulas.{Formula}
use Rattle.graphs.specs.Systems.{every_atom}
use Rattle.automata.specs.Automaton.{Automaton}
use Rattle.automata.specs.Questions.{Atom}
use Rattle.automata.specs.Questions.Atom.{at, equal, is}
use Rattle.automata.specs.WellFormed.{inside, constant_count}

abbrev pub fits_atom : Automaton → Atom → Bool
fits_atom a (at l) = inside a.locations l
fits_atom a (equal i j) = inside a.registers i && inside a.registers j
fits_atom a (is i j) = inside a.registers i && inside (constant_count a) j

abbrev pub fits_formula : Automaton → Formula Atom → Bool
fits_formula a f = every_atom (fits_atom a) f

-- The automata, targets and questions whose numbers are all in range: what reading a file guarantees.
-- Assumes nothing.
use Rattle.std.specs.Prelude.{ℕ, suc, Bool, true, ◌&&◌, List, [], ◌∷◌, map, ◌≡◌, T, leb, eqb, length}
use Rattle.graphs.specs.Lists.{all_of}
use Rattle.classes.specs.Renaming.{rising}
use Rattle.automata.specs.Automaton.{Term, Condition, Assignment, Transition, Automaton, arity}
use Rattle.automata.specs.Automaton.Term.{register, parameter, constant}
use Rattle.automata.specs.Runs.{State, Target}
use Rattle.automata.specs.Questions.{Row, Use, kind_of}
use Rattle.automata.specs.Questions.Use.{location_number, register_number, constant_number, row_number, unused}

-- i is one of 1 to n
abbrev pub inside : ℕ → ℕ → Bool
inside n i = leb 1 i && leb i n

-- among c constants, r registers and p parameters
abbrev pub fits_term : ℕ → ℕ → ℕ → Term → Bool
fits_term c r p (register i) = inside r i
fits_term c r p (parameter i) = inside p i
fits_term c r p (constant i) = inside c i

abbrev pub fits_condition : ℕ → ℕ → ℕ → Condition → Bool
fits_condition c r p d = fits_term c r p d.left && fits_term c r p d.right

abbrev pub fits_assignment : ℕ → ℕ → ℕ → Assignment → Bool
fits_assignment c r p s = inside r s.register && fits_term c r p s.source

-- the number of constants
abbrev pub constant_count : Automaton → ℕ
constant_count a = length a.constants

-- locations, action and terms are there, and the assigned registers rise, so that none is assigned twice
abbrev pub fits_transition : Automaton → Transition → Bool
fits_transition a t =
    inside a.locations t.from && inside (length a.arities) t.action && inside a.locations t.to
    && all_of (fits_condition (constant_count a) a.registers (arity a t)) t.guard
    && all_of (fits_assignment (constant_count a) a.registers (arity a t)) t.assigns
    && rising (map (λ s. s.register) t.assigns)

-- conditions with no parameters, as of starts and targets
abbrev pub fits_conditions : Automaton → List Condition → Bool
fits_conditions a g = all_of (fits_condition (constant_count a) a.registers 0) g

-- constants rise, the start is a location, and every number that conditions and transitions name is in range
abbrev pub well_formed : Automaton → Bool
well_formed a = rising a.constants && inside a.locations a.start && fits_conditions a a.starting && all_of (fits_transition a) a.transitions

-- document 01's limits: 0 to 5 registers, 0 to 2 constants, 1 to 16 places, 1 to 16 actions of 0 to 3 parameters, 0 to 64 arcs, 0 to 8 conditions each
abbrev pub limited : Automaton → Bool
limited a =
    leb a.registers 5 && leb (constant_count a) 2 && inside 16 a.locations && inside 16 (length a.arities) && all_of (λ n. leb n 3) a.arities
    && leb (length a.starting) 8 && leb (length a.transitions) 64 && all_of (λ t. leb (length t.guard) 8) a.transitions

abbrev pub fits_target : Automaton → Target → Bool
fits_target a g = inside a.locations g.location && fits_conditions a g.conditions

-- the field names something that is there; n rows stand before
abbrev pub fits_use : Automaton → ℕ → Use → ℕ → Bool
fits_use a n location_number x = inside a.locations x
fits_use a n register_number x = inside a.registers x
fits_use a n constant_number x = inside (constant_count a) x
fits_use a n row_number x = inside n x
fits_use a n unused x = eqb x 0

-- a kind from 1 to 14, and fields that fit it, after n rows
abbrev pub fits_row : Automaton → ℕ → Row → Bool
fits_row a n r = inside 14 r.kind && fits_use a n (kind_of r.kind).first r.first && fits_use a n (kind_of r.kind).second r.second

abbrev pub fits_rows : Automaton → ℕ → List Row → Bool
fits_rows a n [] = true
fits_rows a n (r ∷ rs) = fits_row a n r && fits_rows a (suc n) rs

-- a question of document 01: 1 to 32 rows, each of which names earlier rows only
abbrev pub fits_question : Automaton → List Row → Bool
fits_question a rs = inside 32 (length rs) && fits_rows a 0 rs

-- a state of the automaton
pub record Proper (a : Automaton) (s : State) : Type 0 where
  pub location : T (inside a.locations s.location)
  pub wide : length s.valuation ≡ a.registers

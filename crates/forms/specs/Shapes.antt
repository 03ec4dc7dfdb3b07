-- The fourteen kinds of rows as the code has them: what each field names, and the rule that gives the row's set. `proofs/KindTable` shows that they are
-- those of the table of kinds in crate automata.
-- Assumes nothing.
use Rattle.std.specs.Prelude.{ℕ, Bool, List, [], ◌∷◌, get_or}
use Rattle.graphs.specs.Formulas.{Formula}
use Rattle.graphs.specs.Systems.{every_atom}
use Rattle.graphs.specs.Formulas.Formula.{truth, atom, neg, both, EX, EU, EG}
use Rattle.automata.specs.Automaton.{Automaton}
use Rattle.automata.specs.Questions.{Atom}
use Rattle.automata.specs.Questions as meaning
use Rattle.automata.specs.Questions.Atom.{at, equal, is}
use Rattle.automata.specs.Questions.Use.{location_number, register_number, constant_number, row_number, unused}
use Rattle.automata.specs.WellFormed.{inside}
use Rattle.automata.specs.FormulaFits.{fits_atom}
use Rattle.forms.specs.declared.Use.{Use}
use Rattle.forms.specs.declared.Use.TheVariants.{Location, Register, Constant, Row, Unused}
use Rattle.forms.specs.declared.Operand.{Operand}
use Rattle.forms.specs.declared.Operand.TheVariants.{True, First, Second, NotFirst, NotSecond}
use Rattle.forms.specs.declared.Operation.{Operation}
use Rattle.forms.specs.declared.Operation.TheVariants.{At, Equal, Is, And, Ex, Until, Globally}
use Rattle.forms.specs.declared.Rule.{Rule}
use Rattle.forms.specs.declared.Rule.TheVariants.{Plain, Not}
use Rattle.forms.specs.declared.Shape.{Shape}

-- what the use of a field means
abbrev pub use_of : Use → meaning.Use
use_of Location = location_number
use_of Register = register_number
use_of Constant = constant_number
use_of Row = row_number
use_of Unused = unused

-- what the formula of a rule speaks of: an atom that the fields name, or an earlier row, by its number
pub data Leaf : Type 0 where
  own : Atom → Leaf
  earlier : ℕ → Leaf

-- where a leaf holds, by the sets of the atoms and of the earlier rows
abbrev pub leaves : (Atom → List Bool) → (ℕ → List Bool) → Leaf → List Bool
leaves A S (own x) = A x
leaves A S (earlier i) = S i

-- the formula of an operand, of an operation and of a rule, where the fields are a and b
abbrev pub operand_formula : Operand → ℕ → ℕ → Formula Leaf
operand_formula True a b = truth
operand_formula First a b = atom (earlier a)
operand_formula Second a b = atom (earlier b)
operand_formula NotFirst a b = neg (atom (earlier a))
operand_formula NotSecond a b = neg (atom (earlier b))

abbrev pub operation_formula : Operation → ℕ → ℕ → Formula Leaf
operation_formula At a b = atom (own (at a))
operation_formula Equal a b = atom (own (equal a b))
operation_formula Is a b = atom (own (is a b))
operation_formula (And p q) a b = both (operand_formula p a b) (operand_formula q a b)
operation_formula (Ex p) a b = EX (operand_formula p a b)
operation_formula (Until p q) a b = EU (operand_formula p a b) (operand_formula q a b)
operation_formula (Globally p) a b = EG (operand_formula p a b)

abbrev pub rule_formula : Rule → ℕ → ℕ → Formula Leaf
rule_formula (Plain o) a b = operation_formula o a b
rule_formula (Not o) a b = neg (operation_formula o a b)

-- what the formula speaks of is there: what its atoms name, and its rows among n
abbrev pub fits_leaf : Automaton → ℕ → Leaf → Bool
fits_leaf a n (own x) = fits_atom a x
fits_leaf a n (earlier i) = inside n i

abbrev pub fits_leaves : Automaton → ℕ → Formula Leaf → Bool
fits_leaves a n f = every_atom (fits_leaf a n) f

abbrev pub shape : Use → Use → Rule → Shape
shape u v r = record { first = u; second = v; rule = r }

-- no kind of document 01
abbrev pub no_kind : Shape
no_kind = shape Unused Unused (Plain (And True True))

-- the kinds from 0
abbrev pub shapes : List Shape
shapes =
    no_kind
    ∷ shape Location Unused (Plain At)
    ∷ shape Register Register (Plain Equal)
    ∷ shape Register Constant (Plain Is)
    ∷ shape Row Unused (Not (And First First))
    ∷ shape Row Row (Plain (And First Second))
    ∷ shape Row Unused (Plain (Ex First))
    ∷ shape Row Row (Plain (Until First Second))
    ∷ shape Row Unused (Plain (Globally First))
    ∷ shape Row Row (Not (And NotFirst NotSecond))
    ∷ shape Row Row (Not (And First NotSecond))
    ∷ shape Row Unused (Not (Ex NotFirst))
    ∷ shape Row Unused (Plain (Until True First))
    ∷ shape Row Unused (Not (Until True NotFirst))
    ∷ shape Row Unused (Not (Globally NotFirst))
    ∷ []

-- the shape of the kind of this number
unfoldable pub shape_of : ℕ → Shape
shape_of k = get_or shapes k no_kind

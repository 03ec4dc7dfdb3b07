-- What the functions of the reader give, by the parser of crate grammar.
-- Assumes nothing.
use Rattle.std.specs.Prelude.{ℕ, ◌+◌, ◌≤◌, ◌<◌, Bool, true, false, cond, List, ◌≡◌, eqb, length, drop, Option as Kind, Some, None}
use Rattle.std.proofs.Math.Option.{Option, none, some}
use Rattle.automata.specs.Questions.{row}
use Rattle.automata.specs.Questions.Atom.{at, equal, is}
use Rattle.grammar.specs.Grammar.{Temporal, Join, Question, size, exists_kind, always_kind, rows_from}
use Rattle.grammar.specs.Grammar.Question.{basic, joined, until}
use Rattle.grammar.specs.Parser as parser
use Rattle.grammar.specs.Parser.Read.{got, stop}
use Rattle.texts.specs.Steps.{Step}
use Rattle.texts.specs.Steps.Step.{read, stopped}
use Rattle.texts.specs.RowsPut.{put_first, put_rows}

-- a question from byte i on, counted from 0
unfoldable pub from : List ℕ → ℕ → parser.Read Question
from s i = parser.question (length s) (drop i s)

abbrev pub of_joined : parser.Pair Join → Question
of_joined (p, (o, (q, u))) = joined o p q

abbrev pub of_until : parser.Pair (Unit {0}) → Question
of_until (p, (u, (q, v))) = until p q

-- two questions from byte i on
unfoldable pub pair_from : Bool → List ℕ → ℕ → parser.Read Question
pair_from true s i = parser.each of_until (parser.pair (parser.question (length s)) (parser.only 85) (drop i s))
pair_from false s i = parser.each of_joined (parser.pair (parser.question (length s)) parser.joins (drop i s))

abbrev pub of_equation : parser.Equation → Question
of_equation (i, (u, (parser.Side.register, j))) = basic (equal i j)
of_equation (i, (u, (parser.Side.constant, j))) = basic (is i j)

-- what follows r, from byte i on
unfoldable pub equation_from : List ℕ → ℕ → parser.Read Question
equation_from s i = parser.each of_equation (parser.equation (drop i s))

abbrev pub of_location : ℕ → Question
of_location l = basic (at l)

-- what follows L, from byte i on
unfoldable pub location_from : List ℕ → ℕ → parser.Read Question
location_from s i = parser.each of_location (parser.number (drop i s))

-- the kind of row for X, G or F, or 0 where there is none of them
abbrev pub kind_or0 : (Temporal → ℕ) → Option Temporal → ℕ
kind_or0 kind none = 0
kind_or0 kind (some o) = kind o

-- the kind of row for an operator of two bytes before a question, or 0
unfoldable pub prefix_kind : ℕ → ℕ → ℕ
prefix_kind b c = cond (eqb b 69) (kind_or0 exists_kind (parser.value_of parser.temporals c)) (cond (eqb b 65) (kind_or0 always_kind (parser.value_of parser.temporals c)) 0)

-- an operator before what was read is one row more
abbrev pub prefixed_step : Step → Step
prefixed_step (read a r) = read a (r + 1)
prefixed_step (stopped p) = stopped p

-- the row of an operator, of kind k, behind the rows of what was read
abbrev pub prefixed_rows : ℕ → List ℕ → Step → List ℕ
prefixed_rows k t (read a r) = put_first t r (row k r 0)
prefixed_rows k t (stopped p) = t

-- the kind of row for the byte that joins two questions, or 0
unfoldable pub middle_kind : Bool → ℕ → ℕ
middle_kind true b = cond (eqb b 85) 7 0
middle_kind false b = cond (eqb b 38) 5 (cond (eqb b 124) 9 (cond (eqb b 62) 10 0))

-- the kind of row of an equation, or 0
unfoldable pub side_kind : ℕ → ℕ
side_kind b = cond (eqb b 114) 2 (cond (eqb b 99) 3 0)

-- a kind as a function returns it, none for 0
unfoldable pub kind_or_none : ℕ → Kind ℕ
kind_or_none k = cond (eqb k 0) None (Some k)

-- the answer to o, from byte i on with n rows before and the form t: a question's end and rows, or the byte at which it stops
abbrev pub Right : parser.Read Question → List ℕ → ℕ → ℕ → List ℕ → Step → List ℕ → Type 0
Right o s i n t (read a r) t' =
    (q : Question) × (o ≡ got q (drop a s)) × (r ≡ n + size q) × (t' ≡ put_rows t n (rows_from n q))
    × (i < a) × (a ≤ length s) × (r + i ≤ a + n)
Right o s i n t (stopped p) t' = (o ≡ stop (drop p s)) × (p ≤ length s)

-- a number from byte i on: its value and end, or the byte at which it stops
abbrev pub RightNumber : List ℕ → ℕ → Step → Type 0
RightNumber s i (read p v) = (parser.number (drop i s) ≡ got v (drop p s)) × (i < p) × (p ≤ length s)
RightNumber s i (stopped p) = (parser.number (drop i s) ≡ stop (drop p s)) × (p ≤ length s)

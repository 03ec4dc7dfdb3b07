-- Questions as a line of text (document 02, W1): how each is written, its formula and its rows. This is what a reader believes.
-- Assumes nothing.
use Rattle.std.specs.Prelude.{ℕ, suc, ◌+◌, ◌≤◌, ◌<◌, ◌/◌, ◌%◌, Bool, cond, ◌&&◌, List, [], ◌∷◌, ◌++◌, ◌⊎◌, ◌≡◌, T, ltb, length, take}
use Rattle.graphs.specs.Formulas.{Formula, or, implies, AX, EF, AG, AF}
use Rattle.graphs.specs.Formulas.Formula.{atom, neg, both, EX, EU, EG}
use Rattle.automata.specs.Automaton.{Automaton}
use Rattle.automata.specs.Questions.{Atom, Row, row}
use Rattle.automata.specs.Questions.Atom.{at, equal, is}
use Rattle.automata.specs.WellFormed.{inside, fits_question}

-- next, globally, finally
pub data Temporal : Type 0 where
  X : Temporal
  G : Temporal
  F : Temporal

-- and, or, implies
pub data Join : Type 0 where
  conjunction : Join
  disjunction : Join
  implication : Join

-- an atom; not; E or A with a temporal operator; two questions that are joined; E with until
pub data Question : Type 0 where
  basic : Atom → Question
  negated : Question → Question
  E : Temporal → Question → Question
  A : Temporal → Question → Question
  joined : Join → Question → Question → Question
  until : Question → Question → Question

-- How it is written, in bytes

-- a number below 100 in decimal, without leading zeros
unfoldable pub digits : ℕ → List ℕ
digits n = cond (ltb n 10) ((48 + n) ∷ []) ((48 + n / 10) ∷ (48 + n % 10) ∷ [])

-- L and the location; r and a register, =, r and a register; the same with c and a constant
abbrev pub write_atom : Atom → List ℕ
write_atom (at l) = 76 ∷ digits l
write_atom (equal i j) = 114 ∷ (digits i ++ (61 ∷ 114 ∷ digits j))
write_atom (is i j) = 114 ∷ (digits i ++ (61 ∷ 99 ∷ digits j))

-- X, G, F
abbrev pub temporal_byte : Temporal → ℕ
temporal_byte X = 88
temporal_byte G = 71
temporal_byte F = 70

-- &, |, >
abbrev pub join_byte : Join → ℕ
join_byte conjunction = 38
join_byte disjunction = 124
join_byte implication = 62

-- ! is 33, E 69, A 65, U 85, and round brackets, 40 and 41, stand around two questions
abbrev pub write : Question → List ℕ
write (basic a) = write_atom a
write (negated q) = 33 ∷ write q
write (E o q) = 69 ∷ temporal_byte o ∷ write q
write (A o q) = 65 ∷ temporal_byte o ∷ write q
write (joined o p q) = 40 ∷ (write p ++ (join_byte o ∷ (write q ++ (41 ∷ []))))
write (until p q) = 69 ∷ 40 ∷ (write p ++ (85 ∷ (write q ++ (41 ∷ []))))

-- the numbers of an atom have one or two digits, the first not 0
abbrev pub proper_atom : Atom → Bool
proper_atom (at l) = inside 99 l
proper_atom (equal i j) = inside 99 i && inside 99 j
proper_atom (is i j) = inside 99 i && inside 99 j

-- those of all its atoms
abbrev pub proper : Question → Bool
proper (basic a) = proper_atom a
proper (negated q) = proper q
proper (E o q) = proper q
proper (A o q) = proper q
proper (joined o p q) = proper p && proper q
proper (until p q) = proper p && proper q

-- the bytes s are the text of the question q
abbrev pub Writes : Question → List ℕ → Type 0
Writes q s = T (proper q) × (write q ≡ s)

-- the bytes s are a text of the grammar
abbrev pub Text : List ℕ → Type 0
Text s = (q : Question) × Writes q s

-- some text of the grammar, however long, begins with s
abbrev pub Viable : List ℕ → Type 0
Viable s = (rest : List ℕ) × Text (s ++ rest)

-- byte p of s, counted from 1, is the first at which no continuation is possible; or p is the length plus 1, and all of s only begins a text
abbrev pub StopsAt : List ℕ → ℕ → Type 0
StopsAt s p =
    ((1 ≤ p) × (p ≤ length s) × (Viable (take p s) → ⊥) × ((i : ℕ) → i < p → Viable (take i s)))
    ⊎ ((p ≡ suc (length s)) × Viable s × (Text s → ⊥))

-- What it means

-- its formula
abbrev pub formula_of : Question → Formula Atom
formula_of (basic a) = atom a
formula_of (negated q) = neg (formula_of q)
formula_of (E X q) = EX (formula_of q)
formula_of (E G q) = EG (formula_of q)
formula_of (E F q) = EF (formula_of q)
formula_of (A X q) = AX (formula_of q)
formula_of (A G q) = AG (formula_of q)
formula_of (A F q) = AF (formula_of q)
formula_of (joined conjunction p q) = both (formula_of p) (formula_of q)
formula_of (joined disjunction p q) = or (formula_of p) (formula_of q)
formula_of (joined implication p q) = implies (formula_of p) (formula_of q)
formula_of (until p q) = EU (formula_of p) (formula_of q)

-- Its rows

-- how many: one for each operator and each atom
abbrev pub size : Question → ℕ
size (basic a) = 1
size (negated q) = suc (size q)
size (E o q) = suc (size q)
size (A o q) = suc (size q)
size (joined o p q) = suc (size p + size q)
size (until p q) = suc (size p + size q)

-- the row of an atom: document 01's kinds 1 to 3
abbrev pub atom_row : Atom → Row
atom_row (at l) = row 1 l 0
atom_row (equal i j) = row 2 i j
atom_row (is i j) = row 3 i j

-- EX, EG, EF in document 01's kinds
abbrev pub exists_kind : Temporal → ℕ
exists_kind X = 6
exists_kind G = 8
exists_kind F = 12

-- AX, AG, AF
abbrev pub always_kind : Temporal → ℕ
always_kind X = 11
always_kind G = 13
always_kind F = 14

-- and, or, implies
abbrev pub join_kind : Join → ℕ
join_kind conjunction = 5
join_kind disjunction = 9
join_kind implication = 10

-- the rows, where n others stand before: those of the left question, those of the right one, then its own
abbrev pub rows_from : ℕ → Question → List Row
rows_from n (basic a) = atom_row a ∷ []
rows_from n (negated q) = rows_from n q ++ (row 4 (n + size q) 0 ∷ [])
rows_from n (E o q) = rows_from n q ++ (row (exists_kind o) (n + size q) 0 ∷ [])
rows_from n (A o q) = rows_from n q ++ (row (always_kind o) (n + size q) 0 ∷ [])
rows_from n (joined o p q) = rows_from n p ++ (rows_from (n + size p) q ++ (row (join_kind o) (n + size p) (n + size p + size q) ∷ []))
rows_from n (until p q) = rows_from n p ++ (rows_from (n + size p) q ++ (row 7 (n + size p) (n + size p + size q) ∷ []))

-- A text to a table

-- the bytes s say the question q to the table a: they are its text, at most 400 of them, and it has at most 32 rows, with numbers in range
pub record TextFile (a : Automaton) (s : List ℕ) (q : Question) : Type 0 where
  pub written : Writes q s
  pub short : length s ≤ 400
  pub fits : T (fits_question a (rows_from 0 q))

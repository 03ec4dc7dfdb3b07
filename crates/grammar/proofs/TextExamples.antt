-- Texts of document 02, W1, and of its boundaries, as the definitions read them.
-- Assumes nothing.
use mathlib.Core.List.{List, [], ◌∷◌}
use mathlib.Core.Path.{◌≡◌, refl}
use Prim.Native.Nat.{ℕ}
use Rattle.graphs.specs.Formulas.{implies}
use Rattle.graphs.specs.Formulas.Formula.{atom}
use Rattle.automata.specs.Questions.{row, question}
use Rattle.automata.specs.Questions.Atom.{at, equal, is}
use Rattle.grammar.specs.Grammar.{formula_of, rows_from}
use Rattle.grammar.specs.Grammar.Temporal.{G}
use Rattle.grammar.specs.Grammar.Join.{conjunction, implication}
use Rattle.grammar.specs.Grammar.Question.{basic, negated, A, joined, until}
use Rattle.grammar.specs.Parser.{Parse, parse, number}
use Rattle.grammar.specs.Parser.Parse.{parsed, outside}

-- each text is read so
data Reads : Type 0 where
  done : Reads
  reads : (s : List ℕ) (r : Parse) → parse s ≡ r → Reads → Reads

examples : Reads
unfolding parse number
examples =
    -- AG!(L3&r1=r2)
    reads (65 ∷ 71 ∷ 33 ∷ 40 ∷ 76 ∷ 51 ∷ 38 ∷ 114 ∷ 49 ∷ 61 ∷ 114 ∷ 50 ∷ 41 ∷ []) (parsed (A G (negated (joined conjunction (basic (at 3)) (basic (equal 1 2)))))) refl
    -- L99
    (reads (76 ∷ 57 ∷ 57 ∷ []) (parsed (basic (at 99))) refl
    -- E(L1Ur1=c2)
    (reads (69 ∷ 40 ∷ 76 ∷ 49 ∷ 85 ∷ 114 ∷ 49 ∷ 61 ∷ 99 ∷ 50 ∷ 41 ∷ []) (parsed (until (basic (at 1)) (basic (is 1 2)))) refl
    -- the empty text
    (reads [] (outside 1) refl
    -- L0
    (reads (76 ∷ 48 ∷ []) (outside 2) refl
    -- L100
    (reads (76 ∷ 49 ∷ 48 ∷ 48 ∷ []) (outside 4) refl
    -- (L1)
    (reads (40 ∷ 76 ∷ 49 ∷ 41 ∷ []) (outside 4) refl
    -- E(L1&L2)
    (reads (69 ∷ 40 ∷ 76 ∷ 49 ∷ 38 ∷ 76 ∷ 50 ∷ 41 ∷ []) (outside 5) refl
    -- A(
    (reads (65 ∷ 40 ∷ []) (outside 2) refl
    -- L1 and byte 10
    (reads (76 ∷ 49 ∷ 10 ∷ []) (outside 3) refl
    -- c1=r1
    (reads (99 ∷ 49 ∷ 61 ∷ 114 ∷ 49 ∷ []) (outside 1) refl
    -- AG(
    (reads (65 ∷ 71 ∷ 40 ∷ []) (outside 4) refl
    done)))))))))))

-- rows of (L1>!L2): left before right, inner before outer
rows_of-implication :
    rows_from 0 (joined implication (basic (at 1)) (negated (basic (at 2)))) ≡ row 1 1 0 ∷ row 1 2 0 ∷ row 4 2 0 ∷ row 10 1 3 ∷ []
rows_of-implication = refl

-- (L1>L2): if L1, then L2; and its rows ask just this
formula_of-implication : formula_of (joined implication (basic (at 1)) (basic (at 2))) ≡ implies (atom (at 1)) (atom (at 2))
formula_of-implication = refl

asked_by_implication : question (rows_from 0 (joined implication (basic (at 1)) (basic (at 2)))) ≡ implies (atom (at 1)) (atom (at 2))
asked_by_implication = refl

-- The formulas of a question's rows: a row's formula does not change by what follows, and rows that fit make formulas that fit.
-- Assumes nothing.
use Prim.Native.Nat.{ℕ, zero, suc, pred, ◌+◌}
use mathlib.Core.Bool.{true, ◌&&◌}
use mathlib.Core.List.{List, [], ◌∷◌, ◌++◌}
use mathlib.Core.Path.{◌≡◌, ◌∙◌}
use native.Mathlib.Omega.{arith}
use lib.Dec.{T}
use lib.Ieee.Fits.{and_i, and_l, and_r}
use lib.ListN.{length, get_or, length-append}
use Rattle.graphs.specs.Lists.{all_of}
use Rattle.graphs.specs.Formulas.{Formula}
use Rattle.graphs.specs.Formulas.Formula.{truth}
use Rattle.graphs.proofs.Lists.{all_of-append}
use Rattle.automata.specs.Automaton.{Automaton}
use Rattle.automata.specs.Questions.{Atom, Row, Kind, kinds, row_of, row_formula, formulas_from, row_formulas}
use Rattle.automata.specs.Questions.Use.{row_number, unused}
use Rattle.automata.specs.WellFormed.{constant_count, fits_use, fits_row, fits_rows, fits_question, inside}
use Rattle.automata.specs.FormulaFits.{fits_formula}

-- there are as many formulas as rows
pub formulas_length : (fs : List (Formula Atom)) (rs : List Row) → length (formulas_from fs rs) ≡ length fs + length rs
formulas_length fs [] = omega arith
formulas_length fs (r ∷ rs) = formulas_length (fs ++ (row_formula fs r ∷ [])) rs ∙ omega (arith, length-append fs (row_formula fs r ∷ []))

-- a formula in a list of formulas that fit, or truth past its end
fits-at : (a : Automaton) (fs : List (Formula Atom)) (i : ℕ) → T (all_of (fits_formula a) fs) → T (fits_formula a (get_or fs i truth))
fits-at a [] i t = tt
fits-at a (f ∷ fs) zero t = and_l (fits_formula a f) (all_of (fits_formula a) fs) t
fits-at a (f ∷ fs) (suc i) t = fits-at a fs i (and_r (fits_formula a f) (all_of (fits_formula a) fs) t)

module _ (a : Automaton) (n : ℕ) where
  -- a kind makes a formula that fits of fields that fit and formulas that fit
  abbrev Makes : Kind → Type 0
  Makes k = (fs : List (Formula Atom)) (x y : ℕ) → T (all_of (fits_formula a) fs) → T (fits_use a n k.first x) → T (fits_use a n k.second y) → T (fits_formula a (k.formula fs x y))

  infixr 66 ◌also◌
  data Each : List Kind → Type 0 where
    none : Each []
    ◌also◌ : {k : Kind} {ks : List Kind} → Makes k → Each ks → Each (k ∷ ks)

  each_at : {ks : List Kind} → Each ks → (i : ℕ) (d : Kind) → Makes d → Makes (get_or ks i d)
  each_at none i d m = m
  each_at (h also e) zero d m = h
  each_at (h also e) (suc i) d m = each_at e i d m

  one-row : (fs : List (Formula Atom)) (x y : ℕ) → T (all_of (fits_formula a) fs) → T (fits_use a n row_number x) → T (fits_use a n unused y) → T (fits_formula a (row_of fs x))
  one-row fs x y t u v = fits-at a fs (pred x) t

  two_rows : (fs : List (Formula Atom)) (x y : ℕ) → T (all_of (fits_formula a) fs) → T (fits_use a n row_number x) → T (fits_use a n row_number y)
      → T (fits_formula a (row_of fs x) && fits_formula a (row_of fs y))
  two_rows fs x y t u v = and_i (fits_formula a (row_of fs x)) (fits_formula a (row_of fs y)) (fits-at a fs (pred x) t) (fits-at a fs (pred y) t)

  kinds_make : Each kinds
  kinds_make =
      (λ fs x y t u v. u)
      also (λ fs x y t u v. and_i (inside a.registers x) (inside a.registers y) u v)
      also (λ fs x y t u v. and_i (inside a.registers x) (inside (constant_count a) y) u v)
      also one-row also two_rows also one-row also two_rows also one-row also two_rows also two_rows also one-row also one-row also one-row also one-row also none

  fits-row : (fs : List (Formula Atom)) (r : Row) → T (all_of (fits_formula a) fs) → T (fits_row a n r) → T (fits_formula a (row_formula fs r))
  fits-row fs r t u =
      each_at kinds_make (pred r.kind) _ (λ fs x y t u v. tt) fs r.first r.second t (search (and_l, and_r)) (search (and_l, and_r))

-- rows that fit make formulas that fit
pub fits_formulas : (a : Automaton) (fs : List (Formula Atom)) (rs : List Row) → T (all_of (fits_formula a) fs) → T (fits_rows a (length fs) rs) → T (all_of (fits_formula a) (formulas_from fs rs))
fits_formulas a fs [] t u = t
fits_formulas a fs (r ∷ rs) t u =
    let e : length (fs ++ (row_formula fs r ∷ [])) ≡ suc (length fs) = length-append fs (row_formula fs r ∷ []) ∙ omega arith in
    let v : T (fits_row a (length fs) r) = and_l (fits_row a (length fs) r) (fits_rows a (suc (length fs)) rs) u in
    let w : T (fits_rows a (suc (length fs)) rs) = and_r (fits_row a (length fs) r) (fits_rows a (suc (length fs)) rs) u in
    fits_formulas a (fs ++ (row_formula fs r ∷ [])) rs (all_of-append (fits_formula a) fs (row_formula fs r ∷ []) t (and_i (fits_formula a (row_formula fs r)) true (fits-row a (length fs) fs r t v) tt)) (rw e w)

-- so every row of a question, and the question itself, is a formula that fits
pub question-fits : (a : Automaton) (rs : List Row) → T (fits_question a rs) → (i : ℕ) → T (fits_formula a (row_of (row_formulas rs) i))
question-fits a rs t i = fits-at a (row_formulas rs) (pred i) (fits_formulas a [] rs tt (and_r (inside 32 (length rs)) (fits_rows a 0 rs) t))

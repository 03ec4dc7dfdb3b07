-- The code's shapes of the fourteen kinds say what the table of kinds in crate automata says (`shape-kind`). Assumes nothing.
use Prim.Native.Nat.{ℕ, zero, suc, ◌≤◌}
use mathlib.Core.Bool
use mathlib.Core.Bool.{Bool, true, not, ◌&&◌, and_self}
use mathlib.Core.List.{List, [], ◌∷◌, map, zip_with, map-map, map-id}
use mathlib.Core.Path.{◌≡◌, refl, sym, ap, ap₂}
use native.Mathlib.Omega.{arith}
use lib.Dec.{T}
use lib.Ieee.Fits.{and_i}
use lib.ListN.{get_or, get_or-eq_default}
use Rattle.graphs.specs.Formulas.{Formula}
use Rattle.graphs.specs.Graph.{Graph, sat}
use Rattle.automata.specs.Automaton.{Automaton}
use Rattle.automata.specs.Questions.{Atom, Kind, kind, kinds, row_of, kind_of}
use Rattle.automata.specs.WellFormed.{inside, constant_count, fits_use}
use Rattle.forms.specs.declared.Shape.{Shape}
use Rattle.forms.specs.Shapes.{use_of, leaves, rule_formula, fits_leaves, no_kind, shapes, shape_of}

-- the number is none of n, n - 1, .., 1
abbrev Passed : ℕ → ℕ → Type 0
Passed zero k = Unit {0}
Passed (suc n) k = Passed n k × (k ≡ suc n → ⊥)

-- a number that is no kind
pub no_kind_lem : (k : ℕ) → Passed 14 k → shape_of k ≡ no_kind
unfolding shape_of
no_kind_lem zero h = refl
no_kind_lem (suc k) h = get_or-eq_default shapes no_kind (beyond 14 h)
  where
    beyond : (n : ℕ) → Passed n (suc k) → suc n ≤ suc k
    beyond zero p = omega arith
    beyond (suc n) (p, d) = omega (arith, beyond n p, d)

-- fields that fit make a rule's formula that fits
abbrev Fits : Shape → Type 0
Fits s = (a : Automaton) (n x y : ℕ) → T (fits_use a n (use_of s.first) x) → T (fits_use a n (use_of s.second) y) → T (fits_leaves a n (rule_formula s.rule x y))

-- on every graph it holds where this formula of the fields and of the earlier rows does
abbrev Holds : Shape → (List (Formula Atom) → ℕ → ℕ → Formula Atom) → Type 0
Holds s f = (r : Graph) (A : Atom → List Bool) (fs : List (Formula Atom)) (x y : ℕ) → sat r (leaves A (λ i. sat r A (row_of fs i))) (rule_formula s.rule x y) ≡ sat r A (f fs x y)

-- the shape says what the kind says
pub record Means (s : Shape) (k : Kind) : Type 0 where
  pub first : use_of s.first ≡ k.first
  pub second : use_of s.second ≡ k.second
  pub fits : Fits s
  pub formula : Holds s k.formula

like : {s : Shape} {f : List (Formula Atom) → ℕ → ℕ → Formula Atom} → Fits s → Holds s f → Means s (kind (use_of s.first) (use_of s.second) f)
like h e = record { first = refl; second = refl; fits = h; formula = e }

-- s and s is s, and not not s is s
and_same : (s : List Bool) → zip_with ◌&&◌ s s ≡ s
unfolding zip_with
and_same [] = refl
and_same (b ∷ s) = ap₂ ◌∷◌ (and_self b) (and_same s)

not-not : (s : List Bool) → map not (map not s) ≡ s
not-not s = simp (map-map, Bool.not-not, map-id)

both-inside : (m n x y : ℕ) → T (inside m x) → T (inside n y) → T (inside m x && inside n y)
both-inside m n x y f g = and_i (inside m x) (inside n y) f g

infixr 66 ◌also◌
data Each : List Shape → List Kind → Type 0 where
  none : Each [] []
  ◌also◌ : {s : Shape} {k : Kind} {ss : List Shape} {ks : List Kind} → Means s k → Each ss ks → Each (s ∷ ss) (k ∷ ks)

each_at : {ss : List Shape} {ks : List Kind} → Each ss ks → (i : ℕ) (s : Shape) (k : Kind) → Means s k → Means (get_or ss i s) (get_or ks i k)
each_at none i s k h = h
each_at (e also es) zero s k h = e
each_at (e also es) (suc i) s k h = each_at es i s k h

abbrev rest : List Shape → List Shape
rest [] = []
rest (s ∷ ss) = ss

-- the fourteen kinds; `not` and `implies` are other formulas than those of their rules, and hold at the same nodes
all_mean : Each (rest shapes) kinds
all_mean =
    like (λ a n x y f g. f) (λ r A fs x y. refl)
    also like (λ a n. both-inside a.registers a.registers) (λ r A fs x y. refl)
    also like (λ a n. both-inside a.registers (constant_count a)) (λ r A fs x y. refl)
    also like (λ a n x y f g. both-inside n n x x f f) (λ r A fs x y. ap (map not) (and_same (sat r A (row_of fs x))))
    also like (λ a n. both-inside n n) (λ r A fs x y. refl)
    also like (λ a n x y f g. f) (λ r A fs x y. refl)
    also like (λ a n. both-inside n n) (λ r A fs x y. refl)
    also like (λ a n x y f g. f) (λ r A fs x y. refl)
    also like (λ a n. both-inside n n) (λ r A fs x y. refl)
    also like (λ a n. both-inside n n) (λ r A fs x y. ap (λ (s : List Bool). map not (zip_with ◌&&◌ s (map not (sat r A (row_of fs y))))) (sym (not-not (sat r A (row_of fs x)))))
    also like (λ a n x y f g. f) (λ r A fs x y. refl)
    also like (λ a n x y f g. f) (λ r A fs x y. refl)
    also like (λ a n x y f g. f) (λ r A fs x y. refl)
    also like (λ a n x y f g. f) (λ r A fs x y. refl)
    also none

-- a kind's shape says what the kind says
pub shape-kind : (k : ℕ) → 1 ≤ k → Means (shape_of k) (kind_of k)
unfolding shape_of
shape-kind zero h = absurd (omega arith)
shape-kind (suc k) h = each_at all_mean k no_kind _ (like (λ a n x y f g. tt) (λ r A fs x y. and_same (map (λ row. true) r)))

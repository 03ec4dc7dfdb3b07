-- What the numbers of a readable form say of its automaton, with their limits.
-- Assumes nothing.
use Prim.Native.Nat.{ℕ, zero, suc, ◌+◌, ◌≤◌, ◌<◌}
use mathlib.Core.List.{List, [], ◌∷◌, map}
use mathlib.Core.Path.{◌≡◌, refl, sym, ap, ◌∙◌}
use native.Mathlib.Omega.{arith}
use lib.Ieee.Fits.{and_l, and_r}
use lib.ListN.{length, get_or, take}
use Rattle.graphs.specs.Lists.{up_from}
use Rattle.automata.specs.Automaton.{Transition, arity}
use Rattle.automata.specs.Runs.{nowhere}
use Rattle.automata.specs.WellFormed.{constant_count}
use Rattle.automata.proofs.Equivariance.{inside→}
use Rattle.forms.specs.TableForm.{counts_row, constant_rows, start_row, arity_row, transition_row, cell}
use Rattle.forms.specs.FormAutomaton.{automaton_of}
use Rattle.forms.specs.Readable.{Readable}
use Rattle.forms.proofs.Forms.{form_limits, transition-count, constant-count, transition-is, located}

module _ (t : List ℕ) (r : Readable t) where
  pub registers-is : (cell t counts_row 1 ≡ (automaton_of t).registers) × (cell t counts_row 1 ≤ 5)
  unfolding automaton_of
  registers-is = (refl, (form_limits t r).registers)

  pub constants-is : (cell t counts_row 2 ≡ constant_count (automaton_of t)) × (cell t counts_row 2 ≤ 2)
  constants-is = (sym (constant-count t), omega (arith, constant-count t, (form_limits t r).constants))

  pub locations-is : (cell t counts_row 3 ≡ (automaton_of t).locations) × (1 ≤ cell t counts_row 3) × (cell t counts_row 3 ≤ 16)
  unfolding automaton_of
  locations-is = (refl, (form_limits t r).locations.0, (form_limits t r).locations.1)

  pub transitions-is : (cell t counts_row 5 ≡ length (automaton_of t).transitions) × (cell t counts_row 5 ≤ 64)
  transitions-is = (sym (transition-count t), omega (arith, transition-count t, (form_limits t r).transitions))

  pub values_are : take (constant_count (automaton_of t)) (cell t constant_rows 1 ∷ cell t (constant_rows + 1) 1 ∷ []) ≡ (automaton_of t).constants
  unfolding automaton_of
  values_are = by (cell t counts_row 2) (omega (arith, constants-is.1))
    where
      by : (n : ℕ) → n ≤ 2 → take (length (map (λ i. cell t i 1) (up_from constant_rows n))) (cell t constant_rows 1 ∷ cell t (constant_rows + 1) 1 ∷ []) ≡ map (λ i. cell t i 1) (up_from constant_rows n)
      by zero h = refl
      by (suc zero) h = refl
      by (suc (suc zero)) h = refl
      by (suc (suc (suc n))) h = absurd (omega arith)

  pub start_is : (cell t start_row 1 ≡ (automaton_of t).start) × (1 ≤ cell t start_row 1) × (cell t start_row 1 ≤ 16)
  unfolding automaton_of
  start_is =
      let (low, high) = inside→ (automaton_of t).locations (automaton_of t).start (search (and_l, and_r, r.fits) depth 9) in
      (refl, low, omega (arith, (form_limits t r).locations.1))

  module _ (i : ℕ) (h : i < length (automaton_of t).transitions) where
    pub from_is : (cell t (transition_row i) 1 ≡ (get_or (automaton_of t).transitions i nowhere).from) × (1 ≤ cell t (transition_row i) 1) × (cell t (transition_row i) 1 ≤ 16)
    from_is = (ap (λ (s : Transition). s.from) (sym (transition-is t r i h)), (located t r i h).from.0, (located t r i h).from.1)

    pub to_is : (cell t (transition_row i) 3 ≡ (get_or (automaton_of t).transitions i nowhere).to) × (1 ≤ cell t (transition_row i) 3) × (cell t (transition_row i) 3 ≤ 16)
    to_is = (ap (λ (s : Transition). s.to) (sym (transition-is t r i h)), (located t r i h).to.0, (located t r i h).to.1)

    pub parameters_are : (n : ℕ) → n ≡ cell t (transition_row i) 2
        → (cell t (arity_row n) 1 ≡ arity (automaton_of t) (get_or (automaton_of t).transitions i nowhere)) × (cell t (arity_row n) 1 ≤ 3)
    parameters_are n e =
        let (few, same) = (located t r i h).params in
        let same-cell : cell t (arity_row n) 1 ≡ cell t (arity_row (cell t (transition_row i) 2)) 1 = ap (λ k. cell t (arity_row k) 1) e in
        (same-cell ∙ sym same ∙ ap (arity (automaton_of t)) (sym (transition-is t r i h)), omega arith)

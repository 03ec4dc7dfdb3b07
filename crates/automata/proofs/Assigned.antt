-- A transition assigns no more registers than there are, since those that it assigns rise.
-- Assumes nothing.
use Prim.Native.Nat.{ℕ, ◌+◌, ◌≤◌}
use mathlib.Core.List.Memᴰ
use mathlib.Core.List.{List, [], ◌∷◌, map, Memᴰ}
use mathlib.Core.Path.{refl, subst}
use native.Mathlib.Omega.{arith}
use lib.Dec.{T, ltb, ltb→lt}
use lib.Ieee.Fits.{and_l, and_r}
use lib.ListN.{length, length-map}
use Rattle.graphs.specs.Lists.{all_of}
use Rattle.graphs.proofs.Lists.{and_elim, all_of-mem}
use Rattle.classes.specs.Renaming.{rising}
use Rattle.automata.specs.Automaton.{Transition, Automaton, arity}
use Rattle.automata.specs.WellFormed.{inside, constant_count, fits_term, fits_assignment, fits_transition}
use Rattle.automata.proofs.Equivariance.{inside→}

-- numbers that rise up to r
rising-room : (r x : ℕ) (xs : List ℕ) → T (rising (x ∷ xs)) → ((y : ℕ) → Memᴰ y (x ∷ xs) → y ≤ r) → x + length xs ≤ r
rising-room r x [] t h = omega (arith, h x (Memᴰ.head refl))
rising-room r x (y ∷ ys) t h =
    let (l, u) = and_elim (ltb x y) (rising (y ∷ ys)) t in
    omega (arith, ltb→lt x y l, rising-room r y ys u (λ z m. h z (Memᴰ.tail m)))

rising-length : (r : ℕ) (xs : List ℕ) → T (rising xs) → ((y : ℕ) → Memᴰ y xs → (1 ≤ y) × (y ≤ r)) → length xs ≤ r
rising-length r [] t h = omega arith
rising-length r (x ∷ xs) t h = omega (arith, (h x (Memᴰ.head refl)).0, rising-room r x xs t (λ y m. (h y m).1))

module _ (a : Automaton) (t : Transition) (f : T (fits_transition a t)) where
  pub assigns-le : length t.assigns ≤ a.registers
  assigns-le =
      let up : T (rising (map (λ s. s.register) t.assigns)) = search (and_l, and_r) in
      let g : T (all_of (fits_assignment (constant_count a) a.registers (arity a t)) t.assigns) = search (and_l, and_r) in
      omega (
        arith,
        length-map t.assigns (λ s. s.register),
        rising-length a.registers (map (λ s. s.register) t.assigns) up (λ y o.
            let (s, sm, e) = Memᴰ.of_map (λ s. s.register) t.assigns o in
            let h = all_of-mem (fits_assignment (constant_count a) a.registers (arity a t)) t.assigns g sm in
            subst (λ y. (1 ≤ y) × (y ≤ a.registers)) e (inside→ a.registers s.register (and_l (inside a.registers s.register) (fits_term (constant_count a) a.registers (arity a t) s.source) h))),
      )

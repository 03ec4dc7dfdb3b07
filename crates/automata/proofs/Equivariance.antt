-- Conditions and assignments whose numbers are in range do not see a renaming (source 001, Propositions 1 and 2).
-- Assumes nothing.
use Prim.Native.Nat.{ℕ, ◌≤◌, pred}
use mathlib.Core.Bool.{not, cond}
use mathlib.Core.List.{List, [], ◌∷◌}
use mathlib.Core.Path.{◌≡◌, refl, ap}
use native.Mathlib.Omega.{arith}
use lib.Dec.{T, leb, leb→le, le→leb}
use lib.Ieee.Fits.{and_i, and_l, and_r}
use lib.ListN.{length}
use Rattle.graphs.specs.Lists.{item, all_of}
use Rattle.graphs.proofs.Lists.{and_elim, all_of_agree, get_d_map}
use Rattle.classes.specs.Renaming.{Renaming, rename}
use Rattle.classes.proofs.Renamings.{eqb_renamed}
use Rattle.automata.specs.Automaton.{Term, Condition, Assignment, value, meets}
use Rattle.automata.specs.Automaton.Term.{register, parameter, constant}
use Rattle.automata.specs.WellFormed.{inside, fits_term, fits_condition, fits_assignment}
use Rattle.automata.specs.ConfigurationGraph.{written, held}

pub inside→ : (n i : ℕ) → T (inside n i) → (1 ≤ i) × (i ≤ n)
inside→ n i t = (leb→le 1 i (search and_l), leb→le i n (search (and_l, and_r)))

pub →inside : (n i : ℕ) → 1 ≤ i → i ≤ n → T (inside n i)
→inside n i low high = and_i (leb 1 i) (leb i n) (le→leb 1 i low) (le→leb i n high)

module _ (π : Renaming) where
  pub nth_renamed : (xs : List ℕ) (i : ℕ) → T (inside (length xs) i) → item (rename π xs) i ≡ π.to (item xs i)
  nth_renamed xs i t = let (low, high) = inside→ (length xs) i t in get_d_map π.to xs (pred i) 0 0 (omega arith)

  pub held_renamed : (c p : ℕ) (w : List ℕ) (ss : List Assignment) → T (all_of (fits_assignment c (length w) p) ss)
      → held (rename π w) ss ≡ rename π (held w ss)
  held_renamed c p w [] t = refl
  held_renamed c p w (s ∷ ss) t =
      let (h, rest) = and_elim (fits_assignment c (length w) p s) (all_of (fits_assignment c (length w) p) ss) t in
      cc (nth_renamed w s.register (and_l (inside (length w) s.register) (fits_term c (length w) p s.source) h), held_renamed c p w ss rest)

  module _ (cs v ps : List ℕ) where
    value_renamed : (t : Term) → T (fits_term (length cs) (length v) (length ps) t)
        → value (rename π cs) (rename π v) (rename π ps) t ≡ π.to (value cs v ps t)
    value_renamed (register i) h = nth_renamed v i h
    value_renamed (parameter i) h = nth_renamed ps i h
    value_renamed (constant i) h = nth_renamed cs i h

    meets_renamed : (c : Condition) → T (fits_condition (length cs) (length v) (length ps) c)
        → meets (rename π cs) (rename π v) (rename π ps) c ≡ meets cs v ps c
    meets_renamed c h =
        let l = value_renamed c.left (search and_l) in
        let r = value_renamed c.right (search (and_l, and_r)) in
        ap (λ b. cond c.equal b (not b)) (rw (l, r) (eqb_renamed π (value cs v ps c.left) (value cs v ps c.right)))

-- the same for lists of them, where a renaming takes constants, contents and parameters to others
module _ (π : Renaming) (cs v ps : List ℕ) {cs' v' ps' : List ℕ} (c : rename π cs ≡ cs') (r : rename π v ≡ v') (p : rename π ps ≡ ps') where
  pub guard_agrees : (g : List Condition) → T (all_of (fits_condition (length cs) (length v) (length ps)) g) → all_of (meets cs' v' ps') g ≡ all_of (meets cs v ps) g
  guard_agrees g h = rw (← c, ← r, ← p) (all_of_agree (fits_condition (length cs) (length v) (length ps)) _ _ g (meets_renamed π cs v ps) h)

  pub written_renamed : (ss : List Assignment) → T (all_of (fits_assignment (length cs) (length v) (length ps)) ss) → written cs' v' ps' ss ≡ rename π (written cs v ps ss)
  written_renamed [] t = refl
  written_renamed (s ∷ ss) t =
      let (h, rest) = and_elim (fits_assignment (length cs) (length v) (length ps) s) (all_of (fits_assignment (length cs) (length v) (length ps)) ss) t in
      let (_, f) = and_elim (inside (length v) s.register) (fits_term (length cs) (length v) (length ps) s.source) h in
      cc (value_renamed π cs v ps s.source f, written_renamed ss rest)

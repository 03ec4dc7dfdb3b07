-- Within document 01's limits there are enough identifiers up to 14.
-- Assumes nothing.
use Prim.Native.Nat.{◌+◌, ◌≤◌, pred}
use native.Mathlib.Omega.{arith}
use lib.Dec.{T, leb, leb→le, le→leb}
use lib.Ieee.Fits.{and_i, and_l, and_r}
use lib.ListN.{length}
use Rattle.graphs.specs.Lists.{all_of}
use Rattle.graphs.proofs.Lists.{all-intro, get_d_le}
use Rattle.automata.specs.Automaton.{Automaton, arity}
use Rattle.automata.specs.WellFormed.{well_formed, limited, constant_count}
use Rattle.automata.proofs.Assigned.{assigns-le}
use Rattle.automata.proofs.ClassBisimulation.{wf_transition}
use Rattle.moves.specs.Moves.{roomy_for, roomy}

module _ (a : Automaton) (wf : T (well_formed a)) (lim : T (limited a)) where
  pub limited-roomy : T (roomy 15 a)
  limited-roomy =
      let r : a.registers ≤ 5 = leb→le a.registers 5 (search (and_l, and_r) depth 9) in
      let c : constant_count a ≤ 2 = leb→le (constant_count a) 2 (search (and_l, and_r) depth 9) in
      let few : T (all_of (λ n. leb n 3) a.arities) = search (and_l, and_r) depth 9 in
      and_i (leb (constant_count a + a.registers) 15) (all_of (roomy_for 15 a) a.transitions) (le→leb (constant_count a + a.registers) 15 (omega arith)) (all-intro (roomy_for 15 a) a.transitions (λ t m.
      and_i (leb (constant_count a + a.registers + arity a t) 15) (leb (constant_count a + a.registers + length t.assigns) 15)
      (le→leb (constant_count a + a.registers + arity a t) 15 (omega (arith, get_d_le 3 a.arities (pred t.action) few)))
      (le→leb (constant_count a + a.registers + length t.assigns) 15 (omega (arith, assigns-le a t (wf_transition a wf m))))))

-- A bit of a step row means a step with real identifiers: from each state of the one configuration, and to each state of the other.
-- Assumes nothing.
use Prim.Native.Nat.{ℕ, ◌≤◌, ◌<◌}
use mathlib.Core.Bool.{false}
use mathlib.Core.List.{List, [], ◌++◌}
use mathlib.Core.Path.{◌≡◌, sym, ◌∙◌, subst, subst⁻¹}
use native.Mathlib.Omega.{arith}
use lib.Dec.{T}
use lib.ListN.{length, get_or, drop, get_or-append, get_or-eq_default}
use Rattle.lists.proofs.Arrays.{front_kept}
use Rattle.sets.specs.Packed.{packed}
use Rattle.sets.specs.Members.{member}
use Rattle.sets.proofs.Laws.{member-packed, length-packed_from, packed-low, member-append}
use Rattle.automata.specs.Automaton.{Automaton}
use Rattle.automata.specs.WellFormed.{well_formed}
use Rattle.automata.specs.Configurations.{configuration_count}
use Rattle.automata.specs.ConfigurationGraph.{rows}
use Rattle.automata.proofs.Numbering.{configurations-length, rows-length}
use Rattle.automata.proofs.ClassBisimulation.{forth, back}
use Rattle.automata.proofs.Renamed.{edge_into}
use Rattle.relation.specs.StepRows.{leads_on}
use Rattle.reach.proofs.StepGraph.{row-length}
use Rattle.claims.specs.StepReplies.{StepBetween, NoStep, SuccessorsClaim}

module _ (a : Automaton) (w : T (well_formed a)) (i : ℕ) (hi : i < configuration_count a) where
  in_rows_lem : (j : ℕ) → j < configuration_count a → j < length (rows a)
  in_rows_lem j h = omega (arith, rows-length a, configurations-length a)

  pub leads-between : (j : ℕ) → j < configuration_count a → T (leads_on a i j) → StepBetween a i j
  leads-between j hj e = record {
    from = λ x b. let (y, st, d) = back a w i j x b (in_rows_lem j hj, e) in (y, d, st);
    into = λ y d. edge_into a w i j y (in_rows_lem i hi) d e;
  }

  pub none-leads : (j : ℕ) → (T (leads_on a i j) → ⊥) → NoStep a i j
  none-leads j n x y b d st =
      let (k, (h, e), r) = forth a w x y i b st in
      n (subst (λ q. T (leads_on a i q)) (sym r.named ∙ d.named) e)

  -- the words of the successors
  module _ (out : List ℕ) (room : 337 ≤ length out) where
    abbrev written : List ℕ
    written = packed (leads_on a i) 337 ++ drop 337 out

    bit-written : (j : ℕ) → j < 10784 → member written j ≡ leads_on a i j
    bit-written j h =
        member-append (packed (leads_on a i) 337) (drop 337 out) j (omega (arith, length-packed_from (leads_on a i) 0 337)) ∙ member-packed (leads_on a i) 337 j h

    past : (j : ℕ) → configuration_count a ≤ j → leads_on a i j ≡ false
    past j h = get_or-eq_default (get_or (rows a) i []) false {n = j} (omega (arith, row-length a i (in_rows_lem i hi), rows-length a, configurations-length a))

    pub successors-right : configuration_count a ≤ 10784 → SuccessorsClaim a i out written
    successors-right few = record {
      leads = λ j h t. leads-between j h (subst T (bit-written j (omega arith)) t);
      none = λ j h n. none-leads j (λ t. n (subst⁻¹ T (bit-written j (omega arith)) t));
      unused = λ j h l. subst T (bit-written j l ∙ past j h);
      words = λ v h. rw (get_or-append (packed (leads_on a i) 337) (drop 337 out) 0 v (omega (arith, length-packed_from (leads_on a i) 0 337))) (packed-low (leads_on a i) 337 v h);
      kept = front_kept (packed (leads_on a i) 337) out 337 (length-packed_from (leads_on a i) 0 337) room;
    }

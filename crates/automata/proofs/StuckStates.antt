-- What the steps of questions come to: at a stuck state EX, AX, EG and AF of a formula are the formula itself, elsewhere nothing is added; E U, so EF and AG,
-- do not see the stays; AF fails where steps go on for ever or stop before; and every state has an endless series of steps of questions.
-- Assumes nothing.
use Prim.Native.Nat.{ℕ, zero, suc, ◌+◌}
use mathlib.Core.Logic.{◌↔◌, inl, inr, ⊎_elim}
use mathlib.Core.List.{List, map}
use mathlib.Core.Bool.{Bool, true}
use mathlib.Core.Path.{◌≡◌, refl, subst, subst⁻¹}
use native.Mathlib.Omega.{arith}
use lib.Dec.{T}
use lib.ListN.{length-map}
use Rattle.graphs.specs.Formulas.{Formula, Until, Forever, AX, AF}
use Rattle.graphs.specs.Formulas.Formula.{neg, EX, EG}
use Rattle.graphs.specs.Formulas.Until.{now, later}
use Rattle.graphs.specs.Graph.{In}
use Rattle.graphs.proofs.Sets.{in_length, in_all, in_predecessors}
use Rattle.graphs.proofs.SelfLoops.{until-along, all-next}
use Rattle.automata.specs.Automaton.{Automaton}
use Rattle.automata.specs.Runs.{State, Step}
use Rattle.automata.specs.Questions.{Atom, Stuck, StepOrStay, Holds}
use Rattle.automata.specs.WellFormed.{well_formed, Proper}
use Rattle.automata.specs.FormulaFits.{fits_formula}
use Rattle.automata.specs.Configurations.{conf, number, Related}
use Rattle.automata.specs.ConfigurationGraph.{rows, stay_rows}
use Rattle.automata.proofs.ClassBisimulation.{node_below}
use Rattle.automata.proofs.Stays.{stay_length, bisimulation_staying}
use Rattle.automata.proofs.Questions.{settled}

module _ (a : Automaton) where
  -- where a step exists, the steps of questions are the steps
  pub no_stay : (s t : State) → Step a s t → (u : State) → StepOrStay a s u ↔ Step a s u
  no_stay s t e u = (⊎_elim (λ d. d) (λ (stuck, same). absurd (stuck t e)), λ d. inl d)

  -- E U over the steps of questions is E U over the steps
  pub until-stays : {P Q : State → Type 0} (s : State) → Until (StepOrStay a) P Q s ↔ Until (Step a) P Q s
  until-stays s = (
    until-along (λ t. Unit {0}) (λ t u d. ⊎_elim (λ e. inl (e, tt)) (λ (stuck, same). inr same)) s tt,
    until-along (λ t. Unit {0}) (λ t u d e. inl (inl e, tt)) s tt,
  )

  -- an endless series in P: steps that never end, or steps to a stuck state
  module _ (P : State → Type 0) where
    abbrev StopsIn : State → Type 0
    StopsIn = Until (Step a) P (λ t. P t × Stuck a t)

    pub stopped-stays : (s : State) → StopsIn s → Forever (StepOrStay a) P s
    stopped-stays s (now (p, stuck)) = record { path = λ i. s; begins = refl; steps = λ i. inr (stuck, refl); holds = λ i. p }
    stopped-stays s (later {s' = t} p e u) = let w = stopped-stays t u in record {
      path = before w;
      begins = refl;
      steps = λ i. elim i as (λ k. StepOrStay a (before w k) (before w (suc k))) [ zero ↦ inl (subst⁻¹ (Step a s) w.begins e) | suc k ↦ w.steps k ];
      holds = λ i. elim i as (λ k. P (before w k)) [ zero ↦ p | suc k ↦ w.holds k ];
    }
      where
        before : Forever (StepOrStay a) P t → ℕ → State
        before w zero = s
        before w (suc i) = w.path i

    -- along a series to a stuck state on it
    along : (path : ℕ → State) → ((i : ℕ) → StepOrStay a (path i) (path (suc i))) → ((i : ℕ) → P (path i)) → (n j : ℕ) → Stuck a (path (j + n)) → Until (StepOrStay a) P (λ t. P t × Stuck a t) (path j)
    along path steps holds zero j stuck = let e : j + 0 ≡ j = omega arith in now (holds j, subst (λ k. Stuck a (path k)) e stuck)
    along path steps holds (suc n) j stuck = let e : j + suc n ≡ suc j + n = omega arith in later (holds j) (steps j) (along path steps holds n (suc j) (subst (λ k. Stuck a (path k)) e stuck))

    -- there is none exactly if no steps in P go on for ever, and none stop
    pub never_endless : (s : State) → (Forever (StepOrStay a) P s → ⊥) ↔ ((Forever (Step a) P s → ⊥) × (StopsIn s → ⊥))
    never_endless s = (
      (λ none. (
        (λ w. none (record { path = w.path; begins = w.begins; steps = λ i. inl (w.steps i); holds = w.holds })),
        (λ u. none (stopped-stays s u)),
      )),
      (λ (goes, stops) w. goes (record {
        path = w.path;
        begins = w.begins;
        steps = λ i. ⊎_elim (λ e. e)
            (λ (stuck, _). absurd (stops ((until-stays s).0 (subst (Until (StepOrStay a) P (λ t. P t × Stuck a t)) w.begins (along w.path w.steps w.holds i 0 (subst (λ k. Stuck a (w.path k)) (low i) stuck))))))
            (w.steps i);
        holds = w.holds;
      })),
    )
      where
        low : (i : ℕ) → i ≡ 0 + i
        low i = omega arith

  -- AF f: no steps go on for ever without f, and none stop before it
  pub inevitable : (f : Formula Atom) (s : State)
      → Holds a (AF f) s ↔ ((Forever (Step a) (Holds a (neg f)) s → ⊥) × (Until (Step a) (Holds a (neg f)) (λ t. Holds a (neg f) t × Stuck a t) s → ⊥))
  inevitable f s = never_endless (Holds a (neg f)) s

  module _ (s : State) (stuck : Stuck a s) where
    stays : (t : State) → StepOrStay a s t → s ≡ t
    stays t = ⊎_elim (λ e. absurd (stuck t e)) (λ (_, same). same)

    next_there : (f : Formula Atom) → Holds a (EX f) s ↔ Holds a f s
    next_there f = ((λ (t, e, h). subst⁻¹ (Holds a f) (stays t e) h), λ h. (s, inr (stuck, refl), h))

    always_there : (f : Formula Atom) → Holds a (EG f) s ↔ Holds a f s
    always_there f = ((λ w. subst (Holds a f) w.begins (w.holds 0)), λ h. stopped-stays (Holds a f) s (now (h, stuck)))

    -- at a stuck state EX f, AX f, EG f and AF f are f
    pub at-stuck : T (well_formed a) → Proper a s → (f : Formula Atom) → T (fits_formula a f)
        → (Holds a (EX f) s ↔ Holds a f s) × (Holds a (AX f) s ↔ Holds a f s) × (Holds a (EG f) s ↔ Holds a f s) × (Holds a (AF f) s ↔ Holds a f s)
    at-stuck wf p f fits = (next_there f, unless (EX (neg f)) (next_there (neg f)), always_there f, unless (EG (neg f)) (always_there (neg f)))
      where
        unless : (g : Formula Atom) → (Holds a g s ↔ Holds a (neg f) s) → Holds a (neg g) s ↔ Holds a f s
        unless g e = ((λ h. settled a wf f fits s p (λ n. h (e.1 n))), λ h k. e.0 k h)

  module _ (wf : T (well_formed a)) where
    -- every state has a step
    pub goes_on : (s : State) → Proper a s → (t : State) × StepOrStay a s t × Proper a t
    goes_on s p =
        let i : ℕ = number a (conf a s) in
        let b : Related a s i = record { proper = p; named = refl } in
        let every : List Bool = map (λ row. true) (rows a) in
        let (j, e, m) = (in_predecessors (stay_rows a) every i).0 (subst⁻¹ (λ l. In l i) (all-next (rows a)) (in_all (rows a) i (node_below a wf s i b))) in
        let (t, st, c) = (bisimulation_staying a wf).back i j s b (omega (arith, in_length every j m, length-map (rows a) (λ row. true), stay_length a), e) in
        (t, st, c.proper)

    -- and so an endless series of them
    pub endless : (s : State) → Proper a s → Forever (StepOrStay a) (Proper a) s
    endless s p = record {
      path = λ i. (walk i).0;
      begins = refl;
      steps = λ i. (goes_on (walk i).0 (walk i).1).1;
      holds = λ i. (walk i).1;
    }
      where
        walk : ℕ → (t : State) × Proper a t
        walk zero = (s, p)
        walk (suc i) = let (t, _, q) = goes_on (walk i).0 (walk i).1 in (t, q)

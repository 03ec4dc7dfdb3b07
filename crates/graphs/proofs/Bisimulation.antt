-- Bisimilar states satisfy the same formulas: the bisimulation invariance of computation tree logic.
-- Assumes nothing.
use Prim.Native.Nat.{ℕ, zero, suc}
use mathlib.Core.Bool.{Bool}
use mathlib.Core.Path.{refl, subst⁻¹}
use mathlib.Core.Logic.{◌↔◌}
use lib.Dec.{T}
use Rattle.graphs.specs.Formulas.{Formula, Until, Forever, Sat}
use Rattle.graphs.specs.Formulas.Formula.{truth, atom, neg, both, EX, EU, EG}
use Rattle.graphs.specs.Formulas.Until.{now, later}
use Rattle.graphs.specs.Systems.{Simulation, Bisimulation, every_atom}
use Rattle.graphs.proofs.Lists.{T_and}

-- B carries P to P': where P holds, P' holds at each related state
abbrev pub Carries : {S S' : Type 0} → (S → S' → Type 0) → (S → Type 0) → (S' → Type 0) → Type 0
Carries {S} {S'} B P P' = (s : S) (s' : S') → B s s' → P s → P' s'

-- a simulation that carries P to P' and Q to Q' carries what the operators make of them
module _ {S S' : Type 0} {Step : S → S → Type 0} {Step' : S' → S' → Type 0} {B : S → S' → Type 0}
    {P : S → Type 0} {P' : S' → Type 0} (sim : Simulation Step Step' B) (p : Carries B P P') where
  carries_next : Carries B (λ s. (t : S) × Step s t × P t) (λ s'. (t' : S') × Step' s' t' × P' t')
  carries_next s s' b (t, e, h) = let m = sim s t s' b e in (m.0, m.1, p t m.0 m.2 h)

  carries_until : {Q : S → Type 0} {Q' : S' → Type 0} → Carries B Q Q' → Carries B (Until Step P Q) (Until Step' P' Q')
  carries_until q s s' b (now h) = now (q s s' b h)
  carries_until q s s' b (later {s' = t} h e u) =
      let m = sim s t s' b e in later (p s s' b h) m.1 (carries_until q t m.0 m.2 u)

  carries_forever : Carries B (Forever Step P) (Forever Step' P')
  carries_forever s s' b w = record {
    path = λ i. (partner i).0;
    begins = refl;
    steps = λ i. (sim (w.path i) (w.path (suc i)) (partner i).0 (partner i).1 (w.steps i)).1;
    holds = λ i. p (w.path i) (partner i).0 (partner i).1 (w.holds i);
  }
    where
      partner : (i : ℕ) → (t' : S') × B (w.path i) t'
      partner zero = (s', subst⁻¹ (λ t. B t s') w.begins b)
      partner (suc i) =
          let m = sim (w.path i) (w.path (suc i)) (partner i).0 (partner i).1 (w.steps i) in (m.0, m.2)

module _ {S S' X : Type 0} {Step : S → S → Type 0} {Step' : S' → S' → Type 0} {used : X → Bool}
    {A : X → S → Type 0} {A' : X → S' → Type 0} {B : S → S' → Type 0} (bi : Bisimulation Step Step' used A A' B) where
  pub invariance : (f : Formula X) → T (every_atom used f) → (s : S) (s' : S') → B s s' → Sat Step A f s ↔ Sat Step' A' f s'
  invariance truth u s s' b = (λ h. h, λ h. h)
  invariance (atom x) u s s' b = bi.atoms x u s s' b
  invariance (neg f) u s s' b = let e = invariance f u s s' b in (λ h h'. h (e.1 h'), λ h h'. h (e.0 h'))
  invariance (both f g) u s s' b =
      let (uf, ug) = (T_and (every_atom used f) (every_atom used g)).0 u in
      let e = invariance f uf s s' b in let d = invariance g ug s s' b in
      (λ h. (e.0 h.0, d.0 h.1), λ h. (e.1 h.0, d.1 h.1))
  invariance (EX f) u s s' b = (
    carries_next bi.forth (λ t t' c. (invariance f u t t' c).0) s s' b,
    carries_next bi.back (λ t' t c. (invariance f u t t' c).1) s' s b,
  )
  invariance (EU f g) u s s' b =
      let (uf, ug) = (T_and (every_atom used f) (every_atom used g)).0 u in (
        carries_until bi.forth (λ t t' c. (invariance f uf t t' c).0) (λ t t' c. (invariance g ug t t' c).0) s s' b,
        carries_until bi.back (λ t' t c. (invariance f uf t t' c).1) (λ t' t c. (invariance g ug t t' c).1) s' s b,
      )
  invariance (EG f) u s s' b = (
    carries_forever bi.forth (λ t t' c. (invariance f u t t' c).0) s s' b,
    carries_forever bi.back (λ t' t c. (invariance f u t t' c).1) s' s b,
  )

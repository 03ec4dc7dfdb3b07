-- A renaming that fixes the constants takes steps to steps; so a step between configurations comes to each state of the second (source 001, section 3).
-- Assumes nothing.
use Prim.Native.Nat.{ℕ, ◌<◌}
use mathlib.Core.Bool.{false}
use mathlib.Core.List.{List, []}
use mathlib.Core.Path.{◌≡◌, refl, sym, ap, ◌∙◌, subst, subst⁻¹}
use lib.Dec.{T, eqb, leb}
use lib.Ieee.Fits.{and_i, and_l, and_r}
use lib.ListN.{length, get_or, length-map}
use Rattle.graphs.specs.Graph.{In}
use Rattle.classes.specs.Renaming.{Renaming, rename}
use Rattle.classes.specs.Classes.{labels}
use Rattle.classes.proofs.Labels.{labels_renamed, same_class}
use Rattle.automata.specs.Automaton.{Transition, Automaton}
use Rattle.automata.specs.Runs.{State, Move, transition_of, makes, is_step, Step}
use Rattle.automata.specs.WellFormed.{well_formed, fits_transition, Proper, constant_count}
use Rattle.automata.specs.Configurations.{Configuration, conf, number, Related}
use Rattle.automata.specs.ConfigurationGraph.{step_conf, rows, Listed}
use Rattle.automata.proofs.Equivariance.{guard_agrees, written_renamed, held_renamed}
use Rattle.automata.proofs.StepClasses.{makes-few, makes-wide, makes-guard, makes-held, makes-intro, fits-assigns, fits_guard}
use Rattle.automata.proofs.Numbering.{configuration-path, rows-length}
use Rattle.automata.proofs.ClassBisimulation.{wf_constants, wf_transition, move-transition, move-makes, step_back, conf-listed, listed-conf, related_test, related_state, row_of}

abbrev pub renamed_state : Renaming → State → State
renamed_state π s = record { location = s.location; valuation = rename π s.valuation }

abbrev pub renamed_move : Renaming → Move → Move
renamed_move π m = record { transition = m.transition; parameters = rename π m.parameters; valuation = rename π m.valuation }

module _ (a : Automaton) (wf : T (well_formed a)) (π : Renaming) (fixed : rename π a.constants ≡ a.constants) where
  pub makes_renamed : (t : Transition) → T (fits_transition a t) → (v ps w : List ℕ) → length v ≡ a.registers → T (makes a t v ps w)
      → T (makes a t (rename π v) (rename π ps) (rename π w))
  makes_renamed t fits v ps w wide m =
      let few = makes-few a t v ps w m in
      let wide' = makes-wide a t v ps w m in
      makes-intro a t (rename π v) (rename π ps) (rename π w) (length-map ps π.to ∙ few) (length-map w π.to ∙ wide')
      (subst⁻¹ T (guard_agrees π a.constants v ps fixed refl refl t.guard (fits_guard a t (wf_constants a wf) fits v wide ps few)) (makes-guard a t v ps w m))
      (held_renamed π (constant_count a) (length ps) w t.assigns (fits-assigns a t (wf_constants a wf) fits v wide (length w) (length ps) wide' few)
      ∙ ap (rename π) (makes-held a t v ps w m)
      ∙ sym (written_renamed π a.constants v ps fixed refl refl t.assigns (fits-assigns a t (wf_constants a wf) fits v wide (length v) (length ps) wide few)))

  pub step_renamed : (s : State) (m : Move) → Proper a s → T (is_step a s m) → T (is_step a (renamed_state π s) (renamed_move π m))
  step_renamed s m p f =
      let t : Transition = transition_of a m.transition in
      let made : T (makes a t (rename π s.valuation) (rename π m.parameters) (rename π m.valuation)) =
      makes_renamed t (wf_transition a wf (move-transition a wf s m f)) s.valuation m.parameters m.valuation p.wide (move-makes a wf s m f) in
      let low : T (leb 1 m.transition) = search (and_l, and_r) in
      let high : T (leb m.transition (length a.transitions)) = search (and_l, and_r) in
      let from : T (eqb t.from s.location) = search (and_l, and_r) in
      search and_i

  pub conf_renamed : (s : State) → conf a (renamed_state π s) ≡ conf a s
  conf_renamed s = configuration-path (conf a (renamed_state π s)) (conf a s) refl
      (ap (λ cs. labels cs (rename π s.valuation)) (sym fixed) ∙ labels_renamed π a.constants s.valuation)

module _ (a : Automaton) (wf : T (well_formed a)) where
  -- to each state of the second configuration a step from some state of the first
  pub step-into : (c : Configuration) (s' : State) → Listed a c → Proper a s' → T (step_conf a c (conf a s')) → (s : State) × Proper a s × (conf a s ≡ c) × Step a s s'
  step-into c s' listed p' st =
      let (s₀, p₀, e₀) = listed-conf a wf c listed in
      let (s₁, one, e₁) = step_back a wf s₀ (conf a s') p₀ (conf-listed a wf s' p').class (subst⁻¹ (λ d. T (step_conf a d (conf a s'))) e₀ st) in
      let m : Move = one.move in
      let (π, fixed, turned) = same_class a.constants s₁.valuation s'.valuation (ap (λ (d : Configuration). d.class) e₁) in
      let there : (transition_of a m.transition).to ≡ s'.location = ap (λ (x : State). x.location) one.ends ∙ ap (λ (d : Configuration). d.location) e₁ in
      let held : rename π m.valuation ≡ s'.valuation = ap (λ (x : State). rename π x.valuation) one.ends ∙ turned in (
        renamed_state π s₀,
        record { location = p₀.location; wide = length-map s₀.valuation π.to ∙ p₀.wide },
        conf_renamed a wf π fixed s₀ ∙ e₀,
        record { move = renamed_move π m; fits = step_renamed a wf π fixed s₀ m p₀ one.fits; ends = λ i. record { location = there i; valuation = held i } },
      )

  -- the same of the graph's nodes
  pub edge_into : (i j : ℕ) (y : State) → i < length (rows a) → Related a y j → In (get_or (rows a) i []) j → (x : State) × Related a x i × Step a x y
  edge_into i j y h d e =
      let (x₀, b) = related_state a wf i (rw (rows-length a) at h) in
      let same : get_or (get_or (rows a) i []) j false ≡ step_conf a (conf a x₀) (conf a y) = ap (λ r. get_or r j false) (row_of a wf x₀ i b) ∙ related_test a wf (step_conf a (conf a x₀)) y j d in
      let (x, p, c, st) = step-into (conf a x₀) y (conf-listed a wf x₀ b.proper) d.proper (subst T same e) in
      (x, record { proper = p; named = ap (number a) c ∙ b.named }, st)

-- A state is stuck exactly if no transition from its location has a guard that is met with any parameters: whatever is assigned, some new contents hold it.
-- Assumes nothing.
use Prim.Native.Nat.{ℕ, suc, pred, ◌≤◌, ◌<◌}
use mathlib.Core.List.{List, [], ◌∷◌, map, Memᴰ}
use mathlib.Core.Logic.{◌↔◌}
use mathlib.Core.Path.{◌≡◌, refl, ap₂, ◌∙◌}
use native.Mathlib.Omega.{arith}
use lib.Dec.{T, eqb→eq}
use lib.Ieee.Fits.{and_l, and_r, eq→eqb}
use lib.ListN.{length, set, length-set}
use lib.Seq.{get_or-set_same, get_or-set_other}
use Rattle.graphs.specs.Lists.{all_of}
use Rattle.graphs.proofs.Lists.{and_elim, mem-get_or}
use Rattle.classes.specs.Renaming.{rising}
use Rattle.classes.proofs.Renamings.{rising-above, rising-tail}
use Rattle.automata.specs.Automaton.{Assignment, Transition, Automaton, arity, value, meets}
use Rattle.automata.specs.Runs.{State, Move, Step, transition_of, nowhere, after}
use Rattle.automata.specs.Questions.{Stuck}
use Rattle.automata.specs.WellFormed.{well_formed, Proper, inside, constant_count, fits_term, fits_assignment, fits_transition}
use Rattle.automata.specs.ConfigurationGraph.{held, written}
use Rattle.automata.proofs.Equivariance.{inside→}
use Rattle.automata.proofs.StepClasses.{makes-few, makes-guard, makes-intro}
use Rattle.automata.proofs.ClassBisimulation.{wf_transition, move-transition, move-makes, move-from, move-steps}

-- a value stored below the registers of these assignments changes none of them
held_below : (o : List ℕ) (b x : ℕ) (ss : List Assignment) → 1 ≤ b → ((y : ℕ) → Memᴰ y (map (λ s. s.register) ss) → b < y) → held (set o (pred b) x) ss ≡ held o ss
held_below o b x [] low above = refl
held_below o b x (s ∷ ss) low above =
    let l : b < s.register = above s.register (Memᴰ.head refl) in
    ap₂ ◌∷◌ (get_or-set_other o (pred b) (pred s.register) x 0 (λ e. omega arith)) (held_below o b x ss low (λ y m. above y (Memᴰ.tail m)))

module _ (cs v ps : List ℕ) (n : ℕ) where
  -- the old contents, with what is written in the registers that are assigned
  stored : List Assignment → List ℕ
  stored [] = v
  stored (s ∷ ss) = set (stored ss) (pred s.register) (value cs v ps s.source)

  stored-length : (ss : List Assignment) → length (stored ss) ≡ length v
  unfolding stored
  stored-length [] = refl
  stored-length (s ∷ ss) = length-set (stored ss) (pred s.register) (value cs v ps s.source) ∙ stored-length ss

  stored-held : (ss : List Assignment) → T (all_of (fits_assignment (length cs) (length v) n) ss) → T (rising (map (λ s. s.register) ss)) → held (stored ss) ss ≡ written cs v ps ss
  unfolding stored
  stored-held [] f t = refl
  stored-held (s ∷ ss) f t =
      let (here, rest) = and_elim (fits_assignment (length cs) (length v) n s) (all_of (fits_assignment (length cs) (length v) n) ss) f in
      let (low, high) = inside→ (length v) s.register (and_l (inside (length v) s.register) (fits_term (length cs) (length v) n s.source) here) in
      ap₂ ◌∷◌ (get_or-set_same (stored ss) (pred s.register) (value cs v ps s.source) 0 (omega (arith, stored-length ss)))
      (held_below (stored ss) s.register (value cs v ps s.source) ss low (rising-above s.register (map (λ s. s.register) ss) t) ∙ stored-held ss rest (rising-tail s.register (map (λ s. s.register) ss) t))

module _ (a : Automaton) (wf : T (well_formed a)) (s : State) (p : Proper a s) where
  -- the transition leaves the state's location, and its guard is met with these parameters
  pub record Enabled (t : Transition) (ps : List ℕ) : Type 0 where
    pub listed : Memᴰ t a.transitions
    pub leaves : t.from ≡ s.location
    pub few : length ps ≡ arity a t
    pub guard : T (all_of (meets a.constants s.valuation ps) t.guard)

  -- then there is a step
  enabled_step : (t : Transition) (ps : List ℕ) → Enabled t ps → (s' : State) × Step a s s'
  enabled_step t ps f =
      let ok : T (fits_transition a t) = wf_transition a wf f.listed in
      let w : List ℕ = stored a.constants s.valuation ps (arity a t) t.assigns in
      let assigns : T (all_of (fits_assignment (constant_count a) (length s.valuation) (arity a t)) t.assigns) = rw p.wide (search (and_l, and_r)) in
      let apart : T (rising (map (λ s. s.register) t.assigns)) = search (and_l, and_r) in
      let (i, h, e) = mem-get_or nowhere f.listed in
      let m : Move = record { transition = suc i; parameters = ps; valuation = w } in (
        after a m,
        record {
          move = m;
          fits = move-steps a wf s i t ps w h e (eq→eqb f.leaves)
              (makes-intro a t s.valuation ps w f.few (stored-length a.constants s.valuation ps (arity a t) t.assigns ∙ p.wide) f.guard
              (stored-held a.constants s.valuation ps (arity a t) t.assigns assigns apart));
          ends = refl;
        },
      )

  -- stuck is a state where no transition is enabled, with any parameters
  pub stuck_enabled : Stuck a s ↔ ((t : Transition) (ps : List ℕ) → Enabled t ps → ⊥)
  stuck_enabled = (
    (λ stuck t ps f. let (s', st) = enabled_step t ps f in stuck s' st),
    (λ none s' st.
        let m : Move = st.move in
        let t : Transition = transition_of a m.transition in
        let made = move-makes a wf s m st.fits in
        none t m.parameters (record {
          listed = move-transition a wf s m st.fits;
          leaves = eqb→eq t.from s.location (move-from a wf s m st.fits);
          few = makes-few a t s.valuation m.parameters m.valuation made;
          guard = makes-guard a t s.valuation m.parameters m.valuation made;
        })),
  )

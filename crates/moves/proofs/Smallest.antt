-- `smallest` finds the smallest move, or there is none; and there is one wherever the configurations have a step.
-- Assumes nothing.
use Prim.Native.Nat.{ℕ, zero, suc, ◌+◌, ◌≤◌, ◌<◌, pred}
use mathlib.Core.Bool.{Bool, ◌&&◌}
use mathlib.Core.List.{List, ◌++◌, Memᴰ}
use mathlib.Core.Logic.{inl, inr, by_cases}
use mathlib.Core.Option.{Option, none, some}
use mathlib.Core.Path.{◌≡◌, refl, sym, ap, ◌∙◌, subst, subst⁻¹}
use native.Mathlib.Decide.{ℕ_discrete}
use native.Mathlib.Omega.{arith}
use lib.Dec.{T, eqb, eqb→eq, leb, leb→le, le→leb}
use lib.Ieee.Fits.{and_i, and_l, and_r, eq→eqb}
use lib.ListN.{length}
use Rattle.graphs.specs.Lists.{all_of, AtMost}
use Rattle.graphs.proofs.Lists.{and_elim, all_of-mem, get_or-mem}
use Rattle.classes.specs.Renaming.{rising}
use Rattle.classes.specs.Classes.{labels}
use Rattle.classes.specs.Contents.{notes, identifiers, Legal}
use Rattle.classes.proofs.Catalogue.{lists-mem}
use Rattle.automata.specs.Automaton.{Transition, Automaton, arity}
use Rattle.automata.specs.Runs.{State, Move, nowhere, transition_of, makes, is_step, after}
use Rattle.automata.specs.WellFormed.{well_formed, Proper, constant_count}
use Rattle.automata.specs.Configurations.{Configuration, conf}
use Rattle.automata.specs.ConfigurationGraph.{step_conf, Listed}
use Rattle.automata.proofs.StepClasses.{makes-few}
use Rattle.automata.proofs.Numbering.{configuration-path}
use Rattle.automata.proofs.ClassBisimulation.{wf_constants, wf_transition, move-makes, move-from, step_back}
use Rattle.moves.specs.Moves.{MoveAnswer, pool, tuples, passes, renewed, joins, parameters_of, move_with, smallest_from, smallest, roomy_for, roomy}
use Rattle.moves.specs.Taken.{Leads, spelled, Pooled, Smallest}
use Rattle.graphs.proofs.Dictionary.{at_most_antisym, at_most_trans, at_most_append, at_most_cons}
use Rattle.moves.proofs.Tuples.{pool-mem, mem-pool, mem-tuples, tuples-mem, tuples_ascending, FirstOf, first_of}
use Rattle.moves.proofs.Renewed.{renewed-makes, makes-passes, lowered, lowered-length, lowered-least, lowered-passes, lowered-pooled, renewed-pooled}

module _ (n : ℕ) (a : Automaton) (wf : T (well_formed a)) (room : T (roomy n a)) (s : State) (proper : Proper a s) (pooled : Pooled n a.constants s.valuation)
    (d : Configuration) (listed : Listed a d) where
  legal : Legal (constant_count a) d.class
  legal = (lists-mem a.registers (constant_count a) d.class listed.class).0

  wide : length d.class ≡ a.registers
  wide = (lists-mem a.registers (constant_count a) d.class listed.class).1

  room_for : {t : Transition} → Memᴰ t a.transitions → T (roomy_for n a t)
  room_for m = let h : T (all_of (roomy_for n a) a.transitions) = search and_r in all_of-mem (roomy_for n a) a.transitions h m

  -- One transition

  module _ (i : ℕ) (low : 1 ≤ i) (high : i ≤ length a.transitions) where
    abbrev t : Transition
    t = transition_of a i

    present : Memᴰ t a.transitions
    present = get_or-mem a.transitions (pred i) nowhere (omega arith)

    abbrev suits : List ℕ → Bool
    suits ps = joins t s d && passes a t s.valuation d.class ps

    -- parameters that suit make a move
    suits-leads : (ps : List ℕ) → length ps ≡ arity a t → T (suits ps) → Leads a s d (move_with a s d i ps)
    suits-leads ps few h =
        let (j, p) = and_elim (joins t s d) (passes a t s.valuation d.class ps) h in
        let (from, to) = and_elim (eqb t.from s.location) (eqb t.to d.location) j in
        let (m, e) = renewed-makes a t (wf_constants a wf) (wf_transition a wf present) s.valuation proper.wide d.class legal wide ps few p in
        let l : T (leb 1 i) = le→leb 1 i low in
        let u : T (leb i (length a.transitions)) = le→leb i (length a.transitions) high in
        record { step = search and_i; ends = configuration-path (conf a (after a (move_with a s d i ps))) d (eqb→eq t.to d.location to) e }

    abbrev move : List ℕ → List ℕ → Move
    move ps w = record { transition = i; parameters = ps; valuation = w }

    -- a move by this transition has parameters that suit, and its contents are not smaller than those made for them
    module _ (ps w : List ℕ) (h : Leads a s d (move ps w)) where
      made : T (makes a t s.valuation ps w)
      made = move-makes a wf s (move ps w) h.step

      few : length ps ≡ arity a t
      few = makes-few a t s.valuation ps w made

      leads-suits : T (suits ps) × AtMost (renewed a t s.valuation d.class ps) w
      leads-suits =
          let from : T (eqb t.from s.location) = move-from a wf s (move ps w) h.step in
          let to : T (eqb t.to d.location) = eq→eqb (ap (λ c. c.location) h.ends) in
          let (p, u) = makes-passes a t (wf_constants a wf) (wf_transition a wf present) s.valuation proper.wide ps w made in
          let e : labels a.constants w ≡ d.class = ap (λ c. c.class) h.ends in
          let p' : T (passes a t s.valuation d.class ps) = subst (λ k. T (passes a t s.valuation k ps)) e p in
          (search and_i, subst (λ k. AtMost (renewed a t s.valuation k ps) w) e u)

      abbrev least : List ℕ
      least = lowered a t (wf_constants a wf) (wf_transition a wf present) s.valuation proper.wide ps

      least-few : length least ≡ arity a t
      least-few = lowered-length a t (wf_constants a wf) (wf_transition a wf present) s.valuation proper.wide ps ∙ few

      -- parameters in the pool that suit and are not larger
      in_pool : Memᴰ least (tuples (arity a t) (pool n a.constants)) × T (suits least) × AtMost least ps
      in_pool =
          let (j, p) = and_elim (joins t s d) (passes a t s.valuation d.class ps) leads-suits.0 in
          let q : T (passes a t s.valuation d.class least) =
          lowered-passes a t (wf_constants a wf) (wf_transition a wf present) s.valuation proper.wide d.class ps few p in
          let inside = lowered-pooled a t (wf_constants a wf) (wf_transition a wf present) s.valuation proper.wide n (room_for present) pooled ps few in (
            subst (λ k. Memᴰ least (tuples k (pool n a.constants))) least-few (mem-tuples (pool n a.constants) least (λ x m. mem-pool n a.constants x (inside x m))),
            and_i (joins t s d) (passes a t s.valuation d.class least) j q,
            lowered-least a t (wf_constants a wf) (wf_transition a wf present) s.valuation proper.wide ps,
          )

    -- what is found says of the moves by this transition
    abbrev Found : Option (List ℕ) → Type 0
    Found none = (ps w : List ℕ) → Leads a s d (move ps w) → ⊥
    Found (some ps) =
        Leads a s d (move_with a s d i ps)
        × ((qs w : List ℕ) → Leads a s d (move qs w) → AtMost (ps ++ renewed a t s.valuation d.class ps) (qs ++ w))
        × Pooled n a.constants ps
        × Pooled n a.constants (renewed a t s.valuation d.class ps)

    found : (o : Option (List ℕ)) → FirstOf suits (tuples (arity a t) (pool n a.constants)) o → Found o
    found none f = λ ps w h. let (m, q, _) = in_pool ps w h in f (least ps w h) m q
    found (some ps) (m, q, first) =
        let (len, inside) = tuples-mem (arity a t) (pool n a.constants) ps m in
        let small : Pooled n a.constants ps = λ x o. pool-mem n a.constants x (inside x o) in (
          suits-leads ps len q,
          (λ qs w h.
              let (m', q', u) = in_pool qs w h in
              at_most_append ps qs (renewed a t s.valuation d.class ps) w (len ∙ sym (few qs w h))
              (at_most_trans ps (least qs w h) qs (first (least qs w h) m' q') u)
              (λ e. subst⁻¹ (λ l. AtMost (renewed a t s.valuation d.class l) w) e (leads-suits qs w h).1)),
          small,
          renewed-pooled a t (wf_constants a wf) (wf_transition a wf present) s.valuation proper.wide n (room_for present) pooled d.class ps wide len
              (and_r (joins t s d) (passes a t s.valuation d.class ps) q) small,
        )

    by_transition : Found (parameters_of n a t s d)
    by_transition =
        let r : T (rising a.constants) = search (and_l, and_r) in
        found (parameters_of n a t s d) (first_of suits (tuples (arity a t) (pool n a.constants)) (tuples_ascending (arity a t) n a.constants r))

    -- For code: the parameters found are the smallest identifiers of their own labels, so that it is enough to try one list for each list of labels
    abbrev IsLowered : Option (List ℕ) → Type 0
    IsLowered none = Unit {0}
    IsLowered (some ps) = ps ≡ identifiers (notes a.constants s.valuation) (labels (notes a.constants s.valuation) ps)

    pub found-lowered : IsLowered (parameters_of n a t s d)
    found-lowered =
        let r : T (rising a.constants) = search (and_l, and_r) in
        go (parameters_of n a t s d) (first_of suits (tuples (arity a t) (pool n a.constants)) (tuples_ascending (arity a t) n a.constants r))
      where
        go : (o : Option (List ℕ)) → FirstOf suits (tuples (arity a t) (pool n a.constants)) o → IsLowered o
        go none f = tt
        go (some ps) (m, q, first) =
            let h = suits-leads ps (tuples-mem (arity a t) (pool n a.constants) ps m).0 q in
            let w : List ℕ = renewed a t s.valuation d.class ps in
            let (m', q', u) = in_pool ps w h in
            at_most_antisym ps (least ps w h) (first (least ps w h) m' q') u

  -- All transitions

  -- what an answer says of the moves by the transitions i, .. , i + k - 1
  abbrev Among : ℕ → ℕ → Option Move → Type 0
  Among i k none = (m : Move) → i ≤ m.transition → m.transition < i + k → Leads a s d m → ⊥
  Among i k (some m) =
      Leads a s d m
      × ((m' : Move) → i ≤ m'.transition → Leads a s d m' → AtMost (spelled m) (spelled m'))
      × Pooled n a.constants m.parameters
      × Pooled n a.constants m.valuation

  -- a move by the transition i, and not a later one
  at-number : (i : ℕ) (m : Move) → m.transition ≡ i → Leads a s d m → Leads a s d (record { transition = i; parameters = m.parameters; valuation = m.valuation })
  at-number i m e h = subst (λ j. Leads a s d (record { transition = j; parameters = m.parameters; valuation = m.valuation })) e h

  smallest-from : (i k : ℕ) → 1 ≤ i → i + k ≡ suc (length a.transitions) → Among i k (smallest_from n a s d i k)
  smallest-from i zero low e = λ m l u h. omega arith
  smallest-from i (suc k) low e =
      step (parameters_of n a (transition_of a i) s d) (by_transition i low (omega arith)) (smallest_from n a s d (suc i) k) (smallest-from (suc i) k (omega arith) (omega arith))
    where
      step : (o : Option (List ℕ)) → Found i low (omega arith) o → (r : Option Move) → Among (suc i) k r
          → Among i (suc k) (elim o [ none ↦ r | some ps ↦ some (move_with a s d i ps) ])
      step none f none r = λ m l u h. by_cases (ℕ_discrete m.transition i)
          (λ q. f m.parameters m.valuation (at-number i m q h)) (λ q. r m (omega arith) (omega arith) h)
      step none f (some x) (leads, first, ps, w) = (
        leads,
        (λ m l h. by_cases (ℕ_discrete m.transition i)
            (λ q. absurd (f m.parameters m.valuation (at-number i m q h))) (λ q. first m (omega arith) h)),
        ps,
        w,
      )
      step (some qs) (leads, first, ps, w) r _ = (
        leads,
        (λ m l h. by_cases (ℕ_discrete m.transition i)
            (λ q. at_most_cons (sym q) (first m.parameters m.valuation (at-number i m q h)))
            (λ q. inr (inl (omega arith)))),
        ps,
        w,
      )

  -- of all moves from s to d, with whatever natural numbers, `smallest` is the smallest, or there is none
  pub smallest-is : MoveAnswer n a s d (smallest n a s d)
  smallest-is = go (smallest n a s d) (smallest-from 1 (length a.transitions) (omega arith) (omega arith))
    where
      from_one : (m : Move) → Leads a s d m → (1 ≤ m.transition) × (m.transition ≤ length a.transitions)
      from_one m h =
          let t : T (is_step a s m) = h.step in
          (leb→le 1 m.transition (search (and_l, and_r)), leb→le m.transition (length a.transitions) (search (and_l, and_r)))

      go : (o : Option Move) → Among 1 (length a.transitions) o → MoveAnswer n a s d o
      go none never = λ m h. let (low, high) = from_one m h in never m low (omega arith) h
      go (some m) (leads, first, ps, w) = record { leads = leads; least = λ m' h. first m' (from_one m' h).0 h; parameters = ps; valuation = w }

  -- a move is found wherever the configurations have a step
  pub smallest-found : T (step_conf a (conf a s) d) → (m : Move) × (smallest n a s d ≡ some m) × Smallest n a s d m
  smallest-found h = go (smallest n a s d) refl smallest-is
    where
      go : (o : Option Move) → smallest n a s d ≡ o → MoveAnswer n a s d o → (m : Move) × (smallest n a s d ≡ some m) × Smallest n a s d m
      go none e never =
          let (s', st, c) = step_back a wf s d proper listed.class h in
          absurd (never st.move (record { step = st.fits; ends = ap (conf a) st.ends ∙ c }))
      go (some m) e is = (m, e, is)

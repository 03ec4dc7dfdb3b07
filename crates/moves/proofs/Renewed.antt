-- One transition: the parameters that pass are those of a step, the new contents made for them are the smallest, and smaller parameters in the pool pass too.
-- Assumes nothing.
use Prim.Native.Nat.{ℕ, ◌+◌, ◌≤◌, ◌<◌, pred}
use mathlib.Core.List.Memᴰ
use mathlib.Core.List.{List, ◌++◌, map-append, map-map, Memᴰ}
use mathlib.Core.Logic.{◌⊎◌, inl, inr}
use mathlib.Core.Path.{◌≡◌, refl, sym, ◌∙◌, subst, subst⁻¹}
use native.Mathlib.Omega.{arith}
use lib.Dec.{T, leb→le}
use lib.Ieee.Fits.{and_i, and_l, and_r}
use lib.ListN.{length, length-map}
use Rattle.graphs.specs.Lists.{item, up_from, eq_list, all_of, AtMost}
use Rattle.graphs.proofs.Lists.{all_of-mem, eq_list→eq, eq_list_refl, append_inj, get_or-mem, up_from-length}
use Rattle.classes.specs.Renaming.{Renaming, rename, Distinct}
use Rattle.classes.specs.Classes.{labels}
use Rattle.classes.specs.Contents.{notes, identifiers, Legal}
use Rattle.classes.proofs.Renamings.{compose, inverse, rename-back}
use Rattle.classes.proofs.Labels.{labels_renamed, same_class}
use Rattle.classes.proofs.Legal.{notes-le, labels_append, labels_length, notes-length, labels-legal, legal-labels, to-labels}
use Rattle.automata.specs.Automaton.{Term, Assignment, Transition, Automaton, arity, value, meets}
use Rattle.automata.specs.Automaton.Term.{register, parameter, constant}
use Rattle.automata.specs.Runs.{makes}
use Rattle.automata.specs.WellFormed.{inside, constant_count, fits_term, fits_assignment, fits_transition}
use Rattle.automata.specs.ConfigurationGraph.{marks, written, held}
use Rattle.automata.proofs.Equivariance.{inside→, guard_agrees, written_renamed, held_renamed}
use Rattle.automata.proofs.StepClasses.{makes-few, makes-wide, makes-guard, makes-held, makes-intro, fits-assigns, fits_guard}
use Rattle.moves.specs.Moves.{passes, renewed, roomy_for}
use Rattle.moves.specs.Taken.{Pooled}
use Rattle.classes.proofs.Identifiers.{notes-distinct, notes_renamed, notes_every, identifiers-length, identifiers-labels, identifiers-least, identifiers_every}

-- two pairs of lists with the same labels, over constants and over their marks: a renaming takes the marks to the constants and one pair to the other
from-marks : (cs u w h k : List ℕ) → Distinct cs → length h ≡ length u → labels cs (u ++ w) ≡ labels (up_from 1 (length cs)) (h ++ k)
    → (σ : Renaming) × (rename σ (up_from 1 (length cs)) ≡ cs) × (rename σ h ≡ u) × (rename σ k ≡ w)
from-marks cs u w h k d n e =
    let ms : List ℕ = up_from 1 (length cs) in
    let l : List ℕ = labels cs (u ++ w) in
    let (π, c, r) = to-labels cs (u ++ w) d in
    let (ρ, c', r') = same_class ms (h ++ k) l (sym e ∙ sym (legal-labels (length cs) l (labels-legal cs (u ++ w)))) in
    let σ : Renaming = compose (inverse π) ρ in
    let m : rename σ ms ≡ cs = cc (map-map π.from ρ.to ms, rename-back (inverse π) cs) in
    let q : rename σ (h ++ k) ≡ u ++ w = cc (map-map π.from ρ.to (h ++ k), rename-back (inverse π) (u ++ w)) in
    let (x, y) = append_inj (rename σ h) u (rename σ k) w (length-map h σ.to ∙ n) (sym (map-append σ.to h k) ∙ q) in
    (σ, m, x, y)

module _ (a : Automaton) (t : Transition) (distinct : Distinct a.constants) (fits : T (fits_transition a t)) (v : List ℕ) (wide : length v ≡ a.registers) where
  -- what `passes` says of the values written and of those held
  module _ (k ps : List ℕ) (pass : T (passes a t v k ps)) where
    passes-guard : T (all_of (meets a.constants v ps) t.guard)
    passes-guard = search and_l

    passes-labels : labels a.constants (written a.constants v ps t.assigns) ≡ labels (marks a) (held k t.assigns)
    passes-labels = eq_list→eq (labels a.constants (written a.constants v ps t.assigns)) (labels (marks a) (held k t.assigns)) (search (and_l, and_r))

    -- the labels of k after them are legal after the values written
    passes-legal : Legal (length (notes a.constants (written a.constants v ps t.assigns))) (labels (notes (marks a) (held k t.assigns)) k)
    passes-legal =
        let u : List ℕ = written a.constants v ps t.assigns in
        let h : List ℕ = held k t.assigns in
        let n : length (notes (marks a) h) ≡ length (notes a.constants u) =
        cc (notes-length a.constants u, notes-length (marks a) h, up_from-length 1 (constant_count a), passes-labels) in
        rw n at (labels-legal (notes (marks a) h) k)

  -- the new contents for parameters that pass
  pub renewed-makes : (k : List ℕ) → Legal (constant_count a) k → length k ≡ a.registers → (ps : List ℕ) → length ps ≡ arity a t → T (passes a t v k ps)
      → T (makes a t v ps (renewed a t v k ps)) × (labels a.constants (renewed a t v k ps) ≡ k)
  renewed-makes k legal wide' ps few pass =
      let cs : List ℕ = a.constants in
      let ss : List Assignment = t.assigns in
      let u : List ℕ = written cs v ps ss in
      let h : List ℕ = held k ss in
      let w : List ℕ = renewed a t v k ps in
      let l : labels (notes cs u) w ≡ labels (notes (marks a) h) k =
      identifiers-labels (notes cs u) (labels (notes (marks a) h) k) (notes-distinct cs u distinct) (passes-legal k ps pass) in
      let n : length h ≡ length u = length-map ss (λ s. item k s.register) ∙ sym (length-map ss (λ s. value cs v ps s.source)) in
      let (σ, c, rh, rk) = from-marks cs u w h k distinct n (cc (labels_append cs u w, labels_append (marks a) h k, passes-labels k ps pass)) in
      let wide-w : length w ≡ a.registers = identifiers-length (notes cs u) (labels (notes (marks a) h) k) ∙ labels_length (notes (marks a) h) k ∙ wide' in
      let same : held w ss ≡ u = cc (held_renamed σ (constant_count a) (arity a t) k ss (fits-assigns a t distinct fits v wide (length k) (arity a t) wide' refl)) in
      (makes-intro a t v ps w few wide-w (passes-guard k ps pass) same, cc (labels_renamed σ (marks a) k, legal-labels (constant_count a) k legal))

  -- the parameters of a step pass, and the new contents made for them are the smallest
  pub makes-passes : (ps w : List ℕ) → T (makes a t v ps w)
      → T (passes a t v (labels a.constants w) ps) × AtMost (renewed a t v (labels a.constants w) ps) w
  makes-passes ps w m =
      let cs : List ℕ = a.constants in
      let ss : List Assignment = t.assigns in
      let u : List ℕ = written cs v ps ss in
      let k : List ℕ = labels cs w in
      let h : List ℕ = held k ss in
      let few = makes-few a t v ps w m in
      let wide' = makes-wide a t v ps w m in
      let (π, c, r) = to-labels cs w distinct in
      let same : h ≡ rename π u = cc (
        held_renamed π (constant_count a) (length ps) w ss (fits-assigns a t distinct fits v wide (length w) (length ps) wide' few),
        makes-held a t v ps w m,
      ) in
      let e : labels cs u ≡ labels (marks a) h = cc (labels_renamed π cs u) in
      let l : labels (notes (marks a) h) k ≡ labels (notes cs u) w = cc (labels_renamed π (notes cs u) w, notes_renamed π cs u) in (
        and_i (all_of (meets cs v ps) t.guard) (eq_list (labels cs u) (labels (marks a) h)) (makes-guard a t v ps w m) (rw e (eq_list_refl (labels (marks a) h))),
        subst⁻¹ (λ x. AtMost (identifiers (notes cs u) x) w) l (identifiers-least (notes cs u) w),
      )

  -- the smallest parameters that are equal to each other, to contents and to constants where ps are
  abbrev pub lowered : List ℕ → List ℕ
  lowered ps = identifiers (notes a.constants v) (labels (notes a.constants v) ps)

  pub lowered-length : (ps : List ℕ) → length (lowered ps) ≡ length ps
  lowered-length ps = identifiers-length (notes a.constants v) (labels (notes a.constants v) ps) ∙ labels_length (notes a.constants v) ps

  pub lowered-least : (ps : List ℕ) → AtMost (lowered ps) ps
  lowered-least ps = identifiers-least (notes a.constants v) ps

  -- they pass where ps do
  pub lowered-passes : (k ps : List ℕ) → length ps ≡ arity a t → T (passes a t v k ps) → T (passes a t v k (lowered ps))
  lowered-passes k ps few pass =
      let cs : List ℕ = a.constants in
      let ss : List Assignment = t.assigns in
      let ps' : List ℕ = lowered ps in
      let e : labels (notes cs v) ps' ≡ labels (notes cs v) ps = identifiers-labels (notes cs v) (labels (notes cs v) ps) (notes-distinct cs v distinct) (labels-legal (notes cs v) ps) in
      let (π, c, r) = same_class cs (v ++ ps) (v ++ ps') (cc (labels_append cs v ps, labels_append cs v ps')) in
      let (rv, rp) = append_inj (rename π v) v (rename π ps) ps' (length-map v π.to) (sym (map-append π.to v ps) ∙ r) in
      let g : all_of (meets cs v ps') t.guard ≡ all_of (meets cs v ps) t.guard = guard_agrees π cs v ps c rv rp t.guard (fits_guard a t distinct fits v wide ps few) in
      let l : labels cs (written cs v ps' ss) ≡ labels cs (written cs v ps ss) = cc (
        written_renamed π cs v ps c rv rp ss (fits-assigns a t distinct fits v wide (length v) (length ps) wide few),
        labels_renamed π cs (written cs v ps ss),
      ) in
      rw (g, l) pass

  -- Where the identifiers lie

  module _ (n : ℕ) (roomy : T (roomy_for n a t)) (pooled : Pooled n a.constants v) where
    abbrev InPool : ℕ → Type 0
    InPool x = Memᴰ x a.constants ⊎ (x < n)

    known : (y : ℕ) → Memᴰ y a.constants → InPool y
    known y m = inl m

    pub lowered-pooled : (ps : List ℕ) → length ps ≡ arity a t → Pooled n a.constants (lowered ps)
    lowered-pooled ps few =
        let cs : List ℕ = a.constants in
        let room : constant_count a + a.registers + arity a t ≤ n = leb→le (constant_count a + a.registers + arity a t) n (search and_l) in
        identifiers_every InPool (notes cs v) (labels (notes cs v) ps) (notes_every InPool cs v known pooled)
        (λ y h. inr (omega (arith, notes-le cs v, labels_length (notes cs v) ps))) (notes-distinct cs v distinct) (labels-legal (notes cs v) ps)

    value-pooled : (ps : List ℕ) → Pooled n a.constants ps → (x : Term) → T (fits_term (constant_count a) (length v) (length ps) x) → InPool (value a.constants v ps x)
    value-pooled ps h (register i) f = let (low, high) = inside→ (length v) i f in pooled (item v i) (get_or-mem v (pred i) 0 (omega arith))
    value-pooled ps h (parameter i) f = let (low, high) = inside→ (length ps) i f in h (item ps i) (get_or-mem ps (pred i) 0 (omega arith))
    value-pooled ps h (constant i) f = let (low, high) = inside→ (constant_count a) i f in inl (get_or-mem a.constants (pred i) 0 (omega arith))

    written-pooled : (ps : List ℕ) → length ps ≡ arity a t → Pooled n a.constants ps → Pooled n a.constants (written a.constants v ps t.assigns)
    written-pooled ps few h y m =
        let (s, sm, e) = Memᴰ.of_map (λ s. value a.constants v ps s.source) t.assigns m in
        let f : T (fits_assignment (constant_count a) (length v) (length ps) s) =
        all_of-mem (fits_assignment (constant_count a) (length v) (length ps)) t.assigns (fits-assigns a t distinct fits v wide (length v) (length ps) wide few) sm in
        subst InPool e (value-pooled ps h s.source (and_r (inside (length v) s.register) (fits_term (constant_count a) (length v) (length ps) s.source) f))

    pub renewed-pooled : (k ps : List ℕ) → length k ≡ a.registers → length ps ≡ arity a t → T (passes a t v k ps) → Pooled n a.constants ps
        → Pooled n a.constants (renewed a t v k ps)
    renewed-pooled k ps wide' few pass h =
        let cs : List ℕ = a.constants in
        let u : List ℕ = written cs v ps t.assigns in
        let l : List ℕ = labels (notes (marks a) (held k t.assigns)) k in
        let room : constant_count a + a.registers + length t.assigns ≤ n = leb→le (constant_count a + a.registers + length t.assigns) n (search and_r) in
        identifiers_every InPool (notes cs u) l (notes_every InPool cs u known (written-pooled ps few h))
        (λ y q. inr (omega (arith, notes-le cs u, labels_length (notes (marks a) (held k t.assigns)) k, length-map t.assigns (λ s. value cs v ps s.source))))
        (notes-distinct cs u distinct) (passes-legal k ps pass)

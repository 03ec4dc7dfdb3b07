-- What is known of a readable form: its counts, its transitions, and that they have structs.
-- Assumes nothing.
use Prim.Native.Nat.{ℕ, ◌+◌, ◌*◌, ◌≤◌, ◌<◌, pred}
use mathlib.Core.Bool.{Bool, true, false, not, cond}
use mathlib.Core.List.{List, [], ◌∷◌}
use mathlib.Core.Path.{◌≡◌, refl, sym, ap, ◌∙◌, subst, subst⁻¹}
use native.Mathlib.Omega.{arith}
use borrow.Author.Tests.{eq-eqb, ne_eqb}
use lib.Dec.{T, leb, eqb, leb→le}
use lib.Ieee.Fits.{and_i, and_l, and_r}
use lib.ListN.{length, get_or, set}
use Rattle.graphs.specs.Lists.{item, up_from, all_of}
use Rattle.graphs.proofs.Lists.{and_elim, all_of-mem, get_or-mem, get_d_map, up_from-length, up_from-get_or, up_from_values, get_d_le, up_from-value}
use Rattle.automata.specs.Automaton.{Term, Condition, Assignment, Transition, Automaton, arity}
use Rattle.automata.specs.Automaton.Term.{register, parameter, constant}
use Rattle.automata.specs.Runs.{nowhere}
use Rattle.automata.specs.WellFormed.{inside, fits_term, fits_condition, fits_assignment, fits_transition, constant_count, well_formed, limited}
use Rattle.automata.proofs.Equivariance.{inside→, →inside}
use Rattle.automata.proofs.ClassBisimulation.{wf_transition}
use Rattle.forms.specs.TableForm.{counts_row, constant_rows, action_rows, arity_row, starting_rows, transition_row, guard_rows, assignment_rows, cell}
use Rattle.forms.specs.FormAutomaton.{condition_at, assignment_at, transition_at, automaton_of, target_of, term_of, term_at}
use Rattle.forms.specs.declared.Guard.{Guard}
use Rattle.forms.specs.declared.Sets.{Sets}
use Rattle.forms.specs.declared.Arc.{Arc}
use Rattle.forms.specs.Readable.{Readable}
use Rattle.forms.specs.Slots.{slot_of, flag, guard_of, guard_with, sets_of, sets_with, arc_of, FitsGuard, Fits, ConditionFits, AssignmentFits, conditions_from, assignments_from}
use Rattle.lists.proofs.Arrays.{padded-below}
use Rattle.forms.proofs.Encoding.{lines-le}

-- Terms in a smaller range

inside_wider : (m n i : ℕ) → m ≤ n → T (inside m i) → T (inside n i)
inside_wider m n i h t = let (low, high) = inside→ m i t in →inside n i low (omega arith)

all_of_wider : {A : Type 0} (p q : A → Bool) (xs : List A) → ((x : A) → T (p x) → T (q x)) → T (all_of p xs) → T (all_of q xs)
all_of_wider p q [] h t = tt
all_of_wider p q (x ∷ xs) h t = let (u, r) = and_elim (p x) (all_of p xs) t in and_i (q x) (all_of q xs) (h x u) (all_of_wider p q xs h r)

module _ (c r p : ℕ) (hc : c ≤ 2) (hr : r ≤ 5) (hp : p ≤ 3) where
  term_wider : (t : Term) → T (fits_term c r p t) → T (fits_term 2 5 3 t)
  term_wider (register i) f = inside_wider r 5 i hr f
  term_wider (parameter i) f = inside_wider p 3 i hp f
  term_wider (constant i) f = inside_wider c 2 i hc f

  condition_wider : (d : Condition) → T (fits_condition c r p d) → T (fits_condition 2 5 3 d)
  condition_wider d f =
      let (l, m) = and_elim (fits_term c r p d.left) (fits_term c r p d.right) f in
      and_i (fits_term 2 5 3 d.left) (fits_term 2 5 3 d.right) (term_wider d.left l) (term_wider d.right m)

  assignment_wider : (s : Assignment) → T (fits_assignment c r p s) → T (fits_assignment 2 5 3 s)
  assignment_wider s f =
      let (l, m) = and_elim (inside r s.register) (fits_term c r p s.source) f in
      and_i (inside 5 s.register) (fits_term 2 5 3 s.source) (inside_wider r 5 s.register hr l) (term_wider s.source m)

  pub conditions_wider : (gs : List Condition) → T (all_of (fits_condition c r p) gs) → T (all_of (fits_condition 2 5 3) gs)
  conditions_wider gs = all_of_wider (fits_condition c r p) (fits_condition 2 5 3) gs condition_wider

  pub assignments_wider : (ss : List Assignment) → T (all_of (fits_assignment c r p) ss) → T (all_of (fits_assignment 2 5 3) ss)
  assignments_wider ss = all_of_wider (fits_assignment c r p) (fits_assignment 2 5 3) ss assignment_wider

-- Slots

slot_below : (t : Term) → T (fits_term 2 5 3 t) → slot_of t < 10
slot_below (register i) f = let (low, high) = inside→ 5 i f in omega arith
slot_below (parameter i) f = let (low, high) = inside→ 3 i f in omega arith
slot_below (constant i) f = let (low, high) = inside→ 2 i f in let h : pred i < 10 = omega arith in h

-- the number of a term that has a slot
pub term-number : (kind number : ℕ) → T (fits_term 2 5 3 (term_of kind number)) → (1 ≤ number) × (number ≤ 5)
term-number kind number f = go (eqb kind 1) (eqb kind 2) f
  where
    go : (a b : Bool) → T (fits_term 2 5 3 (cond a (register number) (cond b (parameter number) (constant number)))) → (1 ≤ number) × (number ≤ 5)
    go true b f = inside→ 5 number f
    go false true f = let (low, high) = inside→ 3 number f in (low, omega arith)
    go false false f = let (low, high) = inside→ 2 number f in (low, omega arith)

pub guard-fits : (gs : List Condition) → length gs ≤ 8 → T (all_of (fits_condition 2 5 3) gs) → FitsGuard (guard_of gs)
guard-fits gs h f = record {
  count_fits = h;
  left-fits = padded-below (λ g. slot_of g.left) 8 10 gs (omega arith) (λ g m. slot_below g.left (and_l (fits_term 2 5 3 g.left) (fits_term 2 5 3 g.right) (all_of-mem (fits_condition 2 5 3) gs f m)));
  right-fits = padded-below (λ g. slot_of g.right) 8 10 gs (omega arith) (λ g m. slot_below g.right (and_r (fits_term 2 5 3 g.left) (fits_term 2 5 3 g.right) (all_of-mem (fits_condition 2 5 3) gs f m)));
}

-- One row

absent : (t : List ℕ) (row : ℕ) → get_or t (6 * row) 0 ≡ 0 → eqb (cell t row 0) 0 ≡ true
absent t row h = let e : 6 * row + 0 ≡ 6 * row = omega arith in eq-eqb (cell t row 0) 0 (ap (λ i. get_or t i 0) e ∙ h)

there : (t : List ℕ) (row : ℕ) → (get_or t (6 * row) 0 ≡ 0 → ⊥) → eqb (cell t row 0) 0 ≡ false
there t row h = let e : 6 * row ≡ 6 * row + 0 = omega arith in ne_eqb (cell t row 0) 0 (λ z. h (ap (λ i. get_or t i 0) e ∙ z))

line : (t : List ℕ) (row : ℕ) → (get_or t (6 * row) 0 ≡ 0 → ⊥) → T (not (eqb (cell t row 0) 0))
line t row h = rw (there t row h) tt

-- the numbers of a condition's terms
pub condition_numbers : (t : List ℕ) (row : ℕ) → ConditionFits t row → (get_or t (6 * row) 0 ≡ 0 → ⊥)
    → ((1 ≤ cell t row 2) × (cell t row 2 ≤ 5)) × ((1 ≤ cell t row 5) × (cell t row 5 ≤ 5))
condition_numbers t row f h =
    let g = condition_at t row in
    let (l, r) = and_elim (fits_term 2 5 3 g.left) (fits_term 2 5 3 g.right) (f (line t row h)) in
    (term-number (cell t row 1) (cell t row 2) l, term-number (cell t row 4) (cell t row 5) r)

pub assignment_numbers : (t : List ℕ) (row : ℕ) → AssignmentFits t row → (get_or t (6 * row) 0 ≡ 0 → ⊥)
    → ((1 ≤ cell t row 1) × (cell t row 1 ≤ 5)) × ((1 ≤ cell t row 3) × (cell t row 3 ≤ 5))
assignment_numbers t row f h =
    let s = assignment_at t row in
    let (l, r) = and_elim (inside 5 s.register) (fits_term 2 5 3 s.source) (f (line t row h)) in
    (inside→ 5 (cell t row 1) l, term-number (cell t row 2) (cell t row 3) r)

module _ (g : Guard) (t : List ℕ) (row : ℕ) where
  pub guard_with-none : get_or t (6 * row) 0 ≡ 0 → guard_with g t row ≡ g
  unfolding guard_with
  guard_with-none h = rw (absent t row h)

  pub guard_with-line : (get_or t (6 * row) 0 ≡ 0 → ⊥) → {l e r : ℕ} → l ≡ slot_of (term_at t row 1) → e ≡ flag (eqb (cell t row 3) 1) → r ≡ slot_of (term_at t row 4)
      → record { count = g.count + 1; left = set g.left g.count l; equal = set g.equal g.count e; right = set g.right g.count r } ≡ guard_with g t row
  unfolding guard_with
  guard_with-line h l e r = rw (there t row h, l, e, r)

module _ (s : Sets) (t : List ℕ) (row : ℕ) where
  pub sets_with-none : get_or t (6 * row) 0 ≡ 0 → sets_with s t row ≡ s
  unfolding sets_with
  sets_with-none h = rw (absent t row h)

  pub sets_with-line : (get_or t (6 * row) 0 ≡ 0 → ⊥) → {l : ℕ} → l ≡ slot_of (term_at t row 2)
      → record { count = s.count + 1; source = set s.source s.count l; target = set s.target s.count (cell t row 1 + 1) } ≡ sets_with s t row
  unfolding sets_with
  sets_with-line h l = rw (there t row h, l)

-- Limits

pub record Limits (a : Automaton) : Type 0 where
  pub registers : a.registers ≤ 5
  pub constants : constant_count a ≤ 2
  pub locations : (1 ≤ a.locations) × (a.locations ≤ 16)
  pub actions : (1 ≤ length a.arities) × (length a.arities ≤ 16)
  pub parameters : (t : Transition) → arity a t ≤ 3
  pub starting : length a.starting ≤ 8
  pub transitions : length a.transitions ≤ 64

pub limits : (a : Automaton) → T (limited a) → Limits a
limits a h =
    let few : T (all_of (λ n. leb n 3) a.arities) = search (and_l, and_r) depth 9 in
    record {
      registers = leb→le a.registers 5 (search (and_l, and_r) depth 9);
      constants = leb→le (constant_count a) 2 (search (and_l, and_r) depth 9);
      locations = inside→ 16 a.locations (search (and_l, and_r) depth 9);
      actions = inside→ 16 (length a.arities) (search (and_l, and_r) depth 9);
      parameters = λ t. get_d_le 3 a.arities (pred t.action) few;
      starting = leb→le (length a.starting) 8 (search (and_l, and_r) depth 9);
      transitions = leb→le (length a.transitions) 64 (search (and_l, and_r) depth 9);
    }

-- Transitions

arc_path : (x y : Arc) → x.from ≡ y.from → x.action ≡ y.action → x.to ≡ y.to → x.params ≡ y.params → x.guard ≡ y.guard → x.sets ≡ y.sets
    → x.source ≡ y.source → x.target ≡ y.target → x ≡ y
arc_path x y f a t p g n s d = λ i. record { from = f i; action = a i; to = t i; params = p i; guard = g i; sets = n i; source = s i; target = d i }

-- what the code needs of transition i and its lines
pub record Located (t : List ℕ) (i : ℕ) : Type 0 where
  pub low : i < 64
  pub from : (1 ≤ cell t (transition_row i) 1) × (cell t (transition_row i) 1 ≤ 16)
  pub action : (1 ≤ cell t (transition_row i) 2) × (cell t (transition_row i) 2 ≤ 16)
  pub to : (1 ≤ cell t (transition_row i) 3) × (cell t (transition_row i) 3 ≤ 16)
  pub params : (cell t (arity_row (cell t (transition_row i) 2)) 1 ≤ 3) × (arity (automaton_of t) (transition_at t i) ≡ cell t (arity_row (cell t (transition_row i) 2)) 1)
  pub guard : T (all_of (fits_condition 2 5 3) (conditions_from t (guard_rows i)))
  pub assigns : T (all_of (fits_assignment 2 5 3) (assignments_from t (assignment_rows i)))

module _ (t : List ℕ) where
  pub transition-count : length (automaton_of t).transitions ≡ cell t counts_row 5
  unfolding automaton_of
  transition-count = up_from_values (transition_at t) 0 (cell t counts_row 5)

  pub constant-count : constant_count (automaton_of t) ≡ cell t counts_row 2
  unfolding automaton_of
  constant-count = up_from_values (λ i. cell t i 1) constant_rows (cell t counts_row 2)

  pub action-count : length (automaton_of t).arities ≡ cell t counts_row 4
  unfolding automaton_of
  action-count = up_from_values (λ i. cell t i 1) action_rows (cell t counts_row 4)

  -- the parameters of action a
  pub arity-at : (a : ℕ) → (1 ≤ a) × (a ≤ cell t counts_row 4) → item (automaton_of t).arities a ≡ cell t (arity_row a) 1
  unfolding automaton_of
  arity-at a h =
      get_d_map (λ i. cell t i 1) (up_from action_rows (cell t counts_row 4)) (pred a) 0 0 (omega (arith, up_from-length action_rows (cell t counts_row 4)))
      ∙ ap (λ i. cell t i 1) (up_from-get_or action_rows (cell t counts_row 4) (pred a) (omega arith) ∙ omega arith)

  module _ (r : Readable t) where
    pub form_limits : Limits (automaton_of t)
    form_limits = limits (automaton_of t) r.small

    module _ (i : ℕ) (h : i < length (automaton_of t).transitions) where
      pub transition-is : get_or (automaton_of t).transitions i nowhere ≡ transition_at t i
      unfolding automaton_of
      transition-is =
          let l : i < cell t counts_row 5 = omega (arith, transition-count) in
          up_from-value (transition_at t) (cell t counts_row 5) i nowhere l

      pub transition-fits : T (fits_transition (automaton_of t) (get_or (automaton_of t).transitions i nowhere))
      transition-fits = wf_transition (automaton_of t) r.fits (get_or-mem (automaton_of t).transitions i nowhere h)

      pub located : Located t i
      located =
          let a : Automaton = automaton_of t in
          let s : Transition = transition_at t i in
          let f : T (fits_transition a s) = subst (λ u. T (fits_transition a u)) transition-is transition-fits in
          let m : Limits a = form_limits in
          let act : T (inside (length a.arities) s.action) = search (and_l, and_r) in
          let g : T (all_of (fits_condition (constant_count a) a.registers (arity a s)) s.guard) = search (and_l, and_r) in
          let ss : T (all_of (fits_assignment (constant_count a) a.registers (arity a s)) s.assigns) = search (and_l, and_r) in
          let (fl, fh) = inside→ a.locations s.from (search (and_l, and_r)) in
          let (al, ah) = inside→ (length a.arities) s.action act in
          let (tl, th) = inside→ a.locations s.to (search (and_l, and_r)) in
          let few : arity a s ≤ 3 = m.parameters s in
          let same : arity a s ≡ cell t (arity_row s.action) 1 = arity-at s.action (al, omega (arith, action-count)) in
          record {
            low = omega (arith, m.transitions);
            from = (fl, omega (arith, m.locations.1));
            action = (al, omega (arith, m.actions.1));
            to = (tl, omega (arith, m.locations.1));
            params = (omega arith, same);
            guard = conditions_wider (constant_count a) a.registers (arity a s) m.constants m.registers few s.guard g;
            assigns = assignments_wider (constant_count a) a.registers (arity a s) m.constants m.registers few s.assigns ss;
          }

      pub arc_made : {g : Guard} {s : Sets} {f c d p : ℕ} → f ≡ cell t (transition_row i) 1 → c ≡ cell t (transition_row i) 2 → d ≡ cell t (transition_row i) 3
          → p ≡ arity (automaton_of t) (get_or (automaton_of t).transitions i nowhere) → g ≡ guard_of (conditions_from t (guard_rows i)) → s ≡ sets_of (assignments_from t (assignment_rows i))
          → record { from = f; action = c; to = d; params = p; guard = g; sets = s.count; source = s.source; target = s.target }
          ≡ arc_of (automaton_of t) (get_or (automaton_of t).transitions i nowhere)
      arc_made ef ec ed ep eg es =
          arc_path _ (arc_of (automaton_of t) (transition_at t i)) ef ec ed (ep ∙ ap (arity (automaton_of t)) transition-is) eg
          (ap (λ u. u.count) es) (ap (λ u. u.source) es) (ap (λ u. u.target) es)
          ∙ ap (arc_of (automaton_of t)) (sym transition-is)

      -- its struct is in range
      pub arc_fits : Fits (arc_of (automaton_of t) (get_or (automaton_of t).transitions i nowhere))
      arc_fits =
          let a : Automaton = automaton_of t in
          let s : Transition = get_or a.transitions i nowhere in
          let m : Limits a = form_limits in
          let few : arity a s ≤ 3 = m.parameters s in
          let f : T (fits_transition a s) = transition-fits in
          let g : T (all_of (fits_condition (constant_count a) a.registers (arity a s)) s.guard) = search (and_l, and_r) in
          let ss : T (all_of (fits_assignment (constant_count a) a.registers (arity a s)) s.assigns) = search (and_l, and_r) in
          let g8 : length s.guard ≤ 8 = subst⁻¹ (λ u. length u.guard ≤ 8) transition-is (lines-le (condition_at t) t (guard_rows i) 8) in
          let s5 : length s.assigns ≤ 5 = subst⁻¹ (λ u. length u.assigns ≤ 5) transition-is (lines-le (assignment_at t) t (assignment_rows i) 5) in
          let wide : T (all_of (fits_assignment 2 5 3) s.assigns) = assignments_wider (constant_count a) a.registers (arity a s) m.constants m.registers few s.assigns ss in
          record {
            few = few;
            guard-fits = guard-fits s.guard g8 (conditions_wider (constant_count a) a.registers (arity a s) m.constants m.registers few s.guard g);
            sets_fit = s5;
            source_fits = padded-below (λ u. slot_of u.source) 5 10 s.assigns (omega arith) (λ u o. slot_below u.source (and_r (inside 5 u.register) (fits_term 2 5 3 u.source) (all_of-mem (fits_assignment 2 5 3) s.assigns wide o)));
            target_fits = padded-below (λ u. slot_of (register u.register)) 5 10 s.assigns (omega arith) (λ u o. slot_below (register u.register) (and_l (inside 5 u.register) (fits_term 2 5 3 u.source) (all_of-mem (fits_assignment 2 5 3) s.assigns wide o)));
          }

    -- the start conditions have a struct too
    pub starting-fits : T (all_of (fits_condition 2 5 3) (conditions_from t starting_rows))
    unfolding automaton_of
    starting-fits =
        let a : Automaton = automaton_of t in
        let w : T (well_formed a) = r.fits in
        let m : Limits a = form_limits in
        conditions_wider (constant_count a) a.registers 0 m.constants m.registers (omega arith) a.starting (search (and_l, and_r))

    pub start-lines : T (all_of (fits_condition 2 5 3) (target_of t).conditions)
    unfolding target_of
    start-lines = starting-fits

  -- a table's form is that of a target too: its location and conditions are those of the start
  pub start-target : target_of t ≡ record { location = (automaton_of t).start; conditions = (automaton_of t).starting }
  unfolding automaton_of target_of
  start-target = refl

  pub target-few : length (target_of t).conditions ≤ 8
  unfolding target_of
  target-few = lines-le (condition_at t) t starting_rows 8

-- What is read without refusal is well formed, with every limit of document 01 (`table_well_formed`, `target_fits`).
-- Assumes nothing.
use Prim.Native.Nat.{ℕ, zero, suc, ◌+◌, ◌-◌, ◌≤◌, ◌<◌}
use mathlib.Core.Bool.{Bool, true, false, not, ◌&&◌}
use mathlib.Core.List.{List, map, map-map}
use mathlib.Core.Logic.{◌⊎◌, inl, inr}
use mathlib.Core.Path.{◌≡◌, refl, sym, ◌∙◌, subst}
use borrow.Author.Tests.{ltb-true, ltb-false}
use native.Mathlib.Omega.{arith}
use lib.Dec.{T, leb, eqb, ltb, le→leb, lt→ltb}
use lib.Ieee.Fits.{and_i}
use lib.ListN.{length}
use Rattle.graphs.specs.Lists.{up_from, all_of}
use Rattle.classes.specs.Renaming.{rising}
use Rattle.automata.specs.Automaton.{Assignment, Automaton, arity}
use Rattle.automata.specs.WellFormed.{inside, fits_term, fits_condition, fits_assignment, constant_count, fits_transition, fits_conditions, well_formed, limited, fits_target}
use Rattle.refusals.specs.Judged.Judged.{accepted}
use Rattle.forms.specs.TableForm.{counts_row, constant_rows, action_rows, start_row, starting_rows, cell, assignment_rows, guard_rows, register_row, transition_row}
use Rattle.forms.specs.FormAutomaton.{present, term_of, condition_at, assignment_at, transition_at, automaton_of, target_of}
use Rattle.forms.proofs.Encoding.{lines-le}
use Rattle.forms.proofs.Forms.{constant-count, action-count, transition-count, arity-at}
use Rattle.reader.specs.Table.{read_table, read_target}
use Rattle.reader.proofs.Accepted.{Inside, Named, a_register, a_parameter, a_constant}
use Rattle.forms.proofs.FormRows.{row_at}
use Rattle.reader.proofs.Shape.{ConditionRow, AssignmentRow, Guarded, TransitionRows, Legal, LegalTarget}
use Rattle.reader.proofs.LegalForms.{legal, legal-target}
use Rattle.reader.proofs.Present.{select-all, select-rising, up_from-all, holds-none}
use Rattle.automata.proofs.Equivariance.{→inside}

inside-fits : (n i : ℕ) → Inside n i → T (inside n i)
inside-fits n i h = →inside n i h.0 h.1

term_fits : (r q c k n : ℕ) → Named r q c k n → T (fits_term c r q (term_of k n))
term_fits r q c k n (a_register e h) = rw e (inside-fits r n h)
term_fits r q c k n (a_parameter e h) = rw e (inside-fits q n h)
term_fits r q c k n (a_constant e h) = rw e (inside-fits c n h)

condition-fits : (r q c : ℕ) (t : List ℕ) (x : ℕ) → ConditionRow r q c (row_at t x) → T (fits_condition c r q (condition_at t x))
condition-fits r q c t x h =
    and_i (fits_term c r q (condition_at t x).left) (fits_term c r q (condition_at t x).right)
    (term_fits r q c (cell t x 1) (cell t x 2) h.left) (term_fits r q c (cell t x 4) (cell t x 5) h.right)

assignment_fits : (r q c j : ℕ) (t : List ℕ) (x : ℕ) → AssignmentRow r q c j (row_at t x) → T (fits_assignment c r q (assignment_at t x))
assignment_fits r q c j t x h =
    and_i (inside r (cell t x 1)) (fits_term c r q (assignment_at t x).source)
    (subst (λ y. T (inside r y)) (sym h.register) (inside-fits r j h.known)) (term_fits r q c (cell t x 2) (cell t x 3) h.source)

differ : {A : Type 0} (b : Bool) → b ≡ true → b ≡ false → A
differ b e f = let z : true ≡ false = sym e ∙ f in let y : ◌≡◌ {A = ℕ} 0 1 = cc in absurd (omega arith)

-- the conditions in the eight rows from row b
guard-fits : (r q c : ℕ) (t : List ℕ) (b n : ℕ) → Guarded r q c t b n → T (all_of (fits_condition c r q) (map (condition_at t) (present t b 8)))
guard-fits r q c t b n g =
    select-all (λ row. not (eqb (cell t row 0) 0)) (fits_condition c r q) (condition_at t) b 8 (λ x u v e. by x u v e (ltb (x - b) n) refl)
  where
    by : (x : ℕ) → b ≤ x → x < b + 8 → not (eqb (cell t x 0) 0) ≡ true → (k : Bool) → ltb (x - b) n ≡ k → T (fits_condition c r q (condition_at t x))
    by x u v e true z =
        let w : b + (x - b) ≡ x = omega arith in
        subst (λ y. T (fits_condition c r q (condition_at t y))) w (condition-fits r q c t (b + (x - b)) (g.each (x - b) (ltb-true (x - b) n z)))
    by x u v e false z =
        let w : b + (x - b) ≡ x = omega arith in
        differ (not (eqb (cell t x 0) 0)) e (holds-none t x (subst (λ y. cell t y 0 ≡ 0) w (g.rest (x - b) (ltb-false (x - b) n z) (omega arith))))

-- the assignments in the five rows after row b
module _ (r q c : ℕ) (t : List ℕ) (i : ℕ) (h : (j : ℕ) → Inside 5 j → (cell t (register_row i j) 0 ≡ 0) ⊎ AssignmentRow r q c j (row_at t (register_row i j))) where
  row_of : (x : ℕ) → assignment_rows i ≤ x → x < assignment_rows i + 5 → not (eqb (cell t x 0) 0) ≡ true → AssignmentRow r q c (x - (assignment_rows i - 1)) (row_at t x)
  row_of x u v e = subst (λ y. AssignmentRow r q c (x - (assignment_rows i - 1)) (row_at t y)) w (by (h (x - (assignment_rows i - 1)) (omega arith)))
    where
      w : register_row i (x - (assignment_rows i - 1)) ≡ x
      w = omega arith

      by : (cell t (register_row i (x - (assignment_rows i - 1))) 0 ≡ 0) ⊎ AssignmentRow r q c (x - (assignment_rows i - 1)) (row_at t (register_row i (x - (assignment_rows i - 1))))
          → AssignmentRow r q c (x - (assignment_rows i - 1)) (row_at t (register_row i (x - (assignment_rows i - 1))))
      by (inl z) = differ (not (eqb (cell t x 0) 0)) e (holds-none t x (subst (λ y. cell t y 0 ≡ 0) w z))
      by (inr z) = z

  assigns_fit : T (all_of (fits_assignment c r q) (map (assignment_at t) (present t (assignment_rows i) 5)))
  assigns_fit =
      select-all (λ row. not (eqb (cell t row 0) 0)) (fits_assignment c r q) (assignment_at t) (assignment_rows i) 5
      (λ x u v e. assignment_fits r q c (x - (assignment_rows i - 1)) t x (row_of x u v e))

  assigns_rise : T (rising (map (λ s. s.register) (map (assignment_at t) (present t (assignment_rows i) 5))))
  assigns_rise =
      rw (map-map (λ (s : Assignment). s.register) (assignment_at t) (present t (assignment_rows i) 5))
      (select-rising (λ row. not (eqb (cell t row 0) 0)) (λ x. cell t x 1) (assignment_rows i - 1) (assignment_rows i) 5
      (λ x u v e. let z = (row_of x u v e).register in omega arith))

constants_rise : (t : List ℕ) (k : ℕ) → k ≤ 2 → (k ≡ 2 → cell t constant_rows 1 < cell t (constant_rows + 1) 1) → T (rising (map (λ i. cell t i 1) (up_from constant_rows k)))
constants_rise t zero h r = tt
constants_rise t (suc zero) h r = tt
constants_rise t (suc (suc zero)) h r = and_i (ltb (cell t constant_rows 1) (cell t (constant_rows + 1) 1)) true (lt→ltb (cell t constant_rows 1) (cell t (constant_rows + 1) 1) (r refl)) tt
constants_rise t (suc (suc (suc k))) h r = absurd (omega arith)

-- as many entries as numbers
and6 : (a b c d e f : Bool) → T a → T b → T c → T d → T e → T f → T (a && b && c && d && e && f)
and6 a b c d e f ta tb tc td te tf =
    and_i (a && b && c && d && e) f (and_i (a && b && c && d) e (and_i (a && b && c) d (and_i (a && b) c (and_i a b ta tb) tc) td) te) tf

and8 : (a b c d e f g h : Bool) → T a → T b → T c → T d → T e → T f → T g → T h → T (a && b && c && d && e && f && g && h)
and8 a b c d e f g h ta tb tc td te tf tg th = and_i (a && b && c && d && e && f && g) h (and_i (a && b && c && d && e && f) g (and6 a b c d e f ta tb tc td te tf) tg) th

-- counts of the automaton, and its transitions, by cells of the form
module _ (t : List ℕ) where
  -- the parameters of transition i, as its rows have them
  pub transition-arity : (i k q : ℕ) → TransitionRows (cell t counts_row 1) (cell t counts_row 2) (cell t counts_row 3) (cell t counts_row 4) t i k q → arity (automaton_of t) (transition_at t i) ≡ q
  unfolding automaton_of
  transition-arity i k q s = arity-at t (cell t (transition_row i) 2) s.head.action ∙ s.arity

  pub transition-fits : (i k q : ℕ) → TransitionRows (cell t counts_row 1) (cell t counts_row 2) (cell t counts_row 3) (cell t counts_row 4) t i k q → T (fits_transition (automaton_of t) (transition_at t i))
  unfolding automaton_of
  transition-fits i k q s =
      rw (constant-count t, action-count t, transition-arity i k q s)
      (and6
      (inside (cell t counts_row 3) (transition_at t i).from)
      (inside (cell t counts_row 4) (transition_at t i).action)
      (inside (cell t counts_row 3) (transition_at t i).to)
      (all_of (fits_condition (cell t counts_row 2) (cell t counts_row 1) q) (transition_at t i).guard)
      (all_of (fits_assignment (cell t counts_row 2) (cell t counts_row 1) q) (transition_at t i).assigns)
      (rising (map (λ x. x.register) (transition_at t i).assigns))
      (inside-fits (cell t counts_row 3) (cell t (transition_row i) 1) s.head.from)
      (inside-fits (cell t counts_row 4) (cell t (transition_row i) 2) s.head.action)
      (inside-fits (cell t counts_row 3) (cell t (transition_row i) 3) s.head.to)
      (guard-fits (cell t counts_row 1) q (cell t counts_row 2) t (guard_rows i) k s.guard)
      (assigns_fit (cell t counts_row 1) q (cell t counts_row 2) t i s.assigns)
      (assigns_rise (cell t counts_row 1) q (cell t counts_row 2) t i s.assigns))

module _ (t : List ℕ) (n : Legal t) where
  pub legal_well_formed : T (well_formed (automaton_of t))
  unfolding automaton_of
  legal_well_formed =
      let a : Automaton = automaton_of t in
      and_i (rising a.constants && inside a.locations a.start && fits_conditions a a.starting) (all_of (fits_transition a) a.transitions)
      (and_i (rising a.constants && inside a.locations a.start) (fits_conditions a a.starting)
      (and_i (rising a.constants) (inside a.locations a.start)
      (constants_rise t (cell t counts_row 2) n.constants n.rise)
      (inside-fits (cell t counts_row 3) (cell t start_row 1) n.start))
      (rw (constant-count t) (guard-fits (cell t counts_row 1) 0 (cell t counts_row 2) t starting_rows n.starts n.starting)))
      (up_from-all (fits_transition a) (transition_at t) 0 (cell t counts_row 5) (λ x u v. let m = n.moves x (omega arith) in transition-fits t x m.0 m.1 m.2))

  pub legal-limited : T (limited (automaton_of t))
  unfolding automaton_of
  legal-limited =
      let a : Automaton = automaton_of t in
      and8
      (leb a.registers 5) (leb (constant_count a) 2) (inside 16 a.locations) (inside 16 (length a.arities)) (all_of (λ x. leb x 3) a.arities)
      (leb (length a.starting) 8) (leb (length a.transitions) 64) (all_of (λ x. leb (length x.guard) 8) a.transitions)
      (le→leb a.registers 5 n.registers)
      (le→leb (constant_count a) 2 (rw (constant-count t) n.constants))
      (inside-fits 16 (cell t counts_row 3) n.locations)
      (rw (action-count t) (inside-fits 16 (cell t counts_row 4) n.actions))
      (up_from-all (λ x. leb x 3) (λ i. cell t i 1) action_rows (cell t counts_row 4)
      (λ x u v. let e : action_rows + (x - action_rows) ≡ x = omega arith in le→leb (cell t x 1) 3 (subst (λ y. cell t y 1 ≤ 3) e (n.arities (x - action_rows) (omega arith)))))
      (le→leb (length a.starting) 8 (lines-le (condition_at t) t starting_rows 8))
      (le→leb (length a.transitions) 64 (rw (transition-count t) n.transitions))
      (up_from-all (λ x. leb (length x.guard) 8) (transition_at t) 0 (cell t counts_row 5)
      (λ x u v. le→leb (length (transition_at t x).guard) 8 (lines-le (condition_at t) t (guard_rows x) 8)))

-- what is read as a table is well formed and keeps every limit
pub table_well_formed : (s t : List ℕ) → read_table s ≡ accepted t → T (well_formed (automaton_of t)) × T (limited (automaton_of t))
table_well_formed s t e = let n = legal s t e in (legal_well_formed t n, legal-limited t n)

-- the target of a form fits the automaton that has these counts
aim_fits : (t u : List ℕ) → LegalTarget (cell t counts_row 1) (cell t counts_row 2) (cell t counts_row 3) u → T (fits_target (automaton_of t) (target_of u)) × (length (target_of u).conditions ≤ 8)
unfolding automaton_of target_of
aim_fits t u n = (
  and_i (inside (cell t counts_row 3) (cell u start_row 1)) (fits_conditions (automaton_of t) (target_of u).conditions)
      (inside-fits (cell t counts_row 3) (cell u start_row 1) n.location)
      (rw (constant-count t) (guard-fits (cell t counts_row 1) 0 (cell t counts_row 2) u starting_rows n.conditions n.guard)),
  lines-le (condition_at u) u starting_rows 8,
)

-- what is read as a target of a table that is read fits this table
pub target_fits : (s t q u : List ℕ) → read_table s ≡ accepted t → read_target t q ≡ accepted u → T (fits_target (automaton_of t) (target_of u)) × (length (target_of u).conditions ≤ 8)
target_fits s t q u e f = aim_fits t u (legal-target t q u (legal s t e) f)

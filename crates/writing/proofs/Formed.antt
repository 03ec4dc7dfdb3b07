-- The lines that stand in the form of a table are those of its automaton (`form-lines`); the same for a target (`target-lines`).
-- Assumes nothing.
use Prim.Native.Nat.{ℕ, zero, suc, ◌+◌, ◌*◌, ◌-◌, ◌≤◌, ◌<◌}
use mathlib.Core.Bool.{Bool, true, false, cond}
use mathlib.Core.List.{List, [], ◌∷◌, ◌++◌, map, map-map, append_assoc, append-nil}
use mathlib.Core.Logic.{◌⊎◌, inl, inr, by_cases}
use mathlib.Core.Path.{◌≡◌, refl, sym, ◌∙◌, ap, ap₂, subst}
use borrow.Author.Tests.{eqb-true, eqb-false}
use native.Mathlib.Decide.{ℕ_discrete, dec_lt}
use native.Mathlib.Omega.{arith}
use lib.Dec.{eqb}
use lib.ListN.{take}
use Rattle.graphs.specs.Lists.{up_from}
use Rattle.automata.specs.Automaton.Term.{register, parameter, constant}
use Rattle.forms.specs.TableForm.{cell, counts_row, constant_rows, action_rows, start_row, starting_rows, transition_size, transition_row, guard_rows, assignment_rows, register_row}
use Rattle.forms.specs.FormAutomaton.{present, term_of, condition_at, assignment_at, transition_at, automaton_of, target_of}
use Rattle.reader.proofs.Accepted.{Inside, Named, a_register, a_parameter, a_constant}
use Rattle.forms.proofs.FormRows.{row_at}
use Rattle.reader.proofs.Shape.{ConditionRow, AssignmentRow, Guarded, TransitionRows, Legal, LegalTarget}
use Rattle.reader.proofs.Present.{holds-none}
use Rattle.forms.proofs.Forms.{constant-count, action-count, transition-count}
use Rattle.writing.specs.Lines.{term_kind, term_number, condition_line, assignment_line, transition_lines, transitions_lines, head_line, table_lines, target_lines}
use Rattle.writing.proofs.Selected.{gather_split, gather_none, gather_agree, gather_first, gather_one}
use Rattle.writing.proofs.FormFilling.{kind_width, line_at, lines_in, holds, holds-line, holds-some, Marked}

-- Lines

kind_of : (r q c k n : ℕ) → Named r q c k n → term_kind (term_of k n) ≡ k
kind_of r q c k n (a_register e h) = rw e
kind_of r q c k n (a_parameter e h) = rw e
kind_of r q c k n (a_constant e h) = rw e

number_of : (k n : ℕ) → term_number (term_of k n) ≡ n
number_of k n = by (eqb k 1) (eqb k 2)
  where
    by : (a b : Bool) → term_number (cond a (register n) (cond b (parameter n) (constant n))) ≡ n
    by true b = refl
    by false true = refl
    by false false = refl

relation_of : (v : ℕ) → Inside 2 v → cond (eqb v 1) 1 2 ≡ v
relation_of v h = by (eqb v 1) refl
  where
    by : (b : Bool) → eqb v 1 ≡ b → cond b 1 2 ≡ v
    by true e = sym (eqb-true v 1 e)
    by false e = let n = eqb-false v 1 e in omega (arith, h)

module _ (u : List ℕ) where
  -- the numbers of a row after its kind
  abbrev numbers : ℕ → List ℕ
  numbers x = cell u x 1 ∷ cell u x 2 ∷ cell u x 3 ∷ cell u x 4 ∷ cell u x 5 ∷ []

  -- the line in a row of kind k
  line-kind : (x k : ℕ) → cell u x 0 ≡ k → line_at u x ≡ take (kind_width k) (k ∷ numbers x)
  line-kind x k e = ap (λ v. take (kind_width v) (v ∷ numbers x)) e

  condition-line : (r q c x k : ℕ) → ConditionRow r q c (row_at u x) → cell u x 0 ≡ k → kind_width k ≡ 6 → line_at u x ≡ condition_line k (condition_at u x)
  condition-line r q c x k h e d =
      let k1 = kind_of r q c (cell u x 1) (cell u x 2) h.left in
      let n1 = number_of (cell u x 1) (cell u x 2) in
      let r1 = relation_of (cell u x 3) h.relation in
      let k2 = kind_of r q c (cell u x 4) (cell u x 5) h.right in
      let n2 = number_of (cell u x 4) (cell u x 5) in
      line-kind x k e ∙ ap (λ n. take n (k ∷ numbers x)) d ∙ sym (λ i. k ∷ k1 i ∷ n1 i ∷ r1 i ∷ k2 i ∷ n2 i ∷ [])

  assignment_line_lem : (r q c j x : ℕ) → AssignmentRow r q c j (row_at u x) → cell u x 0 ≡ 8 → line_at u x ≡ assignment_line (assignment_at u x)
  assignment_line_lem r q c j x h e =
      let k1 = kind_of r q c (cell u x 2) (cell u x 3) h.source in
      let n1 = number_of (cell u x 2) (cell u x 3) in
      line-kind x 8 e ∙ sym (λ i. 8 ∷ cell u x 1 ∷ k1 i ∷ n1 i ∷ [])

  -- Parts

  -- the rows from b, and those from c on, after m of them
  part : (b m k c : ℕ) → b + m ≡ c → lines_in u b (m + k) ≡ lines_in u b m ++ lines_in u c k
  part b m k c e = gather_split (holds u) (line_at u) b m k ∙ ap (λ v. lines_in u b m ++ lines_in u v k) e

  -- a row of its own
  one : (x k : ℕ) → 1 ≤ k → cell u x 0 ≡ k → lines_in u x 1 ≡ take (kind_width k) (k ∷ numbers x) ∷ []
  one x k h e = gather_one (holds u) (line_at u) x (holds-line u x (omega arith)) ∙ ap (λ (v : List ℕ). v ∷ []) (line-kind x k e)

  guard-lines : (r q c b n k : ℕ) → Guarded r q c u b n → ((x : ℕ) → b ≤ x → x < b + 8 → 1 ≤ cell u x 0 → cell u x 0 ≡ k) → kind_width k ≡ 6
      → lines_in u b 8 ≡ map (condition_line k) (map (condition_at u) (present u b 8))
  guard-lines r q c b n k g m d =
      gather_agree (holds u) (holds u) (line_at u) (λ x. condition_line k (condition_at u x)) b 8 (λ x y z. refl) (λ x y z e. line x y z (holds-some u x e))
      ∙ sym (map-map (condition_line k) (condition_at u) (present u b 8))
    where
      line : (x : ℕ) → b ≤ x → x < b + 8 → 1 ≤ cell u x 0 → line_at u x ≡ condition_line k (condition_at u x)
      line x y z e =
          let w : b + (x - b) ≡ x = omega arith in
          by_cases (dec_lt (x - b) n)
          (λ h. condition-line r q c x k (subst (λ v. ConditionRow r q c (row_at u v)) w (g.each (x - b) h)) (m x y z e) d)
          (λ h. let v : cell u x 0 ≡ 0 = subst (λ v. cell u v 0 ≡ 0) w (g.rest (x - b) (omega arith) (omega arith)) in absurd (omega arith))

  assign_lines : (r q c i : ℕ) → ((j : ℕ) → Inside 5 j → (cell u (register_row i j) 0 ≡ 0) ⊎ AssignmentRow r q c j (row_at u (register_row i j)))
      → ((x : ℕ) → assignment_rows i ≤ x → x < assignment_rows i + 5 → 1 ≤ cell u x 0 → cell u x 0 ≡ 8)
      → lines_in u (assignment_rows i) 5 ≡ map assignment_line (map (assignment_at u) (present u (assignment_rows i) 5))
  assign_lines r q c i h m =
      gather_agree (holds u) (holds u) (line_at u) (λ x. assignment_line (assignment_at u x)) (assignment_rows i) 5 (λ x y z. refl) (λ x y z e. by x y z (holds-some u x e))
      ∙ sym (map-map assignment_line (assignment_at u) (present u (assignment_rows i) 5))
    where
      by : (x : ℕ) → assignment_rows i ≤ x → x < assignment_rows i + 5 → 1 ≤ cell u x 0 → line_at u x ≡ assignment_line (assignment_at u x)
      by x y z e =
          let w : register_row i (x - register_row i 0) ≡ x = omega arith in
          go (subst (λ v. (cell u v 0 ≡ 0) ⊎ AssignmentRow r q c (x - register_row i 0) (row_at u v)) w (h (x - register_row i 0) (omega arith, omega arith)))
        where
          go : (cell u x 0 ≡ 0) ⊎ AssignmentRow r q c (x - register_row i 0) (row_at u x) → line_at u x ≡ assignment_line (assignment_at u x)
          go (inl v) = absurd (omega arith)
          go (inr v) = assignment_line_lem r q c (x - register_row i 0) x v (m x y z e)

  -- lines 2 and 3: the first n of m rows, of kind k
  number-lines : (b n m k : ℕ) → n ≤ m → 1 ≤ k → kind_width k ≡ 2 → ((x : ℕ) → b ≤ x → x < b + n → cell u x 0 ≡ k) → ((x : ℕ) → b + n ≤ x → x < b + m → cell u x 0 ≡ 0)
      → lines_in u b m ≡ map (λ v. k ∷ v ∷ []) (map (λ i. cell u i 1) (up_from b n))
  number-lines b n m k h p d y z =
      gather_first (holds u) (line_at u) (λ x. k ∷ cell u x 1 ∷ []) b n m h
      (λ x v w. let e = y x v w in (holds-line u x (omega arith), line-kind x k e ∙ ap (λ n. take n (k ∷ numbers x)) d))
      (λ x v w. holds-none u x (z x v w))
      ∙ sym (map-map (λ v. k ∷ v ∷ []) (λ i. cell u i 1) (up_from b n))

  -- of a form with these marks
  module _ (stage ids acts actions tr : ℕ) (marks : (x : ℕ) → Marked stage ids acts actions tr x (cell u x 0)) where
    transition-lines : (r c l m i n q : ℕ) → i < tr → TransitionRows r c l m u i n q → (ls : List (List ℕ))
        → lines_in u (transition_row i) transition_size ++ ls ≡ transition_lines (transition_at u i) ls
    transition-lines r c l m i n q w s ls =
        let a = one (transition_row i) 6 (omega arith) ((marks (transition_row i)).mark6 (omega arith) (omega arith) (omega arith)) in
        let b : lines_in u (guard_rows i) 8 ≡ map (condition_line 7) (transition_at u i).guard =
        guard-lines r q c (guard_rows i) n 7 s.guard (λ x y z e. (marks x).mark7 (omega arith) (omega arith) (omega arith) e) refl in
        let d : lines_in u (assignment_rows i) 5 ≡ map assignment_line (transition_at u i).assigns =
        assign_lines r q c i s.assigns (λ x y z e. (marks x).mark8 (omega arith) (omega arith) e) in
        ap (λ (v : List (List ℕ)). v ++ ls)
        (part (transition_row i) 1 13 (guard_rows i) (omega arith) ∙ ap₂ (λ (v w : List (List ℕ)). v ++ w) a
        (part (guard_rows i) 8 5 (assignment_rows i) (omega arith) ∙ ap₂ (λ (v w : List (List ℕ)). v ++ w) b d))
        ∙ ap (λ (v : List (List ℕ)). (6 ∷ (transition_at u i).from ∷ (transition_at u i).action ∷ (transition_at u i).to ∷ []) ∷ v)
        (append_assoc (map (condition_line 7) (transition_at u i).guard) (map assignment_line (transition_at u i).assigns) ls)

    transitions-lines : (r c l m k i : ℕ) → ((j : ℕ) → j < tr → (n q : ℕ) × TransitionRows r c l m u j n q) → i + k ≤ tr
        → lines_in u (transition_row i) (transition_size * k) ≡ transitions_lines (map (transition_at u) (up_from i k))
    transitions-lines r c l m zero i s h = let e : transition_size * 0 ≡ 0 = omega arith in ap (lines_in u (transition_row i)) e
    transitions-lines r c l m (suc k) i s h =
        let e : transition_size * suc k ≡ transition_size + transition_size * k = omega arith in
        let z = s i (omega arith) in
        ap (lines_in u (transition_row i)) e ∙ part (transition_row i) transition_size (transition_size * k) (transition_row (suc i)) (omega arith)
        ∙ ap (λ (v : List (List ℕ)). lines_in u (transition_row i) transition_size ++ v) (transitions-lines r c l m k (suc i) s (omega arith))
        ∙ transition-lines r c l m i z.0 z.1 (omega arith) z.2 (transitions_lines (map (transition_at u) (up_from (suc i) k)))

    -- a line 4 and its lines 5
    start-lines : (r c n : ℕ) → 4 ≤ stage → Guarded r 0 c u starting_rows n → (k : ℕ)
        → lines_in u start_row (9 + k) ≡ (4 ∷ cell u start_row 1 ∷ []) ∷ (map (condition_line 5) (map (condition_at u) (present u starting_rows 8)) ++ lines_in u (transition_row 0) k)
    start-lines r c n h g k =
        let a = one start_row 4 (omega arith) ((marks start_row).mark4 refl h) in
        let b = guard-lines r 0 c starting_rows n 5 g (λ x y z e. (marks x).mark5 y z e) refl in
        let e : 9 + k ≡ 1 + (8 + k) = omega arith in
        ap (lines_in u start_row) e ∙ part start_row 1 (8 + k) starting_rows refl ∙ ap₂ (λ (v w : List (List ℕ)). v ++ w) a (part starting_rows 8 k (transition_row 0) refl ∙ ap (λ (v : List (List ℕ)). v ++ lines_in u (transition_row 0) k) b)

  -- the lines of the form of a table
  pub form-lines : (stage : ℕ) → 4 ≤ stage → Legal u → ((x : ℕ) → Marked stage (cell u counts_row 2) (cell u counts_row 4) (cell u counts_row 4) (cell u counts_row 5) x (cell u x 0))
      → lines_in u counts_row (transition_row (cell u counts_row 5)) ≡ table_lines (automaton_of u)
  unfolding automaton_of
  form-lines stage h n marks =
      let c2 = sym (constant-count u) in
      let c4 = sym (action-count u) in
      let c5 = sym (transition-count u) in
      let first : lines_in u counts_row 1 ≡ head_line (automaton_of u) ∷ [] =
      one counts_row 1 (omega arith) ((marks counts_row).mark1 refl n.actions.0) ∙ (λ i. (1 ∷ cell u counts_row 1 ∷ c2 i ∷ cell u counts_row 3 ∷ c4 i ∷ c5 i ∷ []) ∷ []) in
      let constants = number-lines constant_rows (cell u counts_row 2) 2 2 n.constants (omega arith) refl (λ x v w. (marks x).mark2 v w) (λ x v w. (marks x).none2 v w) in
      let arities = number-lines action_rows (cell u counts_row 4) 16 3 n.actions.1 (omega arith) refl (λ x v w. (marks x).mark3 v w) (λ x v w. (marks x).none3 v w) in
      let rest = start-lines stage (cell u counts_row 2) (cell u counts_row 4) (cell u counts_row 4) (cell u counts_row 5) marks (cell u counts_row 1) (cell u counts_row 2) n.starts h n.starting (transition_size * cell u counts_row 5) in
      let moves = transitions-lines stage (cell u counts_row 2) (cell u counts_row 4) (cell u counts_row 4) (cell u counts_row 5) marks (cell u counts_row 1) (cell u counts_row 2) (cell u counts_row 3) (cell u counts_row 4) (cell u counts_row 5) 0 n.moves (omega arith) in
      let e : transition_row (cell u counts_row 5) ≡ 1 + (2 + (16 + (9 + transition_size * cell u counts_row 5))) = omega arith in
      let four : List (List ℕ) → List (List ℕ) = λ v. (4 ∷ cell u start_row 1 ∷ []) ∷ (map (condition_line 5) (map (condition_at u) (present u starting_rows 8)) ++ v) in
      ap (lines_in u counts_row) e
      ∙ part counts_row 1 (2 + (16 + (9 + transition_size * cell u counts_row 5))) constant_rows refl
      ∙ ap₂ (λ (v w : List (List ℕ)). v ++ w) first
      (part constant_rows 2 (16 + (9 + transition_size * cell u counts_row 5)) action_rows refl
      ∙ ap₂ (λ (v w : List (List ℕ)). v ++ w) constants
      (part action_rows 16 (9 + transition_size * cell u counts_row 5) start_row refl
      ∙ ap₂ (λ (v w : List (List ℕ)). v ++ w) arities (rest ∙ ap four moves)))

  -- the lines of the form of a target, whose other rows are empty
  pub target-lines : (r c l stage : ℕ) → 4 ≤ stage → LegalTarget r c l u → ((x : ℕ) → Marked stage 0 0 0 0 x (cell u x 0)) → lines_in u counts_row (transition_row 0) ≡ target_lines (target_of u)
  unfolding target_of
  target-lines r c l stage h n marks =
      part counts_row start_row 9 start_row refl ∙ ap₂ (λ (v w : List (List ℕ)). v ++ w) (gather_none (holds u) (line_at u) counts_row start_row (λ x v w. holds-none u x (empty x w)))
      (start-lines stage 0 0 0 0 marks r c n.conditions h n.guard 0
      ∙ ap (λ (v : List (List ℕ)). (4 ∷ cell u start_row 1 ∷ []) ∷ v) (append-nil (map (condition_line 5) (map (condition_at u) (present u starting_rows 8)))))
    where
      empty : (x : ℕ) → x < start_row → cell u x 0 ≡ 0
      empty x w =
          by_cases (ℕ_discrete x counts_row) (λ e. (marks x).none1 e refl)
          (λ e. by_cases (dec_lt x action_rows) (λ k. (marks x).none2 (omega arith) (omega arith)) (λ k. (marks x).none3 (omega arith) w))

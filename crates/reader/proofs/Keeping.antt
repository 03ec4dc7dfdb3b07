-- What holds of the progress and the form after every accepted line: the invariants behind `legal`.
-- Assumes nothing.
use Prim.Native.Nat.{ℕ, suc, ◌+◌, ◌-◌, ◌^◌, ◌≤◌, ◌<◌}
use mathlib.Core.Bool.{Bool, true, false}
use mathlib.Core.List.{List}
use mathlib.Core.Logic.{◌≢◌, ◌⊎◌, inl, inr}
use mathlib.Core.Path.{◌≡◌, refl, sym, ◌∙◌, subst, subst⁻¹}
use borrow.Author.Count.{below_more}
use borrow.Author.Tests.{leb-true, leb-false, eqb-true, eqb-false}
use native.Mathlib.Omega.{arith}
use lib.Dec.{T, leb, eqb}
use lib.ListN.{length, replicate}
use Rattle.lists.proofs.Arrays.{zeros_at}
use Rattle.columns.specs.Widths.{largest}
use Rattle.graphs.proofs.Lists.{get_d_le}
use Rattle.reader.specs.declared.Progress.{Progress}
use Rattle.forms.specs.TableForm.{form_length, counts_row, constant_rows, action_rows, arity_row, start_row, starting_rows, transition_row, guard_rows, assignment_rows, register_row, cell, put}
use Rattle.reader.specs.TableRules.{at, kind_at, judge_line, advance, further, placed}
use Rattle.reader.proofs.Accepted.{Inside, line-issued, Stands, line1, line2, line3, line4, line5, line6, line7, line8}
use Rattle.forms.proofs.FormRows.{InForm, in_form, row_at, six, length-put, kept, written, low-put}
use Rattle.reader.proofs.Shape.{ConditionRow, HeadRow, AssignmentRow, Guarded, TransitionRows}

-- The counters keep to the counts of line 1, and these to their limits
pub record Counted (p : Progress) : Type 0 where
  pub registers-low : p.registers ≤ 5
  pub constants-low : p.constants ≤ 2
  pub locations-low : p.locations ≤ 16
  pub actions_low : p.actions ≤ 16
  pub transitions-low : p.transitions ≤ 64
  pub ids_low : p.ids ≤ p.constants
  pub acts_low : p.acts ≤ p.actions
  pub transition-low : p.transition ≤ p.transitions
  pub conds_low : p.conds ≤ 8
  pub none_yet : p.stage ≤ 1 → (p.ids ≡ 0) × (p.acts ≡ 0)
  pub unread : p.stage ≤ 3 → p.conds ≡ 0
  pub early : p.stage ≤ 4 → (p.params ≡ 0) × (p.transition ≡ 0)
  pub late : 5 ≤ p.stage → p.place + 1 ≡ p.transition
  pub acted : 4 ≤ p.stage → p.actions ≤ p.acts

-- after a constant
past_first : (p : Progress) → Counted p → 1 ≤ p.ids → 2 ≤ p.stage
past_first p s h = by (leb 2 p.stage) refl
  where
    by : (b : Bool) → leb 2 p.stage ≡ b → 2 ≤ p.stage
    by true z = leb-true 2 p.stage z
    by false z = absurd (omega (arith, s.none_yet (omega (arith, leb-false 2 p.stage z))))

counted_step : (p : Progress) (f : List ℕ) (a : ℕ) → Counted p → Stands p f → Counted (advance p (kind_at p (at f 0) (at f 1)) f a)
unfolding advance kind_at
counted_step p f a s (line1 k l b c d e g) = let z = s.none_yet (omega arith) in let y = s.early (omega arith) in let x = s.unread (omega arith) in rw k (omega arith)
counted_step p f a s (line2 k g h i j) = let y = s.early (omega arith) in let x = s.unread (omega arith) in rw k (omega arith)
counted_step p f a s (line3 k g h i j m) = let y = s.early (omega arith) in let x = s.unread (omega arith) in rw k (omega arith)
counted_step p f a s (line4 k h i j) = let y = s.early (omega arith) in let x = s.unread (omega arith) in rw k (omega arith)
counted_step p f a s (line5 k h j b c d) = let y = s.early (omega arith) in let x = s.acted (omega arith) in rw k (omega arith)
counted_step p f a s (line6 k h i b c d) = let x = s.acted h in rw k (omega arith)
counted_step p f a s (line7 k h j b c d) = let y = s.late (omega arith) in let x = s.acted (omega arith) in rw k (omega arith)
counted_step p f a s (line8 k h b c) = let y = s.late h in let x = s.acted (omega arith) in rw k (omega arith)

-- What the form holds so far, part by part

-- the constants
pub record Constants (ids newest stage : ℕ) (t : List ℕ) : Type 0 where
  pub second : ids ≡ 1 → stage ≤ 2 → newest ≡ cell t constant_rows 1
  pub rise : ids ≡ 2 → cell t constant_rows 1 < cell t (constant_rows + 1) 1

-- the start's conditions, so far
pub record Starting (r c conds stage : ℕ) (t : List ℕ) : Type 0 where
  pub starts : ℕ
  pub counts : stage ≤ 4 → starts ≡ conds
  pub starting : Guarded r 0 c t starting_rows starts

-- the transitions: earlier ones, the one being read, and no line after it
pub record Moves (r c l m transition params conds stage : ℕ) (t : List ℕ) : Type 0 where
  pub fresh : (x : ℕ) → transition_row transition ≤ x → cell t x 0 ≡ 0
  pub done : (i : ℕ) → i + 1 < transition → (n q : ℕ) × TransitionRows r c l m t i n q
  pub current : (i : ℕ) → i + 1 ≡ transition → (n : ℕ) × TransitionRows r c l m t i n params × (stage ≤ 5 → n ≡ conds)

-- no number is larger than an identifier can be
abbrev pub Issued : List ℕ → Type 0
Issued t = (i : ℕ) → at t i < 2 ^ 32

pub zeros_issued : (n : ℕ) → Issued (replicate n 0)
zeros_issued n i = omega (arith, zeros_at n i)

pub line-held : (p : Progress) (n : ℕ) (f : List ℕ) → judge_line p n f ≡ 0 → Issued f
line-held p n f z i = omega (arith, get_d_le largest f i (subst⁻¹ T (line-issued p n f z) tt))

pub record Sound (p : Progress) (t : List ℕ) : Type 0 where
  pub counted : Counted p
  pub size : length t ≡ form_length
  pub issued : Issued t
  pub constants : Constants p.ids p.newest p.stage t
  pub arities : (i : ℕ) → i < p.acts → cell t (action_rows + i) 1 ≤ 3
  pub start : 4 ≤ p.stage → Inside p.locations (cell t start_row 1)
  pub starting : Starting p.registers p.constants p.conds p.stage t
  pub moves : Moves p.registers p.constants p.locations p.actions p.transition p.params p.conds p.stage t

-- A line that is written
module _ (t : List ℕ) (row : ℕ) (f : List ℕ) where
  constants-kept : (ids newest newest' stage stage' : ℕ) → 3 ≤ row → 3 ≤ stage' → Constants ids newest stage t → Constants ids newest' stage' (put t row f)
  constants-kept ids newest newest' stage stage' h k s =
      record {
        second = λ a b. absurd (omega arith);
        rise = λ a.
            kept (λ x. cell (put t row f) constant_rows 1 < at x 1) t row f (constant_rows + 1) (omega arith)
            (kept (λ x. at x 1 < cell t (constant_rows + 1) 1) t row f constant_rows (omega arith) (s.rise a));
      }

  arities-kept : (acts : ℕ) → ((i : ℕ) → i < acts → action_rows + i ≢ row) → ((i : ℕ) → i < acts → cell t (action_rows + i) 1 ≤ 3)
      → (i : ℕ) → i < acts → cell (put t row f) (action_rows + i) 1 ≤ 3
  arities-kept acts w s i h = kept (λ x. at x 1 ≤ 3) t row f (action_rows + i) (w i h) (s i h)

  start-kept : (l stage stage' : ℕ) → start_row ≢ row → (4 ≤ stage' → 4 ≤ stage) → (4 ≤ stage → Inside l (cell t start_row 1)) → 4 ≤ stage' → Inside l (cell (put t row f) start_row 1)
  start-kept l stage stage' w o s h = kept (λ x. Inside l (at x 1)) t row f start_row w (s (o h))

  guarded_kept : (r q c b n : ℕ) → ((j : ℕ) → j < 8 → b + j ≢ row) → Guarded r q c t b n → Guarded r q c (put t row f) b n
  guarded_kept r q c b n w s =
      record {
        few = s.few;
        each = λ j h. kept (ConditionRow r q c) t row f (b + j) (w j (omega arith)) (s.each j h);
        rest = λ j h k. kept (λ x. at x 0 ≡ 0) t row f (b + j) (w j k) (s.rest j h k);
      }

  -- one condition more
  guarded_more : (r q c b n : ℕ) → row ≡ b + n → InForm t row → n < 8 → ConditionRow r q c (six f) → Guarded r q c t b n → Guarded r q c (put t row f) b (n + 1)
  guarded_more r q c b n e w h new s =
      record {
        few = omega arith;
        each = below_more (λ j. ConditionRow r q c (row_at (put t row f) (b + j))) n
            (λ j k. kept (ConditionRow r q c) t row f (b + j) (omega arith) (s.each j k))
            (subst (λ x. ConditionRow r q c (row_at (put t row f) x)) e (written t row f w (ConditionRow r q c) new));
        rest = λ j k u. kept (λ x. at x 0 ≡ 0) t row f (b + j) (omega arith) (s.rest j (omega arith) u);
      }

  starting-kept : (r c conds conds' stage stage' : ℕ) → ((j : ℕ) → j < 8 → starting_rows + j ≢ row) → (stage' ≤ 4 → (stage ≤ 4) × (conds ≡ conds'))
      → Starting r c conds stage t → Starting r c conds' stage' (put t row f)
  starting-kept r c conds conds' stage stage' w o s =
      record {
        starts = s.starts;
        counts = λ h. s.counts (o h).0 ∙ (o h).1;
        starting = guarded_kept r 0 c starting_rows s.starts w s.starting;
      }

  -- before the first transition
  moves_early : (r c l m r' c' l' m' tr params params' conds conds' stage stage' : ℕ) → tr ≡ 0 → row < transition_row 0
      → Moves r c l m tr params conds stage t → Moves r' c' l' m' tr params' conds' stage' (put t row f)
  moves_early r c l m r' c' l' m' tr params params' conds conds' stage stage' z h s =
      record {
        fresh = λ x k. kept (λ y. at y 0 ≡ 0) t row f x (omega arith) (s.fresh x k);
        done = λ i k. absurd (omega arith);
        current = λ i k. absurd (omega arith);
      }

  -- the parts of a transition whose rows, or some of them, stand elsewhere
  arity-kept : (i m q : ℕ) → m ≤ 16 → guard_rows i ≤ row → Inside m (cell t (transition_row i) 2) → cell t (arity_row (cell t (transition_row i) 2)) 1 ≡ q
      → cell (put t row f) (arity_row (cell (put t row f) (transition_row i) 2)) 1 ≡ q
  arity-kept i m q h k a e =
      kept (λ x. cell (put t row f) (arity_row (at x 2)) 1 ≡ q) t row f (transition_row i) (omega arith)
      (kept (λ x. at x 1 ≡ q) t row f (arity_row (cell t (transition_row i) 2)) (omega arith) e)

  assigned-kept : (r q c j x : ℕ) → x ≢ row → (cell t x 0 ≡ 0) ⊎ AssignmentRow r q c j (row_at t x)
      → (cell (put t row f) x 0 ≡ 0) ⊎ AssignmentRow r q c j (row_at (put t row f) x)
  assigned-kept r q c j x w s = kept (λ y. (at y 0 ≡ 0) ⊎ AssignmentRow r q c j y) t row f x w s

  rows-kept : (r c l m i n q : ℕ) → m ≤ 16 → transition_row (suc i) ≤ row → TransitionRows r c l m t i n q → TransitionRows r c l m (put t row f) i n q
  rows-kept r c l m i n q h w s =
      record {
        head = kept (HeadRow l m) t row f (transition_row i) (omega arith) s.head;
        arity = arity-kept i m q h (omega arith) s.head.action s.arity;
        guard = guarded_kept r q c (guard_rows i) n (λ j k. omega arith) s.guard;
        assigns = λ j k. assigned-kept r q c j (register_row i j) (omega arith) (s.assigns j k);
      }

  -- one condition more of a transition
  rows-guard : (r c l m i n q : ℕ) → m ≤ 16 → row ≡ guard_rows i + n → InForm t row → n < 8 → ConditionRow r q c (six f)
      → TransitionRows r c l m t i n q → TransitionRows r c l m (put t row f) i (n + 1) q
  rows-guard r c l m i n q h e w k new s =
      record {
        head = kept (HeadRow l m) t row f (transition_row i) (omega arith) s.head;
        arity = arity-kept i m q h (omega arith) s.head.action s.arity;
        guard = guarded_more r q c (guard_rows i) n e w k new s.guard;
        assigns = λ j u. assigned-kept r q c j (register_row i j) (omega arith) (s.assigns j u);
      }

  -- one assignment more of a transition, to register a
  rows_assign : (r c l m i n q a : ℕ) → m ≤ 16 → row ≡ register_row i a → InForm t row → 1 ≤ a → AssignmentRow r q c a (six f)
      → TransitionRows r c l m t i n q → TransitionRows r c l m (put t row f) i n q
  rows_assign r c l m i n q a h e w k new s =
      record {
        head = kept (HeadRow l m) t row f (transition_row i) (omega arith) s.head;
        arity = arity-kept i m q h (omega arith) s.head.action s.arity;
        guard = guarded_kept r q c (guard_rows i) n (λ j u. omega arith) s.guard;
        assigns = λ j u. by j u (eqb j a) refl;
      }
    where
      by : (j : ℕ) → Inside 5 j → (b : Bool) → eqb j a ≡ b → (cell (put t row f) (register_row i j) 0 ≡ 0) ⊎ AssignmentRow r q c j (row_at (put t row f) (register_row i j))
      by j u true z =
          let y : j ≡ a = eqb-true j a z in
          inr (subst (λ x. AssignmentRow r q c x (row_at (put t row f) (register_row i x))) (sym y)
          (subst (λ x. AssignmentRow r q c a (row_at (put t row f) x)) e (written t row f w (AssignmentRow r q c a) new)))
      by j u false z = assigned-kept r q c j (register_row i j) (omega (arith, eqb-false j a z)) (s.assigns j u)

  -- a line 6 begins a transition
  moves_new : (r c l m tr params conds stage stage' : ℕ) → m ≤ 16 → row ≡ transition_row tr → InForm t row → HeadRow l m (six f)
      → Moves r c l m tr params conds stage t → Moves r c l m (tr + 1) (cell t (arity_row (at f 2)) 1) 0 stage' (put t row f)
  moves_new r c l m tr params conds stage stage' h e w new s =
      record {
        fresh = λ x k. kept (λ y. at y 0 ≡ 0) t row f x (omega arith) (s.fresh x (omega arith));
        done = λ i k. earlier i k;
        current = λ i k. (0, first i (omega arith), λ u. refl);
      }
    where
      earlier : (i : ℕ) → i + 1 < tr + 1 → (n q : ℕ) × TransitionRows r c l m (put t row f) i n q
      earlier i k = by (eqb (i + 1) tr) refl
        where
          by : (b : Bool) → eqb (i + 1) tr ≡ b → (n q : ℕ) × TransitionRows r c l m (put t row f) i n q
          by true z = let u = s.current i (eqb-true _ _ z) in (u.0, params, rows-kept r c l m i u.0 params h (omega arith) u.1)
          by false z = let u = s.done i (omega (arith, eqb-false (i + 1) tr z)) in (u.0, u.1, rows-kept r c l m i u.0 u.1 h (omega arith) u.2)

      first : (i : ℕ) → i ≡ tr → TransitionRows r c l m (put t row f) i 0 (cell t (arity_row (at f 2)) 1)
      first i z =
          let y : row ≡ transition_row i = omega arith in
          record {
            head = subst (λ x. HeadRow l m (row_at (put t row f) x)) y (written t row f w (HeadRow l m) new);
            arity = subst (λ x. cell (put t row f) (arity_row (cell (put t row f) x 2)) 1 ≡ cell t (arity_row (at f 2)) 1) y
                (written t row f w (λ x. cell (put t row f) (arity_row (at x 2)) 1 ≡ cell t (arity_row (at f 2)) 1)
                (kept (λ x. at x 1 ≡ cell t (arity_row (at f 2)) 1) t row f (arity_row (at f 2)) (omega (arith, new.action)) refl));
            guard = record {
              few = omega arith;
              each = λ j k. absurd (omega arith);
              rest = λ j k u. kept (λ x. at x 0 ≡ 0) t row f (guard_rows i + j) (omega arith) (s.fresh (guard_rows i + j) (omega arith));
            };
            assigns = λ j k. inl (kept (λ x. at x 0 ≡ 0) t row f (register_row i j) (omega arith) (s.fresh (register_row i j) (omega arith)));
          }

  -- a line 7 or 8 belongs to the transition being read
  moves-within : (r c l m tr params conds conds' stage stage' place : ℕ) → m ≤ 16 → place + 1 ≡ tr → transition_row place ≤ row → row < transition_row tr
      → ((i n : ℕ) → i + 1 ≡ tr → (stage ≤ 5 → n ≡ conds) → TransitionRows r c l m t i n params → (n' : ℕ) × TransitionRows r c l m (put t row f) i n' params × (stage' ≤ 5 → n' ≡ conds'))
      → Moves r c l m tr params conds stage t → Moves r c l m tr params conds' stage' (put t row f)
  moves-within r c l m tr params conds conds' stage stage' place h e v w new s =
      record {
        fresh = λ x k. kept (λ y. at y 0 ≡ 0) t row f x (omega arith) (s.fresh x k);
        done = λ i k. let u = s.done i k in (u.0, u.1, rows-kept r c l m i u.0 u.1 h (omega arith) u.2);
        current = λ i k. let u = s.current i k in new i u.0 k u.2 u.1;
      }

-- the parts after an accepted line
module _ (p : Progress) (f t : List ℕ) (s : Sound p t) where
  n : Counted p
  n = s.counted

  constants-step : Stands p f → Constants (further p f t).ids (further p f t).newest (further p f t).stage (placed p f t)
  unfolding advance kind_at
  constants-step (line1 k l b c d e g) =
      let z = n.none_yet (omega arith) in
      rw k (record { second = λ a b. absurd (omega arith); rise = λ a. absurd (omega arith) })
  constants-step (line2 k g h i j) =
      let w : InForm t (constant_rows + p.ids) = in_form t _ s.size (omega (arith, n.constants-low)) in
      rw k
      (record {
        second = λ a b. let e : constant_rows + p.ids ≡ 1 = omega arith in subst (λ x. at f 1 ≡ cell (put t (constant_rows + p.ids) f) x 1) e (written t (constant_rows + p.ids) f w (λ x. at f 1 ≡ at x 1) refl);
        rise = λ a.
            let e : constant_rows + p.ids ≡ 2 = omega arith in
            subst (λ x. cell (put t (constant_rows + p.ids) f) constant_rows 1 < cell (put t (constant_rows + p.ids) f) x 1) e
            (written t (constant_rows + p.ids) f w (λ x. cell (put t (constant_rows + p.ids) f) constant_rows 1 < at x 1)
            (kept (λ x. at x 1 < at f 1) t (constant_rows + p.ids) f constant_rows (omega arith)
            (omega (arith, j (omega (arith, past_first p n (omega arith))), s.constants.second (omega arith) h))));
      })
  constants-step (line3 k g h i j m) = rw k (constants-kept t (action_rows + p.acts) f _ _ _ _ _ (omega arith) (omega arith) s.constants)
  constants-step (line4 k h i j) = rw k (constants-kept t start_row f _ _ _ _ _ (omega arith) (omega arith) s.constants)
  constants-step (line5 k h j b c d) = rw k (constants-kept t (starting_rows + p.conds) f _ _ _ _ _ (omega arith) (omega arith) s.constants)
  constants-step (line6 k h i b c d) = rw k (constants-kept t (transition_row p.transition) f _ _ _ _ _ (omega arith) (omega arith) s.constants)
  constants-step (line7 k h j b c d) = rw k (constants-kept t (guard_rows p.place + p.conds) f _ _ _ _ _ (omega arith) (omega arith) s.constants)
  constants-step (line8 k h b c) = rw k (constants-kept t (assignment_rows p.place + at f 1 - 1) f _ _ _ _ _ (omega arith) (omega arith) s.constants)

  arities-step : Stands p f → (i : ℕ) → i < (further p f t).acts → cell (placed p f t) (action_rows + i) 1 ≤ 3
  unfolding advance kind_at
  arities-step (line1 k l b c d e g) = let z = n.none_yet (omega arith) in rw k (λ i h. absurd (omega arith))
  arities-step (line2 k g h i j) = rw k (arities-kept t (constant_rows + p.ids) f p.acts (λ x y. omega (arith, n.constants-low)) s.arities)
  arities-step (line3 k g h i j m) =
      let w : InForm t (action_rows + p.acts) = in_form t _ s.size (omega (arith, n.actions_low)) in
      rw k
      (below_more (λ x. cell (put t (action_rows + p.acts) f) (action_rows + x) 1 ≤ 3) p.acts
      (arities-kept t (action_rows + p.acts) f p.acts (λ x y. omega arith) s.arities)
      (written t (action_rows + p.acts) f w (λ x. at x 1 ≤ 3) m))
  arities-step (line4 k h i j) = rw k (arities-kept t start_row f p.acts (λ x y. omega (arith, n.acts_low, n.actions_low)) s.arities)
  arities-step (line5 k h j b c d) = rw k (arities-kept t (starting_rows + p.conds) f p.acts (λ x y. omega (arith, n.acts_low, n.actions_low)) s.arities)
  arities-step (line6 k h i b c d) = rw k (arities-kept t (transition_row p.transition) f p.acts (λ x y. omega (arith, n.acts_low, n.actions_low)) s.arities)
  arities-step (line7 k h j b c d) = rw k (arities-kept t (guard_rows p.place + p.conds) f p.acts (λ x y. omega (arith, n.acts_low, n.actions_low)) s.arities)
  arities-step (line8 k h b c) = rw k (arities-kept t (assignment_rows p.place + at f 1 - 1) f p.acts (λ x y. omega (arith, n.acts_low, n.actions_low)) s.arities)

  start-step : Stands p f → 4 ≤ (further p f t).stage → Inside (further p f t).locations (cell (placed p f t) start_row 1)
  unfolding advance kind_at
  start-step (line1 k l b c d e g) = rw k (λ h. absurd (omega arith))
  start-step (line2 k g h i j) = rw k (λ x. absurd (omega arith))
  start-step (line3 k g h i j m) = rw k (λ x. absurd (omega arith))
  start-step (line4 k h i j) = rw k (λ x. written t start_row f (omega (arith, s.size)) (λ y. Inside p.locations (at y 1)) j)
  start-step (line5 k h j b c d) = rw k (start-kept t (starting_rows + p.conds) f _ _ 4 (omega arith) (λ x. omega arith) s.start)
  start-step (line6 k h i b c d) = rw k (start-kept t (transition_row p.transition) f _ _ 5 (omega arith) (λ x. h) s.start)
  start-step (line7 k h j b c d) = rw k (start-kept t (guard_rows p.place + p.conds) f _ _ 5 (omega arith) (λ x. omega arith) s.start)
  start-step (line8 k h b c) = rw k (start-kept t (assignment_rows p.place + at f 1 - 1) f _ _ 6 (omega arith) (λ x. omega arith) s.start)

  starting-step : Stands p f → Starting (further p f t).registers (further p f t).constants (further p f t).conds (further p f t).stage (placed p f t)
  unfolding advance kind_at
  starting-step (line1 k l b c d e g) =
      let z = n.unread (omega arith) in
      let y = s.starting.counts (omega arith) in
      rw k
      (record {
        starts = 0;
        counts = λ h. omega arith;
        starting = record {
          few = omega arith;
          each = λ i j. absurd (omega arith);
          rest = λ j h i. kept (λ x. at x 0 ≡ 0) t counts_row f (starting_rows + j) (omega arith) (s.starting.starting.rest j (omega arith) i);
        };
      })
  starting-step (line2 k g h i j) = rw k (starting-kept t (constant_rows + p.ids) f _ _ _ _ _ 2 (λ x y. omega (arith, n.constants-low)) (λ x. (omega arith, refl)) s.starting)
  starting-step (line3 k g h i j m) = rw k (starting-kept t (action_rows + p.acts) f _ _ _ _ _ 3 (λ x y. omega (arith, n.actions_low)) (λ x. (omega arith, refl)) s.starting)
  starting-step (line4 k h i j) = rw k (starting-kept t start_row f _ _ _ _ _ 4 (λ x y. omega arith) (λ x. (omega arith, refl)) s.starting)
  starting-step (line5 k h j b c d) =
      let e : s.starting.starts ≡ p.conds = s.starting.counts (omega arith) in
      let w : InForm t (starting_rows + p.conds) = in_form t _ s.size (omega arith) in
      let z : p.params ≡ 0 = (n.early (omega arith)).0 in
      rw k
      (record {
        starts = s.starting.starts + 1;
        counts = λ x. omega arith;
        starting = guarded_more t (starting_rows + p.conds) f _ 0 _ starting_rows s.starting.starts (omega arith) w (omega arith)
            (record { kind = omega arith; left = rw z at b; relation = c; right = rw z at d }) s.starting.starting;
      })
  starting-step (line6 k h i b c d) = rw k (starting-kept t (transition_row p.transition) f _ _ _ _ _ 5 (λ x y. omega arith) (λ x. absurd (omega arith)) s.starting)
  starting-step (line7 k h j b c d) = rw k (starting-kept t (guard_rows p.place + p.conds) f _ _ _ _ _ 5 (λ x y. omega arith) (λ x. absurd (omega arith)) s.starting)
  starting-step (line8 k h b c) = rw k (starting-kept t (assignment_rows p.place + at f 1 - 1) f _ _ _ _ _ 6 (λ x y. omega arith) (λ x. absurd (omega arith)) s.starting)

  moves-step : Stands p f → Moves (further p f t).registers (further p f t).constants (further p f t).locations (further p f t).actions (further p f t).transition (further p f t).params
      (further p f t).conds (further p f t).stage (placed p f t)
  unfolding advance kind_at
  moves-step (line1 k l b c d e g) = rw k (moves_early t counts_row f _ _ _ _ _ _ _ _ _ _ _ _ _ _ 1 (n.early (omega arith)).1 (omega arith) s.moves)
  moves-step (line2 k g h i j) = rw k (moves_early t (constant_rows + p.ids) f _ _ _ _ _ _ _ _ _ _ _ _ _ _ 2 (n.early (omega arith)).1 (omega (arith, n.constants-low)) s.moves)
  moves-step (line3 k g h i j m) = rw k (moves_early t (action_rows + p.acts) f _ _ _ _ _ _ _ _ _ _ _ _ _ _ 3 (n.early (omega arith)).1 (omega (arith, n.actions_low)) s.moves)
  moves-step (line4 k h i j) = rw k (moves_early t start_row f _ _ _ _ _ _ _ _ _ _ _ _ _ _ 4 (n.early (omega arith)).1 (omega arith) s.moves)
  moves-step (line5 k h j b c d) = rw k (moves_early t (starting_rows + p.conds) f _ _ _ _ _ _ _ _ _ _ _ _ _ _ 4 (n.early (omega arith)).1 (omega arith) s.moves)
  moves-step (line6 k h i b c d) =
      let w : InForm t (transition_row p.transition) = in_form t _ s.size (omega (arith, n.transitions-low)) in
      rw k (moves_new t (transition_row p.transition) f _ _ _ _ _ _ _ _ 5 n.actions_low refl w (record { from = b; action = c; to = d }) s.moves)
  moves-step (line7 k h j b c d) =
      let a = n.late (omega arith) in
      let w : InForm t (guard_rows p.place + p.conds) = in_form t _ s.size (omega (arith, n.transitions-low, n.transition-low)) in
      rw k
      (moves-within t (guard_rows p.place + p.conds) f _ _ _ _ _ _ _ _ _ 5 p.place n.actions_low a (omega arith) (omega arith)
      (λ x y e g v. let z : y ≡ p.conds = g (omega arith) in (
        y + 1,
        rows-guard t (guard_rows p.place + p.conds) f _ _ _ _ x y _ n.actions_low (omega arith) w (omega arith)
            (record { kind = omega arith; left = b; relation = c; right = d }) v,
        λ u. omega arith,
      ))
      s.moves)
  moves-step (line8 k h b c) =
      let a = n.late h in
      let w : InForm t (assignment_rows p.place + at f 1 - 1) = in_form t _ s.size (omega (arith, n.transitions-low, n.transition-low, n.registers-low)) in
      rw k
      (moves-within t (assignment_rows p.place + at f 1 - 1) f _ _ _ _ _ _ _ _ _ 6 p.place n.actions_low a (omega arith) (omega (arith, n.registers-low))
      (λ x y e g v. (
        y,
        rows_assign t (assignment_rows p.place + at f 1 - 1) f _ _ _ _ x y _ (at f 1) n.actions_low (omega arith) w b.0
            (record { kind = omega arith; register = refl; known = b; source = c }) v,
        λ u. absurd (omega arith),
      ))
      s.moves)

  pub sound-step : Issued f → Stands p f → Sound (further p f t) (placed p f t)
  sound-step l h =
      record {
        counted = counted_step p f _ n h;
        size = length-put t (kind_at p (at f 0) (at f 1)).row f ∙ s.size;
        issued = low-put t (kind_at p (at f 0) (at f 1)).row f l s.issued;
        constants = constants-step h;
        arities = arities-step h;
        start = start-step h;
        starting = starting-step h;
        moves = moves-step h;
      }

-- the counts of line 1 stand in their row; where a line 3 was read, there are actions, and all constants were read
pub record Headed (r c l m n ids stage : ℕ) (t : List ℕ) : Type 0 where
  pub head1 : cell t counts_row 1 ≡ r
  pub head2 : cell t counts_row 2 ≡ c
  pub head3 : cell t counts_row 3 ≡ l
  pub head4 : cell t counts_row 4 ≡ m
  pub head5 : cell t counts_row 5 ≡ n
  pub passed : 3 ≤ stage → (1 ≤ m) × (c ≤ ids)

abbrev pub HeadedBy : Progress → List ℕ → Type 0
HeadedBy p t = Headed p.registers p.constants p.locations p.actions p.transitions p.ids p.stage t

headed_kept : (r c l m n ids ids' stage stage' : ℕ) (t : List ℕ) (row : ℕ) (f : List ℕ) → 1 ≤ row
    → (3 ≤ stage' → (3 ≤ stage → (1 ≤ m) × (c ≤ ids)) → (1 ≤ m) × (c ≤ ids'))
    → Headed r c l m n ids stage t → Headed r c l m n ids' stage' (put t row f)
headed_kept r c l m n ids ids' stage stage' t row f h k s =
    record {
      head1 = kept (λ x. at x 1 ≡ r) t row f counts_row (omega arith) s.head1;
      head2 = kept (λ x. at x 2 ≡ c) t row f counts_row (omega arith) s.head2;
      head3 = kept (λ x. at x 3 ≡ l) t row f counts_row (omega arith) s.head3;
      head4 = kept (λ x. at x 4 ≡ m) t row f counts_row (omega arith) s.head4;
      head5 = kept (λ x. at x 5 ≡ n) t row f counts_row (omega arith) s.head5;
      passed = λ u. k u s.passed;
    }

pub headed_step : (p : Progress) (f t : List ℕ) → length t ≡ form_length → HeadedBy p t → Stands p f → HeadedBy (further p f t) (placed p f t)
unfolding advance kind_at
headed_step p f t z n (line1 k l b c d e g) =
    let w : InForm t counts_row = in_form t counts_row z (omega arith) in
    rw k
    (record {
      head1 = written t counts_row f w (λ x. at x 1 ≡ at f 1) refl;
      head2 = written t counts_row f w (λ x. at x 2 ≡ at f 2) refl;
      head3 = written t counts_row f w (λ x. at x 3 ≡ at f 3) refl;
      head4 = written t counts_row f w (λ x. at x 4 ≡ at f 4) refl;
      head5 = written t counts_row f w (λ x. at x 5 ≡ at f 5) refl;
      passed = λ h. absurd (omega arith);
    })
headed_step p f t z n (line2 k g h i j) = rw k (headed_kept _ _ _ _ _ _ _ _ 2 t (constant_rows + p.ids) f (omega arith) (λ x y. absurd (omega arith)) n)
headed_step p f t z n (line3 k g h i j m) = rw k (headed_kept _ _ _ _ _ _ _ _ 3 t (action_rows + p.acts) f (omega arith) (λ x y. (omega arith, i)) n)
headed_step p f t z n (line4 k h i j) = rw k (headed_kept _ _ _ _ _ _ _ _ 4 t start_row f (omega arith) (λ x y. y (omega arith)) n)
headed_step p f t z n (line5 k h j b c d) = rw k (headed_kept _ _ _ _ _ _ _ _ 4 t (starting_rows + p.conds) f (omega arith) (λ x y. y (omega arith)) n)
headed_step p f t z n (line6 k h i b c d) = rw k (headed_kept _ _ _ _ _ _ _ _ 5 t (transition_row p.transition) f (omega arith) (λ x y. y (omega arith)) n)
headed_step p f t z n (line7 k h j b c d) = rw k (headed_kept _ _ _ _ _ _ _ _ 5 t (guard_rows p.place + p.conds) f (omega arith) (λ x y. y (omega arith)) n)
headed_step p f t z n (line8 k h b c) = rw k (headed_kept _ _ _ _ _ _ _ _ 6 t (assignment_rows p.place + at f 1 - 1) f (omega arith) (λ x y. y (omega arith)) n)

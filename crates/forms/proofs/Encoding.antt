-- The structs grow row by row: one line more is one condition or one assignment more.
-- Assumes nothing.
use Prim.Native.Nat.{ℕ, ◌+◌, ◌≤◌, ◌<◌}
use mathlib.Core.Bool.{Bool, true, false, not, cond}
use mathlib.Core.List.Memᴰ
use mathlib.Core.List.{List, [], ◌∷◌, ◌++◌, map, append-nil, map-append}
use mathlib.Core.Path.{◌≡◌, refl, sym, ap, ◌∙◌}
use native.Mathlib.Omega.{arith}
use lib.Dec.{T, eqb}
use lib.ListN.{length, set, length-map, length-append}
use Rattle.lists.proofs.Arrays.{padded-map_more}
use Rattle.graphs.specs.Lists.{up_from, all_of, select}
use Rattle.graphs.proofs.Lists.{all_of-mem, mem-select, mem-up_from, up_from-length, select-append, select-le, up_from-append}
use Rattle.automata.specs.Automaton.{Condition, Assignment}
use Rattle.automata.specs.Automaton.Term.{register}
use Rattle.forms.specs.TableForm.{cell}
use Rattle.forms.specs.FormAutomaton.{present, condition_at, assignment_at}
use Rattle.forms.specs.declared.Guard.{Guard}
use Rattle.forms.specs.declared.Sets.{Sets}
use Rattle.forms.specs.Slots.{slot_of, flag, guard_of, guard_with, sets_of, sets_with}

-- The rows that hold a line

select_more : (p : ℕ → Bool) (i n : ℕ) → select p (up_from i (n + 1)) ≡ select p (up_from i n) ++ cond (p (i + n)) ((i + n) ∷ []) []
select_more p i n = ap (select p) (sym (up_from-append i n 1)) ∙ select-append p (up_from i n) (up_from (i + n) 1)

module _ {A : Type 0} (f : ℕ → A) (t : List ℕ) (row : ℕ) where
  -- the rows before i, and row i where it holds a line
  lines_more : (i : ℕ) (b : Bool) → eqb (cell t (row + i) 0) 0 ≡ b → map f (present t row (i + 1)) ≡ cond b (map f (present t row i)) (map f (present t row i) ++ (f (row + i) ∷ []))
  lines_more i b h =
      ap (map f) (select_more (λ r. not (eqb (cell t r 0) 0)) row i)
      ∙ ap (λ d. map f (present t row i ++ cond (not d) ((row + i) ∷ []) [])) h ∙ go b
    where
      go : (d : Bool) → map f (present t row i ++ cond (not d) ((row + i) ∷ []) []) ≡ cond d (map f (present t row i)) (map f (present t row i) ++ (f (row + i) ∷ []))
      go true = ap (map f) (append-nil (present t row i))
      go false = map-append f (present t row i) ((row + i) ∷ [])

  pub lines-le : (n : ℕ) → length (map f (present t row n)) ≤ n
  lines-le n = omega (arith, length-map (present t row n) f, select-le (λ r. not (eqb (cell t r 0) 0)) (up_from row n), up_from-length row n)

  -- a test that every line passes
  pub line-passes : (test : A → Bool) (n : ℕ) → T (all_of test (map f (present t row n))) → (i : ℕ) → i < n → T (not (eqb (cell t (row + i) 0) 0)) → T (test (f (row + i)))
  line-passes test n h i l p =
      all_of-mem test (map f (present t row n)) h (Memᴰ.map f (mem-select (λ r. not (eqb (cell t r 0) 0)) (up_from row n) (mem-up_from row n (row + i) (omega arith) (omega arith)) p))

-- Conditions

guard-path : (g h : Guard) → g.count ≡ h.count → g.left ≡ h.left → g.equal ≡ h.equal → g.right ≡ h.right → g ≡ h
guard-path g h c l e r = λ i. record { count = c i; left = l i; equal = e i; right = r i }

pub guard_more : (t : List ℕ) (row i : ℕ) → i < 8 → guard_with (guard_of (map (condition_at t) (present t row i))) t (row + i) ≡ guard_of (map (condition_at t) (present t row (i + 1)))
unfolding guard_with
guard_more t row i h = go (eqb (cell t (row + i) 0) 0) refl
  where
    gs : List Condition
    gs = map (condition_at t) (present t row i)

    g : Condition
    g = condition_at t (row + i)

    few : length gs < 8
    few = omega (arith, lines-le (condition_at t) t row i)

    more : Guard
    more = record {
      count = length gs + 1;
      left = set (guard_of gs).left (length gs) (slot_of g.left);
      equal = set (guard_of gs).equal (length gs) (flag g.equal);
      right = set (guard_of gs).right (length gs) (slot_of g.right);
    }

    go : (b : Bool) → eqb (cell t (row + i) 0) 0 ≡ b → cond b (guard_of gs) more ≡ guard_of (map (condition_at t) (present t row (i + 1)))
    go true e = ap guard_of (sym (lines_more (condition_at t) t row i true e))
    go false e =
        guard-path more (guard_of (gs ++ (g ∷ []))) (omega (arith, length-append gs (g ∷ []))) (padded-map_more (λ d. slot_of d.left) 8 gs g few)
        (padded-map_more (λ d. flag d.equal) 8 gs g few) (padded-map_more (λ d. slot_of d.right) 8 gs g few)
        ∙ ap guard_of (sym (lines_more (condition_at t) t row i false e))

-- Assignments

sets-path : (r s : Sets) → r.count ≡ s.count → r.source ≡ s.source → r.target ≡ s.target → r ≡ s
sets-path r s c f t = λ i. record { count = c i; source = f i; target = t i }

pub sets_more : (t : List ℕ) (row i : ℕ) → i < 5 → sets_with (sets_of (map (assignment_at t) (present t row i))) t (row + i) ≡ sets_of (map (assignment_at t) (present t row (i + 1)))
unfolding sets_with
sets_more t row i h = go (eqb (cell t (row + i) 0) 0) refl
  where
    ss : List Assignment
    ss = map (assignment_at t) (present t row i)

    s : Assignment
    s = assignment_at t (row + i)

    few : length ss < 5
    few = omega (arith, lines-le (assignment_at t) t row i)

    more : Sets
    more = record {
      count = length ss + 1;
      source = set (sets_of ss).source (length ss) (slot_of s.source);
      target = set (sets_of ss).target (length ss) (slot_of (register s.register));
    }

    go : (b : Bool) → eqb (cell t (row + i) 0) 0 ≡ b → cond b (sets_of ss) more ≡ sets_of (map (assignment_at t) (present t row (i + 1)))
    go true e = ap sets_of (sym (lines_more (assignment_at t) t row i true e))
    go false e =
        sets-path more (sets_of (ss ++ (s ∷ []))) (omega (arith, length-append ss (s ∷ []))) (padded-map_more (λ d. slot_of d.source) 5 ss s few)
        (padded-map_more (λ d. slot_of (register d.register)) 5 ss s few)
        ∙ ap sets_of (sym (lines_more (assignment_at t) t row i false e))

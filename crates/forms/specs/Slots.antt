-- Conditions and transitions over slots: the values of constants, registers and parameters stand in one list of ten, and a term is a place in it.
-- Constants have the slots from 0, registers those from 2, parameters those from 7.
-- Assumes nothing.
use Rattle.std.specs.Prelude.{ℕ, zero, suc, ◌+◌, ◌≤◌, ◌<◌, pred, Bool, cond, not, List, [], ◌∷◌, map, ◌≡◌, T, eqb, length, get_or, set}
use Rattle.lists.specs.Arrays.{padded}
use Rattle.lists.specs.Searches.{all_from}
use Rattle.graphs.specs.Lists.{item}
use Rattle.automata.specs.Automaton.{Term, Condition, Assignment, Transition, Automaton, arity}
use Rattle.automata.specs.Automaton.Term.{register, parameter, constant}
use Rattle.automata.specs.WellFormed.{fits_condition, fits_assignment}
use Rattle.forms.specs.TableForm.{cell}
use Rattle.forms.specs.FormAutomaton.{present, term_at, condition_at, assignment_at}
use Rattle.forms.specs.declared.Guard.{Guard}
use Rattle.forms.specs.declared.Sets.{Sets}
use Rattle.forms.specs.declared.Arc.{Arc}

abbrev pub slot_of : Term → ℕ
slot_of (constant i) = pred i
slot_of (register i) = i + 1
slot_of (parameter i) = i + 6

-- the list holds the constants cs, the contents v and the parameters ps in their slots
pub record Joint (cs v ps vals : List ℕ) : Type 0 where
  pub long : length vals ≡ 10
  pub few-constants : length cs ≤ 2
  pub few-registers : length v ≤ 5
  pub few-parameters : length ps ≤ 3
  pub constants : (i : ℕ) → 1 ≤ i → i ≤ length cs → get_or vals (pred i) 0 ≡ item cs i
  pub registers : (i : ℕ) → 1 ≤ i → i ≤ length v → get_or vals (i + 1) 0 ≡ item v i
  pub parameters : (i : ℕ) → 1 ≤ i → i ≤ length ps → get_or vals (i + 6) 0 ≡ item ps i

-- Conditions

abbrev pub flag : Bool → ℕ
flag b = cond b 1 0

-- conditions as a struct: condition i compares slots left[i] and right[i]
abbrev pub guard_of : List Condition → Guard
guard_of gs = record {
  count = length gs;
  left = padded 8 (map (λ g. slot_of g.left) gs);
  equal = padded 8 (map (λ g. flag g.equal) gs);
  right = padded 8 (map (λ g. slot_of g.right) gs);
}

-- the conditions in the eight rows from this one on, as of a start, a target or a transition
abbrev pub conditions_from : List ℕ → ℕ → List Condition
conditions_from t row = map (condition_at t) (present t row 8)

-- counts and slots in range
pub record FitsGuard (g : Guard) : Type 0 where
  pub count_fits : g.count ≤ 8
  pub left-fits : (i : ℕ) → get_or g.left i 0 < 10
  pub right-fits : (i : ℕ) → get_or g.right i 0 < 10

abbrev pub holds_at : List ℕ → ℕ → ℕ → ℕ → Bool
holds_at vals l e r = cond (eqb e 1) (eqb (get_or vals l 0) (get_or vals r 0)) (not (eqb (get_or vals l 0) (get_or vals r 0)))

-- condition i holds of the values
abbrev pub condition_holds : Guard → List ℕ → ℕ → Bool
condition_holds g vals i = holds_at vals (get_or g.left i 0) (get_or g.equal i 0) (get_or g.right i 0)

-- all conditions hold of the values
abbrev pub holds_all : Guard → List ℕ → Bool
holds_all g vals = all_from (condition_holds g vals) 0 g.count

-- the row holds no line, or a condition whose terms have slots
abbrev pub ConditionFits : List ℕ → ℕ → Type 0
ConditionFits t row = T (not (eqb (cell t row 0) 0)) → T (fits_condition 2 5 3 (condition_at t row))

-- the guard with one condition more, if the row holds one
unfoldable pub guard_with : Guard → List ℕ → ℕ → Guard
guard_with g t row = cond (eqb (cell t row 0) 0) g (record {
  count = g.count + 1;
  left = set g.left g.count (slot_of (term_at t row 1));
  equal = set g.equal g.count (flag (eqb (cell t row 3) 1));
  right = set g.right g.count (slot_of (term_at t row 4));
})

-- Assignments

-- assignments as a struct: assignment i writes the value in slot source[i] to the register of slot target[i]
abbrev pub sets_of : List Assignment → Sets
sets_of ss = record {
  count = length ss;
  source = padded 5 (map (λ s. slot_of s.source) ss);
  target = padded 5 (map (λ s. slot_of (register s.register)) ss);
}

-- the assignments in the five rows from this one on
abbrev pub assignments_from : List ℕ → ℕ → List Assignment
assignments_from t row = map (assignment_at t) (present t row 5)

abbrev pub AssignmentFits : List ℕ → ℕ → Type 0
AssignmentFits t row = T (not (eqb (cell t row 0) 0)) → T (fits_assignment 2 5 3 (assignment_at t row))

unfoldable pub sets_with : Sets → List ℕ → ℕ → Sets
sets_with s t row = cond (eqb (cell t row 0) 0) s (record {
  count = s.count + 1;
  source = set s.source s.count (slot_of (term_at t row 2));
  target = set s.target s.count (cell t row 1 + 1);
})

-- the values in slots i, .. , i + n - 1 of a list of slots
abbrev pub values_from : List ℕ → List ℕ → ℕ → ℕ → List ℕ
values_from vals slots i zero = []
values_from vals slots i (suc n) = get_or vals (get_or slots i 0) 0 ∷ values_from vals slots (suc i) n

-- Transitions

-- a transition (document 01's arc) as a struct
abbrev pub arc_of : Automaton → Transition → Arc
arc_of a t = record {
  from = t.from;
  action = t.action;
  to = t.to;
  params = arity a t;
  guard = guard_of t.guard;
  sets = length t.assigns;
  source = (sets_of t.assigns).source;
  target = (sets_of t.assigns).target;
}

-- counts and slots in range
pub record Fits (x : Arc) : Type 0 where
  pub few : x.params ≤ 3
  pub guard-fits : FitsGuard x.guard
  pub sets_fit : x.sets ≤ 5
  pub source_fits : (i : ℕ) → get_or x.source i 0 < 10
  pub target_fits : (i : ℕ) → get_or x.target i 0 < 10

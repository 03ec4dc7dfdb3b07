-- The rules for the lines of a table: one table of the kinds of lines, and what it comes to for a line. This is what a reader believes.
-- Assumes nothing.
use Rattle.std.specs.Prelude.{ℕ, suc, ◌+◌, ◌-◌, Bool, true, false, cond, not, ◌&&◌, ◌||◌, List, [], ◌∷◌, leb, ltb, eqb, get_or}
use Rattle.columns.specs.Widths.{largest}
use Rattle.graphs.specs.Lists.{all_of}
use Rattle.automata.specs.WellFormed.{inside}
use Rattle.forms.specs.TableForm.{cell, put, counts_row, constant_rows, action_rows, start_row, starting_rows, transition_row, guard_rows, assignment_rows, arity_row}
use Rattle.reader.specs.declared.Progress.{Progress}
use Rattle.reader.specs.declared.Kind.{Kind}

-- number i of a line, 0 its kind
abbrev pub at : List ℕ → ℕ → ℕ
at f i = get_or f i 0

-- The kinds of lines

-- what a field names: a number from 0 or from 1 up to a limit, a constant's identifier, a location, an action or a register of the table, or, with the
-- field after it, a term
pub data Use : Type 0 where
  up_to : ℕ → Use
  one_to : ℕ → Use
  identifier : Use
  location : Use
  action : Use
  register : Use
  term : Use

-- a kind of line: what its fields after the kind name; the stages of the file at which it may stand, from the first to the last, and the stage that
-- follows it; what has to hold of the counts; whether it is a condition; whether its first number rises; its row in the form, by its first number
pub record LineKind : Type 0 where
  pub fields : List Use
  pub from : ℕ
  pub to : ℕ
  pub next : ℕ
  pub due : Progress → Bool
  pub condition : Bool
  pub rising : Bool
  pub row : Progress → ℕ → ℕ

abbrev pub line : List Use → (from to next : ℕ) → (Progress → Bool) → (condition rising : Bool) → (Progress → ℕ → ℕ) → LineKind
line us from to next due condition rising row =
    record { fields = us; from = from; to = to; next = next; due = due; condition = condition; rising = rising; row = row }

-- left term, relation, right term
abbrev pub condition_fields : List Use
condition_fields = term ∷ one_to 2 ∷ term ∷ []

abbrev pub always : Progress → Bool
always p = true

-- no kind: it never stands
abbrev pub no_kind : LineKind
no_kind = line [] 0 0 0 (λ p. false) false false (λ p n. 0)

-- the kinds of document 01 from 1. The stages: 0 before line 1, 1 after it, 2 and 3 among the lines 2 and 3, 4 after line 4, 5 after a line 6, 6 among
-- lines 8
abbrev pub kinds : List LineKind
kinds =
    no_kind
    ∷ line (up_to 5 ∷ up_to 2 ∷ one_to 16 ∷ one_to 16 ∷ up_to 64 ∷ []) 0 0 1 always false false (λ p n. counts_row)
    ∷ line (identifier ∷ []) 1 2 2 (λ p. ltb p.ids p.constants) false true (λ p n. constant_rows + p.ids)
    ∷ line (up_to 3 ∷ []) 1 3 3 (λ p. leb p.constants p.ids && ltb p.acts p.actions) false false (λ p n. action_rows + p.acts)
    ∷ line (location ∷ []) 3 3 4 (λ p. leb p.actions p.acts) false false (λ p n. start_row)
    ∷ line condition_fields 4 4 4 always true false (λ p n. starting_rows + p.conds)
    ∷ line (location ∷ action ∷ location ∷ []) 4 6 5 (λ p. ltb p.transition p.transitions) false false (λ p n. transition_row p.transition)
    ∷ line condition_fields 5 5 5 always true false (λ p n. guard_rows p.place + p.conds)
    ∷ line (register ∷ term ∷ []) 5 6 6 always false true (λ p n. assignment_rows p.place + n - 1)
    ∷ []

-- the kind of this number
abbrev pub kind_of : ℕ → LineKind
kind_of k = get_or kinds k no_kind

-- how many numbers these fields have
abbrev pub numbers_of : Use → ℕ
numbers_of (up_to n) = 1
numbers_of (one_to n) = 1
numbers_of identifier = 1
numbers_of location = 1
numbers_of action = 1
numbers_of register = 1
numbers_of term = 2

abbrev pub numbers_in : List Use → ℕ
numbers_in [] = 0
numbers_in (u ∷ us) = numbers_of u + numbers_in us

-- what the table says of a line of kind k with the first number n after p, but for its fields' ranges
unfoldable pub kind_at : Progress → ℕ → ℕ → Kind
kind_at p k n =
    record {
      fields = 1 + numbers_in (kind_of k).fields;
      from = (kind_of k).from;
      to = (kind_of k).to;
      next = (kind_of k).next;
      due = (kind_of k).due p;
      condition = (kind_of k).condition;
      rising = (kind_of k).rising;
      row = (kind_of k).row p n;
    }

-- The judgement of a line

-- a line of n fields and this kind may stand here
abbrev pub expected : Progress → Kind → ℕ → Bool
expected p k n = eqb n k.fields && leb k.from p.stage && leb p.stage k.to && k.due

-- a ninth condition
abbrev pub crowded : Progress → Kind → Bool
crowded p k = k.condition && leb 8 p.conds

-- the table has the term of kind k and number n: 1 a register, 2 a parameter of the transition's action, 3 a constant
unfoldable pub has_term : Progress → ℕ → ℕ → Bool
has_term p k n = eqb k 1 && inside p.registers n || eqb k 2 && inside p.params n || eqb k 3 && inside p.constants n

-- the number x of a field, with the number y after it, is in its range
abbrev pub fits : Progress → Use → ℕ → ℕ → Bool
fits p (up_to n) x y = leb x n
fits p (one_to n) x y = inside n x
fits p identifier x y = true
fits p location x y = inside p.locations x
fits p action x y = inside p.actions x
fits p register x y = inside p.registers x
fits p term x y = has_term p x y

-- those before are in their ranges, and so are these fields from number i on
abbrev pub fit_from : Progress → Bool → List Use → List ℕ → ℕ → Bool
fit_from p before [] f i = before
fit_from p before (u ∷ us) f i = fit_from p (before && fits p u (at f i) (at f (suc i))) us f (numbers_of u + i)

-- every number is in its range, and none is larger than an identifier can be
unfoldable pub in_range : Progress → List ℕ → Bool
in_range p f = all_of (λ v. leb v largest) f && fit_from p true (kind_of (at f 0)).fields f 1

-- the first number n is larger than that of the line of its kind before it, if this kind rises
abbrev pub in_order : Progress → Kind → ℕ → Bool
in_order p k n = not (k.rising && eqb p.stage k.next && leb n p.newest)

-- the refusal of a line of this kind that may stand here, or 0: a ninth condition before values, values before order
unfoldable pub judge_values : Progress → Kind → List ℕ → ℕ
judge_values p k f =
    cond (crowded p k) 6
    (cond (in_range p f) (cond (in_order p k (at f 1)) 0 4)
    (cond (eqb (at f 0) 1) 3 5))

-- the refusal of a line of n fields, whose numbers are the row f, or 0: its layout and kind come first
unfoldable pub judge_line : Progress → ℕ → List ℕ → ℕ
judge_line p n f = cond (expected p (kind_at p (at f 0) (at f 1)) n) (judge_values p (kind_at p (at f 0) (at f 1)) f) 2

-- What an accepted line leaves

-- the progress after a line of this kind that is accepted, where the action that a line 6 names has a parameters
unfoldable pub advance : Progress → Kind → List ℕ → ℕ → Progress
advance p k f a =
    record {
      registers = cond (eqb (at f 0) 1) (at f 1) p.registers;
      constants = cond (eqb (at f 0) 1) (at f 2) p.constants;
      locations = cond (eqb (at f 0) 1) (at f 3) p.locations;
      actions = cond (eqb (at f 0) 1) (at f 4) p.actions;
      transitions = cond (eqb (at f 0) 1) (at f 5) p.transitions;
      stage = k.next;
      ids = cond (eqb (at f 0) 2) (p.ids + 1) p.ids;
      acts = cond (eqb (at f 0) 3) (p.acts + 1) p.acts;
      transition = cond (eqb (at f 0) 6) (p.transition + 1) p.transition;
      place = cond (eqb (at f 0) 6) p.transition p.place;
      conds = cond (eqb (at f 0) 6) 0 (cond k.condition (p.conds + 1) p.conds);
      params = cond (eqb (at f 0) 6) a p.params;
      newest = cond k.rising (at f 1) p.newest;
    }

-- the progress after a line with the numbers f, where t is the form so far: the row of action i has its parameters
abbrev pub further : Progress → List ℕ → List ℕ → Progress
further p f t = advance p (kind_at p (at f 0) (at f 1)) f (cell t (arity_row (at f 2)) 1)

-- with the row of a line in its place
abbrev pub placed : Progress → List ℕ → List ℕ → List ℕ
placed p f t = put t (kind_at p (at f 0) (at f 1)).row f

-- nothing is read yet
abbrev pub at_start : Progress
at_start =
    record { registers = 0; constants = 0; locations = 0; actions = 0; transitions = 0; stage = 0; ids = 0; acts = 0; transition = 0; place = 0; conds = 0; params = 0; newest = 0 }

-- before the line 4 of a target, where the table has these counts: as if all lines 3 were read, and with no transition to come
abbrev pub before_target : ℕ → ℕ → ℕ → Progress
before_target r c l =
    record { registers = r; constants = c; locations = l; actions = 0; transitions = 0; stage = 3; ids = 0; acts = 0; transition = 0; place = 0; conds = 0; params = 0; newest = 0 }

-- the file may end here
unfoldable pub complete : Progress → Bool
complete p = leb 4 p.stage && leb p.transitions p.transition

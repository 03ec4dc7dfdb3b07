-- When a line is accepted: its kind may stand here, its numbers are in their ranges, and it is in order (`accepts`). Lines of numbers in range can be written.
-- Assumes nothing.
use Prim.Native.Nat.{ℕ, zero, suc, ◌^◌, ◌≤◌, ◌<◌}
use mathlib.Core.Bool.{Bool, true, false, cond, not, ◌&&◌}
use mathlib.Core.List.{List, [], ◌∷◌}
use mathlib.Core.Path.{◌≡◌, refl, ap}
use borrow.Author.Tests.{le-leb, lt-leb, eq-eqb, eqb-true}
use native.Mathlib.Nat.{one-le-pow}
use native.Mathlib.Omega.{arith}
use lib.Dec.{T, leb, eqb}
use lib.ListN.{length, get_or}
use lib.Ieee.Fits.{and_l, and_r}
use Rattle.graphs.specs.Lists.{all_of}
use Rattle.graphs.proofs.Lists.{T_true}
use Rattle.automata.specs.Automaton.{Term, Condition, Assignment}
use Rattle.automata.specs.Automaton.Term.{register, parameter, constant}
use Rattle.automata.specs.WellFormed.{inside, fits_term, fits_condition, fits_assignment}
use Rattle.automata.proofs.Equivariance.{inside→}
use Rattle.columns.specs.declared.Sheet.{Sheet}
use Rattle.columns.specs.declared.Sheet.TheVariants.{Table}
use Rattle.columns.specs.Widths.{largest, width}
use Rattle.columns.proofs.Columns.{six_digits}
use Rattle.lists.specs.Arrays.{padded}
use Rattle.reader.specs.declared.Progress.{Progress}
use Rattle.reader.specs.declared.Kind.{Kind}
use Rattle.reader.specs.TableRules.{at, kind_of, condition_fields, kind_at, expected, crowded, has_term, fit_from, in_range, in_order, judge_values, judge_line}
use Rattle.writing.specs.Lines.{term_kind, term_number, condition_line, assignment_line}
use Rattle.writing.proofs.Reading.{Written}

-- Tests

passes : (x c i r k : Bool) → x ≡ true → c ≡ false → i ≡ true → r ≡ true → ◌≡◌ {A = ℕ} (cond x (cond c 6 (cond i (cond r 0 4) (cond k 3 5))) 2) 0
passes x c i r k a b d e = rw (a, b, d, e)

expects : (p : Progress) (k : Kind) (n : ℕ) → n ≡ k.fields → k.from ≤ p.stage → p.stage ≤ k.to → k.due ≡ true → expected p k n ≡ true
expects p k n a b c d = rw (eq-eqb n k.fields a, le-leb k.from p.stage b, le-leb p.stage k.to c, d)

pub accepts : (p : Progress) (n : ℕ) (f : List ℕ) → let k : Kind = kind_at p (at f 0) (at f 1) in
    n ≡ k.fields → k.from ≤ p.stage → p.stage ≤ k.to → k.due ≡ true → crowded p k ≡ false → all_of (λ v. leb v largest) f ≡ true → fit_from p true (kind_of (at f 0)).fields f 1 ≡ true → in_order p k (at f 1) ≡ true → judge_line p n f ≡ 0
unfolding judge_line judge_values in_range
accepts p n f a b c d e i g h =
    let k : Kind = kind_at p (at f 0) (at f 1) in
    passes (expected p k n) (crowded p k) (in_range p f) (in_order p k (at f 1)) (eqb (at f 0) 1) (expects p k n a b c d) e (rw (i, g)) h

-- a kind that rises: the stage after it is next
pub in_order_lem : (stage next newest x : ℕ) → (stage ≡ next → newest < x) → not (eqb stage next && leb x newest) ≡ true
in_order_lem stage next newest x h = by (eqb stage next) refl
  where
    by : (b : Bool) → eqb stage next ≡ b → not (b && leb x newest) ≡ true
    by true e = ap not (lt-leb x newest (h (eqb-true stage next e)))
    by false e = refl

-- Ranges

has-term : (p : Progress) (t : Term) → T (fits_term p.constants p.registers p.params t) → has_term p (term_kind t) (term_number t) ≡ true
unfolding has_term
has-term p (register i) h = rw (T_true (inside p.registers i) h)
has-term p (parameter i) h = rw (T_true (inside p.params i) h)
has-term p (constant i) h = rw (T_true (inside p.constants i) h)

relation_inside : (b : Bool) → inside 2 (cond b 1 2) ≡ true
relation_inside true = refl
relation_inside false = refl

-- of a line 5 or 7
pub condition_range : (p : Progress) (k : ℕ) (d : Condition) → (kind_of k).fields ≡ condition_fields → T (fits_condition p.constants p.registers p.params d) → fit_from p true (kind_of k).fields (condition_line k d) 1 ≡ true
condition_range p k d e h =
    rw (
      e,
      has-term p d.left (and_l (fits_term p.constants p.registers p.params d.left) (fits_term p.constants p.registers p.params d.right) h),
      relation_inside d.equal,
      has-term p d.right (and_r (fits_term p.constants p.registers p.params d.left) (fits_term p.constants p.registers p.params d.right) h),
    )

-- of a line 8
pub assignment_range : (p : Progress) (s : Assignment) → T (fits_assignment p.constants p.registers p.params s)
    → fit_from p true (kind_of 8).fields (8 ∷ s.register ∷ term_kind s.source ∷ term_number s.source ∷ 0 ∷ 0 ∷ []) 1 ≡ true
assignment_range p s h =
    rw (
      T_true (inside p.registers s.register) (and_l (inside p.registers s.register) (fits_term p.constants p.registers p.params s.source) h),
      has-term p s.source (and_r (inside p.registers s.register) (fits_term p.constants p.registers p.params s.source) h),
    )

-- Lines that can be written

-- at most six numbers of six digits
pub record Low (vs : List ℕ) : Type 0 where
  pub few : length vs ≤ 6
  pub each : (i : ℕ) → get_or vs i 0 < 1000000

low-none : (i : ℕ) → get_or [] i 0 < 1000000
low-none i = omega arith

low_more : (v : ℕ) (vs : List ℕ) → v < 1000000 → ((i : ℕ) → get_or vs i 0 < 1000000) → (i : ℕ) → get_or (v ∷ vs) i 0 < 1000000
low_more v vs h l zero = h
low_more v vs h l (suc i) = l i

-- they can be written on every sheet, and are no larger than an identifier can be
pub low-written : (s : Sheet) (vs : List ℕ) → Low vs → Written s vs
low-written s vs l = record { few = l.few; fits = six_digits s vs l.each }

all-low : (n : ℕ) (vs : List ℕ) → ((i : ℕ) → get_or vs i 0 < 1000000) → all_of (λ v. leb v largest) (padded n vs) ≡ true
unfolding padded
all-low zero vs h = refl
all-low (suc n) [] h = all-low n [] h
all-low (suc n) (v ∷ vs) h = rw (le-leb v largest (omega (arith, h 0)), all-low n vs (λ i. h (suc i)))

pub low-issued : (vs : List ℕ) → Low vs → all_of (λ v. leb v largest) (padded 6 vs) ≡ true
low-issued vs l = all-low 6 vs l.each

-- a line 2
pub constant-written : (v : ℕ) → v < 10 ^ 12 → Written Table (2 ∷ v ∷ [])
unfolding width
constant-written v h = record { few = omega arith; fits = fits }
  where
    fits : (i : ℕ) → get_or (2 ∷ v ∷ []) i 0 < 10 ^ cond (eqb i 1) 12 6
    fits zero = omega arith
    fits (suc zero) = h
    fits (suc (suc i)) = one-le-pow (cond (eqb (suc (suc i)) 1) 12 6) 10 (omega arith)

pub low2 : (a b : ℕ) → a < 1000000 → b < 1000000 → Low (a ∷ b ∷ [])
low2 a b x y = record { few = omega arith; each = low_more a (b ∷ []) x (low_more b [] y low-none) }

pub low3 : (a b c : ℕ) → a < 1000000 → b < 1000000 → c < 1000000 → Low (a ∷ b ∷ c ∷ [])
low3 a b c x y z = record { few = omega arith; each = low_more a (b ∷ c ∷ []) x (low2 b c y z).each }

pub low4 : (a b c d : ℕ) → a < 1000000 → b < 1000000 → c < 1000000 → d < 1000000 → Low (a ∷ b ∷ c ∷ d ∷ [])
low4 a b c d x y z w = record { few = omega arith; each = low_more a (b ∷ c ∷ d ∷ []) x (low3 b c d y z w).each }

pub low6 : (a b c d e f : ℕ) → a < 1000000 → b < 1000000 → c < 1000000 → d < 1000000 → e < 1000000 → f < 1000000 → Low (a ∷ b ∷ c ∷ d ∷ e ∷ f ∷ [])
low6 a b c d e f x y z w u v = record { few = omega arith; each = low_more a (b ∷ c ∷ d ∷ e ∷ f ∷ []) x (low_more b (c ∷ d ∷ e ∷ f ∷ []) y (low4 c d e f z w u v).each) }

relation_low : (b : Bool) → cond b 1 2 ≤ 2
relation_low true = omega arith
relation_low false = omega arith

-- of few constants, registers and parameters
module _ (c r q : ℕ) (cs : c ≤ 99) (rs : r ≤ 99) (qs : q ≤ 99) where
  term-low : (t : Term) → T (fits_term c r q t) → (term_kind t ≤ 3) × (term_number t ≤ 99)
  term-low (register i) h = (omega arith, omega (arith, inside→ r i h))
  term-low (parameter i) h = (omega arith, omega (arith, inside→ q i h))
  term-low (constant i) h = (omega arith, omega (arith, inside→ c i h))

  pub condition-low : (k : ℕ) (d : Condition) → k ≤ 99 → T (fits_condition c r q d) → Low (condition_line k d)
  condition-low k d e h =
      let a = term-low d.left (and_l (fits_term c r q d.left) (fits_term c r q d.right) h) in
      let b = term-low d.right (and_r (fits_term c r q d.left) (fits_term c r q d.right) h) in
      let o = relation_low d.equal in
      low6 k (term_kind d.left) (term_number d.left) (cond d.equal 1 2) (term_kind d.right) (term_number d.right)
      (omega arith) (omega arith) (omega arith) (omega arith) (omega arith) (omega arith)

  pub assignment_low : (s : Assignment) → T (fits_assignment c r q s) → Low (assignment_line s)
  assignment_low s h =
      let a = inside→ r s.register (and_l (inside r s.register) (fits_term c r q s.source) h) in
      let b = term-low s.source (and_r (inside r s.register) (fits_term c r q s.source) h) in
      low4 8 s.register (term_kind s.source) (term_number s.source) (omega arith) (omega arith) (omega arith) (omega arith)

-- What an accepted line satisfies, kind by kind (`stands`): the inversion of `judge_line`.
-- Assumes nothing.
use Prim.Native.Nat.{ℕ, zero, suc, ◌≤◌, ◌<◌}
use mathlib.Core.Bool.{Bool, true, false, not, cond, ◌&&◌, ◌||◌, and-eq-true_iff}
use mathlib.Core.List.{List}
use mathlib.Core.Path.{◌≡◌, refl, subst⁻¹}
use borrow.Author.Tests.{leb-true, leb-false, ltb-true, eqb-true, eq-eqb, not-true}
use native.Mathlib.Omega.{arith}
use lib.Dec.{T, leb, ltb, eqb}
use Rattle.columns.specs.Widths.{largest}
use Rattle.fields.specs.LineRead.{judge_read}
use Rattle.std.specs.Prelude.{Option, Some, None}
use Rattle.graphs.specs.Lists.{all_of}
use Rattle.automata.specs.WellFormed.{inside}
use Rattle.reader.specs.declared.Progress.{Progress}
use Rattle.reader.specs.declared.Kind.{Kind}
use Rattle.reader.specs.TableRules.{has_term, kind_of, kind_at, expected, crowded, at, fit_from, in_range, in_order, judge_values, judge_line}

-- i is one of 1 to n
abbrev pub Inside : ℕ → ℕ → Type 0
Inside n i = (1 ≤ i) × (i ≤ n)

-- the term of kind k and number n is one of r registers, q parameters or c constants
pub data Named (r q c k n : ℕ) : Type 0 where
  a_register : k ≡ 1 → Inside r n → Named r q c k n
  a_parameter : k ≡ 2 → Inside q n → Named r q c k n
  a_constant : k ≡ 3 → Inside c n → Named r q c k n

-- among the registers, parameters and constants that are there after p
abbrev pub NamedBy : Progress → ℕ → ℕ → Type 0
NamedBy p k n = Named p.registers p.params p.constants k n

-- a line that is accepted after p
pub data Stands (p : Progress) (f : List ℕ) : Type 0 where
  line1 : at f 0 ≡ 1 → p.stage ≡ 0 → at f 1 ≤ 5 → at f 2 ≤ 2 → Inside 16 (at f 3) → Inside 16 (at f 4) → at f 5 ≤ 64 → Stands p f
  line2 : at f 0 ≡ 2 → 1 ≤ p.stage → p.stage ≤ 2 → p.ids < p.constants → (p.stage ≡ 2 → p.newest < at f 1) → Stands p f
  line3 : at f 0 ≡ 3 → 1 ≤ p.stage → p.stage ≤ 3 → p.constants ≤ p.ids → p.acts < p.actions → at f 1 ≤ 3 → Stands p f
  line4 : at f 0 ≡ 4 → p.stage ≡ 3 → p.actions ≤ p.acts → Inside p.locations (at f 1) → Stands p f
  line5 : at f 0 ≡ 5 → p.stage ≡ 4 → p.conds < 8 → NamedBy p (at f 1) (at f 2) → Inside 2 (at f 3) → NamedBy p (at f 4) (at f 5) → Stands p f
  line6 : at f 0 ≡ 6 → 4 ≤ p.stage → p.transition < p.transitions → Inside p.locations (at f 1) → Inside p.actions (at f 2) → Inside p.locations (at f 3)
      → Stands p f
  line7 : at f 0 ≡ 7 → p.stage ≡ 5 → p.conds < 8 → NamedBy p (at f 1) (at f 2) → Inside 2 (at f 3) → NamedBy p (at f 4) (at f 5) → Stands p f
  line8 : at f 0 ≡ 8 → 5 ≤ p.stage → Inside p.registers (at f 1) → NamedBy p (at f 2) (at f 3) → Stands p f

-- the parts of a conjunction
and2 : (a b : Bool) → (a && b) ≡ true → (a ≡ true) × (b ≡ true)
and2 a b = (and-eq-true_iff a b).0

and3 : (a b c : Bool) → (a && b && c) ≡ true → (a ≡ true) × (b ≡ true) × (c ≡ true)
and3 a b c e = let x : ((a && b) ≡ true) × (c ≡ true) = and2 (a && b) c e in let y : (a ≡ true) × (b ≡ true) = and2 a b x.0 in (y.0, y.1, x.1)

and4 : (a b c d : Bool) → (a && b && c && d) ≡ true → (a ≡ true) × (b ≡ true) × (c ≡ true) × (d ≡ true)
and4 a b c d e = let x : ((a && b && c) ≡ true) × (d ≡ true) = and2 (a && b && c) d e in let y : (a ≡ true) × (b ≡ true) × (c ≡ true) = and3 a b c x.0 in (y.0, y.1, y.2, x.1)

and5 : (a b c d g : Bool) → (a && b && c && d && g) ≡ true → (a ≡ true) × (b ≡ true) × (c ≡ true) × (d ≡ true) × (g ≡ true)
and5 a b c d g e = let x : ((a && b && c && d) ≡ true) × (g ≡ true) = and2 (a && b && c && d) g e in let y : (a ≡ true) × (b ≡ true) × (c ≡ true) × (d ≡ true) = and4 a b c d x.0 in (y.0, y.1, y.2, y.3, x.1)

pub inside_is : (n i : ℕ) → inside n i ≡ true → Inside n i
inside_is n i e = let h = and2 (leb 1 i) (leb i n) e in (leb-true 1 i h.0, leb-true i n h.1)

-- a disjunction of three, taken apart
or3 : {A : Type 0} (a b c : Bool) → (a || b || c) ≡ true → (a ≡ true → A) → (b ≡ true → A) → (c ≡ true → A) → A
or3 true b c e fa fb fc = fa refl
or3 false true c e fa fb fc = fb refl
or3 false false c e fa fb fc = fc e

named : (p : Progress) (k n : ℕ) → has_term p k n ≡ true → NamedBy p k n
unfolding has_term
named p k n e =
    or3 _ _ _ e
    (λ h. let u = and2 (eqb k 1) (inside p.registers n) h in a_register (eqb-true _ _ u.0) (inside_is _ _ u.1))
    (λ h. let u = and2 (eqb k 2) (inside p.params n) h in a_parameter (eqb-true _ _ u.0) (inside_is _ _ u.1))
    (λ h. let u = and2 (eqb k 3) (inside p.constants n) h in a_constant (eqb-true _ _ u.0) (inside_is _ _ u.1))

-- the four tests of a line that is accepted
passes : (x c i r k : Bool) → ◌≡◌ {A = ℕ} (cond x (cond c 6 (cond i (cond r 0 4) (cond k 3 5))) 2) 0 → (x ≡ true) × (c ≡ false) × (i ≡ true) × (r ≡ true)
passes true false true true k e = (refl, refl, refl, refl)
passes false c i r k e = absurd (omega arith)
passes true true i r k e = absurd (omega arith)
passes true false false r true e = absurd (omega arith)
passes true false false r false e = absurd (omega arith)
passes true false true false k e = absurd (omega arith)

-- a test whose first parts are true and that fails fails in its last
second-fails : (a b : Bool) → a ≡ true → (a && b) ≡ false → b ≡ false
second-fails a b e h = rw e at h

third_fails : (a b c : Bool) → a ≡ true → b ≡ true → not (a && b && c) ≡ true → c ≡ false
third_fails a b c e g h = not-true c (rw (e, g) at h)

-- what the table of kinds asks of a line of n fields, of this kind and with the first number x
pub record Passed (p : Progress) (k : Kind) (n x : ℕ) : Type 0 where
  pub wide : n ≡ k.fields
  pub from : k.from ≤ p.stage
  pub to : p.stage ≤ k.to
  pub due : k.due ≡ true
  pub few : k.condition ≡ true → p.conds < 8
  pub rise : k.rising ≡ true → p.stage ≡ k.next → p.newest < x

passed : (p : Progress) (k : Kind) (n x : ℕ) → expected p k n ≡ true → crowded p k ≡ false → in_order p k x ≡ true → Passed p k n x
passed p k n x e c o =
    let h = and4 (eqb n k.fields) (leb k.from p.stage) (leb p.stage k.to) k.due e in
    record {
      wide = eqb-true _ _ h.0;
      from = leb-true _ _ h.1;
      to = leb-true _ _ h.2;
      due = h.3;
      few = λ g. leb-false 8 p.conds (second-fails k.condition (leb 8 p.conds) g c);
      rise = λ g j. leb-false x p.newest (third_fails k.rising (eqb p.stage k.next) (leb x p.newest) g (eq-eqb _ _ j) o);
    }

-- the table of kinds lets an accepted line stand, and its numbers are in their ranges
pub line-passed : (p : Progress) (n : ℕ) (f : List ℕ) → judge_line p n f ≡ 0 → Passed p (kind_at p (at f 0) (at f 1)) n (at f 1) × (in_range p f ≡ true)
unfolding judge_line judge_values
line-passed p n f z =
    let k : Kind = kind_at p (at f 0) (at f 1) in
    let h = passes (expected p k n) (crowded p k) (in_range p f) (in_order p k (at f 1)) (eqb (at f 0) 1) z in
    (passed p k n (at f 1) h.0 h.1 h.3, h.2)

-- none of its numbers is larger than an identifier can be
pub line-issued : (p : Progress) (n : ℕ) (f : List ℕ) → judge_line p n f ≡ 0 → all_of (λ v. leb v largest) f ≡ true
unfolding in_range
line-issued p n f z = (and2 (all_of (λ v. leb v largest) f) (fit_from p true (kind_of (at f 0)).fields f 1) (line-passed p n f z).1).0

-- of a line as it is read
pub read-issued : (p : Progress) (n : Option ℕ) (f : List ℕ) → judge_read (judge_line p) n f ≡ 0 → T (all_of (λ v. leb v largest) f)
read-issued p (Some m) f z = subst⁻¹ T (line-issued p m f z) tt
read-issued p None f z = absurd (omega arith)

no_kind_lem : {A : Type 0} → false ≡ true → A
no_kind_lem e = let z : ◌≡◌ {A = ℕ} 0 1 = cc in absurd (omega arith)

pub stands : (p : Progress) (n : ℕ) (f : List ℕ) → judge_line p n f ≡ 0 → Stands p f
unfolding in_range kind_at
stands p n f z = let (h, r) = line-passed p n f z in by (at f 0) refl h (and2 (all_of (λ v. leb v largest) f) (fit_from p true (kind_of (at f 0)).fields f 1) r).1
  where
    by : (k : ℕ) → at f 0 ≡ k → Passed p (kind_at p k (at f 1)) n (at f 1) → fit_from p true (kind_of k).fields f 1 ≡ true → Stands p f
    by zero e h r = no_kind_lem h.due
    by (suc zero) e h r =
        let q = and5 (leb (at f 1) 5) (leb (at f 2) 2) (inside 16 (at f 3)) (inside 16 (at f 4)) (leb (at f 5) 64) r in
        line1 e (omega (arith, h.to)) (leb-true _ _ q.0) (leb-true _ _ q.1) (inside_is _ _ q.2) (inside_is _ _ q.3) (leb-true _ _ q.4)
    by (suc (suc zero)) e h r = line2 e h.from h.to (ltb-true p.ids p.constants h.due) (h.rise refl)
    by (suc (suc (suc zero))) e h r =
        let d = and2 (leb p.constants p.ids) (ltb p.acts p.actions) h.due in
        line3 e h.from h.to (leb-true _ _ d.0) (ltb-true _ _ d.1) (leb-true (at f 1) 3 r)
    by (suc (suc (suc (suc zero)))) e h r = line4 e (omega (arith, h.from, h.to)) (leb-true p.actions p.acts h.due) (inside_is p.locations (at f 1) r)
    by (suc (suc (suc (suc (suc zero))))) e h r =
        let q = and3 (has_term p (at f 1) (at f 2)) (inside 2 (at f 3)) (has_term p (at f 4) (at f 5)) r in
        line5 e (omega (arith, h.from, h.to)) (h.few refl) (named p _ _ q.0) (inside_is _ _ q.1) (named p _ _ q.2)
    by (suc (suc (suc (suc (suc (suc zero)))))) e h r =
        let q = and3 (inside p.locations (at f 1)) (inside p.actions (at f 2)) (inside p.locations (at f 3)) r in
        line6 e h.from (ltb-true p.transition p.transitions h.due) (inside_is _ _ q.0) (inside_is _ _ q.1) (inside_is _ _ q.2)
    by (suc (suc (suc (suc (suc (suc (suc zero))))))) e h r =
        let q = and3 (has_term p (at f 1) (at f 2)) (inside 2 (at f 3)) (has_term p (at f 4) (at f 5)) r in
        line7 e (omega (arith, h.from, h.to)) (h.few refl) (named p _ _ q.0) (inside_is _ _ q.1) (named p _ _ q.2)
    by (suc (suc (suc (suc (suc (suc (suc (suc zero)))))))) e h r =
        let q = and2 (inside p.registers (at f 1)) (has_term p (at f 2) (at f 3)) r in
        line8 e h.from (inside_is _ _ q.0) (named p _ _ q.1)
    by (suc (suc (suc (suc (suc (suc (suc (suc (suc k))))))))) e h r = no_kind_lem h.due

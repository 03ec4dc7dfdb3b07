-- The refusal of a row by the shape of its kind.
-- Assumes nothing.
use Prim.Native.Nat.{ℕ, zero, suc}
use Rattle.std.specs.Prelude.{Ok, Err}
use mathlib.Core.Bool.{true, and-eq-true_iff}
use mathlib.Core.Path.{◌≡◌, refl}
use borrow.Author.Tests.{leb-true, ne_eqb}
use native.Mathlib.Omega.{arith}
use lib.Dec.{leb}
use Rattle.refusals.specs.Judged.{verdict}
use Rattle.automata.specs.Questions.{row, kind_of}
use Rattle.automata.specs.WellFormed.{inside}
use Rattle.forms.specs.Shapes.{use_of, shape_of}
use Rattle.forms.proofs.KindTable.{Means, shape-kind}
use Rattle.questions.specs.declared.Counts.{Counts}
use Rattle.questions.specs.QuestionRules.{judge_field, first_of, judge_row}

-- the refusal of a row whose kind is one of the fourteen, in the code's terms
pub judge-shape : (c : Counts) (n k a b : ℕ) → inside 14 k ≡ true
    → judge_row c n (row k a b) ≡ first_of (judge_field c n (use_of (shape_of k).first) a) (judge_field c n (use_of (shape_of k).second) b)
unfolding judge_row
judge-shape c n k a b t =
    let m : Means (shape_of k) (kind_of k) = shape-kind k (leb-true 1 k ((and-eq-true_iff (leb 1 k) (leb k 14)).0 t).0) in
    simp (t, m.first, m.second)

-- the first of two verdicts decides where it refuses
pub first-Err : (x y e : ℕ) → verdict x ≡ Err e → verdict (first_of x y) ≡ Err e
first-Err zero y e h = absurd cc
first-Err (suc x) y e h = simp (ne_eqb (suc x) 0 (λ z. omega arith)) h

pub first-Ok : (x y : ℕ) (u : Unit {0}) → verdict x ≡ Ok u → verdict (first_of x y) ≡ verdict y
first-Ok zero y u h = refl
first-Ok (suc x) y u h = absurd cc

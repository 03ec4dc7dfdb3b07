-- The counters stay small; a number that is no kind. Assumes nothing.
use Prim.Native.Nat.{ℕ, zero, suc, ◌+◌, ◌^◌, ◌≤◌, ◌<◌}
use native.Mathlib.Omega.{arith}
use mathlib.Core.Bool.{Bool, cond, ◌&&◌}
use mathlib.Core.List.{List, [], ◌∷◌}
use lib.Dec.{eqb}
use mathlib.Core.Logic.{◌≢◌}
use mathlib.Core.Path.{◌≡◌, refl, ap}
use Rattle.std.specs.List.{list_all}
use Rattle.reader.specs.TableRead.{Small}
use Rattle.reader.specs.declared.Progress.{Progress}
use Rattle.reader.specs.declared.Kind.{Kind}
use Rattle.reader.specs.TableRules.{at, no_kind, kind_of, kind_at, expected, judge_values, judge_line, advance}
use Rattle.graphs.specs.Lists.{all_of}
use Rattle.graphs.proofs.Lists.{cond-le}

pub row_low : (p : Progress) (k n : ℕ) → Small p 50000 → n < 2 ^ 32 → (kind_at p k n).row ≤ 2 ^ 40
unfolding kind_at
row_low p zero n s h = omega arith
row_low p (suc zero) n s h = omega arith
row_low p (suc (suc zero)) n s h = omega arith
row_low p (suc (suc (suc zero))) n s h = omega arith
row_low p (suc (suc (suc (suc zero)))) n s h = omega arith
row_low p (suc (suc (suc (suc (suc zero))))) n s h = omega arith
row_low p (suc (suc (suc (suc (suc (suc zero)))))) n s h = omega arith
row_low p (suc (suc (suc (suc (suc (suc (suc zero))))))) n s h = omega arith
row_low p (suc (suc (suc (suc (suc (suc (suc (suc zero)))))))) n s h = omega arith
row_low p (suc (suc (suc (suc (suc (suc (suc (suc (suc k))))))))) n s h = omega arith

pub small-advance : (p : Progress) (k : Kind) (f : List ℕ) (a n : ℕ) → Small p n → Small (advance p k f a) (n + 1)
unfolding advance
small-advance p k f a n s =
    record {
      ids_small = cond-le (eqb (at f 0) 2) (omega arith) (omega arith);
      acts_small = cond-le (eqb (at f 0) 3) (omega arith) (omega arith);
      transition-small = cond-le (eqb (at f 0) 6) (omega arith) (omega arith);
      place_small = cond-le (eqb (at f 0) 6) (omega arith) (omega arith);
      conds_small = cond-le (eqb (at f 0) 6) (omega arith) (cond-le k.condition (omega arith) (omega arith));
    }

-- a number that is no kind
pub other : (k : ℕ) → k ≢ 1 → k ≢ 2 → k ≢ 3 → k ≢ 4 → k ≢ 5 → k ≢ 6 → k ≢ 7 → k ≢ 8 → kind_of k ≡ no_kind
other zero a b c d e f g h = refl
other (suc zero) a b c d e f g h = absurd (a refl)
other (suc (suc zero)) a b c d e f g h = absurd (b refl)
other (suc (suc (suc zero))) a b c d e f g h = absurd (c refl)
other (suc (suc (suc (suc zero)))) a b c d e f g h = absurd (d refl)
other (suc (suc (suc (suc (suc zero))))) a b c d e f g h = absurd (e refl)
other (suc (suc (suc (suc (suc (suc zero)))))) a b c d e f g h = absurd (f refl)
other (suc (suc (suc (suc (suc (suc (suc zero))))))) a b c d e f g h = absurd (g refl)
other (suc (suc (suc (suc (suc (suc (suc (suc zero)))))))) a b c d e f g h = absurd (h refl)
other (suc (suc (suc (suc (suc (suc (suc (suc (suc k))))))))) a b c d e f g h = refl

-- a judgement does not look at a kind's row
pub judge_kind : (p : Progress) (n : ℕ) (f : List ℕ) → cond (expected p (kind_at p (at f 0) 0) n) (judge_values p (kind_at p (at f 0) 0) f) 2 ≡ judge_line p n f
unfolding judge_line judge_values kind_at
judge_kind p n f = refl

-- std's test of all numbers
pub all_is : (p : ℕ → Bool) (l : List ℕ) → list_all p l ≡ all_of p l
all_is p [] = refl
all_is p (x ∷ l) = ap (λ b. p x && b) (all_is p l)

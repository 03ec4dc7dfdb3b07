-- The numbers that the reader's functions return.
-- Assumes nothing.
use Prim.Native.Nat.{ℕ, zero, suc, ◌+◌, ◌*◌, ◌/◌, ◌%◌, ◌≤◌, ◌<◌}
use mathlib.Core.List.{List}
use mathlib.Core.Logic.{by_cases}
use mathlib.Core.Path.{◌≡◌, refl, sym, ap₂, subst, ◌∙◌}
use native.Mathlib.Decide.{dec_lt}
use native.Mathlib.Omega.{arith}
use lib.ListN.{length}
use borrow.Author.Tests.{lt-ltb, le-ltb}
use Rattle.std.specs.Prelude.{Some, None, ◌≢◌}
use Rattle.std.proofs.Math.Dec.{eqb-suc-zero}
use Rattle.std.proofs.lemmas.Option.{none-some, same_Some}
use Rattle.grammar.specs.Grammar.{Question}
use Rattle.grammar.specs.Parser.{Read}
use Rattle.texts.specs.Descent.{kind_or_none, Right, RightNumber}
use Rattle.texts.specs.Steps.{step_of}
use Rattle.texts.specs.Steps.Step.{read, stopped}

pub step-stopped : (r : ℕ) → r < 1024 → step_of r ≡ stopped r
unfolding step_of
step-stopped r h = rw (lt-ltb r 1024 h) refl

pub step-read : (r : ℕ) → 1024 ≤ r → step_of r ≡ read (r % 1024) (r / 1024)
unfolding step_of
step-read r h = rw (le-ltb r 1024 h) refl

pub step_code : (p n : ℕ) → p < 1024 → 0 < n → step_of (p + 1024 * n) ≡ read p n
step_code p n h k =
    let e : (p + 1024 * n) % 1024 ≡ p = omega arith in
    let d : (p + 1024 * n) / 1024 ≡ n = omega arith in
    rw (step-read (p + 1024 * n) (omega arith)) (ap₂ read e d)

-- A kind, by what is returned for it

pub kind-some : (n k : ℕ) → Some k ≡ kind_or_none n → (k ≡ n) × (k ≢ 0)
unfolding kind_or_none
kind-some zero k e = absurd (none-some k (sym e))
kind-some (suc n) k e = let f = same_Some k (suc n) (e ∙ rw (eqb-suc-zero n) refl) in (f, λ z. omega (arith, f, z))

pub kind-none : (n : ℕ) → None ≡ kind_or_none n → n ≡ 0
unfolding kind_or_none
kind-none zero e = refl
kind-none (suc n) e = absurd (none-some (suc n) (e ∙ rw (eqb-suc-zero n) refl))

-- What was answered, by the number

module _ (s : List ℕ) (i r : ℕ) (a : RightNumber s i (step_of r)) where
  pub number-stopped : r < 1024 → RightNumber s i (stopped r)
  number-stopped h = subst (RightNumber s i) (step-stopped r h) a

  pub number_read : 1024 ≤ r → RightNumber s i (read (r % 1024) (r / 1024))
  number_read h = subst (RightNumber s i) (step-read r h) a

module _ (o : Read Question) (s : List ℕ) (i n : ℕ) (t : List ℕ) (r : ℕ) (t' : List ℕ) (a : Right o s i n t (step_of r) t') where
  pub right-stopped : r < 1024 → Right o s i n t (stopped r) t'
  right-stopped h = subst (λ x. Right o s i n t x t') (step-stopped r h) a

  pub right-read : 1024 ≤ r → Right o s i n t (read (r % 1024) (r / 1024)) t'
  right-read h = subst (λ x. Right o s i n t x t') (step-read r h) a

  -- there are fewer than 1000 rows
  pub right-few : n ≤ i → length s ≤ 400 → r < 1024000
  right-few h l = by_cases (dec_lt r 1024) (λ k. omega arith) (λ k. let (q, e, er, et, h', l', bound) = right-read (omega arith) in omega arith)

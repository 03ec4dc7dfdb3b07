-- What a verdict means: good exactly if the start and the steps are a run from a permitted start with all unused slots 0, bad at a moment
-- exactly if this is the first one up to which they are not (`judge-means`).
-- Assumes nothing.
use Prim.Native.Nat.{ℕ, zero, suc, ◌+◌, ◌<◌}
use mathlib.Core.Bool.{Bool, true, false, ◌&&◌, cond}
use mathlib.Core.List.{List, [], ◌∷◌, map}
use mathlib.Core.Logic.{◌↔◌, by_cases}
use mathlib.Core.Path.{◌≡◌, refl, sym, ap, subst}
use native.Mathlib.Decide.{ℕ_discrete, dec_lt}
use native.Mathlib.Omega.{arith}
use lib.Dec.{T}
use lib.Ieee.Fits.{and_i}
use lib.ListN.{length, take}
use lib.Seq.{take-take}
use Rattle.graphs.specs.Lists.{all_of}
use Rattle.graphs.proofs.Lists.{and_elim}
use Rattle.automata.specs.Automaton.{Automaton}
use Rattle.automata.specs.Runs.{State, is_step, after, permitted, initial, follows}
use Rattle.replay.specs.declared.Step.{Step}
use Rattle.replay.specs.declared.Verdict.{Verdict}
use Rattle.replay.specs.declared.Verdict.TheVariants.{Good, Bad}
use Rattle.replay.specs.Judge.{start_good, step_good, judge_steps, judge, Means}
use Rattle.replay.specs.RunForm.{rest_zero, contents_of, move_of, tidy, good_run, FirstBad}

-- from a state, the steps follow each other, and their unused slots are 0
abbrev good_steps : Automaton → State → List Step → Bool
good_steps a st ss = follows a st (map (move_of a) ss) && all_of (tidy a) ss

-- tests of a first part and of the rest, each way round
and_swap : (p f z t : Bool) → (p && f && (z && t)) ≡ (p && z && (f && t))
and_swap true true z t = refl
and_swap true false true t = refl
and_swap true false false t = refl
and_swap false f z t = refl

module _ (a : Automaton) where
  step-split : (st : State) (s : Step) (ss : List Step) → good_steps a st (s ∷ ss) ≡ (step_good a st s && good_steps a (after a (move_of a s)) ss)
  unfolding step_good
  step-split st s ss = and_swap (is_step a st (move_of a s)) (follows a (after a (move_of a s)) (map (move_of a) ss)) (tidy a s) (all_of (tidy a) ss)

  run-split : (v : List ℕ) (ss : List Step) → good_run a v ss ≡ (start_good a v && good_steps a (initial a (contents_of a v)) ss)
  unfolding start_good
  run-split v ss = and_swap (permitted a (contents_of a v)) (follows a (initial a (contents_of a v)) (map (move_of a) ss)) (rest_zero a.registers v) (all_of (tidy a) ss)

  step_more : (st : State) (s : Step) (ss : List Step) → T (step_good a st s) → T (good_steps a (after a (move_of a s)) ss) → T (good_steps a st (s ∷ ss))
  step_more st s ss t u = subst T (sym (step-split st s ss)) (and_i (step_good a st s) (good_steps a (after a (move_of a s)) ss) t u)

  step_less : (st : State) (s : Step) (ss : List Step) → T (good_steps a st (s ∷ ss)) → T (step_good a st s) × T (good_steps a (after a (move_of a s)) ss)
  step_less st s ss t = and_elim (step_good a st s) (good_steps a (after a (move_of a s)) ss) (subst T (step-split st s ss) t)

  -- what is good is good so far

  steps_so_far : (st : State) (n : ℕ) (ss : List Step) → T (good_steps a st ss) → T (good_steps a st (take n ss))
  steps_so_far st zero ss t = tt
  steps_so_far st (suc n) [] t = tt
  steps_so_far st (suc n) (s ∷ ss) t = let (u, r) = step_less st s ss t in step_more st s (take n ss) u (steps_so_far (after a (move_of a s)) n ss r)

  abbrev StepsMean : State → ℕ → List Step → Verdict → Type 0
  StepsMean st n ss Good = T (good_steps a st ss)
  StepsMean st n ss (Bad k) = (m : ℕ) × (k ≡ n + m) × (m < length ss) × T (good_steps a st (take m ss)) × (T (good_steps a st (take (suc m) ss)) → ⊥)

  steps_mean : (st : State) (n : ℕ) (ss : List Step) → StepsMean st n ss (judge_steps a st n ss)
  unfolding judge_steps
  steps_mean st n [] = tt
  steps_mean st n (s ∷ ss) = go (step_good a st s) refl (judge_steps a (after a (move_of a s)) (n + 1) ss) (steps_mean (after a (move_of a s)) (n + 1) ss)
    where
      go : (b : Bool) → step_good a st s ≡ b → (r : Verdict) → StepsMean (after a (move_of a s)) (n + 1) ss r → StepsMean st n (s ∷ ss) (cond b r (Bad n))
      go true e Good h = step_more st s ss (rw e tt) h
      go true e (Bad k) (m, q, l, g, f) = (suc m, omega arith, omega arith, step_more st s (take m ss) (rw e tt) g, λ t. f (step_less st s (take (suc m) ss) t).1)
      go false e r h = (0, omega arith, omega arith, tt, λ t. subst T e (step_less st s [] t).0)

  module _ (v : List ℕ) where
    abbrev first : State
    first = initial a (contents_of a v)

    run_more : (ss : List Step) → T (start_good a v) → T (good_steps a first ss) → T (good_run a v ss)
    run_more ss t u = subst T (sym (run-split v ss)) (and_i (start_good a v) (good_steps a first ss) t u)

    run-less : (ss : List Step) → T (good_run a v ss) → T (start_good a v) × T (good_steps a first ss)
    run-less ss t = and_elim (start_good a v) (good_steps a first ss) (subst T (run-split v ss) t)

    good_so_far : (n : ℕ) (ss : List Step) → T (good_run a v ss) → T (good_run a v (take n ss))
    good_so_far n ss t = let (u, r) = run-less ss t in run_more (take n ss) u (steps_so_far first n ss r)

    module _ (ss : List Step) where
      means : Means a v ss (judge a v ss)
      means = go (start_good a v) refl (judge_steps a first 1 ss) (steps_mean first 1 ss)
        where
          go : (b : Bool) → start_good a v ≡ b → (r : Verdict) → StepsMean first 1 ss r → Means a v ss (cond b r (Bad 0))
          go true e Good h = run_more ss (rw e tt) h
          go true e (Bad k) (m, q, l, g, f) =
              let p : k ≡ suc m = omega arith in
              subst (FirstBad a v ss) (sym p) (l, run_more (take m ss) (rw e tt) g, λ t. f (run-less (take (suc m) ss) t).1)
          go false e r h = λ t. subst T e (run-less [] t).0

      bad_at : (m : ℕ) → FirstBad a v ss m → T (good_run a v (take m ss)) → ⊥
      bad_at zero f = f
      bad_at (suc m) (l, g, f) = f

      good_before : (m n : ℕ) → FirstBad a v ss m → n < m → T (good_run a v (take n ss))
      good_before zero n f h = absurd (omega arith)
      good_before (suc m) n (l, g, f) h = subst (λ l. T (good_run a v l)) (take-take n m ss (omega arith)) (good_so_far n (take m ss) g)

      once : (m n : ℕ) → FirstBad a v ss m → FirstBad a v ss n → m < n → ⊥
      once m n f g h = bad_at m f (good_before n m g h)

      -- a list has one verdict that means what is the case
      same : (r s : Verdict) → Means a v ss r → Means a v ss s → r ≡ s
      same Good Good h k = refl
      same Good (Bad m) h k = absurd (bad_at m k (good_so_far m ss h))
      same (Bad m) Good h k = absurd (bad_at m h (good_so_far m ss k))
      same (Bad m) (Bad n) h k =
          by_cases (ℕ_discrete m n) (ap Bad) (λ d. absurd (by_cases (dec_lt m n) (once m n h k) (λ l. once n m k h (omega arith))))

      pub judge-means : (r : Verdict) → judge a v ss ≡ r ↔ Means a v ss r
      judge-means r = (λ e. subst (Means a v ss) e means, same (judge a v ss) r means)

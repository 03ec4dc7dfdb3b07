-- The replay, a step at a time, comes to the verdict of the definition.
-- Assumes nothing.
use Prim.Native.Nat.{ℕ, suc, ◌+◌, ◌/◌, ◌≤◌, ◌<◌}
use mathlib.Core.Bool.{Bool, true, false, cond}
use mathlib.Core.List.{List, [], ◌∷◌, ◌++◌}
use mathlib.Core.Path.{◌≡◌, refl, sym, ap, ap₂, ◌∙◌}
use Rattle.std.specs.Prelude.{Ok, Err, IsErrAnd}
use native.Mathlib.Omega.{arith}
use native.Mathlib.Numerals.{add-one}
use lib.ListN.{length, get_or, take, drop, drop_of_length-le, length-append, length-drop, get_or-append}
use lib.Seq.{drop-cons, drop_at}
use Rattle.std.proofs.lemmas.List.{take-append-le, drop-append-le}
use Rattle.automata.specs.Automaton.{Automaton}
use Rattle.automata.specs.Runs.{after, initial, transition_of}
use Rattle.replay.specs.declared.Step.{Step}
use Rattle.replay.specs.declared.Stand.{Stand}
use Rattle.replay.specs.declared.Stop.{Stop}
use Rattle.replay.specs.declared.Verdict.TheVariants.{Bad}
use Rattle.replay.specs.Judge.{start_good, step_good, judge_steps, judge}
use Rattle.replay.specs.RunForm.{contents_of, move_of, step_from, steps_from}
use Rattle.replay.proofs.Flat.{step-path}
use Rattle.replay.specs.Progress.{Progress, state_of, stopped, begun, advanced, through, judged}

-- the steps in the numbers that are left of a flat list
abbrev pub steps_left : List ℕ → List Step
steps_left ns = steps_from (length ns / 9) ns

-- nine numbers are the step in them and in what they begin
chunk-first : (xs ys : List ℕ) → length xs ≡ 9 → step_from (xs ++ ys) ≡ step_from xs
chunk-first xs ys h =
    step-path (step_from (xs ++ ys)) (step_from xs) (get_or-append xs ys 0 0 (omega arith))
    (ap (take 3) (drop-append-le 1 xs ys (omega arith)) ∙ take-append-le 3 (drop 1 xs) ys (omega (arith, length-drop 1 xs)))
    (ap (take 5) (drop-append-le 4 xs ys (omega arith)) ∙ take-append-le 5 (drop 4 xs) ys (omega (arith, length-drop 4 xs)))

-- what stands for a step past the end of a list
abbrev pub no_step : Step
no_step = record { arc = 0; params = []; next = [] }

module _ (a : Automaton) where
  bad_stays : (m : Stop) (n : ℕ) (ss : List Step) → through a (Err m) n ss ≡ Err m
  unfolding through advanced
  bad_stays m n [] = refl
  bad_stays m n (s ∷ ss) = bad_stays m (n + 1) ss

  from-state : (p : Stand) (n : ℕ) (ss : List Step) → judged (through a (Ok p) n ss) ≡ judge_steps a (state_of a p) n ss
  unfolding through advanced judge_steps
  from-state p n [] = refl
  from-state p n (s ∷ ss) = go (step_good a (state_of a p) s) (from-state next (n + 1) ss)
    where
      next : Stand
      next = record { place = (transition_of a s.arc).to; contents = s.next }

      go : (b : Bool) → judged (through a (Ok next) (n + 1) ss) ≡ judge_steps a (state_of a next) (n + 1) ss
          → judged (through a (cond b (Ok next) (Err (stopped p n))) (n + 1) ss) ≡ cond b (judge_steps a (after a (move_of a s)) (n + 1) ss) (Bad n)
      go true h = h
      go false h = ap judged (bad_stays (stopped p n) (n + 1) ss)

  -- a whole run
  pub judged-through : (v : List ℕ) (ss : List Step) → judged (through a (begun a v) 1 ss) ≡ judge a v ss
  judged-through v ss = go (start_good a v)
    where
      first : Stand
      first = record { place = a.start; contents = v }

      go : (b : Bool) → judged (through a (cond b (Ok first) (Err (stopped first 0))) 1 ss) ≡ cond b (judge_steps a (initial a (contents_of a v)) 1 ss) (Bad 0)
      go true = from-state first 1 ss
      go false = ap judged (bad_stays (stopped first 0) 1 ss)

  pub begun_goes : (v : List ℕ) {place : ℕ} → start_good a v ≡ true → place ≡ a.start → Ok (record { place = place; contents = v }) ≡ begun a v
  begun_goes v g h = rw (h, g)

  pub begun_stops : (v : List ℕ) {place : ℕ} → start_good a v ≡ false → place ≡ a.start → Err (stopped (record { place = place; contents = v }) 0) ≡ begun a v
  begun_stops v g h = rw (h, g)

  -- one step more, by value

  pub failed : (r : Progress) {m : Stop} → IsErrAnd r (λ e. e ≡ m) → r ≡ Err m
  failed (Ok p) h = absurd h
  failed (Err e) h = ap Err h

  module _ {p : Progress} (n : ℕ) (s : Step) where
    pub advanced_bad : {m : Stop} → p ≡ Err m → Err m ≡ advanced a p n s
    unfolding advanced
    advanced_bad e = rw e

    module _ {here : Stand} (e : p ≡ Ok here) where
      pub advanced_stops : step_good a (state_of a here) s ≡ false → Err (stopped here n) ≡ advanced a p n s
      unfolding advanced
      advanced_stops g = rw (e, g)

      pub advanced_goes : {to : ℕ} → step_good a (state_of a here) s ≡ true → to ≡ (transition_of a s.arc).to
          → Ok (record { place = to; contents = s.next }) ≡ advanced a p n s
      unfolding advanced
      advanced_goes g h = rw (h, e, g)

  -- one step more of a flat list, nine numbers at a time

  module _ (p : Progress) (n : ℕ) where
    pub chunk_next : (xs ys : List ℕ) → length xs ≡ 9 → through a (advanced a p n (step_from xs)) (n + 1) (steps_left ys) ≡ through a p n (steps_left (xs ++ ys))
    unfolding through steps_from
    chunk_next xs ys h =
        let e : length (xs ++ ys) / 9 ≡ suc (length ys / 9) = omega (arith, length-append xs ys) in
        sym (ap (λ k. through a p n (steps_from k (xs ++ ys))) e
        ∙ ap₂ (λ s l. through a (advanced a p n s) (n + 1) (steps_from (length ys / 9) l)) (chunk-first xs ys h) (drop_at xs ys 9 h))

    -- the same, as a turn of a loop has it
    pub chunk_turn : {i k : ℕ} (xs ys : List ℕ) {rest : List ℕ} {s : Step} {q : Progress} → rest ≡ xs ++ ys → length xs ≡ 9 → suc i ≡ n → k ≡ n → s ≡ step_from xs → q ≡ advanced a p (i + 1) s
        → through a q (k + 1) (steps_left ys) ≡ through a p n (steps_left rest)
    chunk_turn {i} xs ys rest h e f s q =
        let e' : i + 1 ≡ n = omega arith in
        rw (q, s, e', f, rest) (chunk_next xs ys h)

    pub chunk_end : (ys : List ℕ) → length ys < 9 → through a p n (steps_left ys) ≡ p
    unfolding through steps_from
    chunk_end ys h = let e : length ys / 9 ≡ 0 = omega arith in ap (λ k. through a p n (steps_from k ys)) e

  -- one step more of a list of steps: the step at i is moment i + 1

  module _ (p : Progress) (i : ℕ) (ss : List Step) where
    pub taken_next : i < length ss → through a (advanced a p (i + 1) (get_or ss i no_step)) (i + 1 + 1) (drop (i + 1) ss) ≡ through a p (i + 1) (drop i ss)
    unfolding through
    taken_next l =
        ap (λ (k : ℕ). through a (advanced a p (i + 1) (get_or ss i no_step)) (i + 1 + 1) (drop k ss)) (add-one i) ∙ sym (ap (through a p (i + 1)) (drop-cons ss i no_step l))

    pub taken-all : length ss ≤ i → through a p (i + 1) (drop i ss) ≡ p
    unfolding through
    taken-all l = ap (through a p (i + 1)) (drop_of_length-le ss l)

-- The flat form: a list is judged good exactly if it is the flat form of a run (`judge-good`); so the flat form of every run is judged good (`run-good`).
-- Assumes nothing.
use Prim.Native.Nat.{ℕ, zero, suc, ◌+◌, ◌*◌, ◌-◌, ◌/◌}
use mathlib.Core.Bool.{◌&&◌}
use mathlib.Core.List.{List, [], ◌∷◌, ◌++◌, map, flat_map, append_assoc}
use mathlib.Core.Logic.{◌↔◌}
use mathlib.Core.Path.{◌≡◌, refl, sym, ap, ◌∙◌, subst}
use native.Mathlib.Omega.{arith}
use lib.Dec.{T, eqb, eqb→eq}
use lib.Ieee.Fits.{and_i, and_l, and_r}
use lib.ListN.{length, take, drop, length-append, length-drop, take-append-drop}
use lib.Seq.{length-take-le, take-add, take_at, drop_at}
use Rattle.graphs.specs.Lists.{all_of}
use Rattle.graphs.proofs.Lists.{and_elim}
use Rattle.automata.specs.Automaton.{Automaton, meets}
use Rattle.automata.specs.Runs.{State, Move, transition_of, is_step, after, permitted, initial, follows, is_run}
use Rattle.automata.specs.WellFormed.{limited}
use Rattle.lists.specs.Arrays.{padded}
use Rattle.lists.proofs.Arrays.{padded-length, padded-take}
use Rattle.forms.proofs.Forms.{Limits, limits}
use Rattle.replay.specs.declared.Step.{Step}
use Rattle.replay.specs.declared.Verdict.TheVariants.{Good}
use Rattle.replay.specs.Judge.{judge, judge_flat}
use Rattle.replay.specs.RunForm.{rest_zero, takes, contents_of, move_of, tidy, Whole, step_from, steps_from, start_in, steps_in, flat_move, flat_run, good_run}
use Rattle.replay.proofs.Verdicts.{judge-means}

-- Slots and padding

-- what is in use, padded, is the whole where the rest is 0
pad_back : (n r : ℕ) (xs : List ℕ) → length xs ≡ n → T (rest_zero r xs) → padded n (take r xs) ≡ xs
unfolding padded
pad_back zero zero [] l t = refl
pad_back zero (suc r) [] l t = refl
pad_back zero r (x ∷ xs) l t = absurd (omega arith)
pad_back (suc n) r [] l t = absurd (omega arith)
pad_back (suc n) zero (x ∷ xs) l t =
    let (z, u) = and_elim (eqb x 0) (all_of (λ y. eqb y 0) xs) t in
    let e : 0 ≡ x = sym (eqb→eq x 0 z) in
    let tail : padded n [] ≡ xs = pad_back n zero xs (omega arith) u in
    cc
pad_back (suc n) (suc r) (x ∷ xs) l t = ap (λ ys. x ∷ ys) (pad_back n r xs (omega arith) t)

rest-padded : (n : ℕ) (xs : List ℕ) → T (rest_zero (length xs) (padded n xs))
unfolding padded
rest-padded zero [] = tt
rest-padded zero (x ∷ xs) = tt
rest-padded (suc n) [] = rest-padded n []
rest-padded (suc n) (x ∷ xs) = rest-padded n xs

-- Steps and moves

-- a move as a step
pad_step : Move → Step
pad_step m = record { arc = m.transition; params = padded 3 m.parameters; next = padded 5 m.valuation }

pub flat_move-length : (m : Move) → length (flat_move m) ≡ 9
flat_move-length m = omega (arith, length-append (padded 3 m.parameters) (padded 5 m.valuation), padded-length 3 m.parameters, padded-length 5 m.valuation)

flat_length : (ms : List Move) → length (flat_map flat_move ms) ≡ 9 * length ms
unfolding flat_map
flat_length [] = refl
flat_length (m ∷ ms) = omega (arith, length-append (flat_move m) (flat_map flat_move ms), flat_move-length m, flat_length ms)

pub step-path : (s t : Step) → s.arc ≡ t.arc → s.params ≡ t.params → s.next ≡ t.next → s ≡ t
step-path s t e p n = λ i. record { arc = e i; params = p i; next = n i }

-- the first nine numbers are the first move, and then come the others
module _ (m : Move) (xs : List ℕ) where
  p : List ℕ
  p = padded 3 m.parameters

  w : List ℕ
  w = padded 5 m.valuation

  step-first : step_from (flat_move m ++ xs) ≡ pad_step m
  unfolding p w pad_step
  step-first =
      step-path (step_from (flat_move m ++ xs)) (pad_step m) refl
      (ap (take 3) (append_assoc p w xs) ∙ take_at p (w ++ xs) 3 (padded-length 3 m.parameters))
      (ap (λ l. take 5 (drop 3 l)) (append_assoc p w xs) ∙ ap (take 5) (drop_at p (w ++ xs) 3 (padded-length 3 m.parameters)) ∙ take_at w xs 5 (padded-length 5 m.valuation))

  step-others : drop 9 (flat_move m ++ xs) ≡ xs
  unfolding p w
  step-others = drop_at (p ++ w) xs 8 (omega (arith, length-append p w, padded-length 3 m.parameters, padded-length 5 m.valuation))

steps_back : (ms : List Move) → steps_from (length ms) (flat_map flat_move ms) ≡ map pad_step ms
unfolding steps_from flat_map
steps_back [] = refl
steps_back (m ∷ ms) =
    let xs : List ℕ = flat_map flat_move ms in
    let e : step_from (flat_move m ++ xs) ≡ pad_step m = step-first m xs in
    let f : steps_from (length ms) (drop 9 (flat_move m ++ xs)) ≡ map pad_step ms = ap (steps_from (length ms)) (step-others m xs) ∙ steps_back ms in
    cc

-- a run in the flat form has the replayer's length
pub run_length : (v : List ℕ) (ms : List Move) → length (flat_run v ms) ≡ 5 + 9 * length ms
run_length v ms = omega (arith, length-append (padded 5 v) (flat_map flat_move ms), padded-length 5 v, flat_length ms)

pub run-whole : (v : List ℕ) (ms : List Move) → Whole (flat_run v ms)
run-whole v ms = let l = run_length v ms in record { start = omega arith; steps = omega arith }

module _ (a : Automaton) (lim : T (limited a)) where
  few : Limits a
  few = limits a lim

  -- From numbers to moves

  flat_back : (k : ℕ) (xs : List ℕ) → length xs ≡ 9 * k → T (all_of (tidy a) (steps_from k xs)) → flat_map flat_move (map (move_of a) (steps_from k xs)) ≡ xs
  unfolding steps_from flat_map
  flat_back zero [] l t = refl
  flat_back zero (x ∷ xs) l t = absurd (omega arith)
  flat_back (suc k) [] l t = absurd (omega arith)
  flat_back (suc k) (x ∷ xs) l t =
      let (u, r) = and_elim (tidy a (step_from (x ∷ xs))) (all_of (tidy a) (steps_from k (drop 8 xs))) t in
      let (g, h) = and_elim (rest_zero (takes a x) (take 3 xs)) (rest_zero a.registers (take 5 (drop 3 xs))) u in
      let rest : flat_map flat_move (map (move_of a) (steps_from k (drop 8 xs))) ≡ drop 8 xs = flat_back k (drop 8 xs) (omega (arith, length-drop 8 xs)) r in
      let p : padded 3 (take (takes a x) (take 3 xs)) ≡ take 3 xs = pad_back 3 (takes a x) (take 3 xs) (length-take-le 3 xs (omega arith)) g in
      let w : padded 5 (take a.registers (take 5 (drop 3 xs))) ≡ take 5 (drop 3 xs) =
      pad_back 5 a.registers (take 5 (drop 3 xs)) (length-take-le 5 (drop 3 xs) (omega (arith, length-drop 3 xs))) h in
      let e : (take 3 xs ++ take 5 (drop 3 xs)) ++ drop 8 xs ≡ xs = ap (λ l. l ++ drop 8 xs) (sym (take-add 3 5 xs)) ∙ take-append-drop 8 xs in
      cc

  -- From moves to numbers

  move-path : (m n : Move) → m.transition ≡ n.transition → m.parameters ≡ n.parameters → m.valuation ≡ n.valuation → m ≡ n
  move-path m n e p w = λ i. record { transition = e i; parameters = p i; valuation = w i }

  module _ (m : Move) (hp : length m.parameters ≡ takes a m.transition) (hw : length m.valuation ≡ a.registers) where
    move-back : move_of a (pad_step m) ≡ m
    unfolding pad_step
    move-back =
        move-path (move_of a (pad_step m)) m refl
        (ap (λ n. take n (padded 3 m.parameters)) (sym hp) ∙ padded-take 3 m.parameters (omega (arith, few.parameters (transition_of a m.transition))))
        (ap (λ n. take n (padded 5 m.valuation)) (sym hw) ∙ padded-take 5 m.valuation (omega (arith, few.registers)))

    move-tidy : T (tidy a (pad_step m))
    unfolding pad_step
    move-tidy =
        and_i (rest_zero (takes a m.transition) (padded 3 m.parameters)) (rest_zero a.registers (padded 5 m.valuation))
        (subst (λ n. T (rest_zero n (padded 3 m.parameters))) hp (rest-padded 3 m.parameters))
        (subst (λ n. T (rest_zero n (padded 5 m.valuation))) hw (rest-padded 5 m.valuation))

  -- the lengths of a move's lists
  sizes : (st : State) (m : Move) → T (is_step a st m) → (length m.parameters ≡ takes a m.transition) × (length m.valuation ≡ a.registers)
  sizes st m t = (eqb→eq (length m.parameters) (takes a m.transition) (search (and_l, and_r) depth 9), eqb→eq (length m.valuation) a.registers (search (and_l, and_r) depth 9))

  moves-back : (st : State) (ms : List Move) → T (follows a st ms) → (map (move_of a) (map pad_step ms) ≡ ms) × T (all_of (tidy a) (map pad_step ms))
  moves-back st [] t = (refl, tt)
  moves-back st (m ∷ ms) t =
      let (u, r) = and_elim (is_step a st m) (follows a (after a m) ms) t in
      let (hp, hw) = sizes st m u in
      let (e, f) = moves-back (after a m) ms r in
      let b : move_of a (pad_step m) ≡ m = move-back m hp hw in
      (cc, and_i (tidy a (pad_step m)) (all_of (tidy a) (map pad_step ms)) (move-tidy m hp hw) f)

  -- The theorems

  start_back : (v : List ℕ) → T (permitted a v) → (contents_of a (padded 5 v) ≡ v) × T (rest_zero a.registers (padded 5 v))
  start_back v t =
      let e : length v ≡ a.registers = eqb→eq (length v) a.registers (and_l (eqb (length v) a.registers) (all_of (meets a.constants v []) a.starting) t) in
      (ap (λ n. take n (padded 5 v)) (sym e) ∙ padded-take 5 v (omega (arith, few.registers)), subst (λ n. T (rest_zero n (padded 5 v))) e (rest-padded 5 v))

  -- the padded start and steps of a run are good
  pad_good : (v : List ℕ) (ms : List Move) → T (is_run a v ms) → T (good_run a (padded 5 v) (map pad_step ms))
  pad_good v ms t =
      let (p, f) = and_elim (permitted a v) (follows a (initial a v) ms) t in
      let (e, z) = start_back v p in
      let (d, u) = moves-back (initial a v) ms f in
      let run : is_run a (contents_of a (padded 5 v)) (map (move_of a) (map pad_step ms)) ≡ is_run a v ms = ap (λ w. is_run a w (map (move_of a) (map pad_step ms))) e ∙ ap (is_run a v) d in
      and_i (is_run a (contents_of a (padded 5 v)) (map (move_of a) (map pad_step ms))) (rest_zero a.registers (padded 5 v) && all_of (tidy a) (map pad_step ms))
      (subst T (sym run) t) (and_i (rest_zero a.registers (padded 5 v)) (all_of (tidy a) (map pad_step ms)) z u)

  -- the flat form of a run is judged good
  pub run-good : (v : List ℕ) (ms : List Move) → T (is_run a v ms) → judge_flat a (flat_run v ms) ≡ Good
  run-good v ms t =
      let xs : List ℕ = flat_map flat_move ms in
      let l : length (padded 5 v) ≡ 5 = padded-length 5 v in
      let n : (length (flat_run v ms) - 5) / 9 ≡ length ms = omega (arith, run_length v ms) in
      let ss : steps_in (flat_run v ms) ≡ map pad_step ms = ap (λ k. steps_from k (drop 5 (flat_run v ms))) n ∙ ap (steps_from (length ms)) (drop_at (padded 5 v) xs 5 l) ∙ steps_back ms in
      let st : start_in (flat_run v ms) ≡ padded 5 v = take_at (padded 5 v) xs 5 l in
      let same : judge_flat a (flat_run v ms) ≡ judge a (padded 5 v) (map pad_step ms) = ap (λ w. judge a w (steps_in (flat_run v ms))) st ∙ ap (judge a (padded 5 v)) ss in
      same ∙ (judge-means a (padded 5 v) (map pad_step ms) Good).1 (pad_good v ms t)

  -- a list of the replayer's length is judged good exactly if it is the flat form of a run from a permitted start
  pub judge-good : (ns : List ℕ) → Whole ns → judge_flat a ns ≡ Good ↔ ((v : List ℕ) × (ms : List Move) × T (is_run a v ms) × (ns ≡ flat_run v ms))
  judge-good ns whole = (there, λ (v, ms, t, e). ap (judge_flat a) e ∙ run-good v ms t)
    where
      there : judge_flat a ns ≡ Good → (v : List ℕ) × (ms : List Move) × T (is_run a v ms) × (ns ≡ flat_run v ms)
      there g =
          let ss : List Step = steps_in ns in
          let w : List ℕ = contents_of a (start_in ns) in
          let l : length ns ≡ 5 + 9 * ((length ns - 5) / 9) = omega (arith, whole) in
          let (t, u) = and_elim (is_run a w (map (move_of a) ss)) (rest_zero a.registers (start_in ns) && all_of (tidy a) ss) ((judge-means a (start_in ns) ss Good).0 g) in
          let (z, f) = and_elim (rest_zero a.registers (start_in ns)) (all_of (tidy a) ss) u in
          let start : padded 5 w ≡ take 5 ns = pad_back 5 a.registers (take 5 ns) (length-take-le 5 ns (omega arith)) z in
          let rest : flat_map flat_move (map (move_of a) ss) ≡ drop 5 ns = flat_back ((length ns - 5) / 9) (drop 5 ns) (omega (arith, length-drop 5 ns)) f in
          (w, map (move_of a) ss, t, sym (take-append-drop 5 ns) ∙ ap (λ l. l ++ drop 5 ns) (sym start) ∙ ap (λ l. padded 5 w ++ l) (sym rest))

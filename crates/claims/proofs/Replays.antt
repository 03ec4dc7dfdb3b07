-- What the replayer's replies mean: good exactly if the numbers are the flat form of a run from a permitted start (`replay_good`), and a
-- moment exactly if it is the first bad one (`replay_bad`); the same of steps (`steps-good`, `steps_bad`).
-- Assumes nothing.
use Prim.Native.Nat.{ℕ, ◌-◌, ◌%◌, ◌≤◌, ◌<◌}
use mathlib.Core.Bool.{Bool, true, false, ◌&&◌}
use mathlib.Core.List.{List}
use mathlib.Core.Logic.{◌↔◌}
use mathlib.Core.Path.{◌≡◌, refl, sym, ap, ◌∙◌, subst}
use native.Mathlib.Omega.{arith}
use borrow.Author.Tests.{leb-true, le-leb, lt-leb, eqb-true, eq-eqb}
use lib.Dec.{T, eqb, leb}
use lib.ListN.{length}
use Rattle.automata.specs.Runs.{Move, is_run}
use Rattle.forms.specs.FormAutomaton.{automaton_of}
use Rattle.refusals.specs.declared.Refusal.{Refusal}
use Rattle.refusals.specs.Judged.{Judged, refusal, ◌then◌, require}
use Rattle.refusals.specs.Judged.Judged.{accepted, refused}
use Rattle.refusals.proofs.Composed.{then-accepted, required, passes, fails}
use Rattle.replay.specs.declared.Step.{Step}
use Rattle.replay.specs.declared.Verdict.{Verdict}
use Rattle.replay.specs.declared.Verdict.TheVariants.{Bad, Good}
use Rattle.std.proofs.Common.{Ok, Err}
use Rattle.replay.specs.Judge.{judge, judge_flat}
use Rattle.replay.specs.RunForm.{Whole, start_in, steps_in, flat_run, good_run, FirstBad}
use Rattle.replay.proofs.Verdicts.{judge-means}
use Rattle.replay.proofs.Flat.{judge-good, run-whole}
use Rattle.opening.specs.Opening.{open_table}
use Rattle.opening.proofs.Opened.{opened_readable}
use Rattle.claims.specs.Replaying.{whole_length, replayed, replay_reply, replay_steps_reply}

-- The length

pub whole-short : (n : ℕ) → n < 5 → false ≡ whole_length n
whole-short n h = rw (lt-leb 5 n h)

pub whole_long : (n : ℕ) → 5 ≤ n → eqb ((n - 5) % 9) 0 ≡ whole_length n
whole_long n h = rw (le-leb 5 n h)

pub whole_is : (ns : List ℕ) → whole_length (length ns) ≡ true → Whole ns
whole_is ns e = go (leb 5 (length ns)) refl e
  where
    go : (b : Bool) → leb 5 (length ns) ≡ b → (b && eqb ((length ns - 5) % 9) 0) ≡ true → Whole ns
    go true h k = record { start = leb-true 5 (length ns) h; steps = eqb-true ((length ns - 5) % 9) 0 k }
    go false h k = let z : ◌≡◌ {A = ℕ} 0 1 = cc in absurd (omega arith)

pub whole_test : (ns : List ℕ) → Whole ns → whole_length (length ns) ≡ true
whole_test ns w = rw (le-leb 5 (length ns) w.start, eq-eqb ((length ns - 5) % 9) 0 w.steps)

-- The replies

module _ (s run : List ℕ) where
  abbrev judging : List ℕ → Judged Verdict
  judging t = accepted (judge_flat (automaton_of t) run)

  pub short-refused : whole_length (length run) ≡ false → Err (refusal 9 0 0) ≡ replay_reply s run
  short-refused e = sym (ap replayed (fails (refusal 9 0 0) (λ ok. open_table s then judging) (whole_length (length run)) e))

  whole_reply : whole_length (length run) ≡ true → replay_reply s run ≡ replayed (open_table s then judging)
  whole_reply e = ap replayed (passes (refusal 9 0 0) (λ ok. open_table s then judging) (whole_length (length run)) e)

  pub table-refused : (r : Refusal) → whole_length (length run) ≡ true → open_table s ≡ refused r → Err r ≡ replay_reply s run
  table-refused r e o = sym (whole_reply e ∙ ap (λ x. replayed (x then judging)) o)

  pub run-judged : (t : List ℕ) (v : Verdict) → whole_length (length run) ≡ true → open_table s ≡ accepted t
      → v ≡ judge_flat (automaton_of t) run → Ok v ≡ replay_reply s run
  run-judged t v e o j = ap Ok j ∙ sym (whole_reply e ∙ ap (λ x. replayed (x then judging)) o)

-- the table of these bytes
abbrev Table : List ℕ → List ℕ → Type 0
Table s t = open_table s ≡ accepted t

-- a reply good, or bad at a moment, is a verdict
verdict_told : (o : Judged Verdict) (v : Verdict) → replayed o ≡ Ok v → o ≡ accepted v
verdict_told (accepted w) v e = let p : w ≡ v = cc in ap accepted p
verdict_told (refused r) v e = absurd cc

-- of a table that was opened
of_table : (s : List ℕ) (verdict : List ℕ → Verdict) (v : Verdict) → (open_table s then (λ t. accepted (verdict t))) ≡ accepted v → (t : List ℕ) × Table s t × (verdict t ≡ v)
of_table s verdict v e =
    let (t, o, d) = then-accepted (open_table s) (λ t. accepted (verdict t)) v e in
    let z : verdict t ≡ v = cc in
    (t, o, z)

-- What the replies mean

module _ (s : List ℕ) where
  module _ (run : List ℕ) where
    -- a verdict on a run of the right length
    judged : (v : Verdict) → replay_reply s run ≡ Ok v → (whole_length (length run) ≡ true) × ((t : List ℕ) × Table s t × (judge_flat (automaton_of t) run ≡ v))
    judged v e =
        let (w, d) = required (refusal 9 0 0) (λ ok. open_table s then judging s run) (whole_length (length run)) v (verdict_told (require (whole_length (length run)) (refusal 9 0 0) then (λ ok. open_table s then judging s run)) v e) in
        (w, of_table s (λ t. judge_flat (automaton_of t) run) v d)

    -- good exactly if the numbers are the flat form of a run from a permitted start of the table
    pub replay_good : replay_reply s run ≡ Ok Good ↔ ((t : List ℕ) × Table s t × ((v : List ℕ) × (ms : List Move) × T (is_run (automaton_of t) v ms) × (run ≡ flat_run v ms)))
    replay_good = (there, back)
      where
        there : replay_reply s run ≡ Ok Good → (t : List ℕ) × Table s t × ((v : List ℕ) × (ms : List Move) × T (is_run (automaton_of t) v ms) × (run ≡ flat_run v ms))
        there e =
            let (w, (t, o, j)) = judged Good e in
            (t, o, (judge-good (automaton_of t) (opened_readable s t o).0.small run (whole_is run w)).0 j)

        back : ((t : List ℕ) × Table s t × ((v : List ℕ) × (ms : List Move) × T (is_run (automaton_of t) v ms) × (run ≡ flat_run v ms))) → replay_reply s run ≡ Ok Good
        back (t, o, (v, ms, r, e)) =
            let whole : Whole run = subst Whole (sym e) (run-whole v ms) in
            let j : judge_flat (automaton_of t) run ≡ Good = (judge-good (automaton_of t) (opened_readable s t o).0.small run whole).1 (v, ms, r, e) in
            sym (run-judged s run t Good (whole_test run whole) o (sym j))

    -- bad at m exactly if the length is right, the table is opened, and m is the first bad moment
    pub replay_bad : (m : ℕ) → replay_reply s run ≡ Ok (Bad m) ↔ (Whole run × ((t : List ℕ) × Table s t × FirstBad (automaton_of t) (start_in run) (steps_in run) m))
    replay_bad m = (there, back)
      where
        there : replay_reply s run ≡ Ok (Bad m) → Whole run × ((t : List ℕ) × Table s t × FirstBad (automaton_of t) (start_in run) (steps_in run) m)
        there e =
            let (w, (t, o, j)) = judged (Bad m) e in
            (whole_is run w, (t, o, (judge-means (automaton_of t) (start_in run) (steps_in run) (Bad m)).0 j))

        back : Whole run × ((t : List ℕ) × Table s t × FirstBad (automaton_of t) (start_in run) (steps_in run) m) → replay_reply s run ≡ Ok (Bad m)
        back (whole, (t, o, f)) =
            let j : judge_flat (automaton_of t) run ≡ Bad m = (judge-means (automaton_of t) (start_in run) (steps_in run) (Bad m)).1 f in
            sym (run-judged s run t (Bad m) (whole_test run whole) o (sym j))

  -- the same of a start and steps, each with its unused slots 0
  module _ (start : List ℕ) (steps : List Step) where
    abbrev verdict : List ℕ → Verdict
    verdict t = judge (automaton_of t) start steps

    steps-judged : (v : Verdict) → replay_steps_reply s start steps ≡ Ok v → (t : List ℕ) × Table s t × (verdict t ≡ v)
    steps-judged v e = of_table s verdict v (verdict_told (open_table s then (λ t. accepted (verdict t))) v e)

    steps-told : (t : List ℕ) (v : Verdict) → Table s t → verdict t ≡ v → replay_steps_reply s start steps ≡ Ok v
    steps-told t v o e = ap (λ x. replayed (x then (λ u. accepted (verdict u)))) o ∙ ap Ok e

    pub steps-good : replay_steps_reply s start steps ≡ Ok Good ↔ ((t : List ℕ) × Table s t × T (good_run (automaton_of t) start steps))
    steps-good = (
      (λ e. let (t, o, j) = steps-judged Good e in (t, o, (judge-means (automaton_of t) start steps Good).0 j)),
      (λ (t, o, g). steps-told t Good o ((judge-means (automaton_of t) start steps Good).1 g)),
    )

    pub steps_bad : (m : ℕ) → replay_steps_reply s start steps ≡ Ok (Bad m) ↔ ((t : List ℕ) × Table s t × FirstBad (automaton_of t) start steps m)
    steps_bad m = (
      (λ e. let (t, o, j) = steps-judged (Bad m) e in (t, o, (judge-means (automaton_of t) start steps (Bad m)).0 j)),
      (λ (t, o, f). steps-told t (Bad m) o ((judge-means (automaton_of t) start steps (Bad m)).1 f)),
    )

pub steps_reply : (s start : List ℕ) (steps : List Step) (t : List ℕ) (v : Verdict) → open_table s ≡ accepted t → v ≡ judge (automaton_of t) start steps
    → Ok v ≡ replay_steps_reply s start steps
steps_reply s start steps t v o e = ap Ok e ∙ sym (ap (λ x. replayed (x then (λ u. accepted (judge (automaton_of u) start steps)))) o)

pub steps-refused : (s start : List ℕ) (steps : List Step) (r : Refusal) → open_table s ≡ refused r → Err r ≡ replay_steps_reply s start steps
steps-refused s start steps r o = sym (ap (λ x. replayed (x then (λ u. accepted (judge (automaton_of u) start steps)))) o)

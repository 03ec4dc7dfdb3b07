-- Every line that is printed is read back as its numbers: its identifiers are at most the largest, and all other numbers have six digits.
-- Assumes nothing.
use Prim.Native.Nat.{ℕ, zero, suc, pred, ◌+◌, ◌^◌, ◌≤◌, ◌<◌}
use mathlib.Core.Bool.{Bool, true, false}
use mathlib.Core.List.Memᴰ
use mathlib.Core.List.{List, [], ◌∷◌, ◌++◌, Memᴰ}
use mathlib.Core.Logic.{⊎_elim, by_cases}
use mathlib.Core.Option.{Option, none, some}
use mathlib.Core.Path.{◌≡◌, subst⁻¹}
use borrow.Author.Tests.{le-leb}
use native.Mathlib.Decide.{dec_lt}
use native.Mathlib.Omega.{arith}
use lib.Dec.{T, leb, leb→le}
use lib.Ieee.Fits.{and_l, and_r}
use lib.ListN.{length, get_or, get_or-eq_default}
use Rattle.refusals.specs.declared.Refusal.{Refusal}
use Rattle.refusals.specs.Judged.{refusal_numbers}
use Rattle.refusals.specs.Judged.Judged.{refused}
use Rattle.columns.specs.declared.Sheet.{Sheet}
use Rattle.columns.specs.declared.Sheet.TheVariants.{Run, Answer, Plain}
use Rattle.columns.specs.Widths.{width, largest}
use Rattle.columns.specs.Columns.{line_columns}
use Rattle.columns.proofs.Columns.{InColumns, six_digits}
use Rattle.fields.specs.Format.{fields}
use Rattle.sets.specs.Members.{one, population}
use Rattle.graphs.specs.Search.{Walk, steps, seen}
use Rattle.graphs.specs.Formulas.{Formula}
use Rattle.graphs.proofs.Lists.{all_of-mem, get_or-mem, Least, least-is}
use Rattle.classes.proofs.Catalogue.{lists-mem, few-lists}
use Rattle.classes.proofs.Identifiers.{identifiers_every}
use Rattle.automata.specs.Automaton.{Automaton}
use Rattle.automata.specs.Runs.{State, Move, Target, nowhere, transition_of, is_step, after, initial}
use Rattle.automata.specs.Questions.{Atom}
use Rattle.automata.specs.WellFormed.{well_formed, limited, constant_count, inside, fits_transition, fits_target}
use Rattle.automata.specs.Configurations.{classes}
use Rattle.automata.specs.Answers.{nearest_to, fails_at, failing}
use Rattle.automata.proofs.ClassBisimulation.{wf_constants, wf_start, wf_transition}
use Rattle.moves.specs.Taken.{Pooled}
use Rattle.moves.specs.PathMoves.{walk_contents, walk_moves}
use Rattle.moves.specs.Taken.{AllSmallest}
use Rattle.moves.proofs.Limits.{limited-roomy}
use Rattle.moves.proofs.Taken.{taken}
use Rattle.forms.proofs.Forms.{Limits, limits}
use Rattle.reach.specs.Reaching.{found}
use Rattle.concretization.specs.RunLines.{moment_numbers}
use Rattle.witness.specs.Printed.{reached_count}
use Rattle.witness.proofs.RunJudged.{printed-right}
use Rattle.writing.specs.Lines.{issued}
use Rattle.writing.proofs.FileBytes.{fields-columns}
use Rattle.claims.specs.declared.Notation.{Notation}
use Rattle.claims.specs.Files.{target_files, question_files}
use Rattle.claims.specs.ReachReply.{found_numbers}
use Rattle.claims.specs.AskReply.{asked_numbers}
use Rattle.checker.proofs.RefusalNumbers.{target_files-low, question_files-low}
use Rattle.printout.specs.Document.{moment_lines, ReadBack, ReachReadBack}
use Rattle.printout.specs.PrintedLines.{walk_lines}
use Rattle.printout.proofs.Refusals.{target-placed, asked_placed}

-- what holds of each entry
abbrev Each : {A : Type 0} → (A → Type 0) → List A → Type 0
Each {A = A} P xs = (x : A) → Memᴰ x xs → P x

each_none : {A : Type 0} (P : A → Type 0) → Each P []
each_none P x m = elim m [ ]

each_more : {A : Type 0} (P : A → Type 0) (y : A) (ys : List A) → P y → Each P ys → Each P (y ∷ ys)
each_more P y ys h rest x m = ⊎_elim (λ e. subst⁻¹ P e h) (rest x) (Memᴰ.cases_cons m)

-- at each place
each_at : (P : ℕ → Type 0) (vs : List ℕ) → P 0 → Each P vs → (i : ℕ) → P (get_or vs i 0)
each_at P vs z h i = by_cases (dec_lt i (length vs)) (λ l. h (get_or vs i 0) (get_or-mem vs i 0 l)) (λ l. subst⁻¹ P (get_or-eq_default vs 0 (omega arith)) z)

-- Lines

-- numbers of six digits
abbrev Low : List ℕ → Type 0
Low vs = Each (λ v. v < 1000000) vs

-- identifiers
abbrev Issued : List ℕ → Type 0
Issued vs = Each (λ v. v ≤ largest) vs

low_more : (v : ℕ) (vs : List ℕ) → v < 1000000 → Low vs → Low (v ∷ vs)
low_more v vs h l = each_more (λ v. v < 1000000) v vs h l

low-one : (x : ℕ) → x < 1000000 → Low (x ∷ [])
low-one x h = low_more x [] h (each_none (λ v. v < 1000000))

low_three : (x y z : ℕ) → x < 1000000 → y < 1000000 → z < 1000000 → Low (x ∷ y ∷ z ∷ [])
low_three x y z h k l = low_more x (y ∷ z ∷ []) h (low_more y (z ∷ []) k (low-one z l))

low_fits : (s : Sheet) (vs : List ℕ) → Low vs → InColumns s vs
low_fits s vs l = six_digits s vs (each_at (λ v. v < 1000000) vs (omega arith) l)

-- identifiers have room in theirs
issued-at : (vs : List ℕ) → Issued vs → (i : ℕ) → get_or vs i 0 < 10 ^ 12
issued-at vs u i = let h : get_or vs i 0 < 1000000000000 = omega (arith, each_at (λ v. v ≤ largest) vs (omega arith) u i) in h

-- a moment of a run
run_fits : (x y z : ℕ) (vs : List ℕ) → x < 1000000 → y < 1000000 → z < 1000000 → Issued vs → InColumns Run (x ∷ y ∷ z ∷ vs)
unfolding width
run_fits x y z vs h k l u zero = h
run_fits x y z vs h k l u (suc zero) = k
run_fits x y z vs h k l u (suc (suc zero)) = l
run_fits x y z vs h k l u (suc (suc (suc i))) = rw (le-leb 3 (suc (suc (suc i))) (omega arith)) (issued-at vs u i)

-- a no
no-fits : (k : ℕ) (vs : List ℕ) → k < 1000000 → Issued vs → InColumns Answer (0 ∷ k ∷ vs)
unfolding width
no-fits k vs h u zero = omega arith
no-fits k vs h u (suc zero) = h
no-fits k vs h u (suc (suc i)) = rw (le-leb 2 (suc (suc i)) (omega arith)) (issued-at vs u i)

-- a line that fits is read back
abbrev Back : Sheet → List ℕ → Type 0
Back s vs = fields s (length vs) (line_columns s vs) ≡ some vs

back : (s : Sheet) (vs : List ℕ) → InColumns s vs → Back s vs
back s vs h = fields-columns s (length vs) vs (omega arith) h

none-back : (s : Sheet) → ReadBack s []
none-back s = each_none (Back s)

more_back : (s : Sheet) (vs : List ℕ) (ls : List (List ℕ)) → InColumns s vs → ReadBack s ls → ReadBack s (vs ∷ ls)
more_back s vs ls h rest = each_more (Back s) vs ls (back s vs h) rest

pub one-back : (s : Sheet) (vs : List ℕ) → InColumns s vs → ReadBack s (vs ∷ [])
one-back s vs h = more_back s vs [] h (none-back s)

-- Runs

few-counted : (p : ℕ → Bool) (n : ℕ) → population p n ≤ n
unfolding population
few-counted p zero = omega arith
few-counted p (suc n) = by (p n) (few-counted p n)
  where
    by : (b : Bool) → population p n ≤ n → population p n + one b ≤ suc n
    by true h = omega arith
    by false h = omega arith

-- of a table
module _ (a : Automaton) (wf : T (well_formed a)) (lim : T (limited a)) (ids : T (issued a)) where
  m : Limits a
  m = limits a lim

  constants-issued : Issued a.constants
  constants-issued x o = leb→le x largest (all_of-mem (λ v. leb v largest) a.constants ids o)

  pooled-issued : (vs : List ℕ) → Pooled 15 a.constants vs → Issued vs
  pooled-issued vs p x o = ⊎_elim (constants-issued x) (λ h. omega arith) (p x o)

  inside-low : (l : ℕ) → T (inside a.locations l) → l < 1000000
  inside-low l t = omega (arith, m.locations, leb→le l a.locations (and_r (leb 1 l) (leb l a.locations) t))

  -- a moment
  moment_fits : (st : State) (x : Move) (k : ℕ) → k < 1000000 → T (is_step a st x) → Pooled 15 a.constants x.valuation → Pooled 15 a.constants x.parameters → InColumns Run (moment_numbers a k x)
  moment_fits st x k h t v p =
      let i : ℕ = x.transition in
      let l : 1 ≤ i = leb→le 1 i (search (and_l, and_r) depth 9) in
      let u : i ≤ length a.transitions = leb→le i (length a.transitions) (search (and_l, and_r) depth 9) in
      let there : T (fits_transition a (transition_of a i)) = wf_transition a wf (get_or-mem a.transitions (pred i) nowhere (omega arith)) in
      run_fits k i (transition_of a i).to (x.valuation ++ x.parameters) h (omega (arith, m.transitions)) (inside-low (transition_of a i).to (search (and_l, and_r) depth 9))
      (λ y o. ⊎_elim (pooled-issued x.valuation v y) (pooled-issued x.parameters p y) (Memᴰ.append_cases x.valuation o))

  moments-back : (st : State) (xs : List Move) (k : ℕ) → k + length xs < 1000000 → AllSmallest 15 a st xs → ReadBack Run (moment_lines a k xs)
  moments-back st [] k h s = none-back Run
  moments-back st (x ∷ xs) k h (s, rest) =
      more_back Run (moment_numbers a k x) (moment_lines a (suc k) xs) (moment_fits st x k (omega arith) s.leads.step s.valuation s.parameters) (moments-back (after a x) xs (suc k) (omega arith) rest)

  -- the answer's line
  found-fits : (x n : ℕ) → x < 1000000 → n < 1000000 → InColumns Plain (x ∷ n ∷ reached_count a ∷ [])
  found-fits x n h k = low_fits Plain _ (low_three x n (reached_count a) h k (omega (arith, few-counted (seen (found a)) 10784)))

  pub found_back : (g : Target) → T (fits_target a g) → (o : Option Walk) → nearest_to a g ≡ o → ReachReadBack (found_numbers a o ∷ walk_lines a o)
  found_back g fits none e = (one-back Plain _ (found-fits 0 0 (omega arith) (omega arith)), none-back _)
  found_back g fits (some w) e =
      let p = printed-right a wf lim g fits w e in
      let r = taken a wf 15 (limited-roomy a wf lim) g fits w e in
      let v : List ℕ = walk_contents a w in (
        one-back Plain _ (found-fits 1 (steps w) (omega arith) (omega (arith, p.few))),
        more_back _ _ _ (run_fits 0 0 a.start v (omega arith) (omega arith) (inside-low a.start (wf_start a wf)) (pooled-issued v r.small))
            (moments-back (initial a v) (walk_moves 15 a w) 1 (omega (arith, p.few, p.count)) r.moves),
      )

  -- Questions

  pub asked_fits : (f : Formula Atom) → InColumns Answer (asked_numbers a (failing a f))
  asked_fits f = go (failing a f) (least-is (fails_at a f) 0 (length (classes a)))
    where
      go : (o : Option ℕ) → Least (fails_at a f) 0 (length (classes a)) o → InColumns Answer (asked_numbers a o)
      go none h = low_fits Answer (1 ∷ []) (low-one 1 (omega arith))
      go (some k) h =
          let below : k < length (classes a) = omega (arith, h.1) in
          let few : length (classes a) ≤ 674 = few-lists a.registers (constant_count a) m.registers m.constants in
          let (legal, wide) = lists-mem a.registers (constant_count a) (get_or (classes a) k []) (get_or-mem (classes a) k [] below) in
          no-fits k _ (omega arith)
          (identifiers_every (λ x. x ≤ largest) a.constants (get_or (classes a) k []) constants-issued (λ y h. omega (arith, m.registers, m.constants)) (wf_constants a wf) legal)

-- Refusals

refusal-fits : (s : Sheet) (r : Refusal) → r.number ≤ 12 → (r.file ≤ 2) × (r.line ≤ 40001) → InColumns s (2 ∷ refusal_numbers r)
refusal-fits s r h (k, l) = low_fits s _ (low_more 2 _ (omega arith) (low_three r.number r.file r.line (omega arith) (omega arith) (omega arith)))

pub target-refused-back : (s g : List ℕ) (r : Refusal) → target_files s g ≡ refused r → ReachReadBack ((2 ∷ refusal_numbers r) ∷ [])
target-refused-back s g r e = (one-back Plain _ (refusal-fits Plain r (target_files-low s g r e) (target-placed s g r e)), none-back _)

pub question-refused-back : (w : Notation) (s q : List ℕ) (r : Refusal) → question_files w s q ≡ refused r → ReadBack Answer ((2 ∷ refusal_numbers r) ∷ [])
question-refused-back w s q r e = one-back Answer _ (refusal-fits Answer r (question_files-low w s q r e) (asked_placed w s q r e))

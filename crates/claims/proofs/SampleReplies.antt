-- The sample's replies are as document 01 has them.
-- Assumes nothing.
use Prim.Native.Nat.{ℕ}
use mathlib.Core.List.Memᴰ
use mathlib.Core.List.{List, [], ◌∷◌, flat_map, zip_with, Memᴰ}
use mathlib.Core.Logic.{⊎_elim}
use mathlib.Core.Option.{none, some}
use mathlib.Core.Path.{◌≡◌, refl, ap, ◌∙◌, subst, subst⁻¹}
use native.Mathlib.Omega.{arith}
use lib.Dec.{T}
use lib.ListN.{length}
use Rattle.graphs.specs.Search.{Walk}
use Rattle.graphs.specs.Search.Walk.{start, ◌▸◌}
use Rattle.graphs.proofs.Search.{queue_invariant}
use Rattle.automata.specs.Automaton.{Automaton}
use Rattle.automata.specs.Runs.{Move, Target}
use Rattle.automata.specs.Questions.{question}
use Rattle.automata.specs.ConfigurationGraph.{rows, starts}
use Rattle.automata.specs.WellFormed.{limited}
use Rattle.automata.specs.Answers.{nearest_to, failing}
use Rattle.automata.specs.Examples.{sample, loose, stopped, delivered, delivered_by_one}
use Rattle.automata.specs.Questions.Atom.{at, equal}
use Rattle.grammar.specs.Grammar.{Question, TextFile, formula_of, rows_from, digits}
use Rattle.grammar.specs.Grammar.Temporal.{G}
use Rattle.grammar.specs.Grammar.Join.{conjunction}
use Rattle.grammar.specs.Grammar.Question.{basic, negated, A, joined}
use Rattle.moves.specs.PathMoves.{walk_contents, walk_moves}
use Rattle.moves.proofs.Limits.{limited-roomy}
use Rattle.moves.specs.Taken.{Taken}
use Rattle.moves.proofs.Taken.{taken}
use Rattle.moves.proofs.SampleMoves.{walk, sample-walk, loose_walk, loose-walk}
use Rattle.reach.specs.Reaching.{found}
use Rattle.reach.proofs.Queue.{counted}
use Rattle.reach.proofs.StepGraph.{graph_fits}
use Rattle.witness.specs.Printed.{reached_count}
use Rattle.witness.proofs.SampleRun.{sample-count}
use Rattle.writing.specs.Said.{TableFile, TargetFile}
use Rattle.writing.proofs.Sample.{sample_says, loose_says, delivered_says, delivered_by_one_says, loose_by_one_says, stopped_says, always_says, inevitable_says, stopped_inevitable_says, always_rows, waiting_rows, inevitable_rows, largest_sample, largest_says, largest-delivered_says, largest-waiting_says}
use Rattle.claims.specs.Files.{target_files}
use Rattle.claims.specs.ReachReply.{found_reply, reach_reply}
use Rattle.claims.specs.AskReply.{asked_reply}
use Rattle.claims.specs.declared.Notation.TheVariants.{Rows as in_rows, Text as in_text}
use Rattle.witness.specs.declared.Answer.TheVariants.{Never, Reached}
use Rattle.std.proofs.Common.{Ok}
use Rattle.claims.specs.SampleReplies.{Sample, Shows, never_by_one_text, samples}
use Rattle.claims.proofs.Meaning.{reach_reply_lem, ask_reply_lem}

-- as many configurations are reached as walks are found
found-count : (a : Automaton) → T (limited a) → (q : List Walk) → found a ≡ q → reached_count a ≡ length q
unfolding found
found-count a lim q e = counted (rows a) (starts a) (queue_invariant (rows a) (starts a) (length (rows a))) 10784 (graph_fits a lim) ∙ ap length e

loose-found : found loose ≡ start 0 ∷ start 0 ▸ 7 ∷ start 0 ▸ 7 ▸ 11 ∷ loose_walk ∷ start 0 ▸ 7 ▸ 14 ∷ []
unfolding found flat_map
loose-found = refl

unreached : nearest_to sample delivered_by_one ≡ none
unfolding flat_map
unreached = refl

always-holds : failing sample (question always_rows) ≡ none
unfolding flat_map zip_with
always-holds = refl

inevitable_holds : failing sample (question inevitable_rows) ≡ none
unfolding flat_map zip_with
inevitable_holds = refl

-- a segment that is stuck at place 2 never comes to place 3
stopped-fails : failing stopped (question inevitable_rows) ≡ some 0
unfolding flat_map zip_with
stopped-fails = refl

-- with the two largest identifiers
abbrev largest_walk : Walk
largest_walk = start 1 ▸ 13 ▸ 25

largest-walk : nearest_to largest_sample delivered ≡ some largest_walk
unfolding flat_map
largest-walk = refl

largest-found : found largest_sample ≡ start 1 ∷ start 1 ▸ 13 ∷ start 1 ▸ 16 ∷ largest_walk ∷ start 1 ▸ 16 ▸ 27 ∷ start 1 ▸ 16 ▸ 29 ∷ []
unfolding found flat_map
largest-found = refl

largest-fails : failing largest_sample (question waiting_rows) ≡ some 1
unfolding flat_map zip_with
largest-fails = refl

-- the question of the text
never_by_one : Question
never_by_one = A G (negated (joined conjunction (basic (at 3)) (basic (equal 1 2))))

never_by_one_says : TextFile sample never_by_one_text never_by_one
unfolding digits never_by_one
never_by_one_says = record { written = (tt, refl); short = omega arith; fits = tt }

never_by_one_holds : failing sample (formula_of never_by_one) ≡ none
unfolding flat_map zip_with never_by_one
never_by_one_holds = refl

-- the run along the walk that is found
shown : (s g : List ℕ) (a : Automaton) (x : Target) (w : Walk) (n count : ℕ) (v : List ℕ) (ms : List Move) → TableFile s a → TargetFile a g x → nearest_to a x ≡ some w
    → found_reply a (some w) ≡ Ok (Reached n count) → walk_contents a w ≡ v → walk_moves 15 a w ≡ ms
    → (reach_reply (target_files s g) ≡ Ok (Reached n count)) × ((a : Automaton) × (x : Target) × TableFile s a × TargetFile a g x × Taken 15 a x v ms)
shown s g a x w n count v ms file target e r c m = (
  reach_reply_lem s g a x file target ∙ ap (found_reply a) e ∙ r,
  (a, x, file, target, subst (Taken 15 a x v) m (subst (λ u. Taken 15 a x u (walk_moves 15 a w)) c (taken a file.fits 15 (limited-roomy a file.fits file.small) x target.fits w e))),
)

pub samples_hold : (c : Sample) → Memᴰ c samples → Shows c
unfolding flat_map
samples_hold c m =
    ⊎_elim (λ e. subst⁻¹ Shows e (shown _ _ sample delivered walk 2 3 _ _ sample_says delivered_says sample-walk (ap (λ c. Ok (Reached 2 c)) sample-count) refl refl))
    (λ m. ⊎_elim (λ e. subst⁻¹ Shows e (reach_reply_lem _ _ sample delivered_by_one sample_says delivered_by_one_says ∙ ap (found_reply sample) unreached ∙ ap (λ c. Ok (Never c)) sample-count))
    (λ m. ⊎_elim (λ e. subst⁻¹ Shows e (shown _ _ loose delivered_by_one loose_walk 2 5 _ _ loose_says loose_by_one_says loose-walk (ap (λ c. Ok (Reached 2 c)) (found-count loose tt _ loose-found)) refl refl))
    (λ m. ⊎_elim (λ e. subst⁻¹ Shows e (ask_reply_lem in_rows _ _ sample _ always_rows sample_says (always_says, refl) ∙ ap (asked_reply sample) always-holds))
    (λ m. ⊎_elim (λ e. subst⁻¹ Shows e (ask_reply_lem in_rows _ _ sample _ inevitable_rows sample_says (inevitable_says, refl) ∙ ap (asked_reply sample) inevitable_holds))
    (λ m. ⊎_elim (λ e. subst⁻¹ Shows e (ask_reply_lem in_rows _ _ stopped _ inevitable_rows stopped_says (stopped_inevitable_says, refl) ∙ ap (asked_reply stopped) stopped-fails))
    (λ m. ⊎_elim (λ e. subst⁻¹ Shows e (ask_reply_lem in_text _ _ sample (formula_of never_by_one) (rows_from 0 never_by_one) sample_says (never_by_one, never_by_one_says, refl, refl) ∙ ap (asked_reply sample) never_by_one_holds))
    (λ m. ⊎_elim (λ e. subst⁻¹ Shows e (shown _ _ largest_sample delivered largest_walk 2 6 _ _ largest_says largest-delivered_says largest-walk (ap (λ c. Ok (Reached 2 c)) (found-count largest_sample tt _ largest-found)) refl refl))
    (λ m. ⊎_elim (λ e. subst⁻¹ Shows e (ask_reply_lem in_rows _ _ largest_sample _ waiting_rows largest_says (largest-waiting_says, refl) ∙ ap (asked_reply largest_sample) largest-fails))
    (λ m. absurd (Memᴰ.not-nil m)) (Memᴰ.cases_cons m)) (Memᴰ.cases_cons m)) (Memᴰ.cases_cons m)) (Memᴰ.cases_cons m)) (Memᴰ.cases_cons m)) (Memᴰ.cases_cons m)) (Memᴰ.cases_cons m)) (Memᴰ.cases_cons m)) (Memᴰ.cases_cons m)

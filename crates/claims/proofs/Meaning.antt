-- Demand 3 for all bytes (`demand_3`), and from it what the calls promise of their own reply and buffers.
-- Assumes nothing.
use Prim.Native.Nat.{ℕ, ◌≤◌}
use mathlib.Core.List.{List}
use mathlib.Core.Logic.{◌↔◌, ◌⊎◌, inl, inr}
use mathlib.Core.Option as option
use Rattle.std.proofs.Common.{Result, Ok, Err}
use mathlib.Core.Path.{◌≡◌, refl, sym, ap, ◌∙◌, subst, subst⁻¹}
use native.Mathlib.Omega.{arith}
use lib.Dec.{T}
use Rattle.graphs.proofs.Lists.{T_true}
use Rattle.graphs.specs.Formulas.{Formula}
use Rattle.automata.specs.Automaton.{Automaton}
use Rattle.automata.specs.Runs.{Move, Target, Reaches, permitted, initial}
use Rattle.automata.specs.Runs as meaning
use Rattle.automata.specs.Questions.{Atom, Row, Holds, HoldsAtStarts, question}
use Rattle.automata.specs.Answers.{nearest_to, failing}
use Rattle.forms.specs.FormAutomaton.{automaton_of, target_of}
use Rattle.refusals.specs.declared.Refusal.{Refusal}
use Rattle.refusals.specs.Judged.{Judged, refusal, ◌then◌}
use Rattle.refusals.specs.Judged.Judged.{accepted, refused}
use Rattle.refusals.proofs.Composed.{then-accepted, then-refused, required, passes}
use Rattle.reader.specs.Table.{read_target}
use Rattle.questions.specs.Question.{Rows}
use Rattle.opening.specs.Opening.{open_table}
use Rattle.writing.specs.Said.{TableFile, TargetFile}
use Rattle.writing.proofs.Said.{table_says, says_table, target_says, says_target}
use Rattle.claims.specs.Files.{WithTarget, with_target, WithQuestion, with_question, question_to, target_files, question_files, ReachBuffers, search_room, AskBuffers, rows_room, reach_files, ask_files}
use Rattle.claims.specs.ReachReply.{found_reply, reach_reply, reach_words, reach_least, reach_links, reach_run, reach_lines, reach_left}
use Rattle.claims.specs.AskReply.{rows_in, asked_reply, ask_reply, ask_told, ask_rows, ask_contents, ask_left}
use Rattle.claims.specs.AnswerNumbers.{ask_numbers}
use Rattle.claims.specs.Demand.{TargetAnswer, ReachClaim, QuestionSaid, QuestionRefused, QuestionAnswer, AskClaim, Demand3, ReachMeans, AskMeans}
use Rattle.claims.specs.Editor.{reach_code, ask_code, ReachCodeMeans, AskCodeMeans}
use Rattle.claims.specs.declared.Notation.{Notation}
use Rattle.witness.specs.declared.Answer.{Answer}
use Rattle.witness.specs.declared.Answer.TheVariants.{Never, Reached}
use Rattle.claims.specs.declared.Asking.{Asking}
use Rattle.claims.specs.declared.Asking.TheVariants.{Yes, No}
use Rattle.claims.proofs.Rooms.{ample, ample_room, wide, wide_room}
use Rattle.claims.proofs.Notations.{said_read, read-said, refused-said, read-form}
use Rattle.claims.proofs.Claims.{target_right, question-right, question-told}

-- What was read

-- a table and a target that are read are said by their bytes
target-read : (s g : List ℕ) (f : WithTarget) → target_files s g ≡ accepted f → (t u : List ℕ) × (open_table s ≡ accepted t) × (read_target t g ≡ accepted u)
target-read s g f e =
    let (t, o, d) = then-accepted (open_table s) (λ t. read_target t g then (λ u. accepted (with_target t u))) f e in
    let (u, r, h) = then-accepted (read_target t g) (λ u. accepted (with_target t u)) f d in
    (t, u, o, r)

-- what is read after a table that is opened
abbrev pub question-after : Notation → List ℕ → List ℕ → Judged WithQuestion
question-after w q t = question_to w (automaton_of t) q then (λ r. accepted (with_question t r))

pub question-read : (w : Notation) (s q : List ℕ) (f : WithQuestion) → question_files w s q ≡ accepted f
    → (t : List ℕ) × (r : Rows) × (open_table s ≡ accepted t) × (question_to w (automaton_of t) q ≡ accepted r)
question-read w s q f e =
    let (t, o, d) = then-accepted (open_table s) (question-after w q) f e in
    let (r, p, h) = then-accepted (question_to w (automaton_of t) q) (λ r. accepted (with_question t r)) f d in
    (t, r, o, p)

pub question_files_lem : (w : Notation) (s q t : List ℕ) (r : Rows) → open_table s ≡ accepted t → question_to w (automaton_of t) q ≡ accepted r → question_files w s q ≡ accepted (with_question t r)
question_files_lem w s q t r o p = ap (λ j. j then question-after w q) o ∙ ap (λ j. j then (λ r. accepted (with_question t r))) p

read_same : (w : Notation) (s q : List ℕ) (f : WithQuestion) (t : List ℕ) (r : Rows) → question_files w s q ≡ accepted f → open_table s ≡ accepted t → question_to w (automaton_of t) q ≡ accepted r → with_question t r ≡ f
read_same w s q f t r e o p = let d : accepted (with_question t r) ≡ accepted f = sym (question_files_lem w s q t r o p) ∙ e in cc

-- a refusal is replied only where the files are turned back
pub ask_refused : (j : Judged WithQuestion) (n : Refusal) → ask_reply j ≡ Err n → j ≡ refused n
unfolding ask_reply
ask_refused (refused m) n e = let z : m ≡ n = cc in ap refused z
ask_refused (accepted f) n e = absurd (never (failing (automaton_of f.table) (question (rows_in f))) e)
  where
    never : (o : option.Option ℕ) → asked_reply (automaton_of f.table) o ≡ Err n → ⊥
    never option.none h = let z : ◌≡◌ {A = ℕ} 0 1 = cc in omega arith
    never (option.some k) h = let z : ◌≡◌ {A = ℕ} 0 1 = cc in omega arith

-- Demand 3

target_half : (s t : List ℕ) → open_table s ≡ accepted t → (g : List ℕ) (x : Target) → TargetFile (automaton_of t) g x → (b : ReachBuffers) → T (search_room b)
    → ReachClaim s (automaton_of t) x (reach_reply (target_files s g)) b (reach_left (target_files s g) b)
target_half s t o g x said b room =
    let (u, r, e) = says_target s t g x o said in
    let files : target_files s g ≡ accepted (with_target t u) = ap (λ j. j then (λ t. read_target t g then (λ u. accepted (with_target t u)))) o ∙ ap (λ j. j then (λ u. accepted (with_target t u))) r in
    subst (λ y. ReachClaim s (automaton_of t) y (reach_reply (target_files s g)) b (reach_left (target_files s g) b)) e
    (subst⁻¹ (λ j. ReachClaim s (automaton_of t) (target_of u) (reach_reply j) b (reach_left j b)) files (target_right s t g u o r b room))

question_half : (s t : List ℕ) → open_table s ≡ accepted t → (w : Notation) (q : List ℕ) (f : Formula Atom) (rs : List Row) → QuestionSaid w (automaton_of t) q f rs
    → (b : AskBuffers) → T (rows_room b) → AskClaim (automaton_of t) f rs (ask_reply (question_files w s q)) b (ask_left (question_files w s q) b)
unfolding ask_reply ask_rows ask_contents
question_half s t o w q f rs said b room =
    let (r, p, e, d) = said_read s t o w q f rs said in
    let read : List Row = rows_in (with_question t r) in
    subst⁻¹ (λ x. AskClaim (automaton_of t) x rs (ask_reply (question_files w s q)) b (ask_left (question_files w s q) b)) d
    (subst (λ y. AskClaim (automaton_of t) (question y) y (ask_reply (question_files w s q)) b (ask_left (question_files w s q) b)) e
    (subst⁻¹ (λ j. AskClaim (automaton_of t) (question read) read (ask_reply j) b (ask_left j b)) (question_files_lem w s q t r o p)
    (question-right s t o read (read-form w (automaton_of t) q r p).fits b room)))

pub demand_3 : Demand3
demand_3 s a said =
    let (t, o, e) = says_table s a said in
    subst (λ a. ((g : List ℕ) (x : Target) → TargetFile a g x → (b : ReachBuffers) → T (search_room b) → ReachClaim s a x (reach_reply (target_files s g)) b (reach_left (target_files s g) b))
    × ((w : Notation) (q : List ℕ) (f : Formula Atom) (rs : List Row) → QuestionSaid w a q f rs → (b : AskBuffers) → T (rows_room b)
    → AskClaim a f rs (ask_reply (question_files w s q)) b (ask_left (question_files w s q) b))) e
    (target_half s t o, question_half s t o)

-- The replies for bytes that say a table, a target, a question

pub reach_reply_lem : (s g : List ℕ) (a : Automaton) (x : Target) → TableFile s a → TargetFile a g x → reach_reply (target_files s g) ≡ found_reply a (nearest_to a x)
unfolding reach_reply
reach_reply_lem s g a x file target =
    let (t, o, e) = says_table s a file in
    let (u, r, d) = says_target s t g x o (subst⁻¹ (λ a. TargetFile a g x) e target) in
    ap reach_reply (ap (λ j. j then (λ t. read_target t g then (λ u. accepted (with_target t u)))) o ∙ ap (λ j. j then (λ u. accepted (with_target t u))) r)
    ∙ ap (λ y. found_reply (automaton_of t) (nearest_to (automaton_of t) y)) d ∙ ap (λ a. found_reply a (nearest_to a x)) e

pub ask_reply_lem : (w : Notation) (s q : List ℕ) (a : Automaton) (f : Formula Atom) (rs : List Row) → TableFile s a → QuestionSaid w a q f rs → ask_reply (question_files w s q) ≡ asked_reply a (failing a f)
unfolding ask_reply
ask_reply_lem w s q a f rs file said =
    let (t, o, e) = says_table s a file in
    let (r, p, d, k) = said_read s t o w q f rs (subst⁻¹ (λ a. QuestionSaid w a q f rs) e said) in
    ap ask_reply (question_files_lem w s q t r o p)
    ∙ ap (λ x. asked_reply (automaton_of t) (failing (automaton_of t) x)) (ap question d ∙ sym k) ∙ ap (λ a. asked_reply a (failing a f)) e

-- The call on a target

module _ (s g : List ℕ) (b : ReachBuffers) where
  roomy : T (search_room b) → reach_files b s g ≡ target_files s g
  unfolding reach_files
  roomy h = passes (refusal 9 0 0) (λ ok. target_files s g) (search_room b) (T_true (search_room b) h)

  pub reach_means : ReachMeans s g (reach_reply (reach_files b s g)) b (reach_left (reach_files b s g) b)
  unfolding reach_files reach_reply reach_words reach_least reach_links reach_run reach_lines
  reach_means = record {
    said = λ a x file target room. subst⁻¹ (λ j. ReachClaim s a x (reach_reply j) b (reach_left j b)) (roomy room) ((demand_3 s a file).0 g x target b room);
    unsaid = λ none. go none (reach_files b s g) refl;
  }
    where
      go : ((a : Automaton) (x : Target) → TableFile s a → TargetFile a g x → T (search_room b) → ⊥) → (j : Judged WithTarget) → reach_files b s g ≡ j
          → ((n : Refusal) × (reach_files b s g ≡ refused n) × (reach_reply j ≡ Err n)) × (reach_left j b ≡ b)
      go none (refused n) e = ((n, e, refl), refl)
      go none (accepted f) e =
          let (room, files) = required (refusal 9 0 0) (λ ok. target_files s g) (search_room b) f e in
          let (t, u, o, r) = target-read s g f files in
          absurd (none (automaton_of t) (target_of u) (table_says s t o) (target_says s t g u o r) (subst⁻¹ T room tt))

-- The call on a question

-- after a table that is said only the question can be turned back
pub question-turned : (w : Notation) (s q : List ℕ) (a : Automaton) → TableFile s a → (n : Refusal) → question_files w s q ≡ refused n → QuestionRefused w a q n
question-turned w s q a file n h =
    let (t, o, e) = says_table s a file in
    let d : question-after w q t ≡ refused n = sym (ap (λ j. j then question-after w q) o) ∙ h in
    subst (λ a. QuestionRefused w a q n) e (refused-said s t o w q n (by t (then-refused (question_to w (automaton_of t) q) (λ r. accepted (with_question t r)) n d)))
  where
    by : (t : List ℕ) → (question_to w (automaton_of t) q ≡ refused n) ⊎ ((r : Rows) × (question_to w (automaton_of t) q ≡ accepted r) × (accepted (with_question t r) ≡ refused n))
        → question_to w (automaton_of t) q ≡ refused n
    by t (inl d) = d
    by t (inr (r, p, d)) = let z : ◌≡◌ {A = ℕ} 0 1 = cc in absurd (omega arith)

module _ (w : Notation) (s q : List ℕ) (b : AskBuffers) where
  rows-roomy : T (rows_room b) → ask_files w b s q ≡ question_files w s q
  unfolding ask_files
  rows-roomy h = passes (refusal 9 0 0) (λ ok. question_files w s q) (rows_room b) (T_true (rows_room b) h)

  turned-back : (a : Automaton) → TableFile s a → T (rows_room b) → (n : Refusal) → ask_reply (ask_files w b s q) ≡ Err n → QuestionRefused w a q n
  turned-back a file room n h = question-turned w s q a file n (ask_refused (question_files w s q) n (sym (ap ask_reply (rows-roomy room)) ∙ h))

  pub ask_means : AskMeans w s q (ask_reply (ask_files w b s q)) b (ask_left (ask_files w b s q) b)
  unfolding ask_files ask_reply ask_rows ask_contents
  ask_means = record {
    said = λ a f rs file said room. subst⁻¹ (λ j. AskClaim a f rs (ask_reply j) b (ask_left j b)) (rows-roomy room) ((demand_3 s a file).1 w q f rs said b room);
    unsaid = λ none. go none (ask_files w b s q) refl;
    turned = turned-back;
  }
    where
      go : ((a : Automaton) (f : Formula Atom) (rs : List Row) → TableFile s a → QuestionSaid w a q f rs → T (rows_room b) → ⊥) → (j : Judged WithQuestion) → ask_files w b s q ≡ j
          → ((n : Refusal) × (ask_files w b s q ≡ refused n) × (ask_reply j ≡ Err n)) × (ask_left j b ≡ b)
      go none (refused n) e = ((n, e, refl), refl)
      go none (accepted f) e =
          let (room, files) = required (refusal 9 0 0) (λ ok. question_files w s q) (rows_room b) f e in
          let (t, r, o, p) = question-read w s q f files in
          absurd (none (automaton_of t) (question (rows_in (with_question t r))) (rows_in (with_question t r)) (table_says s t o) (read-said s t o w q r p) (subst⁻¹ T room tt))

  -- the reply in document 01's numbers
  pub ask_told_lem : ask_numbers (ask_reply (ask_files w b s q)) (ask_contents (ask_files w b s q) b.contents) ≡ ask_told (ask_files w b s q)
  unfolding ask_files ask_reply ask_contents ask_told
  ask_told_lem = go (ask_files w b s q) refl
    where
      go : (j : Judged WithQuestion) → ask_files w b s q ≡ j → ask_numbers (ask_reply j) (ask_contents j b.contents) ≡ ask_told j
      go (refused n) e = refl
      go (accepted f) e =
          let (room, files) = required (refusal 9 0 0) (λ ok. question_files w s q) (rows_room b) f e in
          let (t, r, o, p) = question-read w s q f files in
          let same : with_question t r ≡ f = read_same w s q f t r files o p in
          subst (λ x. ask_numbers (ask_reply (accepted x)) (ask_contents (accepted x) b.contents) ≡ ask_told (accepted x)) same
          (question-told s t o (rows_in (with_question t r)) (read-form w (automaton_of t) q r p).fits b.contents)

-- The editor's numbers: those of the calls over memory that is long enough

pub reach_code-means : (s g : List ℕ) → ReachCodeMeans s g (reach_code (reach_reply (target_files s g)))
reach_code-means s g = record {
  never = λ a x file target. zero a x (reach_reply (target_files s g)) (reach_left (target_files s g) ample) (answer a x file target);
  reached = λ a x file target. one a x (reach_reply (target_files s g)) (reach_left (target_files s g) ample) (answer a x file target);
  refused = (
    (λ h a x file target. low a x (reach_reply (target_files s g)) (reach_left (target_files s g) ample) (answer a x file target) h),
    (λ none.
        let ((n, _, e), _) = (reach_means s g ample).unsaid (λ a x file target room. none a x file target) in
        rw (ap reach_code (sym (ap reach_reply (roomy s g ample ample_room)) ∙ e)) (omega arith)),
  );
}
  where
    answer : (a : Automaton) (x : Target) → TableFile s a → TargetFile a g x → TargetAnswer s a x (reach_reply (target_files s g)) ample (reach_left (target_files s g) ample)
    answer a x file target = ((demand_3 s a file).0 g x target ample ample_room).answer

    zero : (a : Automaton) (x : Target) (r : Result Answer Refusal) (b : ReachBuffers) → TargetAnswer s a x r ample b → (reach_code r ≡ 0) ↔ meaning.Never a x
    zero a x (Ok (Never count)) b (never, _, _) = ((λ e. never), (λ n. refl))
    zero a x (Ok (Reached n count)) b given = ((λ e. absurd (omega arith)), (λ never. absurd (never _ _ given.taken.shortest.reaches)))
    zero a x (Err r) b given = elim given [ ]

    one : (a : Automaton) (x : Target) (r : Result Answer Refusal) (b : ReachBuffers) → TargetAnswer s a x r ample b → (reach_code r ≡ 1) ↔ ((v : List ℕ) × (ms : List Move) × Reaches a x v ms)
    one a x (Ok (Never count)) b (never, _, _) = ((λ e. absurd (omega arith)), (λ (v, ms, reaches). absurd (never v ms reaches)))
    one a x (Ok (Reached n count)) b given = ((λ e. (given.contents, given.moves, given.taken.shortest.reaches)), (λ r. refl))
    one a x (Err r) b given = elim given [ ]

    low : (a : Automaton) (x : Target) (r : Result Answer Refusal) (b : ReachBuffers) → TargetAnswer s a x r ample b → 100 ≤ reach_code r → ⊥
    low a x (Ok (Never count)) b answer h = omega arith
    low a x (Ok (Reached n count)) b answer h = omega arith
    low a x (Err r) b answer h = elim answer [ ]

pub ask_code-means : (w : Notation) (s q : List ℕ) → AskCodeMeans w s q (ask_code (ask_reply (question_files w s q)))
ask_code-means w s q = record {
  no = λ a f rs file said. zero a f (ask_reply (question_files w s q)) (ask_left (question_files w s q) wide).contents (answer a f rs file said);
  yes = λ a f rs file said. one a f (ask_reply (question_files w s q)) (ask_left (question_files w s q) wide).contents (answer a f rs file said);
  refused = (
    (λ h a f rs file said. low a f (ask_reply (question_files w s q)) (ask_left (question_files w s q) wide).contents (answer a f rs file said) h),
    (λ none.
        let ((n, _, e), _) = (ask_means w s q wide).unsaid (λ a f rs file said room. none a f rs file said) in
        rw (ap ask_code (sym (ap ask_reply (rows-roomy w s q wide wide_room)) ∙ e)) (omega arith)),
  );
}
  where
    answer : (a : Automaton) (f : Formula Atom) (rs : List Row) → TableFile s a → QuestionSaid w a q f rs
        → QuestionAnswer a f (ask_reply (question_files w s q)) wide.contents (ask_left (question_files w s q) wide).contents
    answer a f rs file said = ((demand_3 s a file).1 w q f rs said wide wide_room).answer

    zero : (a : Automaton) (f : Formula Atom) (r : Result Asking Refusal) (v : List ℕ) → QuestionAnswer a f r wide.contents v
        → (ask_code r ≡ 0) ↔ ((v : List ℕ) × T (permitted a v) × (Holds a f (initial a v) → ⊥))
    zero a f (Ok Yes) u (holds, _) = ((λ e. absurd (omega arith)), (λ (v, ok, fails). absurd (fails (holds v ok))))
    zero a f (Ok (No k n)) u (_, (v, fails, _)) = ((λ e. (v, fails.start, fails.fails)), (λ x. refl))
    zero a f (Err r) u given = elim given [ ]

    one : (a : Automaton) (f : Formula Atom) (r : Result Asking Refusal) (v : List ℕ) → QuestionAnswer a f r wide.contents v → (ask_code r ≡ 1) ↔ HoldsAtStarts a f
    one a f (Ok Yes) u (holds, _) = ((λ e. holds), (λ x. refl))
    one a f (Ok (No k n)) u (_, (v, fails, _)) = ((λ e. absurd (omega arith)), (λ holds. absurd (fails.fails (holds v fails.start))))
    one a f (Err r) u given = elim given [ ]

    low : (a : Automaton) (f : Formula Atom) (r : Result Asking Refusal) (v : List ℕ) → QuestionAnswer a f r wide.contents v → 100 ≤ ask_code r → ⊥
    low a f (Ok Yes) u answer h = omega arith
    low a f (Ok (No k n)) u answer h = omega arith
    low a f (Err r) u answer h = elim answer [ ]

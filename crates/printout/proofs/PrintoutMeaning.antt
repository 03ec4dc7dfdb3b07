-- What is printed is what document 01 says (`reach_printout`, `ask_printout`), and what the code sets in lines is what is printed (`found-lines`, `asked_line`).
-- Assumes nothing.
use Prim.Native.Nat.{ℕ, suc, ◌*◌, ◌≤◌, ◌<◌}
use mathlib.Core.List.{List, [], ◌∷◌}
use mathlib.Core.Logic.◌⊎◌.{inl, inr}
use mathlib.Core.Logic.{◌⊎◌, ⊎_elim}
use mathlib.Core.Option.{Option, none, some}
use mathlib.Core.Path.{◌≡◌, refl, sym, ap, ap₂, ◌∙◌, subst, subst⁻¹}
use native.Mathlib.Omega.{arith}
use lib.Dec.{T, eqb, eqb→eq, leb→le}
use lib.Ieee.Fits.{and_l}
use lib.ListN.{length, get_or, take, drop}
use Rattle.refusals.specs.declared.Refusal.{Refusal}
use Rattle.refusals.specs.Judged.{Judged, refusal_numbers, ◌then◌}
use Rattle.refusals.specs.Judged.Judged.{accepted, refused}
use Rattle.refusals.proofs.Composed.{then-accepted}
use Rattle.lists.specs.Arrays.{padded}
use Rattle.lists.proofs.Arrays.{padded-take}
use Rattle.columns.specs.declared.Sheet.TheVariants.{Answer}
use Rattle.columns.specs.Widths.{width}
use Rattle.columns.proofs.Columns.{InColumns}
use Rattle.sets.specs.Members.{member}
use Rattle.graphs.specs.Search.{Walk, steps}
use Rattle.graphs.proofs.Lists.{T_true}
use Rattle.graphs.specs.Formulas.{Formula}
use Rattle.graphs.specs.Lists.{all_of}
use Rattle.classes.proofs.Contents.{contents-length}
use Rattle.automata.specs.Automaton.{Automaton, meets}
use Rattle.automata.specs.Runs.{Target}
use Rattle.automata.specs.Questions.{Atom, Row, question}
use Rattle.automata.specs.WellFormed.{well_formed, limited, fits_target}
use Rattle.automata.specs.Configurations.{classes}
use Rattle.automata.specs.Answers.{nearest_to, failing}
use Rattle.moves.specs.PathMoves.{walk_contents, walk_moves}
use Rattle.moves.proofs.Limits.{limited-roomy}
use Rattle.moves.proofs.Taken.{taken}
use Rattle.forms.specs.FormAutomaton.{automaton_of, target_of}
use Rattle.forms.proofs.Forms.{limits}
use Rattle.reader.specs.Table.{read_target}
use Rattle.questions.specs.Question.{Rows}
use Rattle.questions.proofs.Fits.{Asks}
use Rattle.opening.specs.Opening.{open_table}
use Rattle.reach.specs.Buffers.{reached_words}
use Rattle.reach.specs.Reaching.{found}
use Rattle.witness.specs.Printed.{with_lines, reached_count}
use Rattle.witness.proofs.Finding.{few-steps}
use Rattle.witness.proofs.RunJudged.{printed-right, never-right}
use Rattle.writing.specs.Said.{TableFile, TargetFile}
use Rattle.writing.proofs.Said.{table_says, says_table, target_says, says_target}
use Rattle.claims.specs.declared.Notation.{Notation}
use Rattle.witness.specs.declared.Answer.{Answer as Found}
use Rattle.std.proofs.Common.{Result}
use Rattle.claims.specs.declared.Asking.{Asking}
use Rattle.claims.specs.Files.{WithTarget, with_target, target_files, WithQuestion, with_question, question_to, question_files, ReachBuffers, search_room, reach_files, AskBuffers, rows_room, ask_files}
use Rattle.claims.specs.ReachReply.{found_reply, reach_reply, found_numbers, reach_told, reach_lines}
use Rattle.claims.specs.AnswerNumbers.{reach_numbers, ask_numbers}
use Rattle.claims.specs.AskReply.{class_contents, rows_in, asked_reply, ask_reply, asked_numbers, ask_told, asked_contents, ask_contents}
use Rattle.claims.specs.Demand.{QuestionSaid, FailsWith, QuestionAnswer}
use Rattle.claims.proofs.Rooms.{ample, ample_room, wide, wide_room}
use Rattle.claims.proofs.Least.{search-right, count-right}
use Rattle.claims.proofs.Notations.{said_read, read-said, read-form}
use Rattle.claims.proofs.Claims.{question-right}
use Rattle.claims.proofs.Meaning.{question-read, question_files_lem, question-turned}
use Rattle.checker.proofs.Filed.{ask_roomy}
use Rattle.checker.proofs.Targeted.{reach_roomy}
use Rattle.printout.specs.Document.{ReachedCount, TargetLines, QuestionLines, ReadBack, ReachReadBack, ReachPrintout, AskPrintout}
use Rattle.printout.specs.Document.TargetLines.{never, reached}
use Rattle.printout.specs.Document.QuestionLines.{yes, no}
use Rattle.printout.specs.PrintedLines.{moments, moment_count, class_of, walk_lines, reach_printed, ask_printed}
use Rattle.printout.proofs.MomentSlots.{moments-run}
use Rattle.printout.proofs.ReadBack.{one-back, found_back, asked_fits, target-refused-back, question-refused-back}

-- Targets

-- the bytes say a table and a target, which are read so
record TargetRead (s g t u : List ℕ) : Type 0 where
  files : target_files s g ≡ accepted (with_target t u)
  said : TableFile s (automaton_of t)
  aimed : TargetFile (automaton_of t) g (target_of u)

-- the count of a table's reached configurations is right
reached-count : (a : Automaton) → T (well_formed a) → T (limited a) → ReachedCount a (reached_count a)
reached-count a wf lim =
    record { reached = member (reached_words 337 (found a) ample.words); right = (search-right a wf lim ample ample_room [] []).marked; count = count-right a ample.words }

target-lines : (a : Automaton) (wf : T (well_formed a)) (lim : T (limited a)) (x : Target) (fits : T (fits_target a x)) (o : Option Walk) → nearest_to a x ≡ o
    → TargetLines a x (reached_count a) (found_numbers a o ∷ walk_lines a o)
target-lines a wf lim x fits none e = never (never-right a wf lim x fits e)
target-lines a wf lim x fits (some w) e =
    subst (λ n. TargetLines a x (reached_count a) ((1 ∷ n ∷ reached_count a ∷ []) ∷ walk_lines a (some w))) (printed-right a wf lim x fits w e).count
    (reached (walk_contents a w) (walk_moves 15 a w) (taken a wf 15 (limited-roomy a wf lim) x fits w e))

-- the lines of the reply and of the slots are those along the walk
lines-found : (a : Automaton) (wf : T (well_formed a)) (lim : T (limited a)) (x : Target) (fits : T (fits_target a x)) (base : List ℕ) (o : Option Walk) → nearest_to a x ≡ o
    → reach_numbers (found_reply a o) ∷ moments (moment_count (found_reply a o)) (with_lines a o base) ≡ found_numbers a o ∷ walk_lines a o
unfolding moments
lines-found a wf lim x fits base none e = refl
lines-found a wf lim x fits base (some w) e =
    let p = printed-right a wf lim x fits w e in
    ap (λ ls. (1 ∷ steps w ∷ reached_count a ∷ []) ∷ ls) (moments-run a (limits a lim) (walk_contents a w) (walk_moves 15 a w) (steps w) (drop (12 * suc (steps w)) base) p.shortest.reaches.run p.count)

few-moments : (a : Automaton) (wf : T (well_formed a)) (lim : T (limited a)) (x : Target) (o : Option Walk) → nearest_to a x ≡ o → moment_count (found_reply a o) ≤ 10785
few-moments a wf lim x none e = omega arith
few-moments a wf lim x (some w) e = omega (arith, few-steps a wf lim x w e)

module _ (s g : List ℕ) where
  both : (t u : List ℕ) → open_table s ≡ accepted t → read_target t g ≡ accepted u → TargetRead s g t u
  both t u o r =
      record {
        files = ap (λ j. j then (λ t. read_target t g then (λ u. accepted (with_target t u)))) o ∙ ap (λ j. j then (λ u. accepted (with_target t u))) r;
        said = table_says s t o;
        aimed = target_says s t g u o r;
      }

  target-said : (a : Automaton) (x : Target) → TableFile s a → TargetFile a g x → (t u : List ℕ) × TargetRead s g t u × (automaton_of t ≡ a) × (target_of u ≡ x)
  target-said a x file aim =
      let (t, o, e) = says_table s a file in
      let (u, r, d) = says_target s t g x o (subst⁻¹ (λ a. TargetFile a g x) e aim) in
      (t, u, both t u o r, e, d)

  target_cases : ((t u : List ℕ) × TargetRead s g t u) ⊎ ((r : Refusal) × (target_files s g ≡ refused r))
  target_cases = go (target_files s g) refl
    where
      go : (j : Judged WithTarget) → target_files s g ≡ j → ((t u : List ℕ) × TargetRead s g t u) ⊎ ((r : Refusal) × (target_files s g ≡ refused r))
      go (refused r) e = inr (r, e)
      go (accepted f) e =
          let (t, o, d) = then-accepted (open_table s) (λ t. read_target t g then (λ u. accepted (with_target t u))) f e in
          let (u, r, _) = then-accepted (read_target t g) (λ u. accepted (with_target t u)) f d in
          inl (t, u, both t u o r)

  -- the lines that are printed
  along : (t u : List ℕ) → TargetRead s g t u
      → reach_printed (target_files s g) ≡ found_numbers (automaton_of t) (nearest_to (automaton_of t) (target_of u)) ∷ walk_lines (automaton_of t) (nearest_to (automaton_of t) (target_of u))
  unfolding reach_printed reach_told
  along t u r = ap reach_printed r.files

  turned-back : (r : Refusal) → target_files s g ≡ refused r → reach_printed (target_files s g) ≡ (2 ∷ refusal_numbers r) ∷ []
  unfolding reach_printed reach_told
  turned-back r e = ap reach_printed e

  pub reach_printout : ReachPrintout s g (reach_printed (target_files s g))
  reach_printout =
      record {
        said = λ a x file aim.
            let (t, u, r, e, d) = target-said a x file aim in
            let same = along t u r ∙ ap₂ (λ a x. found_numbers a (nearest_to a x) ∷ walk_lines a (nearest_to a x)) e d in
            (reached_count a, reached-count a file.fits file.small, subst⁻¹ (TargetLines a x (reached_count a)) same (target-lines a file.fits file.small x aim.fits (nearest_to a x) refl));
        unsaid = λ none. ⊎_elim (λ (t, u, r). absurd (none (automaton_of t) (target_of u) r.said r.aimed)) (λ (r, e). (r, e, turned-back r e)) target_cases;
        readable =
            ⊎_elim (λ (t, u, r). subst⁻¹ ReachReadBack (along t u r) (found_back (automaton_of t) r.said.fits r.said.small r.said.issued (target_of u) r.aimed.fits (nearest_to (automaton_of t) (target_of u)) refl))
            (λ (r, e). subst⁻¹ ReachReadBack (turned-back r e) (target-refused-back s g r e)) target_cases;
      }

  -- what the call returned, over buffers with room
  module _ (b : ReachBuffers) (room : T (search_room b)) (q : Result Found Refusal) (slots : List ℕ) (e : q ≡ reach_reply (reach_files b s g)) (d : slots ≡ reach_lines (reach_files b s g) b.lines) where
    roomy : reach_files b s g ≡ target_files s g
    roomy = reach_roomy b s g (T_true (search_room b) room)

    pub moments-few : moment_count q ≤ 10785
    unfolding reach_reply
    moments-few =
        subst⁻¹ (λ q. moment_count q ≤ 10785) (e ∙ ap reach_reply roomy)
        (⊎_elim (λ (t, u, r). subst⁻¹ (λ j. moment_count (reach_reply j) ≤ 10785) r.files (few-moments (automaton_of t) r.said.fits r.said.small (target_of u) (nearest_to (automaton_of t) (target_of u)) refl))
        (λ (r, e). subst⁻¹ (λ j. moment_count (reach_reply j) ≤ 10785) e (omega arith)) target_cases)

    pub found-lines : reach_numbers q ∷ moments (moment_count q) slots ≡ reach_printed (target_files s g)
    unfolding reach_reply reach_lines moments
    found-lines =
        ap₂ (λ q l. reach_numbers q ∷ moments (moment_count q) l) (e ∙ ap reach_reply roomy) (d ∙ ap (λ j. reach_lines j b.lines) roomy)
        ∙ ⊎_elim (λ (t, u, r).
        ap (λ j. reach_numbers (reach_reply j) ∷ moments (moment_count (reach_reply j)) (reach_lines j b.lines)) r.files
        ∙ lines-found (automaton_of t) r.said.fits r.said.small (target_of u) r.aimed.fits b.lines (nearest_to (automaton_of t) (target_of u)) refl ∙ sym (along t u r))
        (λ (r, e). ap (λ j. reach_numbers (reach_reply j) ∷ moments (moment_count (reach_reply j)) (reach_lines j b.lines)) e ∙ sym (turned-back r e)) target_cases

-- Questions

-- the bytes say a table and a question, which are read so
record QuestionRead (w : Notation) (s q t : List ℕ) (r : Rows) : Type 0 where
  opened : open_table s ≡ accepted t
  files : question_files w s q ≡ accepted (with_question t r)
  said : TableFile s (automaton_of t)
  asked : QuestionSaid w (automaton_of t) q (question (rows_in (with_question t r))) (rows_in (with_question t r))
  form : Asks (automaton_of t) r.form r.count

-- the contents that a no names are those in its slots
contents-named : (a : Automaton) → T (limited a) → (f : Formula Atom) (k : ℕ) (v : List ℕ) → FailsWith a f k v → padded 5 (class_contents a k) ≡ padded 5 v
    → (v ≡ class_contents a k) × (take a.registers (padded 5 (class_contents a k)) ≡ class_contents a k)
contents-named a lim f k v p e =
    let n : length v ≡ a.registers = eqb→eq (length v) a.registers (and_l (eqb (length v) a.registers) (all_of (meets a.constants v []) a.starting) p.start) in
    let l : length (class_contents a k) ≡ a.registers = contents-length a.constants (get_or (classes a) k []) ∙ sym p.given.wide ∙ n in
    let few : a.registers ≤ 5 = (limits a lim).registers in
    let back : take a.registers (padded 5 (class_contents a k)) ≡ class_contents a k = ap (λ m. take m (padded 5 (class_contents a k))) (sym l) ∙ padded-take 5 (class_contents a k) (omega arith) in
    (sym (padded-take 5 v (omega arith)) ∙ ap₂ take n (sym e) ∙ back, back)

-- what the answer says is the line
question-line : (a : Automaton) → T (limited a) → (f : Formula Atom) (before : List ℕ) (o : Option ℕ) → QuestionAnswer a f (asked_reply a o) before (asked_contents a o before)
    → QuestionLines a f (asked_numbers a o ∷ []) × (ask_numbers (asked_reply a o) (asked_contents a o before) ≡ asked_numbers a o)
question-line a lim f before none (holds, _) = (yes holds, refl)
question-line a lim f before (some k) (_, (v, p, e)) =
    let (same, back) = contents-named a lim f k v p e in
    (subst (λ u. QuestionLines a f ((0 ∷ k ∷ u) ∷ [])) same (no k v p), ap (λ u. 0 ∷ k ∷ u) back)

class_low : (a : Automaton) (o : Option ℕ) → InColumns Answer (asked_numbers a o) → class_of (asked_reply a o) < 1000000
unfolding width
class_low a none l = omega arith
class_low a (some k) l = l 1

module _ (w : Notation) (s q : List ℕ) where
  asking : (t : List ℕ) (r : Rows) → open_table s ≡ accepted t → question_to w (automaton_of t) q ≡ accepted r → QuestionRead w s q t r
  asking t r o p =
      record {
        opened = o;
        files = question_files_lem w s q t r o p;
        said = table_says s t o;
        asked = read-said s t o w q r p;
        form = read-form w (automaton_of t) q r p;
      }

  question-said : (a : Automaton) (f : Formula Atom) (rs : List Row) → TableFile s a → QuestionSaid w a q f rs
      → (t : List ℕ) × (r : Rows) × QuestionRead w s q t r × (automaton_of t ≡ a) × (question (rows_in (with_question t r)) ≡ f)
  question-said a f rs file aim =
      let (t, o, e) = says_table s a file in
      let (r, p, d, k) = said_read s t o w q f rs (subst⁻¹ (λ a. QuestionSaid w a q f rs) e aim) in
      (t, r, asking t r o p, e, ap question d ∙ sym k)

  question_cases : ((t : List ℕ) × (r : Rows) × QuestionRead w s q t r) ⊎ ((r : Refusal) × (question_files w s q ≡ refused r))
  question_cases = go (question_files w s q) refl
    where
      go : (j : Judged WithQuestion) → question_files w s q ≡ j → ((t : List ℕ) × (r : Rows) × QuestionRead w s q t r) ⊎ ((r : Refusal) × (question_files w s q ≡ refused r))
      go (refused r) e = inr (r, e)
      go (accepted f) e =
          let (t, r, o, p) = question-read w s q f e in
          inl (t, r, asking t r o p)

  module _ (t : List ℕ) (r : Rows) (read : QuestionRead w s q t r) where
    abbrev a : Automaton
    a = automaton_of t

    abbrev f : Formula Atom
    f = question (rows_in (with_question t r))

    told : ask_told (question_files w s q) ≡ asked_numbers a (failing a f)
    unfolding ask_told
    told = ap ask_told read.files

    line : (b : AskBuffers) → T (rows_room b) → QuestionLines a f (asked_numbers a (failing a f) ∷ []) × (ask_numbers (asked_reply a (failing a f)) (asked_contents a (failing a f) b.contents) ≡ asked_numbers a (failing a f))
    line b room = question-line a read.said.small f b.contents (failing a f) (question-right s t read.opened (rows_in (with_question t r)) read.form.fits b room).answer

    fit : InColumns Answer (asked_numbers a (failing a f))
    fit = asked_fits a read.said.fits read.said.small read.said.issued f

  unasked : (r : Refusal) → question_files w s q ≡ refused r → ask_told (question_files w s q) ≡ 2 ∷ refusal_numbers r
  unfolding ask_told
  unasked r e = ap ask_told e

  pub ask_printout : AskPrintout w s q (ask_printed (question_files w s q))
  ask_printout =
      record {
        said = λ x g rs file aim.
            let (t, r, read, e, d) = question-said x g rs file aim in
            subst (λ v. QuestionLines x g (v ∷ [])) (sym (told t r read)) (subst (λ y. QuestionLines y g (asked_numbers (a t r read) (failing (a t r read) (f t r read)) ∷ [])) e (subst (λ y. QuestionLines (a t r read) y (asked_numbers (a t r read) (failing (a t r read) (f t r read)) ∷ [])) d (line t r read wide wide_room).0));
        unsaid = λ none. ⊎_elim (λ (t, r, read). absurd (none (automaton_of t) (f t r read) (rows_in (with_question t r)) read.said read.asked)) (λ (r, e). (r, e, (λ a file. question-turned w s q a file r e), ap (λ v. v ∷ []) (unasked r e))) question_cases;
        readable =
            ⊎_elim (λ (t, r, read). subst⁻¹ (λ v. ReadBack Answer (v ∷ [])) (told t r read) (one-back Answer _ (fit t r read)))
            (λ (r, e). subst⁻¹ (λ v. ReadBack Answer (v ∷ [])) (unasked r e) (question-refused-back w s q r e)) question_cases;
      }

  -- what the call returned, over a buffer with room
  module _ (b : AskBuffers) (room : T (rows_room b)) (reply : Result Asking Refusal) (contents : List ℕ) (e : reply ≡ ask_reply (ask_files w b s q)) (d : contents ≡ ask_contents (ask_files w b s q) b.contents) where
    enough : ask_files w b s q ≡ question_files w s q
    enough = ask_roomy w b s q (leb→le 10784 (length b.rows) room)

    pub class-printed : class_of reply < 1000000
    unfolding ask_reply
    class-printed =
        subst⁻¹ (λ x. class_of x < 1000000) (e ∙ ap ask_reply enough)
        (⊎_elim (λ (t, r, read). subst⁻¹ (λ j. class_of (ask_reply j) < 1000000) read.files (class_low (a t r read) (failing (a t r read) (f t r read)) (fit t r read)))
        (λ (r, e). subst⁻¹ (λ j. class_of (ask_reply j) < 1000000) e (omega arith)) question_cases)

    pub asked_line : ask_numbers reply contents ∷ [] ≡ ask_printed (question_files w s q)
    unfolding ask_reply ask_contents
    asked_line =
        ap₂ (λ x v. ask_numbers x v ∷ []) (e ∙ ap ask_reply enough) (d ∙ ap (λ j. ask_contents j b.contents) enough)
        ∙ ⊎_elim (λ (t, r, read).
        ap (λ j. ask_numbers (ask_reply j) (ask_contents j b.contents) ∷ []) read.files ∙ ap (λ v. v ∷ []) ((line t r read b room).1 ∙ sym (told t r read)))
        (λ (r, e). ap (λ j. ask_numbers (ask_reply j) (ask_contents j b.contents) ∷ []) e ∙ ap (λ v. v ∷ []) (sym (unasked r e))) question_cases

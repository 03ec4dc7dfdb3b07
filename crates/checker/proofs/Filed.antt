-- What the call on a question has read of its files, from what the readers told it.
-- Assumes nothing.
use Prim.Native.Nat.{ℕ, ◌≤◌, ◌<◌}
use mathlib.Core.List.{List}
use mathlib.Core.Path.{◌≡◌, sym, ap, ◌∙◌}
use borrow.Author.Tests.{le-leb, lt-leb}
use lib.Dec.{T}
use lib.ListN.{length}
use Rattle.refusals.specs.declared.Refusal.{Refusal}
use Rattle.refusals.specs.Judged.{Judged, refusal, ◌then◌}
use Rattle.refusals.specs.Judged.Judged.{accepted, refused}
use Rattle.refusals.proofs.Composed.{passes, fails}
use Rattle.automata.specs.WellFormed.{fits_question}
use Rattle.forms.specs.FormAutomaton.{automaton_of}
use Rattle.forms.specs.QuestionForm.{rows_of}
use Rattle.questions.specs.Question.{Rows}
use Rattle.questions.specs.QuestionReply.{reply_of, form_of}
use Rattle.std.proofs.Common.{Ok, Err}
use Rattle.opening.specs.Opening.{open_table}
use Rattle.claims.specs.Files.{with_question, question_to, question_files, AskBuffers, rows_room, ask_files}
use Rattle.claims.specs.declared.Notation.{Notation}
use Rattle.claims.proofs.Notations.{read-form}
use Rattle.claims.proofs.Meaning.{question-after, question_files_lem}

-- rows of the form u, so many
abbrev pub rows : List ℕ → ℕ → Rows
rows u n = record { form = u; count = n }

-- a question that is read after its table
pub record Questioned (w : Notation) (s q t u : List ℕ) (n : ℕ) : Type 0 where
  pub files : question_files w s q ≡ accepted (with_question t (rows u n))
  pub long : length u ≡ 96
  pub most : n ≤ 32
  pub fits : T (fits_question (automaton_of t) (rows_of u n))

module _ (w : Notation) (s q t : List ℕ) (e : open_table s ≡ accepted t) where
  abbrev outcome : Judged Rows
  outcome = question_to w (automaton_of t) q

  pub told-rows : (u v : List ℕ) (n : ℕ) → Ok n ≡ reply_of outcome → u ≡ form_of outcome v → Questioned w s q t u n
  told-rows u v n d f =
      let o : outcome ≡ accepted (rows u n) = told-form outcome d ∙ ap (λ x. accepted (rows x n)) (sym f) in
      let g = read-form w (automaton_of t) q (rows u n) o in
      record { files = question_files_lem w s q t (rows u n) e o; long = g.long; most = g.most; fits = g.fits }
    where
      told-form : (o : Judged Rows) → Ok n ≡ reply_of o → o ≡ accepted (rows (form_of o v) n)
      told-form (accepted x) b = let c : x.count ≡ n = cc in ap (λ k. accepted (rows x.form k)) c
      told-form (refused x) b = absurd cc

  pub told-question-refused : (n : Refusal) → Err n ≡ reply_of outcome → question_files w s q ≡ refused n
  told-question-refused n d = ap (λ o. o then question-after w q) e ∙ go outcome d
    where
      go : (o : Judged Rows) → Err n ≡ reply_of o → (o then (λ r. accepted (with_question t r))) ≡ refused n
      go (accepted x) b = absurd cc
      go (refused x) b = let c : x ≡ n = cc in ap refused c

pub question-table-refused : (w : Notation) (s q : List ℕ) (n : Refusal) → open_table s ≡ refused n → question_files w s q ≡ refused n
question-table-refused w s q n e = ap (λ o. o then question-after w q) e

module _ (w : Notation) (b : AskBuffers) (s q : List ℕ) where
  pub ask_roomy : 10784 ≤ length b.rows → ask_files w b s q ≡ question_files w s q
  unfolding ask_files
  ask_roomy h = passes (refusal 9 0 0) (λ ok. question_files w s q) (rows_room b) (le-leb 10784 (length b.rows) h)

  pub ask_cramped : length b.rows < 10784 → ask_files w b s q ≡ refused (refusal 9 0 0)
  unfolding ask_files
  ask_cramped h = fails (refusal 9 0 0) (λ ok. question_files w s q) (rows_room b) (lt-leb 10784 (length b.rows) h)

-- What each notation's reader gives: a question is read exactly where the bytes say one, and as what they say. Only these laws look at the notation.
-- Assumes nothing.
use Prim.Native.Nat.{ℕ, ◌≤◌}
use mathlib.Core.List.{List}
use mathlib.Core.Path.{◌≡◌, refl, sym, ap, subst, ◌∙◌}
use native.Mathlib.Omega.{arith}
use Rattle.graphs.specs.Formulas.{Formula}
use Rattle.automata.specs.Automaton.{Automaton}
use Rattle.automata.specs.Questions.{Atom, Row, question}
use Rattle.automata.specs.WellFormed.{constant_count}
use Rattle.forms.specs.FormAutomaton.{automaton_of}
use Rattle.forms.specs.QuestionForm.{rows_of}
use Rattle.refusals.specs.declared.Refusal.{Refusal}
use Rattle.refusals.specs.Judged.Judged.{accepted, refused}
use Rattle.fields.proofs.LineFiles.{Numbered}
use Rattle.questions.specs.Question.{Rows}
use Rattle.questions.proofs.Fits.{Asks, question-form}
use Rattle.questions.proofs.QuestionOutcomes.{question_numbers}
use Rattle.texts.proofs.TextMeaning.{text-read, read-text, text-refused, text-form, text_bounds}
use Rattle.opening.specs.Opening.{open_table}
use Rattle.writing.proofs.Said.{question_says, says_question}
use Rattle.claims.specs.Files.{question_to}
use Rattle.claims.specs.Demand.{QuestionSaid, QuestionRefused}
use Rattle.claims.specs.declared.Notation.{Notation}
use Rattle.claims.specs.declared.Notation.TheVariants.{Rows as in_rows, Text as in_text}

-- of a table that is opened
module _ (s t : List ℕ) (o : open_table s ≡ accepted t) where
  -- a question that is said is read
  pub said_read : (w : Notation) (q : List ℕ) (f : Formula Atom) (rs : List Row) → QuestionSaid w (automaton_of t) q f rs
      → (r : Rows) × (question_to w (automaton_of t) q ≡ accepted r) × (rows_of r.form r.count ≡ rs) × (f ≡ question rs)
  said_read in_rows q f rs (file, e) = let (r, p, d) = says_question s t q rs o file in (r, p, d, e)
  said_read in_text q f rs (x, file, e, d) =
      let (r, p, (rows, formula)) = text-read (automaton_of t) q x file in
      (r, p, rows ∙ sym d, e ∙ (sym formula ∙ ap question (rows ∙ sym d)))

  -- a question that is read is said
  pub read-said : (w : Notation) (q : List ℕ) (r : Rows) → question_to w (automaton_of t) q ≡ accepted r
      → QuestionSaid w (automaton_of t) q (question (rows_of r.form r.count)) (rows_of r.form r.count)
  read-said in_rows q r p = (question_says s t q r o p, refl)
  read-said in_text q r p = let (x, file, (rows, formula)) = read-text (automaton_of t) q r p in (x, file, formula, rows)

  -- a refusal is the one that the bytes deserve
  pub refused-said : (w : Notation) (q : List ℕ) (n : Refusal) → question_to w (automaton_of t) q ≡ refused n → QuestionRefused w (automaton_of t) q n
  refused-said in_rows q n e = e
  refused-said in_text q n e = (text-refused (automaton_of t) q n).0 e

-- the form of a question that is read
pub read-form : (w : Notation) (a : Automaton) (q : List ℕ) (r : Rows) → question_to w a q ≡ accepted r → Asks a r.form r.count
read-form in_rows a q r p = question-form a q r p
read-form in_text a q r p = text-form a q r p

-- a refusal's number is at most 12
pub refusal-low : (w : Notation) (a : Automaton) (q : List ℕ) (n : Refusal) → question_to w a q ≡ refused n → n.number ≤ 12
refusal-low in_rows a q n e =
    let h : n.number ≤ 10 = subst (Numbered (λ x. x ≤ 10)) e (question_numbers a.registers (constant_count a) a.locations q) in
    omega arith
refusal-low in_text a q n e = (text_bounds a q n e).0

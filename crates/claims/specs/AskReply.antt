-- What the call on a question answers and leaves in its buffers, for every input. This is what a reader believes.
-- Assumes nothing.
use Rattle.std.specs.Prelude.{ℕ, List, [], ◌∷◌, get_or, Result, Ok, Err}
use Rattle.std.proofs.Math.Option.{Option, none, some}
use Rattle.refusals.specs.declared.Refusal.{Refusal}
use Rattle.refusals.specs.Judged.{Judged, left, refusal_numbers}
use Rattle.refusals.specs.Judged.Judged.{accepted, refused}
use Rattle.classes.specs.Contents.{contents}
use Rattle.automata.specs.Automaton.{Automaton}
use Rattle.automata.specs.Questions.{Row, row_formulas, question}
use Rattle.automata.specs.Configurations.{classes}
use Rattle.automata.specs.Answers.{failing}
use Rattle.forms.specs.FormAutomaton.{automaton_of}
use Rattle.forms.specs.QuestionForm.{rows_of}
use Rattle.lists.specs.Arrays.{padded}
use Rattle.answers.specs.Rows.{shown}
use Rattle.claims.specs.Files.{WithQuestion, AskBuffers, ask_buffers}
use Rattle.claims.specs.declared.Asking.{Asking}
use Rattle.claims.specs.declared.Asking.TheVariants.{Yes, No}

-- the contents given back for class k of the automaton
abbrev pub class_contents : Automaton → ℕ → List ℕ
class_contents a k = contents a.constants (get_or (classes a) k [])

-- yes, or no with the smallest failing start class and how many registers its contents have
abbrev pub asked_reply : Automaton → Option ℕ → Result Asking Refusal
asked_reply a none = Ok Yes
asked_reply a (some k) = Ok (No k a.registers)

-- the contents given back for the class of a no, in five slots; else what they were
abbrev pub asked_contents : Automaton → Option ℕ → List ℕ → List ℕ
asked_contents a none v = v
asked_contents a (some k) v = padded 5 (class_contents a k)

-- the rows of the question
abbrev pub rows_in : WithQuestion → List Row
rows_in f = rows_of f.rows.form f.rows.count

-- the reply
unfoldable pub ask_reply : Judged WithQuestion → Result Asking Refusal
ask_reply (accepted f) = asked_reply (automaton_of f.table) (failing (automaton_of f.table) (question (rows_in f)))
ask_reply (refused r) = Err r

-- document 01's numbers for it
abbrev pub asked_numbers : Automaton → Option ℕ → List ℕ
asked_numbers a none = 1 ∷ []
asked_numbers a (some k) = 0 ∷ k ∷ class_contents a k

unfoldable pub ask_told : Judged WithQuestion → List ℕ
ask_told (accepted f) = asked_numbers (automaton_of f.table) (failing (automaton_of f.table) (question (rows_in f)))
ask_told (refused r) = 2 ∷ refusal_numbers r

-- the words of the question's rows; a refusal leaves them as they were
unfoldable pub ask_rows : Judged WithQuestion → List ℕ → List ℕ
ask_rows j ws = left j (λ f. shown (automaton_of f.table) (row_formulas (rows_in f)) ws) ws

-- the contents named by a no
unfoldable pub ask_contents : Judged WithQuestion → List ℕ → List ℕ
ask_contents j v = left j (λ f. asked_contents (automaton_of f.table) (failing (automaton_of f.table) (question (rows_in f))) v) v

-- both buffers at exit
abbrev pub ask_left : Judged WithQuestion → AskBuffers → AskBuffers
ask_left j b = ask_buffers (ask_rows j b.rows) (ask_contents j b.contents)

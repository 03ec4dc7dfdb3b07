-- What opening a table returns, and leaves in the lent form and labels. This is what a reader believes.
-- Assumes nothing.
use Rattle.std.specs.Prelude.{ℕ, List, ◌≡◌, replicate, Result}
use Rattle.refusals.specs.Judged.{Judged}
use Rattle.refusals.specs.Judged.Judged.{accepted, refused}
use Rattle.automata.specs.WellFormed.{constant_count}
use Rattle.forms.specs.FormAutomaton.{automaton_of}
use Rattle.lists.specs.Arrays.{written}
use Rattle.catalogue.specs.Serving.{label_rows}
use Rattle.refusals.specs.declared.Refusal.{Refusal}
use Rattle.reader.specs.TableReply.{reply_of, Holds}

-- the labels of all classes of a table, five to a class, in an array of 3,370
abbrev pub class_labels : List ℕ → List ℕ
class_labels t = written (label_rows (automaton_of t).registers (constant_count (automaton_of t))) (replicate 3370 0)

-- after a refusal nothing is said of the labels
abbrev pub Labelled : Judged (List ℕ) → List ℕ → Type 0
Labelled (accepted t) cat = cat ≡ class_labels t
Labelled (refused r) cat = Unit {0}

-- the form of a table that can be used, or its refusal, as the reply, the form and the labels say it
abbrev pub Opened : Judged (List ℕ) → Result (Unit {0}) Refusal → (form labels : List ℕ) → Type 0
Opened o reply form labels = (reply ≡ reply_of o) × Holds o form × Labelled o labels

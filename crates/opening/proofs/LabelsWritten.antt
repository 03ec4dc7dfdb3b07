-- The labels that are written out are those of the table's classes.
-- Assumes nothing.
use Prim.Native.Nat.{ℕ, ◌+◌, ◌*◌, ◌≤◌}
use mathlib.Core.List.{List}
use mathlib.Core.Path.{◌≡◌, ap, ◌∙◌}
use native.Mathlib.Omega.{arith}
use lib.ListN.{length, get_or}
use Rattle.classes.specs.Classes.{lists}
use Rattle.forms.specs.FormAutomaton.{automaton_of}
use Rattle.forms.specs.Readable.{Readable}
use Rattle.automata.specs.WellFormed.{constant_count}
use Rattle.forms.proofs.Forms.{form_limits}
use Rattle.forms.proofs.LentNumbers.{classes-few}
use Rattle.lists.specs.Arrays.{written}
use Rattle.catalogue.specs.Serving.{label_rows}
use Rattle.lists.proofs.Arrays.{begins-entry, written-begins, written-length}
use Rattle.catalogue.proofs.LabelRows.{label_rows-length, label_rows-entry}
use Rattle.forms.specs.ClassLabels.{Labels}

-- the number of registers and constants of a table that is read
pub counts-few : (t : List ℕ) → Readable t → ((automaton_of t).registers ≤ 5) × (constant_count (automaton_of t) ≤ 2)
counts-few t r = ((form_limits t r).registers, (form_limits t r).constants)

pub labels-held : (t buffer cat : List ℕ) → Readable t → length buffer ≡ 3370 → cat ≡ written (label_rows (automaton_of t).registers (constant_count (automaton_of t))) buffer
    → Labels (automaton_of t) cat
labels-held t buffer cat r room e =
    let q : ℕ = (automaton_of t).registers in
    let c : ℕ = constant_count (automaton_of t) in
    let few : q ≤ 5 = (counts-few t r).0 in
    let most : length (lists q c) ≤ 674 = classes-few t r in
    let len : length (label_rows q c) ≡ length (lists q c) * 5 = label_rows-length q c few in
    let size : length cat ≡ 3370 = ap length e ∙ written-length (label_rows q c) buffer (omega arith) ∙ room in record {
      long = omega arith;
      each = λ k i h b.
          ap (λ l. get_or l (5 * k + i) 0) e
          ∙ begins-entry (label_rows q c) (written (label_rows q c) buffer) (5 * k + i) (written-begins (label_rows q c) buffer) (omega arith)
          ∙ label_rows-entry q c few k i h b;
    }

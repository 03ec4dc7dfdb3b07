-- `opening::classes_start` meets its contract. Assumes nothing.
use mathlib.Core.Path.{◌≡◌, ap₂, ◌∙◌}
use native.Mathlib.Omega.{arith}
use borrow.Author.Rules.{rules}
use lib.ListN.{length}
use Rattle.classes.specs.Classes.{lists}
use Rattle.classes.proofs.Catalogue.{few-lists}
use Rattle.automata.specs.Configurations.{classes}
use Rattle.forms.specs.FormAutomaton.{automaton_of}
use Rattle.lists.specs.Arrays.{written}
use Rattle.catalogue.specs.Serving.{label_rows}
use Rattle.opening.proofs.LabelsWritten.{labels-held}
use Rattle.opening.proofs.classes_start.Statement.{statement}
use Rattle.opening.proofs.classes_start.Tie as tie

fill-labels-requires : tie.Need-fill_labels-requires
fill-labels-requires c κs =
    let q = c.registers-registers in
    let k = c.constants-constants in
    (q.ensures.1, k.ensures.1, omega (arith, few-lists q.result k.result q.ensures.1 k.ensures.1, c.requires.1))

class-count-requires : tie.Need-class_count-n-requires
class-count-requires c κs = (c.registers-registers.ensures.1, c.constants-constants.ensures.1)

has-start-requires : tie.Need-has_start-requires
has-start-requires c κs =
    let e = c in
    let t = e.args.form.now in
    let w = c.registers-registers.ensures.0 in
    let w₂ = c.constants-constants.ensures.0 in
    let held = c.fill_labels.ensures ∙ ap₂ (λ q k. written (label_rows q k) e.args.flat.now) w w₂ in
    let counted : c.class_count-n.result ≡ length (classes (automaton_of t)) = c.class_count-n.ensures ∙ ap₂ (λ q k. length (lists q k)) w w₂ in
    record { readable = e.requires.0; labels = labels-held t e.args.flat.now _ e.requires.0 e.requires.1 held; count = counted }

returns : tie.Need-returns
returns c =
    let e = c in
    (c.has_start.ensures, c.fill_labels.ensures ∙ ap₂ (λ q k. written (label_rows q k) e.args.flat.now) c.registers-registers.ensures.0 c.constants-constants.ensures.0)

pub classes_start_spec : {M : Type 1} → statement M
classes_start_spec =
    tie.close
    (tie.spec
    (λ c κs. search rules)
    (λ c κs. search rules)
    fill-labels-requires
    class-count-requires
    has-start-requires
    (λ c. search rules)
    returns)

-- Answers for `opening::open_table`.
use Rattle.std.proofs.Common.{rules, ◌≡◌, refl, sym, ap, ◌∙◌, length, Err}
use Rattle.automata.specs.WellFormed.{constant_count}
use Rattle.forms.specs.FormAutomaton.{automaton_of}
use Rattle.lists.specs.Arrays.{written}
use Rattle.catalogue.specs.Serving.{label_rows}
use Rattle.reader.specs.Table.{read_table}
use Rattle.reader.proofs.TableOutcomes.{told}
use Rattle.opening.proofs.Opened.{read-readable, opened, no_start, opened_told, refusal-told, not-read}
use Rattle.opening.proofs.open_table.Goals as goal

pub classes_start-requires : goal.classes_start-requires
classes_start-requires c =
    let read = told (read_table c.args.s.now) _ _ c.read_table.ensures c.in_ok-read_table.was in
    (read-readable c.args.s.now _ read, ap (λ l. length l) c.requires.1)

pub returns-in_err-read_table : goal.returns-in_err-read_table
returns-in_err-read_table c =
    let is : c.from_residual.result ≡ Err c.in_err-read_table.field-0.0 = search rules in
    refusal-told _ _ _ _ _ (not-read c.args.s.now _ _ c.read_table.ensures.0 c.in_err-read_table.was) is

pub returns-then-not-classes_start : goal.returns-then-not-classes_start
returns-then-not-classes_start c =
    let read = told (read_table c.args.s.now) _ _ c.read_table.ensures c.in_ok-read_table.was in
    refusal-told _ _ _ _ _ (no_start c.args.s.now _ read (sym c.classes_start.ensures.0 ∙ c.if-not-classes_start.true)) refl

pub returns : goal.returns
returns c =
    let read = told (read_table c.args.s.now) _ _ c.read_table.ensures c.in_ok-read_table.was in
    let t = c.read_table.new.t in
    let o = opened c.args.s.now _ read (sym c.classes_start.ensures.0 ∙ c.if-not-classes_start.false) in
    opened_told _ t _ o (c.classes_start.ensures.1 ∙ ap (written (label_rows (automaton_of t).registers (constant_count (automaton_of t)))) c.requires.1)

-- A file that is read is the one that is written of what it says (`table_canonical`, `target_canonical`): no other bytes say the same.
-- Assumes nothing.
use Prim.Native.Nat.{ℕ, ◌+◌, ◌*◌, ◌≤◌}
use mathlib.Core.Bool.{true}
use mathlib.Core.List.{List}
use mathlib.Core.Path.{◌≡◌, refl, sym, ◌∙◌, ap, subst}
use native.Mathlib.Omega.{arith}
use lib.Dec.{T, leb, le→leb}
use lib.ListN.{length}
use Rattle.refusals.specs.Judged.Judged.{accepted}
use Rattle.refusals.proofs.Composed.{then-accepted}
use Rattle.fields.specs.LineFiles.{read_file}
use Rattle.forms.specs.TableForm.{row_count, form_length, counts_row, constant_rows, transition_row, cell}
use Rattle.forms.specs.FormAutomaton.{automaton_of, target_of}
use Rattle.reader.specs.declared.Progress.{Progress}
use Rattle.reader.specs.TableRules.{kind_at, advance, further, placed, at_start, before_target, complete}
use Rattle.reader.specs.Table.{Read, table_rules, blank_form, read_form, read_table, read_target}
use Rattle.reader.proofs.Accepted.{Stands, line1, line2, line3, line4, line5, line6, line7, line8}
use Rattle.reader.proofs.Shape.{Legal, LegalTarget}
use Rattle.reader.proofs.Keeping.{Sound, HeadedBy, headed_step}
use Rattle.reader.proofs.LegalForms.{completed, blank_sound, legal-end, legal, target-legal}
use Rattle.reader.proofs.Present.{up_from-all}
use Rattle.forms.proofs.Encoding.{lines-le}
use Rattle.columns.specs.declared.Sheet.TheVariants.{Table}
use Rattle.columns.specs.Widths.{largest}
use Rattle.columns.specs.Columns.{file_bytes}
use Rattle.writing.specs.Lines.{table_lines, target_lines, table_bytes, target_bytes, issued}
use Rattle.writing.proofs.Reading.{Taken, file_written}
use Rattle.writing.proofs.FormFilling.{line_at, lines_rest, Marked, MarkedBy, Filled, blank_filled, lines-filled}
use Rattle.writing.proofs.Formed.{form-lines, target-lines}

-- before the first line
abbrev pub begun : Progress → Read
begun p = record { progress = p; form = blank_form }

-- a form that is read is written of lines that are taken
form-written : (file limit : ℕ) (p : Progress) (s t : List ℕ) → read_form file limit p s ≡ accepted t → (rs : List (List ℕ)) × (u : Read) × (s ≡ file_bytes Table rs) × Taken table_rules rs (begun p) u × (u.form ≡ t)
form-written file limit p s t e =
    let (u, read, same) = then-accepted (read_file table_rules file limit (begun p) s) (λ x. accepted x.form) t e in
    let (short, (rs, f, taken)) = file_written table_rules file u limit (begun p) s read in
    let form : u.form ≡ t = cc in
    (rs, u, f, taken, form)

-- marks by what was counted
marked_by : (q : Progress) (t : List ℕ) (x : ℕ) {ids acts actions tr : ℕ} → q.ids ≡ ids → q.acts ≡ acts → q.actions ≡ actions → q.transition ≡ tr → MarkedBy q x (cell t x 0)
    → Marked q.stage ids acts actions tr x (cell t x 0)
marked_by q t x a b c d m = rw (← a, ← b, ← c, ← d) m

-- Tables

table-end : (q : Progress) (t : List ℕ) (rs : List (List ℕ)) → Sound q t → HeadedBy q t → Filled q t rs → complete q ≡ true → rs ≡ table_lines (automaton_of t)
table-end q t rs s h g c =
    let n : Legal t = legal-end q t s h c in
    let k = completed q c in
    let o = s.counted in
    let i2 : q.ids ≡ cell t counts_row 2 = omega (arith, h.head2, o.ids_low, h.passed (omega arith)) in
    let i4 : q.acts ≡ cell t counts_row 4 = omega (arith, h.head4, o.acts_low, o.acted k.0) in
    let i5 : q.transition ≡ cell t counts_row 5 = omega (arith, h.head5, o.transition-low) in
    g.lines
    ∙ lines_rest t g.used (transition_row (cell t counts_row 5)) (omega (arith, g.bounds.transitions)) (λ x v w. g.fresh x v)
    ∙ form-lines t q.stage k.0 n (λ x. marked_by q t x i2 i4 (sym h.head4) i5 (g.marks x))

-- the lines of a table that is read are those of its automaton
pub lines-table : (rs : List (List ℕ)) (u : Read) → Taken table_rules rs (begun at_start) u → (rs ≡ table_lines (automaton_of u.form)) × (length rs ≤ row_count)
lines-table rs u taken =
    let ((s, h, g), c) = lines-filled HeadedBy (λ p f t z st q. headed_step p f t z q st) rs (begun at_start) u taken (
      blank_sound at_start (omega arith) refl refl (omega arith),
      record { head1 = refl; head2 = refl; head3 = refl; head4 = refl; head5 = refl; passed = λ z. absurd (omega arith) },
      blank_filled at_start (omega arith) (λ x. omega arith),
    ) in
    let o = s.counted in (
      table-end u.progress u.form rs s h g c,
      omega (arith, ap length g.lines, lines-le (line_at u.form) u.form 0 g.used, g.bounds.transitions, o.transition-low, o.transitions-low),
    )

pub table_canonical : (s t : List ℕ) → read_table s ≡ accepted t → s ≡ table_bytes (automaton_of t)
table_canonical s t e =
    let (rs, u, f, taken, form) = form-written 1 40000 at_start s t e in
    f ∙ ap (file_bytes Table) (lines-table rs u taken).0 ∙ ap (λ x. table_bytes (automaton_of x)) form

-- the constants of a table that is read are identifiers
pub table-issued : (s t : List ℕ) → read_table s ≡ accepted t → T (issued (automaton_of t))
unfolding automaton_of
table-issued s t e = let n = legal s t e in up_from-all (λ v. leb v largest) (λ i. cell t i 1) constant_rows (cell t counts_row 2) (λ x u v. le→leb (cell t x 1) largest (omega (arith, n.issued (6 * x + 1))))

-- Targets

-- no line but 4 and 5 was read
record Bare (ids actions transitions stage : ℕ) : Type 0 where
  ids0 : ids ≡ 0
  actions0 : actions ≡ 0
  transitions0 : transitions ≡ 0
  beyond : 3 ≤ stage

abbrev BareBy : Progress → List ℕ → Type 0
BareBy p t = Bare p.ids p.actions p.transitions p.stage

bare_step : (p : Progress) (f t : List ℕ) → length t ≡ form_length → Stands p f → BareBy p t → BareBy (further p f t) (placed p f t)
unfolding advance kind_at
bare_step p f t z (line1 k l b d e g h) s = absurd (omega (arith, s.beyond))
bare_step p f t z (line2 k g h i j) s = absurd (omega (arith, s.beyond))
bare_step p f t z (line3 k g h i j m) s = rw k (omega arith)
bare_step p f t z (line4 k h i j) s = rw k (omega arith)
bare_step p f t z (line5 k h j b d e) s = rw k (omega arith)
bare_step p f t z (line6 k h i b d e) s = rw k (omega arith)
bare_step p f t z (line7 k h j b d e) s = rw k (omega arith)
bare_step p f t z (line8 k h b d) s = rw k (omega arith)

target-end : (r c l : ℕ) (q : Progress) (u : List ℕ) (rs : List (List ℕ)) → LegalTarget r c l u → Sound q u → BareBy q u → Filled q u rs → complete q ≡ true → rs ≡ target_lines (target_of u)
target-end r c l q u rs n s h g d =
    let o = s.counted in
    let a0 : q.acts ≡ 0 = omega (arith, o.acts_low, h.actions0) in
    let t0 : q.transition ≡ 0 = omega (arith, o.transition-low, h.transitions0) in
    g.lines
    ∙ lines_rest u g.used (transition_row 0) (omega (arith, g.bounds.transitions)) (λ x v w. g.fresh x v)
    ∙ target-lines u r c l q.stage (completed q d).0 n
    (λ x. marked_by q u x h.ids0 a0 h.actions0 t0 (g.marks x))

-- the lines of a target that is read are those of what it says
pub lines-target : (r c l : ℕ) (rs : List (List ℕ)) (u : Read) → r ≤ 5 → c ≤ 2 → l ≤ 16 → Taken table_rules rs (begun (before_target r c l)) u → LegalTarget r c l u.form
    → rs ≡ target_lines (target_of u.form)
lines-target r c l rs u x y z taken n =
    let ((s, h, g), d) = lines-filled BareBy bare_step rs (begun (before_target r c l)) u taken (
      blank_sound (before_target r c l) (omega arith) refl refl (omega arith),
      record { ids0 = refl; actions0 = refl; transitions0 = refl; beyond = omega arith },
      blank_filled (before_target r c l) (omega arith) (λ x. omega arith),
    ) in
    target-end r c l u.progress u.form rs n s h g d

-- of a table with these counts
aim_canonical : (r c l : ℕ) (s u : List ℕ) → r ≤ 5 → c ≤ 2 → l ≤ 16 → read_form 2 309 (before_target r c l) s ≡ accepted u → s ≡ target_bytes (target_of u)
aim_canonical r c l s u x y z e =
    let (rs, v, f, taken, form) = form-written 2 309 (before_target r c l) s u e in
    f ∙ ap (file_bytes Table) (lines-target r c l rs v x y z taken (subst (LegalTarget r c l) (sym form) (target-legal r c l s u x y z e))) ∙ ap (λ x. target_bytes (target_of x)) form

-- of the table with the form t
pub target_canonical : (t s u : List ℕ) → Legal t → read_target t s ≡ accepted u → s ≡ target_bytes (target_of u)
target_canonical t s u n e = aim_canonical (cell t counts_row 1) (cell t counts_row 2) (cell t counts_row 3) s u n.registers n.constants n.locations.1 e

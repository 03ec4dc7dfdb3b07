-- What is written is read back: the table of every well-formed automaton within the limits (`table-written`), and every target that fits (`target-written`);
-- a constant that is too large is turned back (`constant-refused`).
-- Assumes nothing.
use Prim.Native.Nat.{ℕ, ◌+◌, ◌*◌, ◌^◌, ◌≤◌, ◌<◌}
use mathlib.Core.Bool.{true}
use mathlib.Core.List.{List, [], ◌∷◌, ◌++◌, map}
use mathlib.Core.Option.{some}
use mathlib.Core.Path.{◌≡◌, refl, sym, ap}
use native.Mathlib.Omega.{arith}
use lib.Dec.{T}
use lib.Ieee.Fits.{and_l, and_r}
use lib.ListN.{length, length-append}
use Rattle.refusals.specs.Judged.{refusal, ◌then◌}
use Rattle.refusals.specs.Judged.Judged.{accepted, refused}
use Rattle.graphs.specs.Lists.{all_of}
use Rattle.automata.specs.Automaton.{Condition, Automaton}
use Rattle.automata.specs.Runs.{Target}
use Rattle.automata.specs.WellFormed.{inside, fits_condition, fits_conditions, well_formed, limited, fits_target}
use Rattle.forms.specs.TableForm.{counts_row, cell}
use Rattle.forms.specs.FormAutomaton.{automaton_of, target_of}
use Rattle.lists.specs.Arrays.{padded}
use Rattle.reader.specs.TableRules.{kind_at, expected, at_start, before_target}
use Rattle.reader.specs.Table.{Read, table_rules, read_form, read_table, read_target}
use Rattle.reader.proofs.Shape.{Legal}
use Rattle.reader.proofs.TableOutcomes.{too_large}
use Rattle.reader.proofs.LegalForms.{target-legal}
use Rattle.forms.proofs.Forms.{constant-count}
use Rattle.columns.specs.declared.Sheet.TheVariants.{Table}
use Rattle.columns.specs.Widths.{largest}
use Rattle.columns.specs.Columns.{line_columns, file_bytes}
use Rattle.fields.specs.Format.{fields}
use Rattle.writing.specs.Lines.{condition_line, table_lines, target_lines, table_bytes, target_bytes, issued}
use Rattle.columns.proofs.Columns.{plain_length, table_most}
use Rattle.writing.proofs.FileBytes.{fields-columns}
use Rattle.writing.proofs.Accepting.{constant-written}
use Rattle.writing.proofs.Reading.{Passed, taken-short, file_read, file_refused}
use Rattle.writing.proofs.Canonical.{begun, lines-table, lines-target}
use Rattle.writing.proofs.Injective.{table_injective, target_injective}
use Rattle.writing.proofs.LinesTaken.{table_taken, target-taken}

-- an identifier is read back from the line 2 that names it
pub constant-read : (v : ℕ) → v ≤ largest → fields Table 6 (line_columns Table (2 ∷ v ∷ [])) ≡ some (2 ∷ v ∷ [])
constant-read v h = let w = constant-written v (omega arith) in fields-columns Table 6 (2 ∷ v ∷ []) w.few w.fits

-- a larger number that its columns hold is 5 at its line: behind lines rs that are accepted, where a line 2 may stand, whatever follows it
pub constant-refused : (rs : List (List ℕ)) (t : Read) (v : ℕ) (rest : List ℕ) → Passed table_rules rs (begun at_start) t → expected t.progress (kind_at t.progress 2 v) 2 ≡ true → largest < v → v < 10 ^ 12
    → let s : List ℕ = file_bytes Table rs ++ (line_columns Table (2 ∷ v ∷ []) ++ (10 ∷ rest)) in length s ≤ 40000 → read_table s ≡ refused (refusal 5 1 (length rs + 1))
unfolding padded
constant-refused rs t v rest passed e h l short =
    ap (λ o. ◌then◌ o (λ x. accepted x.form))
    (file_refused table_rules 1 t (2 ∷ v ∷ []) rest (constant-written v l) 5 (too_large t.progress v e h) (λ z. omega arith) 40000 (begun at_start) rs short passed)

-- that the file is not overlong needs no hypothesis: it has at most as many lines as a form has rows, of at most 43 bytes
pub table-written : (a : Automaton) → T (well_formed a) → T (limited a) → T (issued a) → (t : List ℕ) × (read_table (table_bytes a) ≡ accepted t) × (automaton_of t ≡ a)
table-written a wf lim six =
    let (u, taken) = table_taken a lim wf six in
    let (lines, few) = lines-table (table_lines a) u taken in
    let short : length (table_bytes a) ≤ 40000 = omega (arith, taken-short table_rules 43 (λ vs h. omega (arith, table_most vs)) (table_lines a) (begun at_start) u taken) in (
      u.form,
      ap (λ o. ◌then◌ o (λ x. accepted x.form)) (file_read table_rules 1 u 40000 (begun at_start) (table_lines a) short taken),
      sym (table_injective a (automaton_of u.form) lines),
    )

-- Targets

conditions-length : (gs : List Condition) → length (file_bytes Table (map (condition_line 5) gs)) ≡ 37 * length gs
conditions-length [] = omega arith
conditions-length (g ∷ gs) =
    omega (arith, conditions-length gs, length-append (line_columns Table (condition_line 5 g)) (10 ∷ file_bytes Table (map (condition_line 5) gs)), plain_length Table (condition_line 5 g) (λ i. refl))

target-short : (g : Target) → length g.conditions ≤ 8 → length (target_bytes g) ≤ 309
target-short g h =
    let rest : List ℕ = file_bytes Table (map (condition_line 5) g.conditions) in
    omega (arith, conditions-length g.conditions, length-append (line_columns Table (4 ∷ g.location ∷ [])) (10 ∷ rest), plain_length Table (4 ∷ g.location ∷ []) (λ i. refl))

-- of a table with these counts
pub aim_written : (r c l : ℕ) (g : Target) → r ≤ 5 → c ≤ 2 → l ≤ 16 → T (inside l g.location) → T (all_of (fits_condition c r 0) g.conditions) → length g.conditions ≤ 8
    → (u : List ℕ) × (read_form 2 309 (before_target r c l) (target_bytes g) ≡ accepted u) × (target_of u ≡ g)
aim_written r c l g x y z h k m =
    let (u, taken) = target-taken r c l g x y z h k m in
    let read : read_form 2 309 (before_target r c l) (target_bytes g) ≡ accepted u.form =
    ap (λ o. ◌then◌ o (λ x. accepted x.form)) (file_read table_rules 2 u 309 (begun (before_target r c l)) (target_lines g) (target-short g m) taken) in
    (u.form, read, sym (target_injective g (target_of u.form) (lines-target r c l (target_lines g) u x y z taken (target-legal r c l (target_bytes g) u.form x y z read))))

-- of the table with the form t
pub target-written : (t : List ℕ) (g : Target) → Legal t → T (fits_target (automaton_of t) g) → length g.conditions ≤ 8
    → (u : List ℕ) × (read_target t (target_bytes g) ≡ accepted u) × (target_of u ≡ g)
unfolding automaton_of
target-written t g n f h =
    let there = and_l (inside (cell t counts_row 3) g.location) (fits_conditions (automaton_of t) g.conditions) f in
    let fits : T (all_of (fits_condition (cell t counts_row 2) (cell t counts_row 1) 0) g.conditions) = rw (constant-count t) at (and_r (inside (cell t counts_row 3) g.location) (fits_conditions (automaton_of t) g.conditions) f) in
    aim_written (cell t counts_row 1) (cell t counts_row 2) (cell t counts_row 3) g n.registers n.constants n.locations.1 there fits h

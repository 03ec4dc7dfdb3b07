-- Exactly the files that say a table, a target or a question are read, and as what they say (`table_says`, `says_table` and so on); a file says one thing only (`one_table`).
-- Assumes nothing.
use Prim.Native.Nat.{ℕ}
use mathlib.Core.List.{List}
use mathlib.Core.Path.{◌≡◌, sym, ◌∙◌, ap, subst⁻¹}
use native.Mathlib.Omega.{arith}
use lib.Dec.{T}
use lib.Ieee.Fits.{and_l, and_r}
use Rattle.refusals.specs.Judged.Judged.{accepted}
use Rattle.graphs.proofs.Lists.{T_true}
use Rattle.automata.specs.Automaton.{Automaton}
use Rattle.automata.specs.Runs.{Target}
use Rattle.automata.specs.Questions.{Row}
use Rattle.automata.specs.WellFormed.{inside, constant_count, fits_conditions, limited}
use Rattle.forms.specs.FormAutomaton.{automaton_of, target_of}
use Rattle.forms.specs.QuestionForm.{rows_of}
use Rattle.forms.proofs.Forms.{Limits, limits}
use Rattle.reader.specs.TableRules.{before_target}
use Rattle.reader.specs.Table.{read_form, read_table, read_target}
use Rattle.reader.proofs.LegalForms.{legal}
use Rattle.reader.proofs.WellRead.{table_well_formed, target_fits}
use Rattle.questions.specs.Question.{Rows, read_question}
use Rattle.questions.proofs.Fits.{question-fits}
use Rattle.conditions.specs.Startable.{startable}
use Rattle.conditions.proofs.StartsExact.{startable-exact}
use Rattle.opening.specs.Opening.{open_table}
use Rattle.opening.proofs.Opened.{opened, opened_read, opened_readable}
use Rattle.writing.specs.Said.{TableFile, TargetFile, QuestionFile}
use Rattle.writing.proofs.Canonical.{table_canonical, table-issued, target_canonical}
use Rattle.writing.proofs.Written.{table-written, aim_written, target-written}
use Rattle.writing.proofs.WrittenQuestions.{question_canonical, question-written}

-- Tables

pub table_says : (s t : List ℕ) → open_table s ≡ accepted t → TableFile s (automaton_of t)
table_says s t e =
    let read : read_table s ≡ accepted t = opened_read s t e in
    let (fits, small) = table_well_formed s t read in
    record { written = table_canonical s t read; fits = fits; small = small; issued = table-issued s t read; start = (opened_readable s t e).1 }

pub says_table : (s : List ℕ) (a : Automaton) → TableFile s a → (t : List ℕ) × (open_table s ≡ accepted t) × (automaton_of t ≡ a)
says_table s a f =
    let (t, read, same) = table-written a f.fits f.small f.issued in
    let begins : T (startable (automaton_of t)) = subst⁻¹ (λ x. T (startable x)) same ((startable-exact a f.fits).1 f.start) in
    (t, opened s t (ap read_table f.written ∙ read) (T_true (startable (automaton_of t)) begins), same)

pub one_table : (s : List ℕ) (a b : Automaton) → TableFile s a → TableFile s b → a ≡ b
one_table s a b f g =
    let (t, read, same) = says_table s a f in
    let (u, read', same') = says_table s b g in
    let one : t ≡ u = cc in
    sym same ∙ ap automaton_of one ∙ same'

-- Targets

pub target_says : (s t g u : List ℕ) → open_table s ≡ accepted t → read_target t g ≡ accepted u → TargetFile (automaton_of t) g (target_of u)
target_says s t g u e f =
    let read : read_table s ≡ accepted t = opened_read s t e in
    let (fits, few) = target_fits s t g u read f in
    record { written = target_canonical t g u (legal s t read) f; fits = fits; few = few }

pub says_target : (s t g : List ℕ) (x : Target) → open_table s ≡ accepted t → TargetFile (automaton_of t) g x → (u : List ℕ) × (read_target t g ≡ accepted u) × (target_of u ≡ x)
says_target s t g x e f =
    let (u, read, same) = target-written t x (legal s t (opened_read s t e)) f.fits f.few in
    (u, ap (read_target t) f.written ∙ read, same)

-- a target of a table within the limits is read
aimed : (a : Automaton) → T (limited a) → (s : List ℕ) (g : Target) → TargetFile a s g
    → (u : List ℕ) × (read_form 2 309 (before_target a.registers (constant_count a) a.locations) s ≡ accepted u) × (target_of u ≡ g)
aimed a lim s g f =
    let m : Limits a = limits a lim in
    let there : T (inside a.locations g.location) = and_l (inside a.locations g.location) (fits_conditions a g.conditions) f.fits in
    let fits : T (fits_conditions a g.conditions) = and_r (inside a.locations g.location) (fits_conditions a g.conditions) f.fits in
    let (u, read, same) = aim_written a.registers (constant_count a) a.locations g m.registers m.constants m.locations.1 there fits f.few in
    (u, ap (read_form 2 309 (before_target a.registers (constant_count a) a.locations)) f.written ∙ read, same)

-- of a table within the limits: with more locations than six digits can say, two targets would have the same bytes
pub one-target : (a : Automaton) (s : List ℕ) (g h : Target) → T (limited a) → TargetFile a s g → TargetFile a s h → g ≡ h
one-target a s g h lim f k =
    let (u, read, same) = aimed a lim s g f in
    let (u', read', same') = aimed a lim s h k in
    let one : u ≡ u' = cc in
    sym same ∙ ap target_of one ∙ same'

-- Questions

pub question_says : (s t q : List ℕ) (r : Rows) → open_table s ≡ accepted t
    → read_question (automaton_of t).registers (constant_count (automaton_of t)) (automaton_of t).locations q ≡ accepted r → QuestionFile (automaton_of t) q (rows_of r.form r.count)
question_says s t q r e f =
    record { written = question_canonical (automaton_of t).registers (constant_count (automaton_of t)) (automaton_of t).locations q r f; fits = question-fits (automaton_of t) q r f }

-- a question to a table within the limits is read
asked : (a : Automaton) → T (limited a) → (q : List ℕ) (rs : List Row) → QuestionFile a q rs
    → (r : Rows) × (read_question a.registers (constant_count a) a.locations q ≡ accepted r) × (rows_of r.form r.count ≡ rs)
asked a lim q rs f =
    let m : Limits a = limits a lim in
    let (r, read, same) = question-written a (omega (arith, m.registers)) (omega (arith, m.constants)) (omega (arith, m.locations)) rs f.fits in
    (r, ap (read_question a.registers (constant_count a) a.locations) f.written ∙ read, same)

pub says_question : (s t q : List ℕ) (rs : List Row) → open_table s ≡ accepted t → QuestionFile (automaton_of t) q rs
    → (r : Rows) × (read_question (automaton_of t).registers (constant_count (automaton_of t)) (automaton_of t).locations q ≡ accepted r) × (rows_of r.form r.count ≡ rs)
says_question s t q rs e f = asked (automaton_of t) (table_says s t e).small q rs f

-- of a table within the limits
pub one-question : (a : Automaton) (s : List ℕ) (qs rs : List Row) → T (limited a) → QuestionFile a s qs → QuestionFile a s rs → qs ≡ rs
one-question a s qs rs lim f g =
    let (r, read, same) = asked a lim s qs f in
    let (r', read', same') = asked a lim s rs g in
    let one : r ≡ r' = cc in
    sym same ∙ ap (λ x. rows_of x.form x.count) one ∙ same'

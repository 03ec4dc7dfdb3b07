-- What holds of a table that is opened: it is readable, its labels are those of its classes, and it has a start; refusal 7 is right.
-- Assumes nothing.
use mathlib.Core.Bool.{Bool, true, false}
use mathlib.Core.List.{List}
use mathlib.Core.Path.{◌≡◌, refl, sym, ap, ◌∙◌, subst, subst⁻¹}
use Prim.Native.Nat.{ℕ}
use native.Mathlib.Omega.{arith}
use lib.Dec.{T}
use Rattle.refusals.specs.declared.Refusal.{Refusal}
use Rattle.refusals.specs.Judged.{Judged, refusal, ◌then◌}
use Rattle.refusals.specs.Judged.Judged.{accepted, refused}
use Rattle.refusals.proofs.Composed.{then-accepted, required, passes, fails}
use Rattle.automata.specs.Runs.{permitted}
use Rattle.forms.specs.FormAutomaton.{automaton_of}
use Rattle.forms.specs.Readable.{Readable}
use Rattle.reader.specs.Table.{read_table}
use Rattle.reader.specs.TableReply.{reply_of}
use Rattle.std.specs.Prelude.{Result, Ok, Err}
use Rattle.reader.proofs.LegalForms.{legal}
use Rattle.reader.proofs.WellRead.{table_well_formed}
use Rattle.conditions.specs.Startable.{startable}
use Rattle.conditions.proofs.StartsExact.{startable-exact}
use Rattle.opening.specs.Opening.{with_start, open_table}
use Rattle.opening.specs.OpenedLabels.{class_labels, Opened}

-- a table that is read has a readable form
pub read-readable : (s t : List ℕ) → read_table s ≡ accepted t → Readable t
read-readable s t e =
    let (fits, small) = table_well_formed s t e in
    record { long = (legal s t e).size; fits = fits; small = small }

pub opened : (s t : List ℕ) → read_table s ≡ accepted t → startable (automaton_of t) ≡ true → open_table s ≡ accepted t
unfolding open_table
opened s t e h = ap (λ j. j then with_start) e ∙ passes (refusal 7 1 0) (λ ok. accepted t) (startable (automaton_of t)) h

pub no_start : (s t : List ℕ) → read_table s ≡ accepted t → startable (automaton_of t) ≡ false → open_table s ≡ refused (refusal 7 1 0)
unfolding open_table
no_start s t e h = ap (λ j. j then with_start) e ∙ fails (refusal 7 1 0) (λ ok. accepted t) (startable (automaton_of t)) h

-- the reply, form and labels of a table that can be used, and of a refusal
pub opened_told : (o : Judged (List ℕ)) (u cat : List ℕ) → o ≡ accepted u → cat ≡ class_labels u → Opened o (Ok tt) u cat
opened_told (accepted t) u cat e l = let same : u ≡ t = cc in (refl, same, l ∙ ap class_labels same)
opened_told (refused x) u cat e l = let z : ◌≡◌ {A = ℕ} 0 1 = cc in absurd (omega arith)

pub refusal-told : (o : Judged (List ℕ)) (x : Refusal) (q : Result (Unit {0}) Refusal) (u cat : List ℕ) → o ≡ refused x → q ≡ Err x → Opened o q u cat
refusal-told (accepted t) x q u cat e d = let z : ◌≡◌ {A = ℕ} 0 1 = cc in absurd (omega arith)
refusal-told (refused y) x q u cat e d = (cc, tt, tt)

-- a reader's refusal is that of opening
pub not-read : (s : List ℕ) (q : Result (Unit {0}) Refusal) (x : Refusal) → q ≡ reply_of (read_table s) → q ≡ Err x → open_table s ≡ refused x
unfolding open_table
not-read s q x e d = go (read_table s) (sym e ∙ d)
  where
    go : (j : Judged (List ℕ)) → reply_of j ≡ Err x → (j then with_start) ≡ refused x
    go (accepted t) h = let z : ◌≡◌ {A = ℕ} 0 1 = cc in absurd (omega arith)
    go (refused n) h = cc

-- a table that is opened is one that is read, and has a start
opened_means : (s t : List ℕ) → open_table s ≡ accepted t → (read_table s ≡ accepted t) × (startable (automaton_of t) ≡ true)
unfolding open_table
opened_means s t e =
    let (u, r, d) = then-accepted (read_table s) with_start t e in
    let (h, k) = required (refusal 7 1 0) (λ ok. accepted u) (startable (automaton_of u)) t d in
    let same : u ≡ t = cc in
    (r ∙ ap accepted same, subst (λ x. startable (automaton_of x) ≡ true) same h)

pub opened_read : (s t : List ℕ) → open_table s ≡ accepted t → read_table s ≡ accepted t
opened_read s t e = (opened_means s t e).0

pub opened_readable : (s t : List ℕ) → open_table s ≡ accepted t → Readable t × ((v : List ℕ) × T (permitted (automaton_of t) v))
opened_readable s t e =
    let (r, h) = opened_means s t e in
    let readable : Readable t = read-readable s t r in
    (readable, (startable-exact (automaton_of t) readable.fits).0 (subst⁻¹ T h tt))

-- refusal 7 is right: the lines are read, and no contents meet the start conditions
pub refusal_7 : (s t : List ℕ) → read_table s ≡ accepted t → open_table s ≡ refused (refusal 7 1 0) → (v : List ℕ) → T (permitted (automaton_of t) v) → ⊥
refusal_7 s t e d v p = go (startable (automaton_of t)) refl ((startable-exact (automaton_of t) (read-readable s t e).fits).1 (v, p))
  where
    go : (b : Bool) → startable (automaton_of t) ≡ b → T b → ⊥
    go true h k = let z : accepted t ≡ refused (refusal 7 1 0) = sym (opened s t e h) ∙ d in let y : ◌≡◌ {A = ℕ} 0 1 = cc in omega arith
    go false h k = k

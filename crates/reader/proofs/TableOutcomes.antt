-- What a caller learns of the reader's reply. Assumes nothing.
use Prim.Native.Nat.{ℕ, ◌≤◌, ◌<◌}
use mathlib.Core.Bool.{true}
use mathlib.Core.List.{List, [], ◌∷◌}
use mathlib.Core.Path.{◌≡◌, refl, sym, ap}
use borrow.Author.Tests.{lt-leb}
use native.Mathlib.Omega.{arith}
use lib.Dec.{eqb}
use Rattle.refusals.specs.Judged.{Judged, ◌then◌}
use Rattle.refusals.specs.Judged.Judged.{accepted, refused}
use Rattle.refusals.specs.declared.Refusal.{Refusal}
use Rattle.columns.specs.Widths.{largest}
use Rattle.fields.specs.LineFiles.{read_file}
use Rattle.fields.specs.LinesRead.{Tells}
use Rattle.fields.proofs.LineFiles.{Numbered, file_numbers}
use Rattle.reader.specs.declared.Progress.{Progress}
use Rattle.reader.specs.declared.Kind.{Kind}
use Rattle.std.specs.Prelude.{Result, Ok, Err}
use Rattle.reader.specs.TableRules.{at, kind_at, expected, crowded, in_range, in_order, judge_values, judge_line}
use Rattle.reader.specs.Table.{Read, table_rules, blank_form, read_form}
use Rattle.reader.specs.TableReply.{Filled}
use Rattle.graphs.proofs.Lists.{cond-le}

-- a caller that is told `Ok` has the form of the table
pub told : (o : Judged (List ℕ)) (r : Result (Unit {0}) Refusal) (u : List ℕ) → Filled o r u → r ≡ Ok tt → o ≡ accepted u
told (accepted t) r u f e = ap accepted (sym f.1)
told (refused x) r u f e = let is = f.0 in let z : ◌≡◌ {A = ℕ} 0 1 = cc in absurd (omega arith)

-- what is accepted or refused, as it is filled
pub filled-accepted : (o : Judged (List ℕ)) (u : List ℕ) → o ≡ accepted u → Filled o (Ok tt) u
filled-accepted (accepted t) u e = (refl, cc)
filled-accepted (refused x) u e = let z : ◌≡◌ {A = ℕ} 0 1 = cc in absurd (omega arith)

pub filled-refused : (o : Judged (List ℕ)) (x : Refusal) (r : Result (Unit {0}) Refusal) (u : List ℕ) → o ≡ refused x → r ≡ Err x → Filled o r u
filled-refused (accepted t) x r u e d = let z : ◌≡◌ {A = ℕ} 0 1 = cc in absurd (omega arith)
filled-refused (refused y) x r u e d = (cc, tt)

-- what is told of the progress and the form is told of the form
pub filled-told : (o : Judged Read) (r : Result (Unit {0}) Refusal) (x : Read) → Tells o r x → Filled (◌then◌ o (λ y. accepted y.form)) r x.form
filled-told o (Ok u) x e = filled-accepted _ x.form (ap (λ k. ◌then◌ k (λ y. accepted y.form)) e)
filled-told o (Err z) x e = filled-refused _ z (Err z) x.form (ap (λ k. ◌then◌ k (λ y. accepted y.form)) e) refl

-- A number that is too large

-- a line 2 that may stand here and names more than the largest identifier: 5, whatever went before
pub too_large : (p : Progress) (v : ℕ) → expected p (kind_at p 2 v) 2 ≡ true → largest < v → judge_line p 2 (2 ∷ v ∷ 0 ∷ 0 ∷ 0 ∷ 0 ∷ []) ≡ 5
unfolding judge_line judge_values in_range kind_at
too_large p v e h = rw (e, lt-leb v largest h)

-- A refusal's number is one of document 01's

judge-low : (p : Progress) (n : ℕ) (f : List ℕ) → judge_line p n f ≤ 10
unfolding judge_line judge_values
judge-low p n f =
    let k : Kind = kind_at p (at f 0) (at f 1) in
    cond-le (expected p k n)
    (cond-le (crowded p k) (omega arith) (cond-le (in_range p f) (cond-le (in_order p k (at f 1)) (omega arith) (omega arith)) (cond-le (eqb (at f 0) 1) (omega arith) (omega arith))))
    (omega arith)

pub form_numbers : (file limit : ℕ) (p : Progress) (s : List ℕ) → Numbered (λ x. x ≤ 10) (read_form file limit p s)
form_numbers file limit p s =
    by (read_file table_rules file limit begun s) (file_numbers table_rules file (λ x. x ≤ 10) (omega arith) (omega arith) (λ x n f. judge-low x.progress n f) limit begun s)
  where
    begun : Read
    begun = record { progress = p; form = blank_form }

    by : (o : Judged Read) → Numbered (λ x. x ≤ 10) o → Numbered (λ x. x ≤ 10) (◌then◌ o (λ x. accepted x.form))
    by (accepted x) h = tt
    by (refused r) h = h

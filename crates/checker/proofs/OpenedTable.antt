-- What a call has of a table once `open_table` has told it the outcome.
-- Assumes nothing.
use Prim.Native.Nat.{ℕ}
use mathlib.Core.List.{List}
use mathlib.Core.Path.{◌≡◌, refl, sym, ap, ◌∙◌}
use native.Mathlib.Omega.{arith}
use lib.ListN.{length, replicate, length-replicate}
use Rattle.automata.specs.Configurations.{classes}
use Rattle.forms.specs.FormAutomaton.{automaton_of}
use Rattle.refusals.specs.declared.Refusal.{Refusal}
use Rattle.refusals.specs.Judged.{Judged}
use Rattle.refusals.specs.Judged.Judged.{accepted, refused}
use Rattle.std.proofs.Common.{Ok, Err}
use Rattle.reader.specs.TableReply.{reply_of, Holds}
use Rattle.forms.specs.Readable.{Readable}
use Rattle.catalogue.specs.Serving.{label_rows}
use Rattle.catalogue.proofs.LabelRows.{label_rows-length}
use Rattle.lists.proofs.Arrays.{written-length}
use Rattle.opening.specs.Opening.{open_table}
use Rattle.opening.specs.OpenedLabels.{class_labels, Labelled}
use Rattle.opening.proofs.Opened.{opened_readable}
use Rattle.opening.proofs.LabelsWritten.{counts-few, labels-held}
use Rattle.automata.specs.WellFormed.{constant_count}
use Rattle.forms.proofs.LentNumbers.{classes-few}
use Rattle.forms.specs.ClassLabels.{Labels, Lent}

-- the table of these bytes has the form t, and the labels of its classes are cat
pub record Opened (s t cat : List ℕ) : Type 0 where
  pub outcome : open_table s ≡ accepted t
  pub readable : Readable t
  pub lent : Lent t cat (length (classes (automaton_of t)))
  pub held : Labels (automaton_of t) cat
  pub long : length cat ≡ 3370

labels-long : (t : List ℕ) → Readable t → length (class_labels t) ≡ 3370
labels-long t r =
    let q : ℕ = (automaton_of t).registers in
    let k : ℕ = constant_count (automaton_of t) in
    let z : length (replicate {A = ℕ} 3370 0) ≡ 3370 = length-replicate {0} {A = ℕ} 3370 0 in
    written-length (label_rows q k) (replicate 3370 0) (omega (arith, label_rows-length q k (counts-few t r).0, classes-few t r, z)) ∙ z

pub told_opened : (s t cat : List ℕ) → Ok tt ≡ reply_of (open_table s) → Holds (open_table s) t → Labelled (open_table s) cat → Opened s t cat
told_opened s t cat e f l = go (open_table s) refl e f l
  where
    go : (o : Judged (List ℕ)) → open_table s ≡ o → Ok tt ≡ reply_of o → Holds o t → Labelled o cat → Opened s t cat
    go (accepted u) d a f l =
        let outcome : open_table s ≡ accepted t = d ∙ ap accepted (sym f) in
        let readable : Readable t = (opened_readable s t outcome).0 in
        let same : cat ≡ class_labels t = l ∙ ap class_labels (sym f) in
        let held : Labels (automaton_of t) cat = labels-held t (replicate 3370 0) cat readable (length-replicate {0} {A = ℕ} 3370 0) same in
        record {
          outcome = outcome;
          readable = readable;
          lent = record { readable = readable; labels = held; count = refl };
          held = held;
          long = ap length same ∙ labels-long t readable;
        }
    go (refused r) d a f l = absurd cc

-- a caller that is told a refusal has that of what was read
pub told-refused : (o : Judged (List ℕ)) (r : Refusal) → Err r ≡ reply_of o → o ≡ refused r
told-refused (accepted u) r e = absurd cc
told-refused (refused m) r e = let p : m ≡ r = cc in ap refused p

-- one that is told none has the form that was read
pub told_form : (o : Judged (List ℕ)) (u : List ℕ) → Ok tt ≡ reply_of o → Holds o u → o ≡ accepted u
told_form (accepted t) u e f = ap accepted (sym f)
told_form (refused m) u e f = absurd cc

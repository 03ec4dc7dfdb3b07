-- A refusal's number is one of documents 01's and 02's: at most 12.
-- Assumes nothing.
use Prim.Native.Nat.{ℕ, ◌≤◌}
use mathlib.Core.Bool.{Bool, true, false}
use mathlib.Core.List.{List}
use mathlib.Core.Logic.◌⊎◌.{inl, inr}
use mathlib.Core.Logic.{◌⊎◌}
use mathlib.Core.Path.{◌≡◌, ap, subst}
use native.Mathlib.Omega.{arith}
use Rattle.refusals.specs.declared.Refusal.{Refusal}
use Rattle.refusals.specs.Judged.{Judged, refusal, ◌then◌, require}
use Rattle.refusals.specs.Judged.Judged.{accepted, refused}
use Rattle.refusals.proofs.Composed.{then-refused}
use Rattle.forms.specs.FormAutomaton.{automaton_of}
use Rattle.reader.specs.Table.{read_table, read_target}
use Rattle.reader.specs.TableRules.{at_start}
use Rattle.fields.proofs.LineFiles.{Numbered}
use Rattle.reader.proofs.TableOutcomes.{form_numbers}
use Rattle.conditions.specs.Startable.{startable}
use Rattle.opening.specs.Opening.{open_table, with_start}
use Rattle.claims.specs.Files.{with_target, with_question, question_to, target_files, question_files}
use Rattle.claims.specs.declared.Notation.{Notation}
use Rattle.claims.proofs.Notations.{refusal-low}
use Rattle.claims.proofs.Meaning.{question-after}
use Rattle.checker.proofs.Targeted.{target-after}

-- of one test after another, if of each
low-then : {A B : Type 0} (j : Judged A) (next : A → Judged B) → ((r : Refusal) → j ≡ refused r → r.number ≤ 12) → ((x : A) (r : Refusal) → next x ≡ refused r → r.number ≤ 12)
    → (r : Refusal) → (j then next) ≡ refused r → r.number ≤ 12
low-then {A = A} j next f g r e = go (then-refused j next r e)
  where
    go : (j ≡ refused r) ⊎ ((x : A) × (j ≡ accepted x) × (next x ≡ refused r)) → r.number ≤ 12
    go (inl d) = f r d
    go (inr (x, d, h)) = g x r h

-- of a file that is read
low_file : {A : Type 0} (j : Judged A) → Numbered (λ x. x ≤ 10) j → (r : Refusal) → j ≡ refused r → r.number ≤ 12
low_file j h r e = let k : r.number ≤ 10 = subst (Numbered (λ x. x ≤ 10)) e h in omega arith

never : {A : Type 0} (x : A) (r : Refusal) → accepted x ≡ refused r → r.number ≤ 12
never x r e = let z : ◌≡◌ {A = ℕ} 0 1 = cc in absurd (omega arith)

start-low : (t : List ℕ) (r : Refusal) → with_start t ≡ refused r → r.number ≤ 12
start-low t = low-then (require (startable (automaton_of t)) (refusal 7 1 0)) (λ ok. accepted t) (λ r. go (startable (automaton_of t)) r) (λ ok r. never t r)
  where
    go : (b : Bool) (r : Refusal) → require b (refusal 7 1 0) ≡ refused r → r.number ≤ 12
    go true r e = never tt r e
    go false r e =
        let d : refusal 7 1 0 ≡ r = cc in
        let z : 7 ≡ r.number = ap (λ x. x.number) d in
        omega arith

open_low : (s : List ℕ) (r : Refusal) → open_table s ≡ refused r → r.number ≤ 12
unfolding open_table
open_low s = low-then (read_table s) with_start (low_file (read_table s) (form_numbers 1 40000 at_start s)) start-low

pub target_files-low : (s g : List ℕ) (r : Refusal) → target_files s g ≡ refused r → r.number ≤ 12
target_files-low s g =
    low-then (open_table s) (target-after g) (open_low s) (λ t. low-then (read_target t g) (λ u. accepted (with_target t u)) (low_file (read_target t g) (form_numbers 2 309 _ g)) (λ u r. never (with_target t u) r))

pub question_files-low : (w : Notation) (s q : List ℕ) (r : Refusal) → question_files w s q ≡ refused r → r.number ≤ 12
question_files-low w s q =
    low-then (open_table s) (question-after w q) (open_low s)
    (λ t. low-then (question_to w (automaton_of t) q) (λ x. accepted (with_question t x)) (refusal-low w (automaton_of t) q) (λ x r. never (with_question t x) r))

-- Where a refusal points to: file 1 or 2 or none, and a line that is at most one behind those that the file can have. So its numbers can be printed.
-- Assumes nothing.
use Prim.Native.Nat.{ℕ, suc, ◌+◌, ◌≤◌}
use mathlib.Core.Bool.{Bool, true, false, cond}
use mathlib.Core.List.{List, [], ◌∷◌}
use mathlib.Core.Path.{◌≡◌, refl, subst}
use native.Mathlib.Omega.{arith}
use borrow.Author.Tests.{ltb-false}
use lib.Dec.{ltb, eqb}
use lib.ListN.{length}
use Rattle.refusals.specs.declared.Refusal.{Refusal}
use Rattle.refusals.specs.Judged.{Judged, refusal, ◌then◌, require}
use Rattle.refusals.specs.Judged.Judged.{accepted, refused}
use Rattle.fields.specs.Format.{fields, onto, pieces}
use Rattle.fields.specs.LineFiles.{Rules, row_of, judge_line, read_lines, read_file}
use Rattle.automata.specs.Automaton.{Automaton}
use Rattle.automata.specs.WellFormed.{constant_count}
use Rattle.forms.specs.FormAutomaton.{automaton_of}
use Rattle.reader.specs.declared.Progress.{Progress}
use Rattle.reader.specs.Table.{Read, table_rules, blank_form, read_form, read_table, read_target}
use Rattle.reader.specs.TableRules.{at_start}
use Rattle.questions.specs.Question.{Rows, nothing_read, question_rules, counts, read_question}
use Rattle.texts.proofs.TextMeaning.{text_bounds}
use Rattle.conditions.specs.Startable.{startable}
use Rattle.opening.specs.Opening.{open_table, with_start}
use Rattle.claims.specs.declared.Notation.{Notation}
use Rattle.claims.specs.declared.Notation.TheVariants.{Rows as in_rows, Text as in_text}
use Rattle.claims.specs.Files.{target_files, question_to, question_files}

-- a refusal, if there is one, points to a file and to a line up to m
abbrev Placed : {A : Type 0} → ℕ → Judged A → Type 0
Placed m (accepted x) = Unit {0}
Placed m (refused r) = (r.file ≤ 2) × (r.line ≤ m)

placed-then : {A B : Type 0} (m : ℕ) (j : Judged A) (next : A → Judged B) → Placed m j → ((x : A) → Placed m (next x)) → Placed m (j then next)
placed-then m (accepted x) next p q = q x
placed-then m (refused r) next p q = p

-- Files of lines

pieces-few : (s : List ℕ) → length (pieces s).1 ≤ length s
pieces-few [] = omega arith
pieces-few (b ∷ s) = by (eqb b 10) (pieces-few s)
  where
    by : (k : Bool) → length (pieces s).1 ≤ length s → length (onto k b (pieces s)).1 ≤ suc (length s)
    by true h = omega arith
    by false h = omega arith

module _ {S : Type 0} (r : Rules S) (file m : ℕ) (h : file ≤ 2) where
  either : (k : Bool) (o : Judged S) (x n : ℕ) → n ≤ m → Placed m o → Placed m (cond k o (refused (refusal x file n)))
  either true o x n l p = p
  either false o x n l p = (h, l)

  lines-placed : (ls : List (List ℕ)) (n : ℕ) (s : S) (l : List ℕ) → n + suc (length ls) ≤ m → Placed m (read_lines r file n s l ls)
  lines-placed [] n s [] k = either (r.complete s) (accepted s) 2 (n + 1) (omega arith) tt
  lines-placed [] n s (b ∷ l) k = (h, omega arith)
  lines-placed (x ∷ ls) n s l k =
      let j : ℕ = judge_line (r.judge s) (fields r.sheet 6 l) in
      let next : S = r.accept s (row_of (fields r.sheet 6 l)) in
      either (eqb j 0) (read_lines r file (n + 1) next x ls) j (n + 1) (omega arith) (lines-placed ls (n + 1) next x (omega arith))

  file_placed : (limit : ℕ) (s : S) (bytes : List ℕ) → limit + 1 ≤ m → Placed m (read_file r file limit s bytes)
  unfolding read_file
  file_placed limit s bytes k = by (ltb limit (length bytes)) refl
    where
      by : (b : Bool) → ltb limit (length bytes) ≡ b → Placed m (cond b (refused (refusal 1 file 0)) (read_lines r file 0 s (pieces bytes).0 (pieces bytes).1))
      by true e = (h, omega arith)
      by false e = lines-placed (pieces bytes).1 0 s (pieces bytes).0 (omega (arith, ltb-false limit (length bytes) e, pieces-few bytes))

-- The files of a call

form-placed : (file limit : ℕ) (p : Progress) (s : List ℕ) → file ≤ 2 → limit + 1 ≤ 40001 → Placed 40001 (read_form file limit p s)
form-placed file limit p s h k =
    placed-then 40001 (read_file table_rules file limit begun s) (λ x. accepted x.form) (file_placed table_rules file 40001 h limit begun s k) (λ x. tt)
  where
    begun : Read
    begun = record { progress = p; form = blank_form }

start-placed : (t : List ℕ) → Placed 40001 (with_start t)
start-placed t = by (startable (automaton_of t))
  where
    by : (b : Bool) → Placed 40001 (require b (refusal 7 1 0) then (λ ok. accepted t))
    by true = tt
    by false = (omega arith, omega arith)

open_placed : (s : List ℕ) → Placed 40001 (open_table s)
unfolding open_table
open_placed s = placed-then 40001 (read_table s) with_start (form-placed 1 40000 at_start s (omega arith) (omega arith)) start-placed

question-placed : (w : Notation) (a : Automaton) (q : List ℕ) → Placed 40001 (question_to w a q)
unfolding read_question
question-placed in_rows a q = file_placed (question_rules (counts a.registers (constant_count a) a.locations)) 2 40001 (omega arith) 608 nothing_read q (omega arith)
question-placed in_text a q = by (question_to in_text a q) refl
  where
    by : (o : Judged Rows) → question_to in_text a q ≡ o → Placed 40001 o
    by (accepted r) e = tt
    by (refused n) e = let (x, h, k) = text_bounds a q n e in (h, omega arith)

pub target-placed : (s g : List ℕ) (r : Refusal) → target_files s g ≡ refused r → (r.file ≤ 2) × (r.line ≤ 40001)
target-placed s g r e =
    subst (Placed 40001) e
    (placed-then 40001 (open_table s) _ (open_placed s) (λ t. placed-then 40001 (read_target t g) _ (form-placed 2 309 _ g (omega arith) (omega arith)) (λ u. tt)))

pub asked_placed : (w : Notation) (s q : List ℕ) (r : Refusal) → question_files w s q ≡ refused r → (r.file ≤ 2) × (r.line ≤ 40001)
asked_placed w s q r e =
    subst (Placed 40001) e
    (placed-then 40001 (open_table s) _ (open_placed s)
    (λ t. placed-then 40001 (question_to w (automaton_of t) q) _ (question-placed w (automaton_of t) q) (λ r. tt)))

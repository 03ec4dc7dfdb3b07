-- What a caller learns of the reader's reply. Assumes nothing.
use Prim.Native.Nat.{ℕ, ◌≤◌}
use mathlib.Core.List.{List}
use mathlib.Core.Path.{◌≡◌, sym, ap}
use native.Mathlib.Omega.{arith}
use lib.Dec.{eqb}
use Rattle.refusals.specs.Judged.{Judged}
use Rattle.refusals.specs.Judged.Judged.{accepted, refused}
use Rattle.automata.specs.Questions.{Row, Use, kind_of}
use Rattle.automata.specs.Questions.Use.{location_number, register_number, constant_number, row_number, unused}
use Rattle.automata.specs.WellFormed.{inside}
use Rattle.fields.proofs.LineFiles.{Numbered, file_numbers}
use Rattle.questions.specs.declared.Counts.{Counts}
use Rattle.refusals.specs.declared.Refusal.{Refusal}
use Rattle.std.specs.Prelude.{Ok, Err}
use Rattle.questions.specs.QuestionRules.{judge_field, judge_row, row_in, judge_fields}
use Rattle.questions.specs.Question.{Rows, nothing_read, question_rules, counts, read_question}
use Rattle.questions.specs.QuestionReply.{reply_of, form_of}
use Rattle.graphs.proofs.Lists.{cond-le}

-- a caller that is told `Ok` has the form of the rows
pub accepted-rows : (o : Judged Rows) (v : List ℕ) (n : ℕ) → reply_of o ≡ Ok n → o ≡ accepted (record { form = form_of o v; count = n })
accepted-rows (accepted q) v n e = let z : q.count ≡ n = cc in λ i. accepted (record { form = q.form; count = z i })
accepted-rows (refused r) v n e = let z : ◌≡◌ {A = ℕ} 0 1 = cc in absurd (omega arith)

-- what is told of the rows is the reply and the buffer that is left, where it was v
pub told-accepted : (o : Judged Rows) (q : Rows) (v : List ℕ) → o ≡ accepted q → (Ok q.count ≡ reply_of o) × (q.form ≡ form_of o v)
told-accepted o q v e = (ap reply_of (sym e), ap (λ k. form_of k v) (sym e))

pub told-refused : (o : Judged Rows) (x : Refusal) (v : List ℕ) → o ≡ refused x → (Err x ≡ reply_of o) × (v ≡ form_of o v)
told-refused o x v e = (ap reply_of (sym e), ap (λ k. form_of k v) (sym e))

-- A refusal's number is one of document 01's

field-low : (c : Counts) (n : ℕ) (u : Use) (x : ℕ) → judge_field c n u x ≤ 10
unfolding judge_field
field-low c n location_number x = cond-le (inside c.locations x) (omega arith) (omega arith)
field-low c n register_number x = cond-le (inside c.registers x) (omega arith) (omega arith)
field-low c n constant_number x = cond-le (inside c.constants x) (omega arith) (omega arith)
field-low c n row_number x = cond-le (inside n x) (omega arith) (omega arith)
field-low c n unused x = cond-le (eqb x 0) (omega arith) (omega arith)

row_low : (c : Counts) (n : ℕ) (r : Row) → judge_row c n r ≤ 10
unfolding judge_row
row_low c n r =
    let x : ℕ = judge_field c n (kind_of r.kind).first r.first in
    let y : ℕ = judge_field c n (kind_of r.kind).second r.second in
    cond-le (inside 14 r.kind)
    (cond-le (eqb x 0) (field-low c n (kind_of r.kind).second r.second) (field-low c n (kind_of r.kind).first r.first)) (omega arith)

pub question_numbers : (registers constants locations : ℕ) (s : List ℕ) → Numbered (λ x. x ≤ 10) (read_question registers constants locations s)
unfolding read_question judge_fields
question_numbers registers constants locations s =
    file_numbers (question_rules (counts registers constants locations)) 2 (λ x. x ≤ 10) (omega arith) (omega arith)
    (λ q n f. cond-le (eqb n 3) (row_low _ q.count (row_in f)) (omega arith)) 608 nothing_read s

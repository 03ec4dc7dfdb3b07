-- What the reader returns and leaves in the lent buffer. This is what a reader believes.
-- Assumes nothing.
use Rattle.std.specs.Prelude.{ℕ, List, Result, Ok, Err}
use Rattle.refusals.specs.Judged.{Judged}
use Rattle.refusals.specs.Judged.Judged.{accepted, refused}
use Rattle.refusals.specs.declared.Refusal.{Refusal}
use Rattle.questions.specs.Question.{Rows}

abbrev pub reply_of : Judged Rows → Result ℕ Refusal
reply_of (accepted q) = Ok q.count
reply_of (refused r) = Err r

-- a refusal leaves the buffer u as it was
abbrev pub form_of : Judged Rows → List ℕ → List ℕ
form_of (accepted q) u = q.form
form_of (refused r) u = u

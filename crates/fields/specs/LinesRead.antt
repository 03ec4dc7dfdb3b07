-- What the reader of a file of lines returns and leaves, by what `LineFiles` says of the file.
-- Assumes nothing.
use Rattle.std.specs.Prelude.{ℕ, List, ◌≡◌, Result, Ok, Err}
use Rattle.refusals.specs.Judged.{Judged}
use Rattle.refusals.specs.Judged.Judged.{accepted, refused}
use Rattle.refusals.specs.declared.Refusal.{Refusal}
use Rattle.fields.specs.Format.{pieces}
use Rattle.fields.specs.LineFiles.{Rules, read_lines}

-- the lines of a file, the first at s
abbrev pub lines_from : {S : Type 0} → Rules S → ℕ → S → List ℕ → Judged S
lines_from r file s bytes = read_lines r file 0 s (pieces bytes).0 (pieces bytes).1

-- the reply, with what is read, says the judgement; after a refusal nothing is said of what is read
abbrev pub Tells : {S : Type 0} → Judged S → Result (Unit {0}) Refusal → S → Type 0
Tells o (Ok u) s = o ≡ accepted s
Tells o (Err x) s = o ≡ refused x

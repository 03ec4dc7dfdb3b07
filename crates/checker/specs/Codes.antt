-- The number that the editor receives for an answer in one bit.
-- Assumes nothing.
use Rattle.std.specs.Prelude.{ℕ, ◌+◌, Bool, true, false, Result, Ok, Err}
use Rattle.refusals.specs.declared.Refusal.{Refusal}

-- 1 for yes, 0 for no, or 100 plus the refusal's number
abbrev pub code : Result Bool Refusal → ℕ
code (Ok true) = 1
code (Ok false) = 0
code (Err r) = 100 + r.number

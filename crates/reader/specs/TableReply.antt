-- What the reader returns and leaves in the lent form. This is what a reader believes.
-- Assumes nothing.
use Rattle.std.specs.Prelude.{ℕ, List, ◌≡◌, Result, Ok, Err}
use Rattle.refusals.specs.Judged.{Judged}
use Rattle.refusals.specs.Judged.Judged.{accepted, refused}
use Rattle.refusals.specs.declared.Refusal.{Refusal}

abbrev pub reply_of : Judged (List ℕ) → Result (Unit {0}) Refusal
reply_of (accepted t) = Ok tt
reply_of (refused r) = Err r

-- the form u is the one that is read; after a refusal nothing is said of it
abbrev pub Holds : Judged (List ℕ) → List ℕ → Type 0
Holds (accepted t) u = u ≡ t
Holds (refused r) u = Unit {0}

-- what is read, or its refusal, as the reply and the lent form u say it
abbrev pub Filled : Judged (List ℕ) → Result (Unit {0}) Refusal → List ℕ → Type 0
Filled o reply u = (reply ≡ reply_of o) × Holds o u

-- The order of refusals: an input is judged by one test after the other, and the first that turns it back gives the refusal. This is what a reader believes.
-- Assumes nothing.
use Rattle.std.specs.Prelude.{ℕ, zero, suc, Bool, cond, List, [], ◌∷◌, Result, Ok, Err}
use Rattle.refusals.specs.declared.Refusal.{Refusal}

-- the refusal of this number, in this file (1 the table, 2 the other, 0 none), at this line (0: none)
abbrev pub refusal : (number file line : ℕ) → Refusal
refusal number file line = record { number = number; file = file; line = line }

-- document 01's numbers of a refusal
abbrev pub refusal_numbers : Refusal → List ℕ
refusal_numbers r = r.number ∷ r.file ∷ r.line ∷ []

-- a judgement by number, 0 where it accepts, as code returns it
abbrev pub verdict : ℕ → Result (Unit {0}) ℕ
verdict zero = Ok tt
verdict (suc n) = Err (suc n)

-- what is read from an input, or its refusal
pub data Judged (A : Type 0) : Type 0 where
  accepted : A → Judged A
  refused : Refusal → Judged A

infixl 1 ◌then◌
-- first the one, and then, where it accepts, the next, which may look at what was read
abbrev pub ◌then◌ : {A B : Type 0} → Judged A → (A → Judged B) → Judged B
◌then◌ (accepted x) next = next x
◌then◌ (refused r) next = refused r

-- a test that turns back by this refusal
abbrev pub require : Bool → Refusal → Judged (Unit {0})
require passed r = cond passed (accepted tt) (refused r)

-- what a buffer holds afterwards: a refusal leaves it as it was
abbrev pub left : {A B : Type 0} → Judged A → (A → B) → B → B
left (accepted x) write before = write x
left (refused r) write before = before

-- an answer in numbers: what f says of what was read, or the refusal's number, file and line
abbrev pub told : {A : Type 0} → (A → List ℕ) → Judged A → List ℕ
told f (accepted x) = f x
told f (refused r) = refusal_numbers r

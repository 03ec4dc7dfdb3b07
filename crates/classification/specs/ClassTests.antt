-- What the calls on contents, classes and matrices turn back, by the numbers of document 01's last table; and their replies. This is what a reader believes.
-- Assumes nothing.
use Rattle.std.specs.Prelude.{ℕ, Bool, ◌&&◌, List, [], ◌∷◌, leb, ltb, length, Result, Ok, Err}
use Rattle.std.proofs.Math.Option.{Option, none, some}
use Rattle.refusals.specs.declared.Refusal.{Refusal}
use Rattle.refusals.specs.Judged.{Judged, refusal, refusal_numbers, ◌then◌, require, left}
use Rattle.refusals.specs.Judged.Judged.{accepted, refused}
use Rattle.classes.specs.Renaming.{rising}
use Rattle.lists.specs.Arrays.{written}

-- 9: contents, a matrix or a buffer whose length does not fit; then 3: more than five registers or two constants
abbrev pub test_counts : Bool → ℕ → ℕ → Judged (Unit {0})
test_counts fits registers constants = require fits (refusal 9 0 0) then (λ ok. require (leb registers 5 && leb constants 2) (refusal 3 0 0))

-- then 4: constants that do not rise
abbrev pub test_lists : Bool → ℕ → List ℕ → Judged (Unit {0})
test_lists fits registers constants = test_counts fits registers (length constants) then (λ ok. require (rising constants) (refusal 4 0 0))

-- 5: a number that is not below the number of things
abbrev pub test_range : ℕ → ℕ → Judged (Unit {0})
test_range i count = require (ltb i count) (refusal 5 0 0)

-- 10: a matrix that no class has
abbrev pub class_found : Option (List ℕ) → Judged (List ℕ)
class_found none = refused (refusal 10 0 0)
class_found (some k) = accepted k

-- the reply of a call that asks for a number
abbrev pub number_of : Judged ℕ → Result ℕ Refusal
number_of (accepted n) = Ok n
number_of (refused r) = Err r

-- the reply of a call that writes, or only tests
abbrev pub done_of : {A : Type 0} → Judged A → Result (Unit {0}) Refusal
done_of (accepted x) = Ok tt
done_of (refused r) = Err r

-- the lent buffer afterwards: the list at its front, or, where there is a refusal, as it was
abbrev pub written_of : Judged (List ℕ) → List ℕ → List ℕ
written_of j entry = left j (λ xs. written xs entry) entry

-- document 01's numbers for each case: the number asked for, or the refusal's number, file and line
abbrev pub numbers_of : Result ℕ Refusal → List ℕ
numbers_of (Ok n) = n ∷ []
numbers_of (Err r) = refusal_numbers r

abbrev pub written_numbers : Result (Unit {0}) Refusal → List ℕ
written_numbers (Ok x) = []
written_numbers (Err r) = refusal_numbers r

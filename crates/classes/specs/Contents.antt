-- Contents of a class, found by reading its labels backwards; legal lists. How answers are found, not what they mean.
-- Assumes nothing.
use Rattle.std.specs.Prelude.{ℕ, zero, suc, ◌≤◌, max, cond, leb, ltb, length}
use mathlib.Core.List.{List, [], ◌∷◌, Memᴰ}
use Rattle.graphs.specs.Lists.{item, Dictionary}
use Rattle.classes.specs.Classes.{position, noted}

-- the identifiers that have a label, once all of ds have one
abbrev pub notes : List ℕ → List ℕ → List ℕ
notes seen [] = seen
notes seen (d ∷ ds) = notes (noted seen d) ds

-- each label is at least 1, and at most one more than the bound and the labels before it
abbrev pub Legal : ℕ → List ℕ → Type 0
Legal b [] = Unit {0}
Legal b (x ∷ xs) = (1 ≤ x) × (x ≤ suc b) × Legal (max b x) xs

-- the largest label, b at least
abbrev pub bound : ℕ → List ℕ → ℕ
bound b [] = b
bound b (x ∷ xs) = bound (max b x) xs

-- each list stands before all that follow it, in dictionary order
abbrev pub Ascending : List (List ℕ) → Type 0
Ascending [] = Unit {0}
Ascending (k ∷ ks) = ((l : List ℕ) → Memᴰ l ks → Dictionary k l) × Ascending ks

-- the smallest of i, .. , i + n - 1 that is not in seen, and i + n where all are in it
abbrev pub fresh_from : List ℕ → ℕ → ℕ → ℕ
fresh_from seen i zero = i
fresh_from seen i (suc n) = cond (ltb (position seen i) (length seen)) (fresh_from seen (suc i) n) i

-- the smallest identifier that is not in seen
abbrev pub fresh : List ℕ → ℕ
fresh seen = fresh_from seen 0 (length seen)

-- the identifier of a label: the one that has it, or else the smallest that has none
abbrev pub identifier : List ℕ → ℕ → ℕ
identifier seen x = cond (leb x (length seen)) (item seen x) (fresh seen)

-- the smallest identifiers with these labels, given the identifiers that have a label already, in label order from 1
abbrev pub identifiers : List ℕ → List ℕ → List ℕ
identifiers seen [] = []
identifiers seen (x ∷ xs) = identifier seen x ∷ identifiers (noted seen (identifier seen x)) xs

-- the contents given back for a class: constants by their labels, and block by block the smallest identifier that is no constant and not yet used
abbrev pub contents : List ℕ → List ℕ → List ℕ
contents cs k = identifiers cs k

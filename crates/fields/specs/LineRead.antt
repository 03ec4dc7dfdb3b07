-- What the reader of a line returns and leaves in a lent row, by what `Format` says of the line's bytes.
-- Assumes nothing.
use Rattle.std.specs.Prelude.{ℕ, Bool, not, ◌==◌, List, ◌∷◌, ◌≡◌, length, Some, None}
use Rattle.std.specs.Prelude as std
use Rattle.std.proofs.Math.Option.{Option, some, none}
use Rattle.lists.specs.Arrays.{padded}
use Rattle.fields.specs.Format.{pieces}

-- a file is this line, a byte 10 and this further file
abbrev pub FirstLine : (file line after : List ℕ) → Type 0
FirstLine file line after = pieces file ≡ (line, (pieces after).0 ∷ (pieces after).1)

-- a byte that is no blank
abbrev pub shown : ℕ → Bool
shown b = not (b == 32)

-- the number of a field as code returns it
abbrev pub value_of : Option ℕ → std.Option ℕ
value_of none = None
value_of (some v) = Some v

-- the number of fields of a line as code returns it
abbrev pub count_of : Option (List ℕ) → std.Option ℕ
count_of none = None
count_of (some fs) = Some (length fs)

-- the row of a line of fields holds their numbers; of any other nothing is said
abbrev pub Held : Option (List ℕ) → List ℕ → Type 0
Held none row = Unit {0}
Held (some fs) row = row ≡ padded 6 fs

-- the refusal of a line that is read, or 0
abbrev pub judge_read : (ℕ → List ℕ → ℕ) → std.Option ℕ → List ℕ → ℕ
judge_read judge (Some n) row = judge n row
judge_read judge None row = 2

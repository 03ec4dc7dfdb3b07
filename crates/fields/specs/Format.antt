-- The text of a file: lines that end with byte 10, of decimal numbers in fields of columns. This is what a reader believes.
use Rattle.std.specs.Prelude.{ℕ, zero, suc, ◌+◌, ◌*◌, ◌-◌, List, [], ◌∷◌, ◌++◌, Bool, true, false, cond, leb, eqb, length, get_or, take, drop}
use Rattle.std.proofs.Math.Option.{Option, some, none}
use Rattle.columns.specs.declared.Sheet.{Sheet}
use Rattle.columns.specs.Widths.{width}

-- what a byte of a line is
pub data Glyph : Type 0 where
  Blank : Glyph
  Digit : ℕ → Glyph
  Other : Glyph

-- byte 32 is a blank; bytes 48 to 57 are the digits 0 to 9
unfoldable pub glyph_of : ℕ → Glyph
glyph_of b = cond (eqb b 32) Blank (cond (leb 48 b) (cond (leb b 57) (Digit (b - 48)) Other) Other)

-- a further digit, after digits that make the number v: none may follow a leading zero
abbrev pub on_digit : Glyph → ℕ → (ℕ → Option ℕ) → Option ℕ
on_digit Blank v more = none
on_digit (Digit d) v more = cond (eqb v 0) none (more (v * 10 + d))
on_digit Other v more = none

-- the number that digits_from make, after digits that make the number v
abbrev pub digits_from : ℕ → List ℕ → Option ℕ
digits_from v [] = some v
digits_from v (b ∷ bs) = on_digit (glyph_of b) v (λ w. digits_from w bs)

abbrev pub on_field : Glyph → Option ℕ → (ℕ → Option ℕ) → Option ℕ
on_field Blank more first = more
on_field (Digit d) more first = first d
on_field Other more first = none

-- the number in the columns of a field: blanks, then at least one digit up to the last column
abbrev pub field : List ℕ → Option ℕ
field [] = none
field (b ∷ bs) = on_field (glyph_of b) (field bs) (λ d. digits_from d bs)

-- the number in the first w columns of a line, if it has so many
abbrev pub field_in : ℕ → List ℕ → Option ℕ
field_in w l = cond (leb w (length l)) (field (take w l)) none

-- how wide the field after the numbers fs of a line on this sheet is
abbrev pub next_width : Sheet → List ℕ → ℕ
next_width s fs = width s (get_or fs 0 0) (length fs)

-- what follows a number, if there is one
abbrev pub on_number : Option ℕ → (ℕ → Option (List ℕ)) → Option (List ℕ)
on_number none more = none
on_number (some v) more = more v

-- the first where a line has ended, else the second
abbrev pub on_rest : List ℕ → Option (List ℕ) → Option (List ℕ) → Option (List ℕ)
on_rest [] end more = end
on_rest (b ∷ l) end more = more

-- the numbers of a line, of which the numbers fs are read, with at most n fields more
abbrev pub fields_after : Sheet → List ℕ → ℕ → List ℕ → Option (List ℕ)
fields_after s fs zero l = on_rest l (some fs) none
fields_after s fs (suc n) l =
    on_rest l (some fs) (on_number (field_in (next_width s fs) l) (λ v. fields_after s (fs ++ (v ∷ [])) n (drop (next_width s fs) l)))

-- the numbers of a line of at most n fields
abbrev pub fields : Sheet → ℕ → List ℕ → Option (List ℕ)
fields s n l = fields_after s [] n l

-- a byte before these pieces of a file: a byte 10 begins a new one
abbrev pub onto : Bool → ℕ → List ℕ × List (List ℕ) → List ℕ × List (List ℕ)
onto true b s = ([], s.0 ∷ s.1)
onto false b s = (b ∷ s.0, s.1)

-- what stands before the first byte 10 of a file, and what stands between and after the others
abbrev pub pieces : List ℕ → List ℕ × List (List ℕ)
pieces [] = ([], [])
pieces (b ∷ bs) = onto (eqb b 10) b (pieces bs)

-- A file of lines, over the rules for a line: what is read from it, or its refusal, for every list of bytes. This is what a reader believes.
-- Assumes nothing.
use Rattle.std.specs.Prelude.{ℕ, ◌+◌, Bool, cond, List, [], ◌∷◌, ltb, eqb, length}
use Rattle.std.proofs.Math.Option.{Option, some, none}
use Rattle.refusals.specs.Judged.{Judged, refusal}
use Rattle.refusals.specs.Judged.Judged.{accepted, refused}
use Rattle.columns.specs.declared.Sheet.{Sheet}
use Rattle.fields.specs.Format.{fields, pieces}
use Rattle.lists.specs.Arrays.{padded}

-- the rules of a file from whose lines an S is read: how wide their fields are; the refusal, or 0, of a line of so many fields whose numbers are this
-- row; what is read after a line that is accepted; whether the file may end
pub record Rules (S : Type 0) : Type 0 where
  pub sheet : Sheet
  pub judge : S → ℕ → List ℕ → ℕ
  pub accept : S → List ℕ → S
  pub complete : S → Bool

-- the row of a line
abbrev pub row_of : Option (List ℕ) → List ℕ
row_of none = padded 6 []
row_of (some fs) = padded 6 fs

-- the refusal of what stands on a line, or 0: layout (2) before the rules
abbrev pub judge_line : (ℕ → List ℕ → ℕ) → Option (List ℕ) → ℕ
judge_line judge none = 2
judge_line judge (some fs) = judge (length fs) (padded 6 fs)

-- what follows line n, which has the refusal x, or 0
abbrev pub judged : {S : Type 0} → (file n x : ℕ) → Judged S → Judged S
judged file n x next = cond (eqb x 0) next (refused (refusal x file n))

-- the end of a file after n lines: nothing may stand after the last byte 10, and no line is missing
abbrev pub at_end : {S : Type 0} → Rules S → (file n : ℕ) → S → List ℕ → Judged S
at_end r file n s [] = cond (r.complete s) (accepted s) (refused (refusal 2 file (n + 1)))
at_end r file n s (b ∷ l) = refused (refusal 2 file (n + 1))

-- after n lines: the line l, then what stands after it, the lines ls, of which the last is not ended by a byte 10
abbrev pub read_lines : {S : Type 0} → Rules S → (file n : ℕ) → S → List ℕ → List (List ℕ) → Judged S
read_lines r file n s l [] = at_end r file n s l
read_lines r file n s l (m ∷ ls) =
    judged file (n + 1) (judge_line (r.judge s) (fields r.sheet 6 l)) (read_lines r file (n + 1) (r.accept s (row_of (fields r.sheet 6 l))) m ls)

-- a file of at most limit bytes, its lines from the top, the first at s
unfoldable pub read_file : {S : Type 0} → Rules S → (file limit : ℕ) → S → List ℕ → Judged S
read_file r file limit s bytes =
    cond (ltb limit (length bytes)) (refused (refusal 1 file 0)) (read_lines r file 0 s (pieces bytes).0 (pieces bytes).1)

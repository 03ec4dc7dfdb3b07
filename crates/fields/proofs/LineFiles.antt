-- Reading line after line gives what `LineFiles.read_file` says (`read-long`, `read-onward`, `onward-end`, `onward_open`, `onward-accepted`, `onward-refused`), and what
-- holds of every file that is accepted or refused follows from the rules for a line (`file_keeps`, `file_numbers`).
-- Assumes nothing.
use Prim.Native.Nat.{ℕ, suc, ◌+◌, ◌*◌, ◌≤◌, ◌<◌}
use native.Mathlib.Omega.{arith}
use borrow.Author.Tests.{le-ltb, lt-ltb, ltb-false, eqb-true, eq-eqb, ne_eqb}
use lib.Dec.{eqb, ltb}
use lib.ListN.{length}
use mathlib.Core.Logic.{◌≢◌}
use mathlib.Core.Path.{◌≡◌, refl, sym, ◌∙◌, ap, subst}
use mathlib.Core.List.{List, [], ◌∷◌}
use mathlib.Core.Bool.{Bool, true, false, cond}
use mathlib.Core.Option.{Option, some, none}
use Rattle.refusals.specs.Judged.{Judged, refusal, verdict}
use Rattle.refusals.proofs.Verdicts.{verdict-Ok, verdict-Err}
use Rattle.std.specs.Prelude.{Ok, Err}
use Rattle.refusals.specs.Judged.Judged.{accepted, refused}
use Rattle.refusals.specs.declared.Refusal.{Refusal}
use Rattle.lists.specs.Arrays.{padded}
use Rattle.fields.specs.Format.{fields, onto, pieces}
use Rattle.fields.specs.LineFiles.{Rules, row_of, judge_line, judged, read_lines, read_file}
use Rattle.fields.specs.LineRead.{FirstLine, count_of, Held, judge_read}
use Rattle.std.specs.Prelude as std
use Rattle.fields.proofs.Digits.{fields-least}

pub not-accepted : {A S : Type 0} (x : Refusal) (u : S) → refused x ≡ accepted u → A
not-accepted x u e = let z : ◌≡◌ {A = ℕ} 0 1 = cc in absurd (omega arith)

-- how many bytes a line and those after it have
abbrev bytes_of : List ℕ → List (List ℕ) → ℕ
bytes_of l [] = length l
bytes_of l (m ∷ ls) = length l + 1 + bytes_of m ls

bytes_cons : (b : ℕ) (l : List ℕ) (ls : List (List ℕ)) → bytes_of (b ∷ l) ls ≡ suc (bytes_of l ls)
bytes_cons b l [] = refl
bytes_cons b l (m ∷ ls) = omega arith

pieces_bytes : (s : List ℕ) → bytes_of (pieces s).0 (pieces s).1 ≡ length s
pieces_bytes [] = refl
pieces_bytes (b ∷ s) = by (eqb b 10) (pieces_bytes s)
  where
    by : (k : Bool) → bytes_of (pieces s).0 (pieces s).1 ≡ length s → bytes_of (onto k b (pieces s)).0 (onto k b (pieces s)).1 ≡ suc (length s)
    by true e = omega arith
    by false e = bytes_cons b (pieces s).0 (pieces s).1 ∙ ap suc e

-- the number of a refusal, if there is one, has the property P
abbrev pub Numbered : {S : Type 0} → (ℕ → Type 0) → Judged S → Type 0
Numbered P (accepted s) = Unit {0}
Numbered P (refused x) = P x.number

-- a line that is read is judged as the line is, and its row is the line's where it is not refused
judge-is : (judge : ℕ → List ℕ → ℕ) (o : Option (List ℕ)) (l : std.Option ℕ) (row : List ℕ) → l ≡ count_of o → Held o row → judge_read judge l row ≡ judge_line judge o
judge-is judge none l row e h = rw e
judge-is judge (some fs) l row e h = rw (e, h)

row_is : (judge : ℕ → List ℕ → ℕ) (o : Option (List ℕ)) (row : List ℕ) → Held o row → judge_line judge o ≡ 0 → row ≡ row_of o
row_is judge none row h z = absurd (omega arith)
row_is judge (some fs) row h z = h

module _ {S : Type 0} (r : Rules S) where
  module _ (file : ℕ) where
    -- Line after line, from n lines and the state s on

    abbrev pub onward : ℕ → S → List ℕ → Judged S
    onward n s bytes = read_lines r file n s (pieces bytes).0 (pieces bytes).1

    module _ (bytes : List ℕ) (limit : ℕ) (s : S) where
      pub read-long : limit < length bytes → read_file r file limit s bytes ≡ refused (refusal 1 file 0)
      unfolding read_file
      read-long h = simp (lt-ltb limit (length bytes) h)

      pub read-onward : length bytes ≤ limit → read_file r file limit s bytes ≡ onward 0 s bytes
      unfolding read_file
      read-onward h = simp (le-ltb limit (length bytes) h)

    module _ (n : ℕ) (s : S) (bytes : List ℕ) where
      -- at the end of the file
      pub onward-end : length bytes ≡ 0 → onward n s bytes ≡ cond (r.complete s) (accepted s) (refused (refusal 2 file (n + 1)))
      onward-end h = go bytes h
        where
          go : (l : List ℕ) → length l ≡ 0 → onward n s l ≡ cond (r.complete s) (accepted s) (refused (refusal 2 file (n + 1)))
          go [] h = refl
          go (b ∷ l) h = absurd (omega arith)

      -- a line that has no byte 10
      pub onward_open : length bytes ≢ 0 → pieces bytes ≡ (bytes, []) → onward n s bytes ≡ refused (refusal 2 file (n + 1))
      onward_open h e = rw e (go bytes h)
        where
          go : (l : List ℕ) → length l ≢ 0 → read_lines r file n s l [] ≡ refused (refusal 2 file (n + 1))
          go [] h = absurd (h refl)
          go (b ∷ l) h = refl

      module _ (line after : List ℕ) (is : FirstLine bytes line after) where
        -- a whole line
        pub onward-line : let o : Option (List ℕ) = fields r.sheet 6 line in
            onward n s bytes ≡ judged file (n + 1) (judge_line (r.judge s) o) (onward (n + 1) (r.accept s (row_of o)) after)
        onward-line = rw is

        -- what the code knows of it: the number l of its fields and their row as they are read, and the verdict
        module _ (l : std.Option ℕ) (row : List ℕ) (count : l ≡ count_of (fields r.sheet 6 line)) (held : Held (fields r.sheet 6 line) row) where
          judged_is : judge_read (r.judge s) l row ≡ judge_line (r.judge s) (fields r.sheet 6 line)
          judged_is = judge-is (r.judge s) (fields r.sheet 6 line) l row count held

          pub onward-accepted : (u : Unit {0}) → verdict (judge_read (r.judge s) l row) ≡ Ok u → onward n s bytes ≡ onward (n + 1) (r.accept s row) after
          onward-accepted u v =
              let o : Option (List ℕ) = fields r.sheet 6 line in
              let z : judge_line (r.judge s) o ≡ 0 = sym judged_is ∙ verdict-Ok _ u v in
              let same : row ≡ row_of o = row_is (r.judge s) o row held z in
              onward-line ∙ simp (eq-eqb (judge_line (r.judge s) o) 0 z) (ap (λ f. onward (n + 1) (r.accept s f) after) (sym same))

          pub onward-refused : (x : ℕ) → verdict (judge_read (r.judge s) l row) ≡ Err x → onward n s bytes ≡ refused (refusal x file (n + 1))
          onward-refused x v =
              let (e, z) = verdict-Err _ x v in
              onward-line ∙ rw (sym judged_is ∙ e) (simp (ne_eqb x 0 (λ k. z (e ∙ k))))

    -- Every file

    -- what every line that is accepted keeps, with the number of bytes so far, holds at the end of a file that is accepted
    module _ (limit : ℕ) (Q : ℕ → S → Type 0)
        (step : (m k : ℕ) (s : S) (fs : List ℕ) → r.judge s (length fs) (padded 6 fs) ≡ 0 → 6 * length fs ≤ k → m + (k + 1) ≤ limit → Q m s → Q (m + (k + 1)) (r.accept s (padded 6 fs)))
        (u : S) where
      abbrev Kept : Type 0
      Kept = (m : ℕ) × Q m u × (r.complete u ≡ true)

      end-keeps : (n m : ℕ) (s : S) → Q m s → (k : Bool) → r.complete s ≡ k → cond k (accepted s) (refused (refusal 2 file (n + 1))) ≡ accepted u → Kept
      end-keeps n m s q false c e = not-accepted _ u e
      end-keeps n m s q true c e = let same : s ≡ u = cc in (m, subst (Q m) same q, subst (λ (x : S). r.complete x ≡ true) same c)

      lines_keep : (ls : List (List ℕ)) (n m : ℕ) (s : S) (l : List ℕ) → Q m s → m + bytes_of l ls ≤ limit → read_lines r file n s l ls ≡ accepted u → Kept
      lines_keep [] n m s [] q h e = end-keeps n m s q (r.complete s) refl e
      lines_keep [] n m s (b ∷ l) q h e = not-accepted _ u e
      lines_keep (x ∷ ls) n m s l q h e = by (fields r.sheet 6 l) refl e (λ k t. lines_keep ls (n + 1) k t x)
        where
          by : (o : Option (List ℕ)) → fields r.sheet 6 l ≡ o → judged file (n + 1) (judge_line (r.judge s) o) (read_lines r file (n + 1) (r.accept s (row_of o)) x ls) ≡ accepted u
              → ((k : ℕ) (t : S) → Q k t → k + bytes_of x ls ≤ limit → read_lines r file (n + 1) t x ls ≡ accepted u → Kept) → Kept
          by none z e rec = not-accepted _ u e
          by (some fs) z e rec = go (eqb (r.judge s (length fs) (padded 6 fs)) 0) refl e
            where
              go : (k : Bool) → eqb (r.judge s (length fs) (padded 6 fs)) 0 ≡ k
                  → cond k (read_lines r file (n + 1) (r.accept s (padded 6 fs)) x ls) (refused (refusal (r.judge s (length fs) (padded 6 fs)) file (n + 1))) ≡ accepted u → Kept
              go false j e = not-accepted _ u e
              go true j e =
                  rec (m + (length l + 1)) (r.accept s (padded 6 fs)) (step m (length l) s fs (eqb-true _ _ j) (fields-least r.sheet 6 l fs z) (omega arith) q) (omega arith) e

      pub file_keeps : (s : S) (bytes : List ℕ) → Q 0 s → read_file r file limit s bytes ≡ accepted u → Kept
      unfolding read_file
      file_keeps s bytes q e = by (ltb limit (length bytes)) refl e
        where
          by : (k : Bool) → ltb limit (length bytes) ≡ k → cond k (refused (refusal 1 file 0)) (read_lines r file 0 s (pieces bytes).0 (pieces bytes).1) ≡ accepted u → Kept
          by true z e = not-accepted _ u e
          by false z e = lines_keep (pieces bytes).1 0 0 s (pieces bytes).0 q (omega (arith, pieces_bytes bytes, ltb-false limit (length bytes) z)) e

    -- what holds of 1, of 2 and of the refusal of every line holds of the number of every refusal
    module _ (P : ℕ → Type 0) (one : P 1) (two : P 2) (each : (s : S) (n : ℕ) (f : List ℕ) → P (r.judge s n f)) where
      either : (k : Bool) (o : Judged S) (x : Refusal) → Numbered P o → P x.number → Numbered P (cond k o (refused x))
      either true o x h p = h
      either false o x h p = p

      line-number : (s : S) (o : Option (List ℕ)) → P (judge_line (r.judge s) o)
      line-number s none = two
      line-number s (some fs) = each s (length fs) (padded 6 fs)

      lines_numbers : (ls : List (List ℕ)) (n : ℕ) (s : S) (l : List ℕ) → Numbered P (read_lines r file n s l ls)
      lines_numbers [] n s [] = either (r.complete s) (accepted s) _ tt two
      lines_numbers [] n s (b ∷ l) = two
      lines_numbers (m ∷ ls) n s l =
          either (eqb (judge_line (r.judge s) (fields r.sheet 6 l)) 0) (read_lines r file (n + 1) (r.accept s (row_of (fields r.sheet 6 l))) m ls) _
          (lines_numbers ls (n + 1) (r.accept s (row_of (fields r.sheet 6 l))) m) (line-number s (fields r.sheet 6 l))

      pub file_numbers : (limit : ℕ) (s : S) (bytes : List ℕ) → Numbered P (read_file r file limit s bytes)
      unfolding read_file
      file_numbers limit s bytes = by (ltb limit (length bytes))
        where
          by : (k : Bool) → Numbered P (cond k (refused (refusal 1 file 0)) (read_lines r file 0 s (pieces bytes).0 (pieces bytes).1))
          by true = one
          by false = lines_numbers (pieces bytes).1 0 s (pieces bytes).0

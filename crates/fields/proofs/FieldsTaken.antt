-- The loops over the bytes of a line read what `Format.fields` says of it: digits, fields, and the line field after field.
-- Assumes nothing.
use Rattle.std.proofs.Common.{◌≡◌, ◌≢◌, ◌==◌, ℕ, zero, suc, ◌+◌, ◌*◌, ◌-◌, ◌^◌, ◌≤◌, ◌<◌, Bool, true, false, cond, not, List, [], ◌∷◌, ◌++◌, length, get_or, set, take, drop, Some, None, refl, sym, ◌∙◌, ap, ap₂, add-one, one-add, arith, length-append, drop-cons}
use Rattle.std.specs.List.{position, position_or_len}
use Rattle.std.specs.Char.{IsAsciiDigit, IsNotAsciiDigit}
use Rattle.std.proofs.Math.Option.{Option, some, none}
use native.Mathlib.Nat.{pow-succ', mul_assoc, le-mul_of_pos_right, one-le-pow, mul-le-mul_left, pow-le-pow_right}
use borrow.Author.Tests.{eq-eqb, ne_eqb, le-leb, lt-leb}
use Rattle.std.proofs.lemmas.List.Quantifiers.{position-Some}
use Rattle.lists.specs.Arrays.{padded}
use Rattle.lists.proofs.Arrays.{padded_more, padded-at}
use Rattle.columns.specs.declared.Sheet.{Sheet}
use Rattle.columns.specs.Widths.{width}
use Rattle.fields.specs.Format.{glyph_of, digits_from, field, field_in, next_width, on_number, fields_after, fields}
use Rattle.fields.specs.LineRead.{shown, value_of, count_of, Held}
use Rattle.fields.proofs.LineParts.{found, found_none, glyph_other, glyph_digit, stop}

pub value_none : (o : Option ℕ) → None ≡ value_of o → o ≡ none
value_none none e = refl
value_none (some v) e = let z : ◌≡◌ {A = ℕ} 0 1 = cc in absurd (omega arith)

pub value-some : (o : Option ℕ) (v : ℕ) → Some v ≡ value_of o → o ≡ some v
value-some none v e = let z : ◌≡◌ {A = ℕ} 0 1 = cc in absurd (omega arith)
value-some (some w) v e = cc

-- what is returned of a line, and left in its row
pub read_none : (o : Option (List ℕ)) (row : List ℕ) → o ≡ none → (None ≡ count_of o) × Held o row
read_none none row e = (refl, tt)
read_none (some fs) row e = let z : ◌≡◌ {A = ℕ} 0 1 = cc in absurd (omega arith)

pub read_some : (o : Option (List ℕ)) (row fs : List ℕ) (n : ℕ) → o ≡ some fs → n ≡ length fs → row ≡ padded 6 fs → (Some n ≡ count_of o) × Held o row
read_some none row fs n e c h = let z : ◌≡◌ {A = ℕ} 0 1 = cc in absurd (omega arith)
read_some (some gs) row fs n e c h = let same : fs ≡ gs = cc in (ap Some (c ∙ ap (λ l. length l) same), h ∙ ap (padded 6) same)

-- Digits

-- v is below some m that, with n digits more, has at most twelve digits
pub record Room (v n : ℕ) : Type 0 where
  pub most : ℕ
  pub below : v < most
  pub fits : most * 10 ^ n ≤ 10 ^ 12

pub room-first : (d n : ℕ) → d ≤ 9 → n ≤ 11 → Room d n
room-first d n h k = record { most = 10; below = omega arith; fits = mul-le-mul_left 10 (pow-le-pow_right {n = 10} (omega arith) {i = n} {j = 11} k) }

pub room_more : (v d n m : ℕ) → d ≤ 9 → n ≡ suc m → Room v n → Room (v * 10 + d) m
room_more v d n m h k r =
    let e : r.most * 10 ^ n ≡ r.most * 10 * 10 ^ m = ap (λ x. r.most * 10 ^ x) k ∙ ap (λ x. r.most * x) (pow-succ' 10 m) ∙ sym (mul_assoc r.most 10 (10 ^ m)) in
    record { most = r.most * 10; below = omega (arith, r.below); fits = omega (arith, r.fits) }

pub room-value : (v n : ℕ) → Room v n → v < 10 ^ 12
room-value v n r =
    let l : r.most ≤ r.most * 10 ^ n = le-mul_of_pos_right r.most (one-le-pow n 10 (omega arith)) in
    omega (arith, r.below, r.fits)

module _ (s : List ℕ) (i : ℕ) (h : i < length s) where
  here : drop i s ≡ get_or s i 0 ∷ drop (i + 1) s
  here = drop-cons s i 0 h ∙ ap (λ m. get_or s i 0 ∷ drop m s) (sym (add-one i))

  -- no digit
  pub digits_stop : (v : ℕ) → IsNotAsciiDigit (get_or s i 0) → digits_from v (drop i s) ≡ none
  digits_stop v n = rw here (stop (get_or s i 0) v (λ w. digits_from w (drop (i + 1) s)) n)

  pub digits-zero : (v : ℕ) → IsAsciiDigit (get_or s i 0) → v ≡ 0 → digits_from v (drop i s) ≡ none
  digits-zero v d z = rw (here, glyph_digit (get_or s i 0) d, eq-eqb v 0 z)

  pub digits-next : (v : ℕ) → IsAsciiDigit (get_or s i 0) → v ≢ 0 → digits_from v (drop i s) ≡ digits_from (v * 10 + (get_or s i 0 - 48)) (drop (i + 1) s)
  digits-next v d z = rw (here, glyph_digit (get_or s i 0) d, ne_eqb v 0 z)

-- for a goal that is found without its name: an edit of the test for a leading zero changes that
pub ruleset leading_zero = (digits-zero)

-- Fields

-- a field begins at its first byte that is no blank
field_from : (l : List ℕ) → position_or_len shown l < length l → field l ≡ field (drop (position_or_len shown l) l)
unfolding glyph_of
field_from [] h = absurd (omega arith)
field_from (b ∷ l) h = by (b == 32) refl h (field_from l)
  where
    by : (k : Bool) → b == 32 ≡ k → cond (not (not k)) (1 + position_or_len shown l) 0 < suc (length l) → (position_or_len shown l < length l → field l ≡ field (drop (position_or_len shown l) l))
        → field (b ∷ l) ≡ field (drop (cond (not (not k)) (1 + position_or_len shown l) 0) (b ∷ l))
    by true e h rec = rw (e, one-add) (rec (omega arith))
    by false e h rec = refl

all_blank : (l : List ℕ) → length l ≤ position_or_len shown l → field l ≡ none
unfolding glyph_of
all_blank [] h = refl
all_blank (b ∷ l) h = by (b == 32) refl h (all_blank l)
  where
    by : (k : Bool) → b == 32 ≡ k → suc (length l) ≤ cond (not (not k)) (1 + position_or_len shown l) 0 → (length l ≤ position_or_len shown l → field l ≡ none) → field (b ∷ l) ≡ none
    by true e h rec = rw e (rec (omega arith))
    by false e h rec = absurd (omega arith)

pub field_blank : (l : List ℕ) → position shown l ≡ None → field l ≡ none
field_blank l e = all_blank l (found_none shown l e)

module _ (l : List ℕ) (n : ℕ) (e : position shown l ≡ Some n) where
  pub field-begins : field l ≡ field (get_or l n 0 ∷ drop (n + 1) l)
  field-begins =
      let (h, at) = found shown l n e in
      field_from l (omega arith) ∙ ap (λ m. field (drop m l)) at ∙ ap field (here l n h)

  pub begins : (n < length l) × (get_or l n 0 ≢ 32)
  begins =
      let (h, passes, before) = position-Some shown l n 0 e in
      (h, λ z. let f : shown (get_or l n 0) ≡ false = rw z refl in let w : true ≡ false = sym passes ∙ f in absurd cc)

pub field_other : (b : ℕ) (l : List ℕ) → IsNotAsciiDigit b → b ≢ 32 → field (b ∷ l) ≡ none
field_other b l h e = rw (glyph_other b h e)

pub field-digit : (b : ℕ) (l : List ℕ) → IsAsciiDigit b → field (b ∷ l) ≡ digits_from (b - 48) l
field-digit b l d = rw (glyph_digit b d)

-- Lines

-- the fields of a line up to `rest` are read to the row
pub record Taken (sheet : Sheet) (line row rest : List ℕ) (count : ℕ) : Type 0 where
  pub numbers : List ℕ
  pub row_is : row ≡ padded 6 numbers
  pub count-is : count ≡ length numbers
  pub few : count ≤ 6
  pub rest-is : fields_after sheet numbers (6 - count) rest ≡ fields sheet 6 line

pub taken-first : (sheet : Sheet) (line row : List ℕ) → row ≡ padded 6 [] → Taken sheet line row line 0
taken-first sheet line row e = record { numbers = []; row_is = e; count-is = refl; few = omega arith; rest-is = refl }

-- a line that goes on, after the numbers fs: with no further field, and with one
goes_on : (sheet : Sheet) (fs l : List ℕ) → 0 < length l → fields_after sheet fs 0 l ≡ none
goes_on sheet fs [] h = absurd (omega arith)
goes_on sheet fs (b ∷ l) h = refl

one_more : (sheet : Sheet) (fs l : List ℕ) (n w : ℕ) → 0 < length l → w ≡ next_width sheet fs
    → fields_after sheet fs (suc n) l ≡ on_number (field_in w l) (λ v. fields_after sheet (fs ++ (v ∷ [])) n (drop w l))
one_more sheet fs [] n w h e = absurd (omega arith)
one_more sheet fs (b ∷ l) n w h e = rw e

module _ (sheet : Sheet) (line row rest : List ℕ) (count : ℕ) (t : Taken sheet line row rest count) where
  pub taken-end : length rest ≡ 0 → (fields sheet 6 line ≡ some t.numbers) × (count ≡ length t.numbers) × (row ≡ padded 6 t.numbers)
  taken-end h = (sym t.rest-is ∙ by (6 - count) rest h, t.count-is, t.row_is)
    where
      by : (n : ℕ) (l : List ℕ) → length l ≡ 0 → fields_after sheet t.numbers n l ≡ some t.numbers
      by zero [] h = refl
      by (suc n) [] h = refl
      by n (b ∷ l) h = absurd (omega arith)

  module _ (h : 0 < length rest) where
    pub taken_full : 6 ≤ count → fields sheet 6 line ≡ none
    taken_full l = let e : 6 - count ≡ 0 = omega arith in sym t.rest-is ∙ rw e (goes_on sheet t.numbers rest h)

    module _ (l : count < 6) (w : ℕ) (v : w ≡ width sheet (get_or row 0 0) count) where
      more : ℕ → Option (List ℕ)
      more x = fields_after sheet (t.numbers ++ (x ∷ [])) (6 - (count + 1)) (drop w rest)

      next-is : on_number (field_in w rest) more ≡ fields sheet 6 line
      unfolding more
      next-is =
          let e : 6 - count ≡ suc (6 - (count + 1)) = omega arith in
          let w_is : w ≡ next_width sheet t.numbers =
          v ∙ ap₂ (λ x n. width sheet x n) (ap (λ r. get_or r 0 0) t.row_is ∙ padded-at 6 t.numbers 0 (omega arith)) t.count-is in
          sym (one_more sheet t.numbers rest (6 - (count + 1)) w h w_is) ∙ sym (ap (λ n. fields_after sheet t.numbers n rest) e) ∙ t.rest-is

      pub taken-short : length rest < w → fields sheet 6 line ≡ none
      taken-short m =
          let none_is : field_in w rest ≡ none = simp (lt-leb w (length rest) m) in
          sym next-is ∙ ap (λ o. on_number o more) none_is

      module _ (m : w ≤ length rest) where
        whole : field_in w rest ≡ field (take w rest)
        whole = simp (le-leb w (length rest) m)

        pub taken_missing : field (take w rest) ≡ none → fields sheet 6 line ≡ none
        taken_missing e = sym next-is ∙ ap (λ o. on_number o more) (whole ∙ e)

        pub taken_next : (x : ℕ) → field (take w rest) ≡ some x → Taken sheet line (set row count x) (drop w rest) (count + 1)
        unfolding more
        taken_next x e = record {
          numbers = t.numbers ++ (x ∷ []);
          row_is = ap₂ (λ r n. set r n x) t.row_is t.count-is ∙ padded_more 6 t.numbers x (omega (arith, t.count-is));
          count-is = omega (arith, t.count-is, length-append t.numbers (x ∷ []));
          few = omega arith;
          rest-is = sym (ap (λ o. on_number o more) (whole ∙ e)) ∙ next-is;
        }

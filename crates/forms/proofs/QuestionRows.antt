-- The rows of a question in its flat form: what one row more changes, and each row by itself.
-- Assumes nothing.
use Prim.Native.Nat.{ℕ, zero, suc, ◌+◌, ◌*◌, ◌<◌}
use mathlib.Core.List.{List, [], ◌∷◌, ◌++◌, map, map-append}
use mathlib.Core.Logic.{◌≢◌}
use mathlib.Core.Path.{◌≡◌, refl, sym, ap, ◌∙◌, subst}
use native.Mathlib.Omega.{arith}
use lib.Dec.{T}
use lib.Ieee.Fits.{and_l, and_r}
use lib.ListN.{length, get_or}
use Rattle.lists.proofs.Arrays.{length-filled, filled_at, filled-kept}
use Rattle.graphs.specs.Lists.{up_from}
use Rattle.graphs.proofs.Lists.{up_from-append, up_from_agree, up_from_values, up_from-value}
use Rattle.automata.specs.Automaton.{Automaton}
use Rattle.automata.specs.Questions.{Row, row}
use Rattle.automata.specs.WellFormed.{inside, fits_row, fits_rows, fits_question}
use Rattle.forms.specs.QuestionForm.{question_length, numbers_of, put, row_at, rows_of}

-- The form

-- the form has all numbers of row n
abbrev pub HasRow : List ℕ → ℕ → Type 0
HasRow t n = 3 * n + 2 < length t

pub has-row : (t : List ℕ) (n : ℕ) → length t ≡ question_length → n < 32 → HasRow t n
has-row t n e h = omega arith

row_made : (t : List ℕ) (i : ℕ) (f : ℕ → ℕ) → ((j : ℕ) → j < 3 → get_or t (3 * i + j) 0 ≡ f j) → row_at t i ≡ row (f 0) (f 1) (f 2)
row_made t i f h =
    let z : 3 * i ≡ 3 * i + 0 = omega arith in
    let k : get_or t (3 * i) 0 ≡ f 0 = rw z (h 0 (omega arith)) in
    let a = h 1 (omega arith) in
    let b = h 2 (omega arith) in
    λ l. row (k l) (a l) (b l)

module _ (t : List ℕ) (n : ℕ) (r : Row) where
  pub put-length : length (put t n r) ≡ length t
  unfolding put
  put-length = length-filled t (3 * n) _ 3

  put-kept : (i : ℕ) → i ≢ n → row_at (put t n r) i ≡ row_at t i
  unfolding put
  put-kept i d =
      let f : ℕ → ℕ = λ j. get_or t (3 * i + j) 0 in
      row_made (put t n r) i f (λ j h. filled-kept t 3 n _ i j d h) ∙ sym (row_made t i f (λ j h. refl))

  put-at : HasRow t n → row_at (put t n r) n ≡ r
  unfolding put
  put-at h = row_made (put t n r) n (λ j. get_or (numbers_of r) j 0) (λ j k. filled_at t (3 * n) _ 3 j (omega arith) k)

pub rows-length : (t : List ℕ) (n : ℕ) → length (rows_of t n) ≡ n
rows-length t n = up_from_values (row_at t) 0 n

pub rows_more : (t : List ℕ) (n : ℕ) → rows_of t (n + 1) ≡ rows_of t n ++ (row_at t n ∷ [])
rows_more t n =
    let z : 0 + n ≡ n = omega arith in
    ap (map (row_at t)) (sym (up_from-append 0 n 1)) ∙ map-append (row_at t) (up_from 0 n) (up_from (0 + n) 1) ∙ rw z

pub rows-put : (t : List ℕ) (n : ℕ) (r : Row) → HasRow t n → rows_of (put t n r) (n + 1) ≡ rows_of t n ++ (r ∷ [])
rows-put t n r h =
    rows_more (put t n r) n ∙ cc (up_from_agree (row_at (put t n r)) (row_at t) 0 n (λ j k l. put-kept t n r j (omega arith)), put-at t n r h)

-- The rows of a form, one by one

pub rows_at : (t : List ℕ) (n i : ℕ) (d : Row) → i < n → get_or (rows_of t n) i d ≡ row_at t i
rows_at t n i d h = up_from-value (row_at t) n i d h

fits-at : (a : Automaton) (k : ℕ) (rs : List Row) (i : ℕ) (d : Row) → i < length rs → T (fits_rows a k rs) → T (fits_row a (k + i) (get_or rs i d))
fits-at a k [] i d h f = absurd (omega arith)
fits-at a k (r ∷ rs) zero d h f = let z : k + 0 ≡ k = omega arith in rw z (and_l (fits_row a k r) (fits_rows a (suc k) rs) f)
fits-at a k (r ∷ rs) (suc i) d h f =
    let z : k + suc i ≡ suc k + i = omega arith in
    rw z (fits-at a (suc k) rs i d (omega arith) (and_r (fits_row a k r) (fits_rows a (suc k) rs) f))

-- row i of a question fits the table, after i rows
pub row_fits : (a : Automaton) (t : List ℕ) (n i : ℕ) → T (fits_question a (rows_of t n)) → i < n → T (fits_row a i (row_at t i))
row_fits a t n i f h =
    let l : i < length (rows_of t n) = omega (arith, rows-length t n) in
    let z : 0 + i ≡ i = omega arith in
    let g : T (fits_row a (0 + i) (get_or (rows_of t n) i (row_at t i))) = fits-at a 0 (rows_of t n) i (row_at t i) l (and_r (inside 32 (length (rows_of t n))) (fits_rows a 0 (rows_of t n)) f) in
    subst (λ (r : Row). T (fits_row a i r)) (rows_at t n i (row_at t i) h) (rw z at g)

-- The rows of a table's form: a line that is written changes its own row only.
-- Assumes nothing.
use Prim.Native.Nat.{ℕ, ◌+◌, ◌*◌, ◌<◌}
use mathlib.Core.List.{List, [], ◌∷◌}
use mathlib.Core.Logic.{◌≢◌}
use mathlib.Core.Path.{◌≡◌, sym, subst}
use native.Mathlib.Omega.{arith}
use lib.ListN.{length, get_or, length-replicate}
use Rattle.lists.proofs.Arrays.{length-filled, filled_at, filled-kept, filled-each, zeros_at}
use Rattle.graphs.proofs.Lists.{up_from_agree}
use Rattle.forms.specs.TableForm.{row_count, form_length, cell, put, without}

-- the form has all numbers of the row
abbrev pub InForm : List ℕ → ℕ → Type 0
InForm t row = 6 * row + 5 < length t

pub in_form : (t : List ℕ) (row : ℕ) → length t ≡ form_length → row < row_count → InForm t row
in_form t row e h = omega arith

-- the six numbers of a row
abbrev pub row_at : List ℕ → ℕ → List ℕ
row_at t x = cell t x 0 ∷ cell t x 1 ∷ cell t x 2 ∷ cell t x 3 ∷ cell t x 4 ∷ cell t x 5 ∷ []

-- six numbers of a list
abbrev pub six : List ℕ → List ℕ
six f = get_or f 0 0 ∷ get_or f 1 0 ∷ get_or f 2 0 ∷ get_or f 3 0 ∷ get_or f 4 0 ∷ get_or f 5 0 ∷ []

-- a form with no lines
pub length_without : (n : ℕ) → length (without n) ≡ 6 * n
length_without n = length-replicate {A = ℕ} (6 * n) 0

pub cell-without : (n row column : ℕ) → cell (without n) row column ≡ 0
cell-without n row column = zeros_at (6 * n) (6 * row + column)

-- Writing a row

module _ (t : List ℕ) (row : ℕ) (f : List ℕ) where
  pub length-put : length (put t row f) ≡ length t
  unfolding put
  length-put = length-filled t (6 * row) _ 6

  pub cell-kept : (x j : ℕ) → x ≢ row → j < 6 → cell (put t row f) x j ≡ cell t x j
  unfolding put
  cell-kept x j h k = filled-kept t 6 row _ x j h k

  pub cell-put : (j : ℕ) → InForm t row → j < 6 → cell (put t row f) row j ≡ get_or f j 0
  unfolding put
  cell-put j h k = filled_at t (6 * row) _ 6 j (omega arith) k

  -- what stands in the row is what was written
  pub written : InForm t row → (P : List ℕ → Type 0) → P (six f) → P (row_at (put t row f) row)
  written h P = subst P (up_from_agree (λ j. get_or f j 0) (cell (put t row f) row) 0 6 (λ j k l. sym (cell-put j h (omega arith))))

  -- numbers below m
  pub low-put : {m : ℕ} → ((j : ℕ) → get_or f j 0 < m) → ((j : ℕ) → get_or t j 0 < m) → (j : ℕ) → get_or (put t row f) j 0 < m
  unfolding put
  low-put {m} h l = filled-each (λ x. x < m) t (6 * row) (λ j. get_or f j 0) 6 (λ j k. h j) l

-- what is known of another row stays known
pub kept : (P : List ℕ → Type 0) (t : List ℕ) (row : ℕ) (f : List ℕ) (x : ℕ) → x ≢ row → P (row_at t x) → P (row_at (put t row f) x)
kept P t row f x h = subst P (up_from_agree (cell t x) (cell (put t row f) x) 0 6 (λ j k l. sym (cell-kept t row f x j h (omega arith))))

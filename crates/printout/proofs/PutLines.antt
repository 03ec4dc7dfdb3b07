-- Bytes in a text, one after another, and how long the lines of a sheet are.
-- Assumes nothing.
use Prim.Native.Nat.{ℕ, zero, suc, ◌+◌, ◌*◌, ◌≤◌, ◌<◌}
use mathlib.Core.Bool.{cond, ◌&&◌, and-false}
use mathlib.Core.List.{List, [], ◌∷◌, ◌++◌, append_assoc}
use mathlib.Core.Path.{◌≡◌, refl, sym, ap, ◌∙◌}
use borrow.Author.Tests.{lt-leb}
use native.Mathlib.Omega.{arith}
use lib.Dec.{eqb}
use lib.ListN.{length, get_or, set, take, drop, length-append}
use lib.Seq.{sets, length-sets, sets-eq, take_at}
use Rattle.columns.specs.declared.Sheet.{Sheet}
use Rattle.columns.specs.declared.Sheet.TheVariants.{Run, Answer, Plain}
use Rattle.columns.specs.Widths.{width}
use Rattle.columns.specs.Columns.{column, columns, line_columns, file_bytes}
use Rattle.columns.proofs.Columns.{sets-append, column-length, columns_most, width_is}
use Rattle.printout.specs.Text.{Put}

-- Bytes

-- no byte
pub put-none : (at : ℕ) (t : List ℕ) → Put [] at at t t
put-none at t = record { ends = omega arith; text = refl }

-- bytes, and then more
pub put_more : (xs ys : List ℕ) (at mid end : ℕ) (a b c : List ℕ) → Put xs at mid a b → Put ys mid end b c → Put (xs ++ ys) at end a c
put_more xs ys at mid end a b c p q =
    record {
      ends = omega (arith, p.ends, q.ends, length-append xs ys);
      text = q.text ∙ ap (λ n. sets b n ys) p.ends ∙ ap (λ t. sets t (at + length xs) ys) p.text ∙ sym (sets-append xs ys a at);
    }

-- the columns of a line, and the byte at its end
pub put_ended : (xs : List ℕ) (at end : ℕ) (a b : List ℕ) → end ≡ at + length xs → b ≡ sets a at xs → Put (xs ++ (10 ∷ [])) at (end + 1) a (set b end 10)
put_ended xs at end a b h e =
    record {
      ends = omega (arith, length-append xs (10 ∷ []));
      text = ap (λ m. set b m 10) h ∙ ap (λ t. set t (at + length xs) 10) e ∙ sym (sets-append xs (10 ∷ []) a at);
    }

-- a text has its length still
pub put-length : (xs : List ℕ) (at end : ℕ) (a b : List ℕ) → Put xs at end a b → length b ≡ length a
put-length xs at end a b p = ap length p.text ∙ length-sets a at xs

-- bytes at the front are the front
pub put_front : (xs : List ℕ) (n : ℕ) (a b : List ℕ) → Put xs 0 n a b → n ≤ length b → take n b ≡ xs
put_front xs n a b p h =
    let m : length xs ≡ n = omega (arith, p.ends) in
    let room : 0 + length xs ≤ length a = omega (arith, put-length xs 0 n a b p) in
    ap (take n) (p.text ∙ sets-eq xs a 0 room) ∙ take_at xs (drop (0 + length xs) a) n m

-- Lines

pub file_append : (s : Sheet) (ls ms : List (List ℕ)) → file_bytes s (ls ++ ms) ≡ file_bytes s ls ++ file_bytes s ms
file_append s [] ms = refl
file_append s (vs ∷ ls) ms = ap (λ x. line_columns s vs ++ (10 ∷ x)) (file_append s ls ms) ∙ sym (append_assoc (line_columns s vs) (10 ∷ file_bytes s ls) (file_bytes s ms))

pub line-length : (s : Sheet) (vs : List ℕ) → length (file_bytes s (vs ∷ [])) ≡ length (line_columns s vs) + 1
line-length s vs = length-append (line_columns s vs) (10 ∷ [])

-- n numbers of six columns from number i on, and at most m more
columns-few : (w : ℕ → ℕ) → ((i : ℕ) → (6 ≤ w i) × (w i ≤ 12)) → (m i n : ℕ) (vs : List ℕ) → ((j : ℕ) → j < n → w (i + j) ≡ 6) → length vs ≤ n + m → length (columns w i vs) ≤ 6 * n + 12 * m
columns-few w is m i zero vs six h = omega (arith, columns_most w is i vs)
columns-few w is m i (suc n) [] six h = omega arith
columns-few w is m i (suc n) (v ∷ vs) six h =
    let rest : length (columns w (suc i) vs) ≤ 6 * n + 12 * m =
    columns-few w is m (suc i) n vs (λ j l. let e : suc i + j ≡ i + suc j = omega arith in ap w e ∙ six (suc j) (omega arith)) (omega arith) in
    let first : w i ≡ 6 = let e : i ≡ i + 0 = omega arith in ap w e ∙ six 0 (omega arith) in
    omega (arith, length-append (column (w i) v) (columns w (suc i) vs), column-length (w i) v)

-- a line on which n numbers stand in front of the identifiers, with at most m of these
line-few : (s : Sheet) (n m : ℕ) → ((k i : ℕ) → i < n → width s k i ≡ 6) → (vs : List ℕ) → length vs ≤ n + m → length (file_bytes s (vs ∷ [])) ≤ 6 * n + 12 * m + 1
line-few s n m six vs h =
    let k : ℕ = get_or vs 0 0 in
    omega (arith, line-length s vs, columns-few (width s k) (width_is s k) m 0 n vs (λ j l. let e : 0 + j ≡ j = omega arith in ap (width s k) e ∙ six k j l) h)

-- the answer to a target, a moment of a run, the answer to a question
pub plain_few : (vs : List ℕ) → length vs ≤ 4 → length (file_bytes Plain (vs ∷ [])) ≤ 25
unfolding width
plain_few vs h = line-few Plain 4 0 (λ k i l. refl) vs h

pub run-few : (vs : List ℕ) → length vs ≤ 11 → length (file_bytes Run (vs ∷ [])) ≤ 115
unfolding width
run-few vs h = line-few Run 3 8 (λ k i l. ap (λ b. cond b 12 6) (lt-leb 3 i l)) vs h

pub answer-few : (vs : List ℕ) → length vs ≤ 7 → length (file_bytes Answer (vs ∷ [])) ≤ 73
unfolding width
answer-few vs h = line-few Answer 2 5 (λ k i l. ap (λ b. cond (eqb k 0 && b) 12 6) (lt-leb 2 i l) ∙ ap (λ b. cond b 12 6) (and-false (eqb k 0))) vs h

-- whatever the four numbers are, they have room where 73 bytes have
pub answer_four : (x y z u t : ℕ) → 73 ≤ t → 0 + length (file_bytes Answer ((x ∷ y ∷ z ∷ u ∷ []) ∷ [])) ≤ t
answer_four x y z u t h = omega (arith, answer-few (x ∷ y ∷ z ∷ u ∷ []) (omega arith))

-- one number that is no identifier
pub one-length : (v : ℕ) → length (file_bytes Plain ((v ∷ []) ∷ [])) ≡ 7
unfolding width
one-length v = refl

-- Two valuations have equal matrices exactly where they are of one class (source 001, Proposition 4),
-- and a matrix is that of a valuation exactly where it is that of a legal list (001, Lemma 3).
-- Assumes nothing.
use Prim.Native.Nat.{ℕ, suc, ◌+◌, ◌≤◌, ◌<◌}
use mathlib.Core.Bool.{cond}
use mathlib.Core.List.{flat_map, List, [], ◌∷◌, ◌++◌, map}
use mathlib.Core.Logic.{◌≢◌, ◌↔◌, by_cases}
use mathlib.Core.Option.{Option, none, some}
use mathlib.Core.Path.{◌≡◌, refl, sym, ap, ◌∙◌}
use native.Mathlib.Decide.{ℕ_discrete, dec_lt}
use native.Mathlib.Omega.{arith}
use borrow.Author.Tests.{eq-eqb, ne_eqb, lt-ltb, le-ltb}
use lib.Dec.{eqb, ltb}
use lib.ListN.{length, get_or, length-map}
use Rattle.graphs.specs.Lists.{up_from, eq_list, table}
use Rattle.graphs.proofs.Lists.{eq_list→eq, eq_list_refl, table-get_or, First, first-is}
use Rattle.classes.specs.Renaming.{Renaming, rename, SameClass, Distinct}
use Rattle.classes.specs.Classes.{position, noted, labels, lists}
use Rattle.classes.specs.Contents.{Legal}
use Rattle.classes.specs.Matrix.{cell, matrix, class_matrix}
use Rattle.classes.specs.MatrixClasses.{class_of_matrix, ClassAnswer}
use Rattle.classes.proofs.Renamings.{eqb_renamed}
use Rattle.classes.proofs.Labels.{position-cons-same, position-cons_other, position-le, position_renamed, noted_old, noted_new, same_class, labels-class}
use Rattle.classes.proofs.Legal.{noted-length, labels_length, labels-legal, legal-labels, to-labels, from-labels}
use Rattle.classes.proofs.Catalogue.{mem-lists, lists-mem}

-- One class, one matrix

table_renamed : (π : Renaming) (cs xs ys : List ℕ) → table (cell (rename π cs)) (rename π xs) (rename π ys) ≡ table (cell cs) xs ys
unfolding flat_map
table_renamed π cs [] ys = refl
table_renamed π cs (x ∷ xs) ys = cc (row ys, table_renamed π cs xs ys)
  where
    entry : (y : ℕ) → cell (rename π cs) (π.to x) (π.to y) ≡ cell cs x y
    entry y = rw (eqb_renamed π x y, position_renamed π cs x, length-map cs π.to)

    row : (ys : List ℕ) → map (cell (rename π cs) (π.to x)) (rename π ys) ≡ map (cell cs x) ys
    row [] = refl
    row (y ∷ ys) = cc (entry y, row ys)

pub matrix_renamed : (π : Renaming) (cs v : List ℕ) → matrix (rename π cs) (rename π v) ≡ matrix cs v
matrix_renamed π cs v = table_renamed π cs v v

-- the matrix of a valuation is that of its class
pub matrix-labels : (cs v : List ℕ) → Distinct cs → class_matrix (length cs) (labels cs v) ≡ matrix cs v
matrix-labels cs v d = let (π, c, r) = to-labels cs v d in cc (matrix_renamed π cs v)

-- What an entry says

module _ (cs : List ℕ) where
  pub cell_other : (x y : ℕ) → x ≢ y → cell cs x y ≡ 0
  cell_other x y n = rw (ne_eqb x y n)

  cell_old : (x y : ℕ) → x ≡ y → position cs x < length cs → cell cs x y ≡ suc (suc (position cs x))
  cell_old x y e h = rw (eq-eqb x y e, lt-ltb (position cs x) (length cs) h)

  cell_new : (x y : ℕ) → x ≡ y → length cs ≤ position cs x → cell cs x y ≡ 1
  cell_new x y e h = rw (eq-eqb x y e, le-ltb (position cs x) (length cs) h)

  cell_same : (x y : ℕ) → x ≡ y → 1 ≤ cell cs x y
  cell_same x y e = by_cases (dec_lt (position cs x) (length cs)) (λ h. omega (arith, cell_old x y e h)) (λ h. omega (arith, cell_new x y e (omega arith)))

  cell_eqb : (x y x' y' : ℕ) → cell cs x y ≡ cell cs x' y' → eqb x y ≡ eqb x' y'
  cell_eqb x y x' y' e =
      by_cases (ℕ_discrete x y)
      (λ p. by_cases (ℕ_discrete x' y') (λ q. eq-eqb x y p ∙ sym (eq-eqb x' y' q)) (λ q. absurd (omega (arith, cell_same x y p, cell_other x' y' q))))
      (λ p. by_cases (ℕ_discrete x' y') (λ q. absurd (omega (arith, cell_other x y p, cell_same x' y' q))) (λ q. ne_eqb x y p ∙ sym (ne_eqb x' y' q)))

  cell-position : (x x' : ℕ) → cell cs x x ≡ cell cs x' x' → position cs x ≡ position cs x'
  cell-position x x' e =
      by_cases (dec_lt (position cs x) (length cs))
      (λ h. by_cases (dec_lt (position cs x') (length cs))
      (λ k. omega (arith, cell_old x x refl h, cell_old x' x' refl k))
      (λ k. absurd (omega (arith, cell_old x x refl h, cell_new x' x' refl (omega arith)))))
      (λ h. by_cases (dec_lt (position cs x') (length cs))
      (λ k. absurd (omega (arith, cell_new x x refl (omega arith), cell_old x' x' refl k)))
      (λ k. omega (arith, position-le cs x, position-le cs x')))

-- Labels are determined by the positions among the constants, and by which registers are equal

position-left : (seen more : List ℕ) (e : ℕ) → position seen e < length seen → position (seen ++ more) e ≡ position seen e
position-left [] more e h = absurd (omega arith)
position-left (x ∷ seen) more e h = by_cases (ℕ_discrete x e)
    (λ p. position-cons-same x e (seen ++ more) p ∙ sym (position-cons-same x e seen p))
    (λ n. let o = position-cons_other x e seen n in
    position-cons_other x e (seen ++ more) n ∙ ap suc (position-left seen more e (omega arith)) ∙ sym o)

position_last : (seen : List ℕ) (d e : ℕ) → length seen ≤ position seen e → position (seen ++ (d ∷ [])) e ≡ length seen + cond (eqb d e) 0 1
position_last [] d e h = omega arith
position_last (x ∷ seen) d e h =
    let n : x ≢ e = λ p. omega (arith, position-cons-same x e seen p) in
    let o = position-cons_other x e seen n in
    omega (arith, position-cons_other x e (seen ++ (d ∷ [])) n, position_last seen d e (omega arith))

position-noted : (seen : List ℕ) (d e : ℕ) → position (noted seen d) e
    ≡ cond (ltb (position seen e) (length seen)) (position seen e) (cond (ltb (position seen d) (length seen)) (length seen) (length seen + cond (eqb d e) 0 1))
position-noted seen d e =
    by_cases (dec_lt (position seen e) (length seen))
    (λ h. by_cases (dec_lt (position seen d) (length seen))
    (λ k. rw (noted_old seen d k, lt-ltb (position seen e) (length seen) h))
    (λ k. rw (noted_new seen d (omega arith), lt-ltb (position seen e) (length seen) h) (position-left seen (d ∷ []) e h)))
    (λ h. by_cases (dec_lt (position seen d) (length seen))
    (λ k. rw (noted_old seen d k, le-ltb (position seen e) (length seen) (omega arith), lt-ltb (position seen d) (length seen) k) (omega (arith, position-le seen e)))
    (λ k. rw (noted_new seen d (omega arith), le-ltb (position seen e) (length seen) (omega arith), le-ltb (position seen d) (length seen) (omega arith)) (position_last seen d e (omega arith))))

-- entries at one index have the same position among those seen, and the same pairs of entries are equal
abbrev Alike : List ℕ → List ℕ → List ℕ → List ℕ → Type 0
Alike s s' u v = ((i : ℕ) → i < length u → position s (get_or u i 0) ≡ position s' (get_or v i 0))
    × ((i j : ℕ) → i < length u → j < length u → eqb (get_or u i 0) (get_or u j 0) ≡ eqb (get_or v i 0) (get_or v j 0))

labels-alike : (s s' u v : List ℕ) → length s ≡ length s' → length u ≡ length v → Alike s s' u v → labels s u ≡ labels s' v
labels-alike s s' [] [] l n a = refl
labels-alike s s' [] (y ∷ v) l n a = absurd (omega arith)
labels-alike s s' (x ∷ u) [] l n a = absurd (omega arith)
labels-alike s s' (x ∷ u) (y ∷ v) l n (p, q) =
    let here : position s x ≡ position s' y = p 0 (omega arith) in
    cc (
      here,
      labels-alike (noted s x) (noted s' y) u v (omega (arith, noted-length s x, noted-length s' y)) (omega arith) (
        (λ i h. cc (here, position-noted s x (get_or u i 0), position-noted s' y (get_or v i 0), p (suc i) (omega arith), q 0 (suc i) (omega arith) (omega arith))),
        (λ i j h h'. q (suc i) (suc j) (omega arith) (omega arith)),
      ),
    )

-- source 001, Proposition 4
pub matrix-class : (cs u v : List ℕ) → length u ≡ length v → (matrix cs u ≡ matrix cs v) ↔ SameClass cs u v
matrix-class cs u v n = (
  (λ e.
      let at : (i j : ℕ) → i < length u → j < length u → cell cs (get_or u i 0) (get_or u j 0) ≡ cell cs (get_or v i 0) (get_or v j 0) = λ i j h h'.
      cc (table-get_or (cell cs) u u i j 0 0 0 h h', table-get_or (cell cs) v v i j 0 0 0 (omega arith) (omega arith)) in
      same_class cs u v (labels-alike cs cs u v refl n (
        (λ i h. cell-position cs (get_or u i 0) (get_or v i 0) (at i i h h)),
        (λ i j h h'. cell_eqb cs (get_or u i 0) (get_or u j 0) (get_or v i 0) (get_or v j 0) (at i j h h')),
      ))),
  λ (π, fixed, turned). sym (matrix_renamed π cs u) ∙ cc,
)

-- legal lists with equal matrices are equal
pub matrix-legal_unique : (b : ℕ) (k l : List ℕ) → Legal b k → Legal b l → length k ≡ length l → class_matrix b k ≡ class_matrix b l → k ≡ l
matrix-legal_unique b k l hk hl n e =
    cc ((labels-class (up_from 1 b) k l).1 ((matrix-class (up_from 1 b) k l n).0 e), legal-labels b k hk, legal-labels b l hl)

-- source 001, Lemma 3
pub matrix-legal : (cs : List ℕ) (n : ℕ) (m : List ℕ) → Distinct cs
    → ((v : List ℕ) × (length v ≡ n) × (matrix cs v ≡ m)) ↔ ((k : List ℕ) × Legal (length cs) k × (length k ≡ n) × (class_matrix (length cs) k ≡ m))
matrix-legal cs n m d = (
  (λ (v, w, e). (labels cs v, labels-legal cs v, labels_length cs v ∙ w, matrix-labels cs v d ∙ e)),
  (λ (k, l, w, e).
      let (v, f, w') = from-labels cs k d l in
      (v, w' ∙ w, sym (matrix-labels cs v d) ∙ ap (class_matrix (length cs)) f ∙ e)),
)

pub class_of-matrix : (cs : List ℕ) (n : ℕ) (m : List ℕ) → Distinct cs → ClassAnswer cs n m (class_of_matrix n (length cs) m)
class_of-matrix cs n m d = step (class_of_matrix n (length cs) m) (first-is (λ k. eq_list (class_matrix (length cs) k) m) (lists n (length cs)))
  where
    step : (o : Option (List ℕ)) → First (λ k. eq_list (class_matrix (length cs) k) m) (lists n (length cs)) o → ClassAnswer cs n m o
    step none h = λ v w e.
        let len : length (labels cs v) ≡ n = labels_length cs v ∙ w in
        let same : class_matrix (length cs) (labels cs v) ≡ m = matrix-labels cs v d ∙ e in
        h (labels cs v) (rw (← len) (mem-lists (length cs) (labels cs v) (labels-legal cs v))) (rw same (eq_list_refl m))
    step (some k) (mem, t) =
        let (legal, len) = lists-mem n (length cs) k mem in
        let own : class_matrix (length cs) k ≡ m = eq_list→eq (class_matrix (length cs) k) m t in (
          legal,
          len,
          λ v w. (
            (λ e. matrix-legal_unique (length cs) (labels cs v) k (labels-legal cs v) legal (labels_length cs v ∙ w ∙ sym len) (matrix-labels cs v d ∙ e ∙ sym own)),
            (λ e. sym (matrix-labels cs v d) ∙ ap (class_matrix (length cs)) e ∙ own),
          ),
        )

-- a legal list that has the matrix is the answer
pub class_of-matrix-is : (n b : ℕ) (m k : List ℕ) → Legal b k → length k ≡ n → class_matrix b k ≡ m → class_of_matrix n b m ≡ some k
class_of-matrix-is n b m k legal len e = step (class_of_matrix n b m) (first-is (λ l. eq_list (class_matrix b l) m) (lists n b))
  where
    step : (o : Option (List ℕ)) → First (λ l. eq_list (class_matrix b l) m) (lists n b) o → o ≡ some k
    step none h = absurd (h k (rw (← len) (mem-lists b k legal)) (rw e (eq_list_refl m)))
    step (some l) (mem, t) =
        let (legal', len') = lists-mem n b l mem in
        ap some (matrix-legal_unique b l k legal' legal (len' ∙ sym len) (eq_list→eq (class_matrix b l) m t ∙ sym e))

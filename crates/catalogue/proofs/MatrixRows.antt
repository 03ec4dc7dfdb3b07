-- The matrix of a valuation, row by row, and the valuation that is made from a matrix.
-- Assumes nothing.
use Prim.Native.Nat.{ℕ, zero, suc, ◌+◌, ◌*◌, ◌-◌, ◌≤◌, ◌<◌}
use mathlib.Core.Bool.{Bool, false, cond, not}
use mathlib.Core.List.{List, [], ◌∷◌, map, flat_map, Memᴰ}
use mathlib.Core.Logic.{◌≢◌, by_cases}
use mathlib.Core.Option.{Option, none, some}
use mathlib.Core.Path.{◌≡◌, refl, sym, ap, ap₂, ◌∙◌, subst, subst⁻¹}
use native.Mathlib.Decide.{ℕ_discrete, dec_le, dec_lt}
use native.Mathlib.Nat.{mul-le-mul_right}
use native.Mathlib.Omega.{arith}
use borrow.Author.Tests.{eq-eqb, ne_eqb, lt-ltb, le-ltb, le-leb, lt-leb}
use lib.Dec.{T, eqb, leb}
use lib.ListN.{length, get_or, take, drop, length-map, length-drop}
use lib.Seq.{take-length, paste, length-take-le, get_or-take, get_or-drop, take_all, take_at, ext_get_or}
use Rattle.std.specs.Prelude.{Some, None, unwrap_or}
use Rattle.std.specs.List.{position_or_len}
use Rattle.std.specs.List as std_list
use Rattle.std.proofs.lemmas.List.Sums.{prefix_len-le-length, fails_before_first, passes_at_first}
use Rattle.graphs.specs.Lists.{up_from, eq_list, table}
use Rattle.graphs.proofs.Lists.{eq_list→eq, eq_list_refl, get_d_map, table-length, table-get_or, up_from-length, entry-below, First, first-is, up_from-value, up_from_values}
use Rattle.classes.specs.Classes.{position, labels, lists, index}
use Rattle.classes.specs.Contents.{Legal}
use Rattle.classes.specs.Matrix.{cell, matrix, class_matrix}
use Rattle.classes.specs.MatrixClasses.{class_of_matrix}
use Rattle.classes.proofs.Catalogue.{lists-mem}
use Rattle.classes.proofs.Labels.{position-cons-same, position-cons_other, position-found}
use Rattle.classes.proofs.Legal.{labels_length, labels-legal, up_from-distinct, up_from-position}
use Rattle.classes.proofs.Matrices.{matrix-labels, class_of-matrix-is, cell_other}
use Rattle.lists.specs.Arrays.{padded, written}
use Rattle.lists.proofs.Searches.{first_agree, first_range, first_unique}
use Rattle.labelling.proofs.Noted.{marks-take}
use Rattle.labelling.proofs.NotedTurns.{is_at, position_first}
use Rattle.catalogue.specs.MatrixCells.{found, is_equal, first_equal, register_of, valuation_of}
use Rattle.catalogue.proofs.Copying.{flat_row, overlay, overlay_row, padded_front}
use Rattle.classes.proofs.GivenBack.{legal-low}

-- The entries of a row

module _ (cs : List ℕ) where
  pub own-constant : (x : ℕ) → position cs x < length cs → cell cs x x ≡ position cs x + 2
  own-constant x h = rw (eq-eqb x x refl, lt-ltb (position cs x) (length cs) h) (omega arith)

  pub own_other : (x : ℕ) → length cs ≤ position cs x → cell cs x x ≡ 1
  own_other x h = rw (eq-eqb x x refl, le-ltb (position cs x) (length cs) h)

  own_positive : (x : ℕ) → 1 ≤ cell cs x x
  own_positive x = by_cases (dec_lt (position cs x) (length cs)) (λ h. omega (arith, own-constant x h)) (λ h. omega (arith, own_other x (omega arith)))

  -- an entry from the one on the diagonal
  pub cells_own : (x : ℕ) (v : List ℕ) → map (λ y. cond (eqb x y) (cell cs x x) 0) v ≡ map (cell cs x) v
  cells_own x [] = refl
  cells_own x (y ∷ v) = ap₂ ◌∷◌ (rw (eq-eqb x x refl)) (cells_own x v)

  -- an entry is 0 where the two differ
  cell-equal : (x y : ℕ) → not (eqb (cell cs x y) 0) ≡ eqb y x
  cell-equal x y = by_cases (ℕ_discrete y x)
      (λ e. ap not (ne_eqb (cell cs x y) 0 (λ z. omega (arith, own_positive x, ap (cell cs x) e))) ∙ sym (eq-eqb y x e))
      (λ n. ap not (eq-eqb (cell cs x y) 0 (cell_other cs x y (λ e. n (sym e)))) ∙ sym (ne_eqb y x n))

  module _ (v : List ℕ) where
    pub matrix-length : length (matrix cs v) ≡ length v * length v
    matrix-length = table-length (cell cs) v v

    matrix-row : (i : ℕ) → i < length v → take (length v) (drop (i * length v) (matrix cs v)) ≡ map (cell cs (get_or v i 0)) v
    matrix-row i h = flat_row (λ x. map (cell cs x) v) (length v) v 0 (λ x m. length-map v (cell cs x)) i h

    -- the entries say which register is the first equal one
    first-equal-row : (i : ℕ) → i < length v → first_equal (matrix cs v) (i * length v) (length v) ≡ position v (get_or v i 0)
    first-equal-row i h =
        first_agree (is_equal (matrix cs v) (i * length v)) (is_at v (get_or v i 0)) 0 (length v)
        (λ j l k. ap (λ y. not (eqb y 0)) (table-get_or (cell cs) v v i j 0 0 0 h (omega arith)) ∙ cell-equal (get_or v i 0) (get_or v j 0))
        ∙ position_first v (length v) (get_or v i 0) (omega arith) ∙ ap (λ u. position u (get_or v i 0)) (take-length v)

    -- one row more
    pub matrix_more : (r : ℕ) (buffer : List ℕ) (i : ℕ) → length v ≡ r → i < r → r * r ≤ length buffer
        → paste (overlay (matrix cs v) buffer (i * r)) (i * r) (map (cell cs (get_or v i 0)) v) r ≡ overlay (matrix cs v) buffer ((i + 1) * r)
    matrix_more r buffer i e h room =
        let next : i * r + r ≡ (i + 1) * r = omega arith in
        let full : length (matrix cs v) ≡ r * r = matrix-length ∙ ap₂ ◌*◌ e e in
        let row : take r (drop (i * r) (matrix cs v)) ≡ map (cell cs (get_or v i 0)) v = subst (λ w. take w (drop (i * w) (matrix cs v)) ≡ map (cell cs (get_or v i 0)) v) e (matrix-row i (omega arith)) in
        let below : i * r + 0 < r * r = entry-below r r i 0 h (omega arith) in
        overlay_row (matrix cs v) buffer (i * r) r (map (cell cs (get_or v i 0)) v) (omega arith) (omega arith)
        (take_all r (map (cell cs (get_or v i 0)) v) (omega (arith, length-map v (cell cs (get_or v i 0)))) ∙ sym row)
        ∙ ap (overlay (matrix cs v) buffer) next

-- the first entry that is not 0, as `position` finds it
module _ (m : List ℕ) (at n : ℕ) (h : at + n ≤ length m) where
  not_zero : ℕ → Bool
  not_zero x = not (eqb x 0)

  part : List ℕ
  part = take n (drop at m)

  part-length : length part ≡ n
  unfolding part
  part-length = length-take-le n (drop at m) (omega (arith, length-drop at m))

  part-entry : (j : ℕ) → j < n → not_zero (get_or part j 0) ≡ is_equal m at j
  unfolding part not_zero
  part-entry j l = ap (λ x. not (eqb x 0)) (get_or-take n (drop at m) j 0 l ∙ get_or-drop at m j 0)

  first-part : first_equal m at n ≡ position_or_len not_zero part
  first-part =
      let len = part-length in
      let few = prefix_len-le-length (λ x. not (not_zero x)) part in
      first_unique (is_equal m at) 0 n (position_or_len not_zero part) (omega arith) (omega arith)
      (λ j k l. sym (part-entry j (omega arith)) ∙ fails_before_first not_zero part j 0 l)
      (λ l. subst⁻¹ T (sym (part-entry (position_or_len not_zero part) (omega arith)) ∙ passes_at_first not_zero part 0 (omega arith)) tt)

  pub first-position : unwrap_or (std_list.position (λ x. not (eqb x 0)) (take n (drop at m))) n ≡ first_equal m at n
  unfolding part not_zero
  first-position =
      let len = part-length in
      let few = prefix_len-le-length (λ x. not (not_zero x)) part in
      by_cases (dec_lt (position_or_len not_zero part) (length part))
      (λ l. ap (λ b. unwrap_or (cond b (Some (position_or_len not_zero part)) None) n) (lt-ltb _ _ l) ∙ sym first-part)
      (λ l. ap (λ b. unwrap_or (cond b (Some (position_or_len not_zero part)) None) n) (le-ltb _ _ (omega arith)) ∙ omega (arith, first-part))

pub first_equal-within : (m : List ℕ) (at n : ℕ) → first_equal m at n ≤ n
first_equal-within m at n = let h = first_range (is_equal m at) 0 n in omega arith

-- row i fits
pub row_fits : (r i : ℕ) → i < r → i * r + r ≤ r * r
row_fits r i h = omega (arith, mul-le-mul_right r h)

pub square_fits : (r : ℕ) → r ≤ 5 → r * r ≤ 25
square_fits r h = omega (arith, mul-le-mul_right r h)

-- The valuation of a matrix

pub valuation-length : (r : ℕ) (m : List ℕ) → length (valuation_of r m) ≡ r
unfolding valuation_of
valuation-length r m = up_from_values (λ i. register_of (get_or m (i * r + i) 0) (first_equal m (i * r) r)) 0 r

pub valuation-entry : (r : ℕ) (m : List ℕ) (i : ℕ) → i < r → get_or (valuation_of r m) i 0 ≡ register_of (get_or m (i * r + i) 0) (first_equal m (i * r) r)
unfolding valuation_of
valuation-entry r m i h = up_from-value (λ i. register_of (get_or m (i * r + i) 0) (first_equal m (i * r) r)) r i 0 h

-- positions among the constants' labels
mark_new : (i n x : ℕ) → i + n ≤ x → position (up_from i n) x ≡ n
mark_new i zero x h = refl
mark_new i (suc n) x h = position-cons_other i x (up_from (suc i) n) (λ e. omega arith) ∙ ap suc (mark_new (suc i) n x (omega arith))

position-mem : (k : List ℕ) (x : ℕ) → Memᴰ x k → position k x < length k
position-mem (y ∷ k) x (Memᴰ.head e) = omega (arith, position-cons-same y x k (sym e))
position-mem (y ∷ k) x (Memᴰ.tail m) = by_cases (ℕ_discrete y x)
    (λ e. omega (arith, position-cons-same y x k e))
    (λ n. omega (arith, position-cons_other y x k n, position-mem k x m))
position-mem [] x x3 = elim x3 [ ]

-- cells that a function keeps
table_kept : (p : ℕ → ℕ → ℕ) (f : ℕ → ℕ) (xs ys : List ℕ) → ((x y : ℕ) → Memᴰ x xs → Memᴰ y ys → p (f x) (f y) ≡ p x y)
    → table p (map f xs) (map f ys) ≡ table p xs ys
unfolding flat_map
table_kept p f [] ys h = refl
table_kept p f (x ∷ xs) ys h =
    cc (row ys (λ y m. h x y (Memᴰ.head refl) m), table_kept p f xs ys (λ z y m n. h z y (Memᴰ.tail m) n))
  where
    row : (ys : List ℕ) → ((y : ℕ) → Memᴰ y ys → p (f x) (f y) ≡ p x y) → map (p (f x)) (map f ys) ≡ map (p x) ys
    row [] q = refl
    row (y ∷ ys) q = cc (q y (Memᴰ.head refl), row ys (λ z m. q z (Memᴰ.tail m)))

module _ (c : ℕ) (k : List ℕ) (small : c ≤ 2) (legal : Legal c k) where
  -- the identifier that a label gets
  given : ℕ → ℕ
  given x = cond (leb x c) x (3 + position k x)

  given-constant : (x : ℕ) → x ≤ c → given x ≡ x
  unfolding given
  given-constant x h = rw (le-leb x c h)

  given_block : (x : ℕ) → c < x → given x ≡ 3 + position k x
  unfolding given
  given_block x h = rw (lt-leb x c h)

  own_label : (x : ℕ) → 1 ≤ x → x ≤ c → cell (up_from 1 c) x x ≡ suc x
  own_label x l h =
      let p = up_from-position 1 c x l (omega arith) in
      own-constant (up_from 1 c) x (omega (arith, up_from-length 1 c)) ∙ omega arith

  own_block : (x : ℕ) → c < x → cell (up_from 1 c) x x ≡ 1
  own_block x h = own_other (up_from 1 c) x (omega (arith, up_from-length 1 c, mark_new 1 c x (omega arith)))

  register-given : (x : ℕ) → 1 ≤ x → register_of (cell (up_from 1 c) x x) (position k x) ≡ given x
  register-given x l = by_cases (dec_le x c)
      (λ h.
      let e : suc x - 1 ≡ x = omega arith in
      ap (λ d. register_of d (position k x)) (own_label x l h) ∙ rw (le-leb 2 (suc x) (omega arith), e) (sym (given-constant x h)))
      (λ h. ap (λ d. register_of d (position k x)) (own_block x (omega arith)) ∙ sym (given_block x (omega arith)))

  -- from the matrix of a class each register gets the identifier of its label
  valuation-given : valuation_of (length k) (class_matrix c k) ≡ map given k
  valuation-given =
      let len : length (valuation_of (length k) (class_matrix c k)) ≡ length k = valuation-length (length k) (class_matrix c k) in
      ext_get_or 0 (valuation_of (length k) (class_matrix c k)) (map given k) (len ∙ sym (length-map k given)) (λ i h.
      let l : i < length k = omega arith in
      valuation-entry (length k) (class_matrix c k) i l
      ∙ ap₂ register_of (table-get_or (cell (up_from 1 c)) k k i i 0 0 0 l l) (first-equal-row (up_from 1 c) k i l)
      ∙ register-given (get_or k i 0) (legal-low c k i legal l)
      ∙ sym (get_d_map given k i 0 0 l))

  given-kept : (x y : ℕ) → Memᴰ x k → Memᴰ y k → given x ≡ given y → x ≡ y
  given-kept x y mx my e = by_cases (dec_le x c)
      (λ h. by_cases (dec_le y c)
      (λ l. sym (given-constant x h) ∙ e ∙ given-constant y l)
      (λ l. absurd (omega (arith, given-constant x h, given_block y (omega arith)))))
      (λ h. by_cases (dec_le y c)
      (λ l. absurd (omega (arith, given_block x (omega arith), given-constant y l)))
      (λ l.
      let p : position k x ≡ position k y = omega (arith, given_block x (omega arith), given_block y (omega arith)) in
      sym (position-found k x (position-mem k x mx)) ∙ ap (λ i. get_or k i 0) p ∙ position-found k y (position-mem k y my)))

  own-kept : (x : ℕ) → Memᴰ x k → cell (up_from 1 c) (given x) (given x) ≡ cell (up_from 1 c) x x
  own-kept x m = by_cases (dec_le x c)
      (λ h. ap (λ z. cell (up_from 1 c) z z) (given-constant x h))
      (λ h. own_block (given x) (omega (arith, given_block x (omega arith))) ∙ sym (own_block x (omega arith)))

  cell-kept : (x y : ℕ) → Memᴰ x k → Memᴰ y k → cell (up_from 1 c) (given x) (given y) ≡ cell (up_from 1 c) x y
  cell-kept x y mx my = by_cases (ℕ_discrete x y)
      (λ e. subst (λ z. cell (up_from 1 c) (given x) (given z) ≡ cell (up_from 1 c) x z) e (own-kept x mx))
      (λ n. cell_other (up_from 1 c) (given x) (given y) (λ e. n (given-kept x y mx my e)) ∙ sym (cell_other (up_from 1 c) x y n))

  -- so the valuation has the matrix of the class
  valuation-matrix : matrix (up_from 1 c) (valuation_of (length k) (class_matrix c k)) ≡ class_matrix c k
  valuation-matrix = ap (matrix (up_from 1 c)) valuation-given ∙ table_kept (cell (up_from 1 c)) given k k cell-kept

-- The answer

pub class-found : (r c : ℕ) (m u : List ℕ) → length u ≡ r → matrix (up_from 1 c) u ≡ m → class_of_matrix r c m ≡ some (labels (up_from 1 c) u)
class-found r c m u e f =
    let b : length (up_from 1 c) ≡ c = up_from-length 1 c in
    class_of-matrix-is r c m (labels (up_from 1 c) u)
    (subst (λ n. Legal n (labels (up_from 1 c) u)) b (labels-legal (up_from 1 c) u))
    (labels_length (up_from 1 c) u ∙ e)
    (subst (λ n. class_matrix n (labels (up_from 1 c) u) ≡ matrix (up_from 1 c) u) b (matrix-labels (up_from 1 c) u (up_from-distinct 1 c)) ∙ f)

pub class_missing : (r c : ℕ) (m : List ℕ) → c ≤ 2 → matrix (up_from 1 c) (valuation_of r m) ≢ m → class_of_matrix r c m ≡ none
class_missing r c m small n = step (class_of_matrix r c m) (first-is (λ k. eq_list (class_matrix c k) m) (lists r c))
  where
    step : (o : Option (List ℕ)) → First (λ k. eq_list (class_matrix c k) m) (lists r c) o → o ≡ none
    step none h = refl
    step (some k) (mem, t) =
        let (legal, len) = lists-mem r c k mem in
        let own : class_matrix c k ≡ m = eq_list→eq (class_matrix c k) m t in
        absurd (n (subst (λ w. matrix (up_from 1 c) (valuation_of w m) ≡ m) len
        (subst (λ l. matrix (up_from 1 c) (valuation_of (length k) l) ≡ l) own (valuation-matrix c k small legal))))

-- the valuation at the front of an array, its matrix at the front of a buffer, and whether that is the matrix
module _ (r c : ℕ) (five : r ≤ 5) (two : c ≤ 2) (m u : List ℕ) (e : u ≡ padded 5 (valuation_of r m)) where
  valuation_front : take r u ≡ valuation_of r m
  valuation_front = ap (take r) e ∙ padded_front (valuation_of r m) r (valuation-length r m) five

  module _ (own buffer : List ℕ) (len : length m ≡ r * r) (w : own ≡ written (matrix (take c (1 ∷ 2 ∷ [])) (take r u)) buffer) where
    matrix_front : take (length m) own ≡ matrix (up_from 1 c) (valuation_of r m)
    matrix_front =
        let full : length (matrix (up_from 1 c) (valuation_of r m)) ≡ length m =
        matrix-length (up_from 1 c) (valuation_of r m) ∙ ap₂ ◌*◌ (valuation-length r m) (valuation-length r m) ∙ sym len in
        rw (w, marks-take c two, valuation_front) (take_at (matrix (up_from 1 c) (valuation_of r m)) _ (length m) full)

    pub found-same : T (eq_list (take (length m) own) m) → (k : ℕ) → k ≡ index (lists r c) (labels (take c (1 ∷ 2 ∷ [])) (take r u))
        → Some k ≡ found r c (class_of_matrix r c m)
    found-same t k h =
        ap Some (h ∙ rw (marks-take c two, valuation_front))
        ∙ sym (ap (found r c) (class-found r c m (valuation_of r m) (valuation-length r m) (eq_list→eq _ m (rw matrix_front at t))))

    pub found_other : eq_list (take (length m) own) m ≡ false → None ≡ found r c (class_of_matrix r c m)
    found_other h =
        sym (ap (found r c) (class_missing r c m two (λ q. subst T h (subst (λ l. T (eq_list l m)) (sym (matrix_front ∙ q)) (eq_list_refl m)))))

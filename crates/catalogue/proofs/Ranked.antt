-- A class's number by a few products: the number of lists is `list_count`, and a legal list's number is `rank`.
-- Assumes nothing.
use Prim.Native.Nat.{ℕ, zero, suc, ◌+◌, ◌*◌, ◌-◌, ◌≤◌, ◌<◌, max}
use mathlib.Core.List.{List, [], ◌∷◌, ◌++◌, map, append-nil, append_assoc, flat_map}
use mathlib.Core.Path.{◌∙◌, ◌≡◌, ap, refl, sym}
use native.Mathlib.Nat.{max-eq_left}
use native.Mathlib.Numerals.{add-one}
use native.Mathlib.Omega.{arith}
use lib.Dec.{T, eqb, eqb→eq, leb, leb→le}
use lib.ListN.{length, get_or, drop, drop_of_length-le, length-append, length-map, length-drop, get_or-append}
use lib.Seq.{drop-cons, get_or-append-add}
use Rattle.graphs.specs.Lists.{up_from}
use Rattle.graphs.proofs.Lists.{get_d_map}
use Rattle.classes.specs.Classes.{lists, index}
use Rattle.classes.specs.Contents.{Legal}
use Rattle.classes.proofs.Catalogue.{lists_ascending, index-get_or}
use Rattle.catalogue.specs.Numbers.{list_count, rank}
use Rattle.catalogue.proofs.Tested.{below, below-pair}

-- the lists that begin with x, x + 1, .. : m beginnings
abbrev starting : (ℕ → List (List ℕ)) → ℕ → ℕ → List (List ℕ)
starting rest m x = flat_map (λ y. map (λ k. y ∷ k) (rest y)) (up_from x m)

-- m beginnings with as many lists each
length-starting : (rest : ℕ → List (List ℕ)) (each m x : ℕ) → ((y : ℕ) → x ≤ y → y < x + m → length (rest y) ≡ each)
    → length (starting rest m x) ≡ m * each
unfolding flat_map
length-starting rest each zero x h = omega arith
length-starting rest each (suc m) x h =
    length-append (map (λ k. x ∷ k) (rest x)) (starting rest m (suc x))
    ∙ omega (
      arith,
      length-map (rest x) (λ k. x ∷ k),
      h x (omega arith) (omega arith),
      length-starting rest each m (suc x) (λ y a b. h y (omega arith) (omega arith)),
    )

-- the last beginning stands by itself
starting_last : (rest : ℕ → List (List ℕ)) (m x : ℕ) → starting rest (suc m) x ≡ starting rest m x ++ map (λ k. (x + m) ∷ k) (rest (x + m))
unfolding flat_map
starting_last rest zero x =
    let e : x + 0 ≡ x = omega arith in
    append-nil (map (λ k. x ∷ k) (rest x)) ∙ rw e
starting_last rest (suc m) x =
    let e : suc x + m ≡ x + suc m = omega arith in
    ap (λ l. map (λ k. x ∷ k) (rest x) ++ l) (starting_last rest m (suc x) ∙ rw e)
    ∙ sym (append_assoc (map (λ k. x ∷ k) (rest x)) (starting rest m (suc x)) (map (λ k. (x + suc m) ∷ k) (rest (x + suc m))))

-- how many lists there are
pub length-lists : (n b : ℕ) → length (lists n b) ≡ list_count n b
unfolding list_count
length-lists zero b = refl
length-lists (suc n) b =
    let last : max b (1 + b) ≡ suc b = omega arith in
    ap (λ l. length l) (starting_last (λ x. lists n (max b x)) b 1)
    ∙ length-append (starting (λ x. lists n (max b x)) b 1) (map (λ k. (1 + b) ∷ k) (lists n (max b (1 + b))))
    ∙ omega (
      arith,
      length-starting (λ x. lists n (max b x)) (list_count n b) b 1 (λ y a c. ap (λ m. length (lists n m)) (max-eq_left (omega arith)) ∙ length-lists n b),
      length-map (lists n (max b (1 + b))) (λ k. (1 + b) ∷ k),
      ap (λ m. length (lists n m)) last,
      length-lists n (suc b),
    )

-- the list with a number
abbrev pub RowIs : List (List ℕ) → ℕ → List ℕ → Type 0
RowIs rows i k = (i < length rows) × (get_or rows i [] ≡ k)

-- list t * each + i, where the beginnings before x + t have as many lists each, is list i of those that begin with x + t
starting-row : (rest : ℕ → List (List ℕ)) (each m x t i : ℕ) → ((z : ℕ) → x ≤ z → z < x + t → length (rest z) ≡ each) → t < m → i < length (rest (x + t))
    → RowIs (starting rest m x) (t * each + i) ((x + t) ∷ get_or (rest (x + t)) i [])
unfolding flat_map
starting-row rest each zero x t i h a b = absurd (omega arith)
starting-row rest each (suc m) x zero i h a b =
    let e : x + 0 ≡ x = omega arith in
    let f : 0 * each + i ≡ i = omega arith in
    let g : i < length (rest x) = rw e at b in
    let j : i < length (map (λ k. x ∷ k) (rest x)) = omega (arith, length-map (rest x) (λ k. x ∷ k)) in
    rw (e, f) (
      omega (arith, length-append (map (λ k. x ∷ k) (rest x)) (starting rest m (suc x))),
      get_or-append (map (λ k. x ∷ k) (rest x)) (starting rest m (suc x)) [] i j ∙ get_d_map (λ k. x ∷ k) (rest x) i [] [] g,
    )
starting-row rest each (suc m) x (suc t) i h a b =
    let e : x + suc t ≡ suc x + t = omega arith in
    let q : length (rest x) ≡ each = h x (omega arith) (omega arith) in
    let f : suc t * each + i ≡ length (map (λ k. x ∷ k) (rest x)) + (t * each + i) = omega (arith, length-map (rest x) (λ k. x ∷ k)) in
    let r : RowIs (starting rest m (suc x)) (t * each + i) ((suc x + t) ∷ get_or (rest (suc x + t)) i []) =
    starting-row rest each m (suc x) t i (λ z c d. h z (omega arith) (omega arith)) (omega arith) (rw e at b) in
    rw (e, f) (
      omega (arith, length-append (map (λ k. x ∷ k) (rest x)) (starting rest m (suc x)), r.0),
      get_or-append-add (map (λ k. x ∷ k) (rest x)) (starting rest m (suc x)) (t * each + i) [] ∙ r.1,
    )

-- a legal list's number
pub rank-row : (b : ℕ) (k : List ℕ) → Legal b k → RowIs (lists (length k) b) (rank b k) k
unfolding rank
rank-row b [] h = (omega arith, refl)
rank-row b (x ∷ k) (one, top, legal) =
    let i : RowIs (lists (length k) (max b x)) (rank (max b x) k) k = rank-row (max b x) k legal in
    let e : 1 + (x - 1) ≡ x = omega arith in
    let r : RowIs (starting (λ y. lists (length k) (max b y)) (suc b) 1) ((x - 1) * list_count (length k) b + rank (max b x) k)
    ((1 + (x - 1)) ∷ get_or (lists (length k) (max b (1 + (x - 1)))) (rank (max b x) k) []) =
    starting-row (λ y. lists (length k) (max b y)) (list_count (length k) b) (suc b) 1 (x - 1) (rank (max b x) k)
    (λ z c d. ap (λ m. length (lists (length k) m)) (max-eq_left (omega arith)) ∙ length-lists (length k) b)
    (omega arith) (rw e i.0) in
    (r.0, r.1 ∙ rw e (ap (λ l. x ∷ l) i.1))

pub rank-index : (c : ℕ) (k : List ℕ) → Legal c k → rank c k ≡ index (lists (length k) c) k
rank-index c k h =
    let (l, e) = rank-row c k h in
    sym (index-get_or (lists (length k) c) (rank c k) (lists_ascending (length k) c) l) ∙ ap (index (lists (length k) c)) e

-- The table of counts: row b, column n

unfoldable pub count_table : List ℕ
count_table = flat_map (λ b. map (λ n. list_count n b) (up_from 0 6)) (up_from 0 7)

table_tested : T (below 7 (λ b. below 6 (λ n. eqb (get_or count_table (b * 6 + n) 0) (list_count n b))))
unfolding count_table flat_map list_count
table_tested = tt

pub count_at : (n b : ℕ) → n < 6 → b < 7 → get_or count_table (b * 6 + n) 0 ≡ list_count n b
count_at n b h k =
    eqb→eq (get_or count_table (b * 6 + n) 0) (list_count n b)
    (below-pair 7 6 (λ b n. eqb (get_or count_table (b * 6 + n) 0) (list_count n b)) table_tested b n k h)

bound_tested : T (below 6 (λ n. below 3 (λ c. leb (list_count n c) 674)))
unfolding list_count
bound_tested = tt

pub count-bound : (n c : ℕ) → n ≤ 5 → c ≤ 2 → list_count n c ≤ 674
count-bound n c h k = leb→le (list_count n c) 674 (below-pair 6 3 (λ n c. leb (list_count n c) 674) bound_tested n c (omega arith) (omega arith))

-- The sum, label by label: what has been added, and the rank of the rest over b

pub record Ranked (r c : ℕ) (k : List ℕ) (b sum i : ℕ) : Type 0 where
  pub long : length k ≡ r
  pub within : i ≤ r
  pub few : b ≤ c + i
  pub legal : Legal b (drop i k)
  pub rest : rank c k ≡ sum + rank b (drop i k)
  pub small : rank c k < 674

pub ranked_first : (r c : ℕ) (k : List ℕ) → r ≤ 5 → c ≤ 2 → length k ≡ r → Legal c k → Ranked r c k c 0 0
ranked_first r c k f a e l = record {
  long = e;
  within = omega arith;
  few = omega arith;
  legal = l;
  rest = omega arith;
  small = omega (arith, (rank-row c k l).0, length-lists (length k) c, count-bound (length k) c (omega arith) a);
}

module _ (r c : ℕ) (k : List ℕ) (b sum i : ℕ) (q : Ranked r c k b sum i) (h : i < r) (x : ℕ) (e : get_or k i 0 ≡ x) where
  here : drop i k ≡ x ∷ drop (i + 1) k
  here = let long = q.long in rw (add-one i, ← e) (drop-cons k i 0 (omega arith))

  legal-here : Legal b (x ∷ drop (i + 1) k)
  legal-here = rw here at q.legal

  pub label_positive : 1 ≤ x
  label_positive = legal-here.0

  rank-here : rank b (drop i k) ≡ (x - 1) * list_count (r - (i + 1)) b + rank (max b x) (drop (i + 1) k)
  unfolding rank
  rank-here = rw (here, length-drop (i + 1) k, q.long)

  -- the product, and the sum with it, are small
  pub term-small : (x - 1) * list_count (r - (i + 1)) b < 674
  term-small = omega (arith, q.rest, q.small, rank-here)

  pub sum-small : sum + (x - 1) * list_count (r - (i + 1)) b < 674
  sum-small = omega (arith, q.rest, q.small, rank-here)

  pub ranked_more : Ranked r c k (max b x) (sum + (x - 1) * list_count (r - (i + 1)) b) (i + 1)
  ranked_more = record {
    long = q.long;
    within = omega arith;
    few = omega (arith, q.few, legal-here.1);
    legal = legal-here.2;
    rest = omega (arith, q.rest, rank-here);
    small = q.small;
  }

pub ranked_ended : (r c : ℕ) (k : List ℕ) (b sum i : ℕ) → Legal c k → Ranked r c k b sum i → r ≤ i → sum ≡ index (lists r c) k
unfolding rank
ranked_ended r c k b sum i l q h =
    let long = q.long in
    let none : drop i k ≡ [] = drop_of_length-le k {i = i} (omega arith) in
    let z : rank b (drop i k) ≡ 0 = rw none in
    omega (arith, q.rest) ∙ rank-index c k l ∙ ap (λ n. index (lists n c) k) long

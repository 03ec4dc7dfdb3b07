-- The pool rises, and the lists over it stand in dictionary order; the first that passes a test is the smallest that does.
-- Assumes nothing.
use Prim.Native.Nat.{ℕ, zero, suc, ◌<◌}
use mathlib.Core.Bool.{Bool, true, false, cond}
use mathlib.Core.List.Memᴰ
use mathlib.Core.List.{List, flat_map, [], ◌∷◌, ◌++◌, map, Memᴰ}
use mathlib.Core.Logic.{◌⊎◌, inl, inr, ⊎_elim, by_cases}
use mathlib.Core.Option.{Option, none, some}
use mathlib.Core.Path.{◌≡◌, refl, sym, ap, subst, subst⁻¹}
use native.Mathlib.Decide.{dec_lt}
use native.Mathlib.Omega.{arith}
use lib.Dec.{T, leb, leb→le, le→leb}
use lib.ListN.{length}
use Rattle.graphs.specs.Lists.{up_from, select, first, table, Dictionary, AtMost}
use Rattle.graphs.proofs.Lists.{select-mem, mem-select, mem_flat_map, flat_map_mem, mem-up_from, up_from-mem}
use Rattle.classes.specs.Renaming.{rising}
use Rattle.classes.specs.Contents.{Ascending}
use Rattle.classes.proofs.Renamings.{rising-above, rising-tail}
use Rattle.classes.proofs.Catalogue.{ascending_append, ascending_cons}
use Rattle.moves.specs.Moves.{pool, tuples}

-- The pool

-- each number is less than all that follow it
abbrev Rising : List ℕ → Type 0
Rising [] = Unit {0}
Rising (x ∷ xs) = ((y : ℕ) → Memᴰ y xs → x < y) × Rising xs

rising-append : (xs ys : List ℕ) → Rising xs → Rising ys → ((x y : ℕ) → Memᴰ x xs → Memᴰ y ys → x < y) → Rising (xs ++ ys)
rising-append [] ys a b c = b
rising-append (x ∷ xs) ys (h, a) b c =
    ((λ y m. ⊎_elim (h y) (c x y (Memᴰ.head refl)) (Memᴰ.append_cases xs m)), rising-append xs ys a b (λ x y m. c x y (Memᴰ.tail m)))

up_from-rising : (i n : ℕ) → Rising (up_from i n)
up_from-rising i zero = tt
up_from-rising i (suc n) = ((λ y m. (up_from-mem (suc i) n m).0), up_from-rising (suc i) n)

rising_Rising : (xs : List ℕ) → T (rising xs) → Rising xs
rising_Rising [] t = tt
rising_Rising (x ∷ xs) t = (rising-above x xs t, rising_Rising xs (rising-tail x xs t))

filter_rising : (p : ℕ → Bool) (xs : List ℕ) → Rising xs → Rising (select p xs)
filter_rising p [] a = tt
filter_rising p (x ∷ xs) (h, a) = step (p x) (filter_rising p xs a)
  where
    step : (b : Bool) → Rising (select p xs) → Rising (cond b (x ∷ select p xs) (select p xs))
    step true r = ((λ y m. h y (select-mem p xs m).0), r)
    step false r = r

pool-rising : (n : ℕ) (cs : List ℕ) → T (rising cs) → Rising (pool n cs)
pool-rising n cs t =
    rising-append (up_from 0 n) (select (leb n) cs) (up_from-rising 0 n) (filter_rising (leb n) cs (rising_Rising cs t))
    (λ x y m m'. omega (arith, (up_from-mem 0 n m).1, leb→le n y (select-mem (leb n) cs m').1))

-- the pool has the constants and the numbers less than n, and no others
pub pool-mem : (n : ℕ) (cs : List ℕ) (x : ℕ) → Memᴰ x (pool n cs) → Memᴰ x cs ⊎ (x < n)
pool-mem n cs x m = ⊎_elim (λ l. inr (omega (arith, (up_from-mem 0 n l).1))) (λ r. inl (select-mem (leb n) cs r).0) (Memᴰ.append_cases (up_from 0 n) m)

pub mem-pool : (n : ℕ) (cs : List ℕ) (x : ℕ) → Memᴰ x cs ⊎ (x < n) → Memᴰ x (pool n cs)
mem-pool n cs x h = by_cases (dec_lt x n)
    (λ l. Memᴰ.append_left (select (leb n) cs) (mem-up_from 0 n x (omega arith) (omega arith)))
    (λ l. ⊎_elim (λ m. Memᴰ.append_right (up_from 0 n) (mem-select (leb n) cs m (le→leb n x (omega arith)))) (λ k. absurd (omega arith)) h)

-- Lists over it

pub mem-tuples : (xs ps : List ℕ) → ((x : ℕ) → Memᴰ x ps → Memᴰ x xs) → Memᴰ ps (tuples (length ps) xs)
mem-tuples xs [] h = Memᴰ.head refl
mem-tuples xs (p ∷ ps) h =
    mem_flat_map (λ x. map (λ l. x ∷ l) (tuples (length ps) xs)) xs (h p (Memᴰ.head refl))
    (Memᴰ.map (λ l. p ∷ l) (mem-tuples xs ps (λ x m. h x (Memᴰ.tail m))))

pub tuples-mem : (n : ℕ) (xs ps : List ℕ) → Memᴰ ps (tuples n xs) → (length ps ≡ n) × ((x : ℕ) → Memᴰ x ps → Memᴰ x xs)
tuples-mem zero xs ps (Memᴰ.head e) = rw e (refl, λ x m. elim m [ ])
tuples-mem zero xs ps (Memᴰ.tail m) = elim m [ ]
tuples-mem (suc n) xs ps m =
    let (x, xm, m') = flat_map_mem (λ x. map (λ l. x ∷ l) (tuples n xs)) xs m in
    let (l, lm, e) = Memᴰ.of_map (λ l. x ∷ l) (tuples n xs) m' in
    let (len, inside) = tuples-mem n xs l lm in
    rw (← e) (ap suc len, λ y o. ⊎_elim (λ d. subst⁻¹ (λ z. Memᴰ z xs) d xm) (inside y) (Memᴰ.cases_cons o))

-- blocks of lists with one first entry each, the entries rising
ascending_table : (ls : List (List ℕ)) → Ascending ls → (xs : List ℕ) → Rising xs → Ascending (table (λ x l. x ∷ l) xs ls)
unfolding flat_map
ascending_table ls a [] r = tt
ascending_table ls a (x ∷ xs) (h, r) =
    ascending_append (map (λ l. x ∷ l) ls) (table (λ x l. x ∷ l) xs ls) (ascending_cons x ls a) (ascending_table ls a xs r) (λ k l m m'.
    let (k', _, e) = Memᴰ.of_map (λ l. x ∷ l) ls m in
    let (y, ym, n) = flat_map_mem (λ x. map (λ l. x ∷ l) ls) xs m' in
    let (l', _, e') = Memᴰ.of_map (λ l. y ∷ l) ls n in
    subst (λ k. Dictionary k l) e (subst (Dictionary (x ∷ k')) e' (inl (h y ym))))

pub tuples_ascending : (m n : ℕ) (cs : List ℕ) → T (rising cs) → Ascending (tuples m (pool n cs))
tuples_ascending zero n cs t = ((λ l m. elim m [ ]), tt)
tuples_ascending (suc m) n cs t = ascending_table (tuples m (pool n cs)) (tuples_ascending m n cs t) (pool n cs) (pool-rising n cs t)

-- the first list that passes a test is the smallest that does
abbrev pub FirstOf : (List ℕ → Bool) → List (List ℕ) → Option (List ℕ) → Type 0
FirstOf p ls none = (l : List ℕ) → Memᴰ l ls → T (p l) → ⊥
FirstOf p ls (some k) = Memᴰ k ls × T (p k) × ((l : List ℕ) → Memᴰ l ls → T (p l) → AtMost k l)

pub first_of : (p : List ℕ → Bool) (ls : List (List ℕ)) → Ascending ls → FirstOf p ls (first p ls)
first_of p [] a = λ l m t. elim m [ ]
first_of p (k ∷ ks) (h, a) = step (p k) refl (first p ks) (first_of p ks a)
  where
    step : (b : Bool) → p k ≡ b → (o : Option (List ℕ)) → FirstOf p ks o → FirstOf p (k ∷ ks) (cond b (some k) o)
    step true e o f = (Memᴰ.head refl, rw e tt, λ l m t. ⊎_elim (λ d. inl (sym d)) (λ n. inr (h l n)) (Memᴰ.cases_cons m))
    step false e none f = λ l m t. ⊎_elim (λ d. absurd (subst T e (subst (λ z. T (p z)) d t))) (λ n. f l n t) (Memᴰ.cases_cons m)
    step false e (some x) (m, t, u) =
        (Memᴰ.tail m, t, λ l n v. ⊎_elim (λ d. absurd (subst T e (subst (λ z. T (p z)) d v))) (λ o. u l o v) (Memᴰ.cases_cons n))

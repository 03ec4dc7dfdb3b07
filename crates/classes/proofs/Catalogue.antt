-- `lists n b` holds exactly the legal lists of n labels over b constants, in dictionary order, so that each has one number.
-- Assumes nothing.
use Prim.Native.Nat.{ℕ, zero, suc, ◌≤◌, ◌<◌, max}
use mathlib.Core.Bool.{Bool, true, false, cond}
use mathlib.Core.List.Memᴰ
use mathlib.Core.List.{List, [], ◌∷◌, ◌++◌, map, Memᴰ, flat_map}
use mathlib.Core.Logic.{⊎_elim, inl, inr}
use mathlib.Core.Path.{◌≡◌, refl, ap, subst, subst⁻¹}
use native.Mathlib.Omega.{arith}
use lib.Dec.{T, leb, leb→le}
use lib.ListN.{length, get_or}
use Rattle.graphs.specs.Lists.{up_from, eq_list, all_of, Dictionary}
use Rattle.graphs.proofs.Dictionary.{dictionary_irreflexive}
use Rattle.graphs.proofs.Lists.{T-ext, all_of-mem, eq_list→eq, eq_list_refl, get_or-mem, mem_flat_map, flat_map_mem, mem-up_from, up_from-mem}
use Rattle.classes.specs.Classes.{lists, index}
use Rattle.classes.specs.Contents.{Legal, Ascending}

pub mem-lists : (b : ℕ) (k : List ℕ) → Legal b k → Memᴰ k (lists (length k) b)
mem-lists b [] l = Memᴰ.head refl
mem-lists b (x ∷ k) (low, high, rest) =
    mem_flat_map (λ x. map (λ l. x ∷ l) (lists (length k) (max b x))) (up_from 1 (suc b))
    (mem-up_from 1 (suc b) x low (omega arith))
    (Memᴰ.map (λ l. x ∷ l) (mem-lists (max b x) k rest))

pub lists-mem : (n b : ℕ) (k : List ℕ) → Memᴰ k (lists n b) → Legal b k × (length k ≡ n)
lists-mem zero b k (Memᴰ.head e) = rw e (tt, refl)
lists-mem zero b k (Memᴰ.tail m) = elim m [ ]
lists-mem (suc n) b k m =
    let (x, xm, m') = flat_map_mem (λ x. map (λ l. x ∷ l) (lists n (max b x))) (up_from 1 (suc b)) m in
    let (l, lm, e) = Memᴰ.of_map (λ l. x ∷ l) (lists n (max b x)) m' in
    let (low, high) = up_from-mem 1 (suc b) xm in
    let (legal, len) = lists-mem n (max b x) l lm in
    rw (← e) ((low, omega arith, legal), ap suc len)

-- Dictionary order

pub ascending_append : (ks ls : List (List ℕ)) → Ascending ks → Ascending ls → ((k l : List ℕ) → Memᴰ k ks → Memᴰ l ls → Dictionary k l) → Ascending (ks ++ ls)
ascending_append [] ls a b c = b
ascending_append (k ∷ ks) ls (h, a) b c = (
  (λ l m. ⊎_elim (h l) (c k l (Memᴰ.head refl)) (Memᴰ.append_cases ks m)),
  ascending_append ks ls a b (λ k' l m. c k' l (Memᴰ.tail m)),
)

pub ascending_cons : (x : ℕ) (ks : List (List ℕ)) → Ascending ks → Ascending (map (λ l. x ∷ l) ks)
ascending_cons x [] a = tt
ascending_cons x (k ∷ ks) (h, a) = (
  (λ l m. let (l', m', e) = Memᴰ.of_map (λ l. x ∷ l) ks m in subst (Dictionary (x ∷ k)) e (inr (refl, h l' m'))),
  ascending_cons x ks a,
)

-- blocks of lists with one first label each, the labels rising
ascending_blocks : (f : ℕ → List (List ℕ)) → ((x : ℕ) → Ascending (f x)) → (i n : ℕ) → Ascending (flat_map (λ x. map (λ l. x ∷ l) (f x)) (up_from i n))
unfolding flat_map
ascending_blocks f a i zero = tt
ascending_blocks f a i (suc n) =
    ascending_append (map (λ l. i ∷ l) (f i)) (flat_map (λ x. map (λ l. x ∷ l) (f x)) (up_from (suc i) n))
    (ascending_cons i (f i) (a i)) (ascending_blocks f a (suc i) n) (λ k l m m'.
    let (k', _, e) = Memᴰ.of_map (λ l. i ∷ l) (f i) m in
    let (x, xm, n') = flat_map_mem (λ x. map (λ l. x ∷ l) (f x)) (up_from (suc i) n) m' in
    let (l', _, e') = Memᴰ.of_map (λ l. x ∷ l) (f x) n' in
    let (after, _) = up_from-mem (suc i) n xm in
    subst (λ k. Dictionary k l) e (subst (Dictionary (i ∷ k')) e' (inl after)))

pub lists_ascending : (n b : ℕ) → Ascending (lists n b)
lists_ascending zero b = ((λ l m. elim m [ ]), tt)
lists_ascending (suc n) b = ascending_blocks (λ x. lists n (max b x)) (λ x. lists_ascending n (max b x)) 1 (suc b)

-- Numbers of lists

pub index-mem : (ls : List (List ℕ)) (k : List ℕ) → Memᴰ k ls → (index ls k < length ls) × (get_or ls (index ls k) [] ≡ k)
index-mem (l ∷ ls) k m = step (eq_list l k) refl (index-mem ls k)
  where
    tail : (eq_list l k ≡ false) → Memᴰ k ls
    tail e = ⊎_elim (λ d. absurd (subst T e (subst (λ x. T (eq_list x k)) d (eq_list_refl k)))) (λ n. n) (Memᴰ.cases_cons m)

    step : (b : Bool) → eq_list l k ≡ b → (Memᴰ k ls → (index ls k < length ls) × (get_or ls (index ls k) [] ≡ k))
        → (cond b 0 (suc (index ls k)) < length (l ∷ ls)) × (get_or (l ∷ ls) (cond b 0 (suc (index ls k))) [] ≡ k)
    step true e rest = (omega arith, eq_list→eq l k (subst⁻¹ T e tt))
    step false e rest = let (h, f) = rest (tail e) in (omega arith, f)
index-mem [] k m = elim m [ ]

pub index-get_or : (ls : List (List ℕ)) (i : ℕ) → Ascending ls → i < length ls → index ls (get_or ls i []) ≡ i
index-get_or [] i a h = absurd (omega arith)
index-get_or (l ∷ ls) zero a h = rw (T-ext (eq_list l l) true (λ t. tt) (λ t. eq_list_refl l))
index-get_or (l ∷ ls) (suc i) (before, a) h =
    let k : List ℕ = get_or ls i [] in
    let other : eq_list l k ≡ false = T-ext (eq_list l k) false
    (λ t. dictionary_irreflexive k (subst (λ x. Dictionary x k) (eq_list→eq l k t) (before k (get_or-mem ls i [] (omega arith))))) (λ t. absurd t) in
    rw other (ap suc (index-get_or ls i a (omega arith)))

-- no counts have more lists than five registers and two constants
pub few-lists : (r c : ℕ) → r ≤ 5 → c ≤ 2 → length (lists r c) ≤ 674
unfolding flat_map
few-lists r c h k =
    let test : T (all_of (λ x. all_of (λ y. leb (length (lists x y)) 674) (up_from 0 3)) (up_from 0 6)) = tt in
    leb→le (length (lists r c)) 674
    (all_of-mem (λ y. leb (length (lists r y)) 674) (up_from 0 3)
    (all_of-mem (λ x. all_of (λ y. leb (length (lists x y)) 674) (up_from 0 3)) (up_from 0 6) test (mem-up_from 0 6 r (omega arith) (omega arith)))
    (mem-up_from 0 3 c (omega arith) (omega arith)))

-- Lists with zeros behind, lists written to a buffer, and rows that a loop fills.
-- Assumes nothing.
use Prim.Native.Nat.{ℕ, zero, suc, ◌+◌, ◌*◌, ◌-◌, ◌≤◌, ◌<◌}
use mathlib.Core.List.{List, [], ◌∷◌, ◌++◌, map, map-append, Memᴰ}
use mathlib.Core.Logic.{◌≢◌, ◌⊎◌, inl, inr, ⊎_elim, by_cases}
use mathlib.Core.Path.{◌≡◌, refl, sym, ap, ap₂, ◌∙◌, subst}
use native.Mathlib.Decide.{ℕ_discrete, dec_lt}
use native.Mathlib.Nat.{zero-add, mul-le-mul_left}
use native.Mathlib.Numerals.{add-one}
use native.Mathlib.Omega.{arith}
use lib.ListN.{length, get_or, take, drop, set, replicate, get_or-replicate, length-replicate, length-set, length-map, length-append, length-take, length-drop, get_or-eq_default}
use lib.Seq.{paste, take-length, get_or-set_same, get_or-set_other, get_or-take, get_or-drop, take-append_seam, drop_at, ext_get_or}
use Rattle.std.proofs.lemmas.List.Edits.{fill_more}
use Rattle.lists.specs.Arrays.{padded, written, Kept}
use Rattle.lists.specs.Filling.{Begins, filled}

-- Zeros behind

pub padded-length : (n : ℕ) (xs : List ℕ) → length (padded n xs) ≡ n
unfolding padded
padded-length zero xs = refl
padded-length (suc n) [] = ap suc (padded-length n [])
padded-length (suc n) (x ∷ xs) = ap suc (padded-length n xs)

pub padded-none : (n : ℕ) → padded n [] ≡ replicate n 0
unfolding padded
padded-none zero = refl
padded-none (suc n) = ap (λ l. 0 ∷ l) (padded-none n)

pub padded_zeros : (n : ℕ) (xs : List ℕ) → length xs ≤ n → padded n xs ≡ xs ++ replicate (n - length xs) 0
unfolding padded
padded_zeros n [] h = let e : n ≡ n - 0 = omega arith in padded-none n ∙ ap (λ k. replicate k 0) e
padded_zeros zero (x ∷ xs) h = absurd (omega arith)
padded_zeros (suc n) (x ∷ xs) h =
    let e : n - length xs ≡ suc n - suc (length xs) = omega arith in
    ap (λ l. x ∷ l) (padded_zeros n xs (omega arith)) ∙ ap (λ k. x ∷ (xs ++ replicate k 0)) e

pub padded-take : (n : ℕ) (xs : List ℕ) → length xs ≤ n → take (length xs) (padded n xs) ≡ xs
unfolding padded
padded-take n [] h = refl
padded-take zero (x ∷ xs) h = absurd (omega arith)
padded-take (suc n) (x ∷ xs) h = ap (λ l. x ∷ l) (padded-take n xs (omega arith))

-- behind the entries there are zeros
pub padded-drop : (n : ℕ) (xs : List ℕ) (k : ℕ) → length xs ≤ k → drop k (padded n xs) ≡ drop k (padded n [])
unfolding padded
padded-drop zero xs k h = refl
padded-drop (suc n) [] k h = refl
padded-drop (suc n) (x ∷ xs) zero h = absurd (omega arith)
padded-drop (suc n) (x ∷ xs) (suc k) h = padded-drop n xs k (omega arith)

pub padded-at : (n : ℕ) (xs : List ℕ) (i : ℕ) → i < n → get_or (padded n xs) i 0 ≡ get_or xs i 0
unfolding padded
padded-at zero xs i h = absurd (omega arith)
padded-at (suc n) [] zero h = refl
padded-at (suc n) [] (suc i) h = padded-at n [] i (omega arith)
padded-at (suc n) (x ∷ xs) zero h = refl
padded-at (suc n) (x ∷ xs) (suc i) h = padded-at n xs i (omega arith)

-- at any place, where all entries find room
pub padded-entry : (n : ℕ) (xs : List ℕ) (i : ℕ) → length xs ≤ n → get_or (padded n xs) i 0 ≡ get_or xs i 0
padded-entry n xs i h = by_cases (dec_lt i n) (padded-at n xs i)
    (λ l. get_or-eq_default (padded n xs) 0 {n = i} (omega (arith, padded-length n xs)) ∙ sym (get_or-eq_default xs 0 {n = i} (omega arith)))

-- what holds of 0 and of all entries
pub padded-below : {A : Type 0} (f : A → ℕ) (n b : ℕ) (xs : List A) → 0 < b → ((x : A) → Memᴰ x xs → f x < b) → (i : ℕ) → get_or (padded n (map f xs)) i 0 < b
unfolding padded
padded-below f zero b xs z h i = z
padded-below f (suc n) b [] z h zero = z
padded-below f (suc n) b [] z h (suc i) = padded-below f n b [] z h i
padded-below f (suc n) b (x ∷ xs) z h zero = h x (Memᴰ.head refl)
padded-below f (suc n) b (x ∷ xs) z h (suc i) = padded-below f n b xs z (λ y m. h y (Memᴰ.tail m)) i

-- one entry more
pub padded_more : (n : ℕ) (xs : List ℕ) (x : ℕ) → length xs < n → set (padded n xs) (length xs) x ≡ padded n (xs ++ (x ∷ []))
unfolding padded
padded_more zero xs x h = absurd (omega arith)
padded_more (suc n) [] x h = refl
padded_more (suc n) (y ∷ xs) x h = ap (λ l. y ∷ l) (padded_more n xs x (omega arith))

pub padded-map_more : {A : Type 0} (f : A → ℕ) (n : ℕ) (xs : List A) (x : A) → length xs < n
    → set (padded n (map f xs)) (length xs) (f x) ≡ padded n (map f (xs ++ (x ∷ [])))
padded-map_more f n xs x h =
    let e : length (map f xs) ≡ length xs = length-map xs f in
    ap (λ k. set (padded n (map f xs)) k (f x)) (sym e) ∙ padded_more n (map f xs) (f x) (omega arith) ∙ ap (padded n) (sym (map-append f xs (x ∷ [])))

-- Writing to the front of a buffer

pub written-begins : (xs buffer : List ℕ) → Begins xs (written xs buffer)
written-begins xs buffer = take-append_seam xs (drop (length xs) buffer)

pub written-length : (xs buffer : List ℕ) → length xs ≤ length buffer → length (written xs buffer) ≡ length buffer
written-length xs buffer h = omega (arith, length-append xs (drop (length xs) buffer), length-drop (length xs) buffer)

pub paste_front : (xs buffer : List ℕ) → paste buffer 0 xs (length xs) ≡ written xs buffer
paste_front xs buffer = let z : 0 + length xs ≡ length xs = omega arith in rw (z, take-length xs)

pub begins-entry : (xs buffer : List ℕ) (i : ℕ) → Begins xs buffer → i < length xs → get_or buffer i 0 ≡ get_or xs i 0
begins-entry xs buffer i b h = sym (get_or-take (length xs) buffer i 0 h) ∙ ap (λ l. get_or l i 0) b

pub begins-length : (xs buffer : List ℕ) → Begins xs buffer → length xs ≤ length buffer
begins-length xs buffer b = omega (arith, length-take (length xs) buffer, ap (λ l. length l) b)

-- What is kept behind the front

pub front_kept : (xs before : List ℕ) (n : ℕ) → length xs ≡ n → n ≤ length before → Kept n before (xs ++ drop n before)
front_kept xs before n e h = (omega (arith, length-append xs (drop n before), length-drop n before), drop_at xs (drop n before) n e)

-- the first n entries and what is kept determine a buffer
pub kept-one : (n : ℕ) (before xs ys : List ℕ) → Kept n before xs → Kept n before ys → ((i : ℕ) → i < n → get_or xs i 0 ≡ get_or ys i 0) → xs ≡ ys
kept-one n before xs ys (l, k) (m, j) f =
    ext_get_or 0 xs ys (l ∙ sym m) (λ i h.
    by_cases (dec_lt i n) (f i) (λ past.
    let e : n + (i - n) ≡ i = omega arith in
    let behind : get_or (drop n xs) (i - n) 0 ≡ get_or (drop n ys) (i - n) 0 = ap (λ l. get_or l (i - n) 0) (k ∙ sym j) in
    ap (λ x. get_or xs x 0) (sym e) ∙ sym (get_or-drop n xs (i - n) 0) ∙ behind ∙ get_or-drop n ys (i - n) 0 ∙ ap (λ x. get_or ys x 0) e))

-- A filled row

pub length-filled : (xs : List ℕ) (to : ℕ) (f : ℕ → ℕ) (n : ℕ) → length (filled xs to f n) ≡ length xs
unfolding filled
length-filled xs to f zero = refl
length-filled xs to f (suc n) = length-set (filled xs to f n) (to + n) (f n) ∙ length-filled xs to f n

-- outside the row nothing changes
pub filled_out : (xs : List ℕ) (to : ℕ) (f : ℕ → ℕ) (n k : ℕ) → (k < to) ⊎ (to + n ≤ k) → get_or (filled xs to f n) k 0 ≡ get_or xs k 0
unfolding filled
filled_out xs to f zero k o = refl
filled_out xs to f (suc n) k o =
    get_or-set_other (filled xs to f n) (to + n) k (f n) 0 (⊎_elim (λ l e. omega arith) (λ l e. omega arith) o)
    ∙ filled_out xs to f n k (⊎_elim (λ l. inl l) (λ l. inr (omega arith)) o)

pub filled_at : (xs : List ℕ) (to : ℕ) (f : ℕ → ℕ) (n i : ℕ) → to + n ≤ length xs → i < n → get_or (filled xs to f n) (to + i) 0 ≡ f i
unfolding filled
filled_at xs to f zero i h l = absurd (omega arith)
filled_at xs to f (suc n) i h l = by_cases (ℕ_discrete i n)
    (λ e. rw e (get_or-set_same (filled xs to f n) (to + n) (f n) 0 (omega (arith, length-filled xs to f n))))
    (λ d. get_or-set_other (filled xs to f n) (to + n) (to + i) (f n) 0 (λ e. d (omega arith)) ∙ filled_at xs to f n i (omega arith) (omega arith))

-- a list of rows of w numbers, of which row k is filled: the others are kept
pub filled-kept : (xs : List ℕ) (w k : ℕ) (f : ℕ → ℕ) (i j : ℕ) → i ≢ k → j < w → get_or (filled xs (w * k) f w) (w * i + j) 0 ≡ get_or xs (w * i + j) 0
filled-kept xs w k f i j d h =
    filled_out xs (w * k) f w (w * i + j)
    (by_cases (dec_lt i k) (λ l. inl (omega (arith, mul-le-mul_left w l))) (λ l. let m : k < i = omega arith in inr (omega (arith, mul-le-mul_left w m))))

-- what holds of every number that was there and of every number that is written
set-each : (P : ℕ → Type 0) (xs : List ℕ) (i v : ℕ) → P v → ((j : ℕ) → P (get_or xs j 0)) → (j : ℕ) → P (get_or (set xs i v) j 0)
set-each P [] i v h e j = e j
set-each P (x ∷ xs) zero v h e zero = h
set-each P (x ∷ xs) zero v h e (suc j) = e (suc j)
set-each P (x ∷ xs) (suc i) v h e zero = e zero
set-each P (x ∷ xs) (suc i) v h e (suc j) = set-each P xs i v h (λ k. e (suc k)) j

pub filled-each : (P : ℕ → Type 0) (xs : List ℕ) (to : ℕ) (f : ℕ → ℕ) (n : ℕ) → ((i : ℕ) → i < n → P (f i)) → ((j : ℕ) → P (get_or xs j 0)) → (j : ℕ) → P (get_or (filled xs to f n) j 0)
unfolding filled
filled-each P xs to f zero h e = e
filled-each P xs to f (suc n) h e = set-each P (filled xs to f n) (to + n) (f n) (h n (omega arith)) (filled-each P xs to f n (λ i l. h i (omega arith)) e)

pub zeros_at : (n j : ℕ) → ◌≡◌ {A = ℕ} (get_or (replicate n 0) j 0) 0
zeros_at n j = by_cases (dec_lt j n) (get_or-replicate n j 0 0) (λ l. get_or-eq_default (replicate n 0) 0 {n = j} (omega (arith, length-replicate {A = ℕ} n 0)))

-- what fills the row may be given by another function that agrees
pub filled_agree : (xs : List ℕ) (to : ℕ) (f g : ℕ → ℕ) (n : ℕ) → ((i : ℕ) → i < n → f i ≡ g i) → filled xs to f n ≡ filled xs to g n
unfolding filled
filled_agree xs to f g zero e = refl
filled_agree xs to f g (suc n) e = ap₂ (λ (l : List ℕ) (v : ℕ). set l (to + n) v) (filled_agree xs to f g n (λ i h. e i (omega arith))) (e n (omega arith))

-- One turn of a loop that fills a row

pub filled_none : (xs : List ℕ) (to : ℕ) (f : ℕ → ℕ) → xs ≡ filled xs to f 0
unfolding filled
filled_none xs to f = refl

pub filled_more : (xs₀ xs : List ℕ) (to : ℕ) (f : ℕ → ℕ) (n v : ℕ) → xs ≡ filled xs₀ to f n → v ≡ f n → set xs (to + n) v ≡ filled xs₀ to f (n + 1)
unfolding filled
filled_more xs₀ xs to f n v e d = ap₂ (λ (l : List ℕ) (x : ℕ). set l (to + n) x) e d ∙ ap (filled xs₀ to f) (sym (add-one n))

-- the front of a list, filled with one value
pub clear_step : (xs₀ xs : List ℕ) (v n : ℕ) → xs ≡ filled xs₀ 0 (λ i. v) n → set xs n v ≡ filled xs₀ 0 (λ i. v) (n + 1)
clear_step xs₀ xs v n e = ap (λ (k : ℕ). set xs k v) (sym (zero-add n)) ∙ filled_more xs₀ xs 0 (λ i. v) n v e refl

-- as the library's `fill` leaves it
pub filled_front : (xs : List ℕ) (v n : ℕ) → n ≤ length xs → replicate n v ++ drop n xs ≡ filled xs 0 (λ i. v) n
unfolding filled
filled_front xs v zero h = refl
filled_front xs v (suc n) h =
    let P : ℕ → Type 0 = λ k. replicate k v ++ drop k xs ≡ filled xs 0 (λ i. v) k in
    let e : n + 1 ≡ suc n = omega arith in
    subst P e (sym (fill_more n v xs (omega arith)) ∙ clear_step xs (replicate n v ++ drop n xs) v n (filled_front xs v n (omega arith)))

-- Lists: tests over them as statements, what stands where, and rows of a table.
-- Assumes nothing.
use Prim.Native.Nat.{ℕ, zero, suc, ◌+◌, ◌*◌, ◌-◌, ◌≤◌, ◌<◌}
use mathlib.Core.Bool.{Bool, true, false, ◌&&◌, ◌||◌, cond}
use mathlib.Core.List.Memᴰ
use mathlib.Core.List.{List, [], ◌∷◌, ◌++◌, map, Memᴰ, flat_map}
use mathlib.Core.Logic.{◌↔◌, ◌⊎◌, inl, inr, ⊎_elim, by_cases}
use mathlib.Core.Option.{Option, none, some}
use mathlib.Core.Path.{◌≡◌, refl, sym, ap, ◌∙◌}
use native.Mathlib.Decide.{ℕ_discrete, dec_lt}
use native.Mathlib.Nat.{mul-le-mul_right}
use native.Mathlib.Omega.{arith}
use lib.Dec.{T, eqb, leb, eqb→eq, eqb_refl, leb→le}
use lib.Ieee.Fits.{and_i, and_l, and_r}
use lib.ListN.{length, get_or, length-map, length-append, get_or-append}
use Rattle.graphs.specs.Lists.{up_from, eq_list, all_of, any_of, select, first, table}
use Rattle.graphs.specs.ListSearches.{least}

-- Tests

pub T-ext : (a b : Bool) → (T a → T b) → (T b → T a) → a ≡ b
T-ext true true f g = refl
T-ext true false f g = absurd (f tt)
T-ext false true f g = absurd (g tt)
T-ext false false f g = refl

pub and_elim : (a b : Bool) → T (a && b) → T a × T b
and_elim a b t = (and_l a b t, and_r a b t)

pub T_and : (a b : Bool) → T (a && b) ↔ T a × T b
T_and a b = (and_elim a b, λ (t, u). and_i a b t u)

pub T-or : (a b : Bool) → T (a || b) ↔ T a ⊎ T b
T-or true b = (λ h. inl tt, λ h. tt)
T-or false b = (λ h. inr h, elim [ inl h ↦ absurd h | inr h ↦ h ])

pub T_true : (b : Bool) → T b → b ≡ true
T_true true h = refl
T_true false h = absurd h

pub T_false : (b : Bool) → (T b → ⊥) → b ≡ false
T_false true h = absurd (h tt)
T_false false h = refl

pub eqb_sym : (a b : ℕ) → eqb a b ≡ eqb b a
eqb_sym a b = T-ext (eqb a b) (eqb b a) (λ t. rw (eqb→eq a b t) (eqb_refl b)) (λ t. rw (eqb→eq b a t) (eqb_refl a))

pub eq_list→eq : (xs ys : List ℕ) → T (eq_list xs ys) → xs ≡ ys
eq_list→eq [] [] t = refl
eq_list→eq (x ∷ xs) (y ∷ ys) t = let (h, r) = and_elim (eqb x y) (eq_list xs ys) t in cc (eqb→eq x y h, eq_list→eq xs ys r)
eq_list→eq [] (y ∷ ys) t = elim t [ ]
eq_list→eq (x ∷ xs) [] t = elim t [ ]

pub eq_list_refl : (xs : List ℕ) → T (eq_list xs xs)
eq_list_refl [] = tt
eq_list_refl (x ∷ xs) = and_i (eqb x x) (eq_list xs xs) (eqb_refl x) (eq_list_refl xs)

-- a choice between two numbers is at most m where both are
pub cond-le : (b : Bool) {x y m : ℕ} → x ≤ m → y ≤ m → cond b x y ≤ m
cond-le true h k = h
cond-le false h k = k

cond-true : (b c : Bool) → T b → T (cond b true c)
cond-true true c t = tt
cond-true false c t = absurd t

cond-rest : (b c : Bool) → T c → T (cond b true c)
cond-rest true c t = tt
cond-rest false c t = t

module _ {A : Type 0} where
  -- two tests that agree wherever a third holds
  pub all_of_agree : (fits p q : A → Bool) (xs : List A) → ((x : A) → T (fits x) → p x ≡ q x) → T (all_of fits xs) → all_of p xs ≡ all_of q xs
  all_of_agree fits p q [] e t = refl
  all_of_agree fits p q (x ∷ xs) e t = cc (e x (and_l (fits x) (all_of fits xs) t), all_of_agree fits p q xs e (and_r (fits x) (all_of fits xs) t))

  pub all_of-mem : (p : A → Bool) (xs : List A) {x : A} → T (all_of p xs) → Memᴰ x xs → T (p x)
  all_of-mem p (y ∷ ys) t (Memᴰ.head e) = rw e (and_l (p y) (all_of p ys) t)
  all_of-mem p (y ∷ ys) t (Memᴰ.tail m) = all_of-mem p ys (and_r (p y) (all_of p ys) t) m
  all_of-mem p [] t x4 = elim x4 [ ]

  pub all-intro : (p : A → Bool) (xs : List A) → ((x : A) → Memᴰ x xs → T (p x)) → T (all_of p xs)
  all-intro p [] h = tt
  all-intro p (x ∷ xs) h = and_i (p x) (all_of p xs) (h x (Memᴰ.head refl)) (all-intro p xs (λ y m. h y (Memᴰ.tail m)))

  pub all_of-append : (p : A → Bool) (xs ys : List A) → T (all_of p xs) → T (all_of p ys) → T (all_of p (xs ++ ys))
  all_of-append p [] ys t u = u
  all_of-append p (x ∷ xs) ys t u = and_i (p x) (all_of p (xs ++ ys)) (and_l (p x) (all_of p xs) t) (all_of-append p xs ys (and_r (p x) (all_of p xs) t) u)

  pub any_of-intro : (p : A → Bool) {x : A} {xs : List A} → Memᴰ x xs → T (p x) → T (any_of p xs)
  any_of-intro p {xs = y ∷ ys} (Memᴰ.head e) t = cond-true (p y) (any_of p ys) (rw e at t)
  any_of-intro p {xs = y ∷ ys} (Memᴰ.tail m) t = cond-rest (p y) (any_of p ys) (any_of-intro p m t)
  any_of-intro p {xs = []} x6 t = elim x6 [ ]

  pub any_of-elim : (p : A → Bool) (xs : List A) → T (any_of p xs) → (x : A) × Memᴰ x xs × T (p x)
  any_of-elim p (x ∷ xs) t = step (p x) refl t (any_of-elim p xs)
    where
      step : (b : Bool) → p x ≡ b → T (cond b true (any_of p xs)) → (T (any_of p xs) → (y : A) × Memᴰ y xs × T (p y)) → (y : A) × Memᴰ y (x ∷ xs) × T (p y)
      step true e t rest = (x, Memᴰ.head refl, rw e tt)
      step false e t rest = let (y, m, u) = rest t in (y, Memᴰ.tail m, u)
  any_of-elim p [] t = elim t [ ]

  -- tests of equality, one by one and as lists
  pub all_of_eqb : (f g : A → ℕ) (xs : List A) → all_of (λ x. eqb (f x) (g x)) xs ≡ eq_list (map f xs) (map g xs)
  all_of_eqb f g [] = refl
  all_of_eqb f g (x ∷ xs) = ap (λ b. eqb (f x) (g x) && b) (all_of_eqb f g xs)

  pub select-append : (p : A → Bool) (us vs : List A) → select p (us ++ vs) ≡ select p us ++ select p vs
  select-append p [] vs = refl
  select-append p (u ∷ us) vs = go (p u) (select-append p us vs)
    where
      go : (b : Bool) → select p (us ++ vs) ≡ select p us ++ select p vs
          → cond b (u ∷ select p (us ++ vs)) (select p (us ++ vs)) ≡ cond b (u ∷ select p us) (select p us) ++ select p vs
      go true e = ap (λ l. u ∷ l) e
      go false e = e

  pub select-le : (p : A → Bool) (xs : List A) → length (select p xs) ≤ length xs
  select-le p [] = omega arith
  select-le p (x ∷ xs) = go (p x) (select-le p xs)
    where
      go : (b : Bool) → length (select p xs) ≤ length xs → length (cond b (x ∷ select p xs) (select p xs)) ≤ suc (length xs)
      go true h = omega arith
      go false h = omega arith

  pub select-mem : (p : A → Bool) (xs : List A) {x : A} → Memᴰ x (select p xs) → Memᴰ x xs × T (p x)
  select-mem p (y ∷ ys) {x} m = step (p y) refl m (select-mem p ys)
    where
      step : (b : Bool) → p y ≡ b → Memᴰ x (cond b (y ∷ select p ys) (select p ys)) → (Memᴰ x (select p ys) → Memᴰ x ys × T (p x)) → Memᴰ x (y ∷ ys) × T (p x)
      step true e (Memᴰ.head d) rest = (Memᴰ.head d, rw (d, e) tt)
      step true e (Memᴰ.tail n) rest = let (k, t) = rest n in (Memᴰ.tail k, t)
      step false e n rest = let (k, t) = rest n in (Memᴰ.tail k, t)
  select-mem p [] {x = x} m = elim m [ ]

  pub mem-select : (p : A → Bool) (xs : List A) {x : A} → Memᴰ x xs → T (p x) → Memᴰ x (select p xs)
  mem-select p (y ∷ ys) {x} (Memᴰ.head d) t = step (p y) (rw d at t)
    where
      step : (b : Bool) → T b → Memᴰ x (cond b (y ∷ select p ys) (select p ys))
      step true u = Memᴰ.head d
      step false u = absurd u
  mem-select p (y ∷ ys) {x} (Memᴰ.tail m) t = step (p y) (mem-select p ys m t)
    where
      step : (b : Bool) → Memᴰ x (select p ys) → Memᴰ x (cond b (y ∷ select p ys) (select p ys))
      step true n = Memᴰ.tail n
      step false n = n
  mem-select p [] {x = x} x4 t = elim x4 [ ]

  -- what the first entry is that passes a test
  abbrev pub First : (A → Bool) → List A → Option A → Type 0
  First p xs none = (x : A) → Memᴰ x xs → T (p x) → ⊥
  First p xs (some x) = Memᴰ x xs × T (p x)

  pub first-is : (p : A → Bool) (xs : List A) → First p xs (first p xs)
  first-is p [] = λ x m t. elim m [ ]
  first-is p (x ∷ xs) = step (p x) refl (first p xs) (first-is p xs)
    where
      step : (b : Bool) → p x ≡ b → (o : Option A) → First p xs o → First p (x ∷ xs) (cond b (some x) o)
      step true e o h = (Memᴰ.head refl, rw e tt)
      step false e (some y) (m, t) = (Memᴰ.tail m, t)
      step false e none h = λ y m t. elim m [ Memᴰ.head d ↦ rw (d, e) at t | Memᴰ.tail n ↦ h y n t ]

  -- Positions

  pub get_or-mem : (xs : List A) (i : ℕ) (d : A) → i < length xs → Memᴰ (get_or xs i d) xs
  get_or-mem [] i d h = absurd (omega arith)
  get_or-mem (x ∷ xs) zero d h = Memᴰ.head refl
  get_or-mem (x ∷ xs) (suc i) d h = Memᴰ.tail (get_or-mem xs i d (omega arith))

  pub mem-get_or : {x : A} {xs : List A} (d : A) → Memᴰ x xs → (i : ℕ) × (i < length xs) × (get_or xs i d ≡ x)
  mem-get_or d (Memᴰ.head e) = (zero, omega arith, sym e)
  mem-get_or d (Memᴰ.tail m) = let (i, h, e) = mem-get_or d m in (suc i, omega arith, e)

  get_or-right : (xs ys : List A) (i : ℕ) (d : A) → get_or (xs ++ ys) (length xs + i) d ≡ get_or ys i d
  get_or-right [] ys i d = let e : 0 + i ≡ i = omega arith in rw e
  get_or-right (x ∷ xs) ys i d = let e : suc (length xs) + i ≡ suc (length xs + i) = omega arith in rw e (get_or-right xs ys i d)

  pub append_inj : (xs ys us vs : List A) → length xs ≡ length ys → xs ++ us ≡ ys ++ vs → (xs ≡ ys) × (us ≡ vs)
  append_inj [] [] us vs l e = (refl, e)
  append_inj [] (y ∷ ys) us vs l e = absurd (omega arith)
  append_inj (x ∷ xs) [] us vs l e = absurd (omega arith)
  append_inj (x ∷ xs) (y ∷ ys) us vs l e = let (h, t) = append_inj xs ys us vs (omega arith) (cc) in (cc, t)

pub all_map : {A B : Type 0} (p : B → Bool) (f : A → B) (xs : List A) → ((x : A) → Memᴰ x xs → T (p (f x))) → T (all_of p (map f xs))
all_map p f [] h = tt
all_map p f (x ∷ xs) h = and_i (p (f x)) (all_of p (map f xs)) (h x (Memᴰ.head refl)) (all_map p f xs (λ y m. h y (Memᴰ.tail m)))

pub get_d_map : {A B : Type 0} (f : A → B) (xs : List A) (i : ℕ) (d : A) (d' : B) → i < length xs → get_or (map f xs) i d' ≡ f (get_or xs i d)
get_d_map f [] i d d' h = absurd (omega arith)
get_d_map f (x ∷ xs) zero d d' h = refl
get_d_map f (x ∷ xs) (suc i) d d' h = get_d_map f xs i d d' (omega arith)

pub get_d_le : (n : ℕ) (xs : List ℕ) (i : ℕ) → T (all_of (λ x. leb x n) xs) → get_or xs i 0 ≤ n
get_d_le n [] i t = omega arith
get_d_le n (x ∷ xs) zero t = leb→le x n (and_l (leb x n) (all_of (λ x. leb x n) xs) t)
get_d_le n (x ∷ xs) (suc i) t = get_d_le n xs i (and_r (leb x n) (all_of (λ x. leb x n) xs) t)

pub mem_flat_map : {A B : Type 0} (f : A → List B) (xs : List A) {x : A} {l : B} → Memᴰ x xs → Memᴰ l (f x) → Memᴰ l (flat_map f xs)
unfolding flat_map
mem_flat_map f (y ∷ ys) (Memᴰ.head e) m = Memᴰ.append_left (flat_map f ys) (rw e at m)
mem_flat_map f (y ∷ ys) (Memᴰ.tail n) m = Memᴰ.append_right (f y) (mem_flat_map f ys n m)
mem_flat_map {A = A} {B = B} f [] {l = l} x4 m = elim x4 [ ]

pub flat_map_mem : {A B : Type 0} (f : A → List B) (xs : List A) {l : B} → Memᴰ l (flat_map f xs) → (x : A) × Memᴰ x xs × Memᴰ l (f x)
unfolding flat_map
flat_map_mem f (y ∷ ys) m =
    ⊎_elim (λ h. (y, Memᴰ.head refl, h)) (λ h. let (x, n, m') = flat_map_mem f ys h in (x, Memᴰ.tail n, m')) (Memᴰ.append_cases (f y) m)
flat_map_mem {A = A} {B = B} f [] {l = l} m = elim m [ ]

-- Tables

module _ {A B C : Type 0} (f : A → B → C) where
  pub table-length : (xs : List A) (ys : List B) → length (table f xs ys) ≡ length xs * length ys
  unfolding flat_map
  table-length [] ys = omega arith
  table-length (x ∷ xs) ys = omega (arith, length-append (map (f x) ys) (table f xs ys), length-map ys (f x), table-length xs ys)

  -- the entry of row p and column j
  pub table-get_or : (xs : List A) (ys : List B) (p j : ℕ) (a : A) (b : B) (c : C) → p < length xs → j < length ys
      → get_or (table f xs ys) (p * length ys + j) c ≡ f (get_or xs p a) (get_or ys j b)
  unfolding flat_map
  table-get_or [] ys p j a b c h k = absurd (omega arith)
  table-get_or (x ∷ xs) ys zero j a b c h k =
      let e : 0 * length ys + j ≡ j = omega arith in
      rw e (get_or-append (map (f x) ys) (table f xs ys) c j (omega (arith, length-map ys (f x))) ∙ get_d_map (f x) ys j b c k)
  table-get_or (x ∷ xs) ys (suc p) j a b c h k =
      let e : suc p * length ys + j ≡ length (map (f x) ys) + (p * length ys + j) = omega (arith, length-map ys (f x)) in
      rw e (get_or-right (map (f x) ys) (table f xs ys) (p * length ys + j) c ∙ table-get_or xs ys p j a b c (omega arith) k)

pub entry-below : (n w p j : ℕ) → p < n → j < w → p * w + j < n * w
entry-below n w p j h k = omega (arith, mul-le-mul_right w h)

-- row and column of an entry
pub row-column : (n w i : ℕ) → i < n * w → (p j : ℕ) × (p < n) × (j < w) × (i ≡ p * w + j)
row-column zero w i h = absurd (omega arith)
row-column (suc n) w i h = by_cases (dec_lt i w)
    (λ l. (0, i, omega arith, l, omega arith))
    (λ l. let (p, j, k, k', e) = row-column n w (i - w) (omega arith) in (suc p, j, omega arith, k', omega arith))

-- Numbers in a row

pub up_from-length : (i n : ℕ) → length (up_from i n) ≡ n
up_from-length i zero = refl
up_from-length i (suc n) = ap suc (up_from-length (suc i) n)

pub up_from-get_or : (i n j : ℕ) → j < n → get_or (up_from i n) j 0 ≡ i + j
up_from-get_or i zero j h = absurd (omega arith)
up_from-get_or i (suc n) zero h = omega arith
up_from-get_or i (suc n) (suc j) h = up_from-get_or (suc i) n j (omega arith) ∙ omega arith

pub up_from-append : (i m n : ℕ) → up_from i m ++ up_from (i + m) n ≡ up_from i (m + n)
up_from-append i zero n = let e : i + 0 ≡ i = omega arith in let e' : 0 + n ≡ n = omega arith in cc
up_from-append i (suc m) n = let e : i + suc m ≡ suc i + m = omega arith in let e' : suc m + n ≡ suc (m + n) = omega arith in cc (up_from-append (suc i) m n)

pub mem-up_from : (i n x : ℕ) → i ≤ x → x < i + n → Memᴰ x (up_from i n)
mem-up_from i zero x h h' = absurd (omega arith)
mem-up_from i (suc n) x h h' =
    by_cases (ℕ_discrete x i) (λ e. Memᴰ.head e) (λ d. Memᴰ.tail (mem-up_from (suc i) n x (omega arith) (omega arith)))

pub up_from-mem : (i n : ℕ) {x : ℕ} → Memᴰ x (up_from i n) → (i ≤ x) × (x < i + n)
up_from-mem i (suc n) (Memᴰ.head e) = omega arith
up_from-mem i (suc n) (Memᴰ.tail m) = let (h, h') = up_from-mem (suc i) n m in omega arith
up_from-mem i zero x3 = elim x3 [ ]

-- functions that agree on them, how many values there are, and which
pub up_from_agree : {A : Type 0} (f g : ℕ → A) (i n : ℕ) → ((j : ℕ) → i ≤ j → j < i + n → f j ≡ g j) → map f (up_from i n) ≡ map g (up_from i n)
up_from_agree f g i zero h = refl
up_from_agree f g i (suc n) h = cc (h i (omega arith) (omega arith), up_from_agree f g (suc i) n (λ j k l. h j (omega arith) (omega arith)))

pub up_from_values : {A : Type 0} (f : ℕ → A) (i n : ℕ) → length (map f (up_from i n)) ≡ n
up_from_values f i n = length-map (up_from i n) f ∙ up_from-length i n

pub up_from-value : {A : Type 0} (f : ℕ → A) (n j : ℕ) (d : A) → j < n → get_or (map f (up_from 0 n)) j d ≡ f j
up_from-value f n j d h =
    let e : 0 + j ≡ j = omega arith in
    get_d_map f (up_from 0 n) j 0 d (omega (arith, up_from-length 0 n)) ∙ ap f (up_from-get_or 0 n j h ∙ e)

-- what the least number is that passes a test
abbrev pub Least : (ℕ → Bool) → ℕ → ℕ → Option ℕ → Type 0
Least p i n none = (j : ℕ) → i ≤ j → j < i + n → T (p j) → ⊥
Least p i n (some x) = (i ≤ x) × (x < i + n) × T (p x) × ((j : ℕ) → i ≤ j → j < x → T (p j) → ⊥)

pub least-is : (p : ℕ → Bool) (i n : ℕ) → Least p i n (least p i n)
least-is p i zero = λ j h k t. omega arith
least-is p i (suc n) = step (p i) refl (least p (suc i) n) (least-is p (suc i) n)
  where
    other : p i ≡ false → (j : ℕ) → i ≤ j → T (p j) → suc i ≤ j
    other e j h t = by_cases (ℕ_discrete j i) (λ d. absurd (rw (d, e) at t)) (λ d. omega arith)

    step : (b : Bool) → p i ≡ b → (o : Option ℕ) → Least p (suc i) n o → Least p i (suc n) (cond b (some i) o)
    step true e o h = (omega arith, omega arith, rw e tt, λ j l k t. omega arith)
    step false e none h = λ j l k t. h j (other e j l t) (omega arith) t
    step false e (some x) (l, k, t, below) = (omega arith, omega arith, t, λ j m n u. below j (other e j m u) n u)

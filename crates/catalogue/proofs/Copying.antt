-- Rows of a flat list, and what loops write to arrays and buffers, entry by entry and row by row.
-- Assumes nothing.
use Prim.Native.Nat.{ℕ, zero, suc, ◌+◌, ◌*◌, ◌≤◌, ◌<◌}
use mathlib.Core.List.{List, [], ◌∷◌, ◌++◌, flat_map, Memᴰ}
use mathlib.Core.Logic.{by_cases}
use mathlib.Core.Path.{◌≡◌, refl, sym, ap, ap₂, ◌∙◌}
use native.Mathlib.Decide.{dec_lt}
use native.Mathlib.Numerals.{add-one}
use native.Mathlib.Omega.{arith}
use lib.ListN.{length, get_or, take, drop, set, replicate, length-append, drop_of_length-le}
use lib.Seq.{paste, drop-cons, take-suc, take_at, drop_at, drop-append-add, set_at, append_snoc, length-take-le, take-add, drop-drop, take-length, get_or-take, get_or-drop}
use Rattle.std.proofs.lemmas.List.{drop-replicate}
use Rattle.lists.specs.Arrays.{padded, written}
use Rattle.lists.proofs.Arrays.{padded_zeros, padded-take}

-- Rows

module _ {A : Type 0} (f : A → List ℕ) (w : ℕ) where
  pub flat_length : (xs : List A) → ((x : A) → Memᴰ x xs → length (f x) ≡ w) → length (flat_map f xs) ≡ length xs * w
  unfolding flat_map
  flat_length [] h = omega arith
  flat_length (x ∷ xs) h =
      omega (arith, length-append (f x) (flat_map f xs), h x (Memᴰ.head refl), flat_length xs (λ y m. h y (Memᴰ.tail m)))

  -- row i of a flat list
  pub flat_row : (xs : List A) (d : A) → ((x : A) → Memᴰ x xs → length (f x) ≡ w)
      → (i : ℕ) → i < length xs → take w (drop (i * w) (flat_map f xs)) ≡ f (get_or xs i d)
  unfolding flat_map
  flat_row [] d h i l = absurd (omega arith)
  flat_row (x ∷ xs) d h zero l =
      let e : 0 * w ≡ 0 = omega arith in
      rw e (take_at (f x) (flat_map f xs) w (h x (Memᴰ.head refl)))
  flat_row (x ∷ xs) d h (suc i) l =
      let e : suc i * w ≡ length (f x) + i * w = omega (arith, h x (Memᴰ.head refl)) in
      rw (e, drop-append-add (f x) (flat_map f xs) (i * w)) (flat_row xs d (λ y m. h y (Memᴰ.tail m)) i (omega arith))

-- an entry of a row of a flat list
pub row-entry : (flat : List ℕ) (w n i : ℕ) → i < w → get_or (take w (drop (n * w) flat)) i 0 ≡ get_or flat (n * w + i) 0
row-entry flat w n i h = get_or-take w (drop (n * w) flat) i 0 h ∙ get_or-drop (n * w) flat i 0

-- what is left of a list begins with the entry at that place
pub drop_head : (s : List ℕ) (i y : ℕ) (t : List ℕ) → drop i s ≡ y ∷ t → (i < length s) × (get_or s i 0 ≡ y) × (drop (suc i) s ≡ t)
drop_head s i y t e = by_cases (dec_lt i (length s))
    (λ h. let f : get_or s i 0 ∷ drop (suc i) s ≡ y ∷ t = sym (drop-cons s i 0 h) ∙ e in (h, cc, cc))
    (λ h. absurd (let f : drop i s ≡ [] = drop_of_length-le s {i = i} (omega arith) in let z : ◌≡◌ {A = ℕ} 0 1 = cc in omega arith))

-- Writing to the front

-- the first j entries of s, and then the buffer as it was
abbrev pub overlay : List ℕ → List ℕ → ℕ → List ℕ
overlay s buffer j = take j s ++ drop j buffer

module _ (s buffer : List ℕ) where
  -- one entry more
  pub overlay_next : (j y : ℕ) → j < length s → j < length buffer → get_or s j 0 ≡ y → set (overlay s buffer j) j y ≡ overlay s buffer (j + 1)
  overlay_next j y h k e =
      ap (λ r. set (take j s ++ r) j y) (drop-cons buffer j 0 k)
      ∙ set_at (take j s) (get_or buffer j 0) (drop (suc j) buffer) y j (length-take-le j s (omega arith))
      ∙ rw (add-one j, take-suc s j 0 h, e) (sym (append_snoc (take j s) y (drop (suc j) buffer)))

  -- one row more
  pub overlay_row : (n m : ℕ) (t : List ℕ) → n ≤ length s → n ≤ length buffer → take m t ≡ take m (drop n s)
      → paste (overlay s buffer n) n t m ≡ overlay s buffer (n + m)
  overlay_row n m t h k e =
      let front : take n (overlay s buffer n) ≡ take n s = take_at (take n s) (drop n buffer) n (length-take-le n s h) in
      let rest : drop n (overlay s buffer n) ≡ drop n buffer = drop_at (take n s) (drop n buffer) n (length-take-le n s h) in
      ap₂ (λ a b. a ++ take m t ++ b) front (sym (drop-drop m n (overlay s buffer n)) ∙ ap (drop m) rest ∙ drop-drop m n buffer)
      ∙ ap (λ a. take n s ++ a ++ drop (n + m) buffer) e
      ∙ ap (λ a. a ++ drop (n + m) buffer) (sym (take-add n m s))

  pub overlay_all : (j : ℕ) → j ≡ length s → overlay s buffer j ≡ written s buffer
  overlay_all j e = rw e (ap (λ r. r ++ drop (length s) buffer) (take-length s))

-- Arrays of five

overlay_padded : (s : List ℕ) (j : ℕ) → j ≡ length s → j ≤ 5 → overlay s (replicate 5 0) j ≡ padded 5 s
overlay_padded s j e h = overlay_all s (replicate 5 0) j e ∙ ap (λ r. s ++ r) (drop-replicate (length s) 5 0) ∙ sym (padded_zeros 5 s (omega arith))

pub padded_front : (s : List ℕ) (r : ℕ) → length s ≡ r → r ≤ 5 → take r (padded 5 s) ≡ s
padded_front s r e h = ap (λ n. take n (padded 5 s)) (sym e) ∙ padded-take 5 s (omega arith)

-- an array of five zeros to which the first i entries of a list are written
pub record Copied (s k : List ℕ) (i : ℕ) : Type 0 where
  pub within : i ≤ length s
  pub fits : length s ≤ 5
  pub done : k ≡ overlay s (replicate 5 0) i

pub copied_first : (s : List ℕ) → length s ≤ 5 → Copied s (replicate 5 0) 0
copied_first s h = record { within = omega arith; fits = h; done = refl }

pub copied_next : (s k : List ℕ) (i y : ℕ) → Copied s k i → i < length s → get_or s i 0 ≡ y → Copied s (set k i y) (i + 1)
copied_next s k i y q h e =
    let five = q.fits in
    record { within = omega arith; fits = five; done = rw q.done (overlay_next s (replicate 5 0) i y h (omega arith) e) }

pub copied_ended : (s k : List ℕ) (i : ℕ) → Copied s k i → length s ≤ i → k ≡ padded 5 s
copied_ended s k i q h = q.done ∙ overlay_padded s i (omega (arith, q.within)) (omega (arith, q.within, q.fits))

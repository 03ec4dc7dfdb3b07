-- One turn of each loop.
-- Assumes nothing.
use Prim.Native.Nat.{ℕ, zero, suc, ◌+◌, ◌-◌, ◌≤◌, ◌<◌}
use mathlib.Core.Bool.{Bool, true, false, cond}
use mathlib.Core.List.{List, [], ◌∷◌, ◌++◌}
use mathlib.Core.Logic.{◌≢◌}
use mathlib.Core.Path.{◌≡◌, refl, sym, ap, ◌∙◌}
use native.Mathlib.Omega.{arith}
use native.Mathlib.Numerals.{add-one}
use borrow.Author.Tests.{ltb-false, eq-eqb, ne_eqb}
use lib.Dec.{eqb, ltb}
use Rattle.std.specs.Prelude.{Some, None}
use Rattle.std.specs.Option.{unwrap_or}
use Rattle.std.specs.List.{position_or_len, position as find_position}
use Rattle.std.proofs.lemmas.List.Recursion.{is_position_or_len}
use Rattle.classes.proofs.Labels.{position-le}
use lib.ListN.{length, get_or, take, drop, set, drop_of_length-le}
use lib.Seq.{drop-cons, take-suc, length-take-le}
use Rattle.lists.specs.Arrays.{padded}
use Rattle.lists.specs.Searches.{first_from}
use Rattle.lists.proofs.Arrays.{padded_more}
use Rattle.graphs.specs.Lists.{eq_list}
use Rattle.classes.specs.Classes.{position, noted, labels}
use Rattle.classes.specs.Contents.{notes, fresh_from, identifier, identifiers}
use Rattle.classes.proofs.Legal.{notes-le, labels_append, labels_length}
use Rattle.classes.proofs.Identifiers.{identifiers-length}
use Rattle.labelling.proofs.Noted.{take-le}

-- The search for x among the first n of a list

position_is : (x : ℕ) (xs : List ℕ) → position xs x ≡ position_or_len (λ y. eqb y x) xs
position_is x = is_position_or_len (λ xs. position xs x) (λ y. eqb y x) refl (λ y ys. ap (cond (eqb y x) 0) (let e : suc (position ys x) ≡ 1 + position ys x = omega arith in e))

-- the place that the library's search finds, or else the length
pub position_found : (x n : ℕ) (xs : List ℕ) → length xs ≡ n → (unwrap_or (find_position (λ y. eqb y x) xs) n ≡ position xs x) × (position xs x ≤ n)
position_found x n xs e =
    let le : position xs x ≤ length xs = position-le xs x in
    (by (ltb (position_or_len (λ y. eqb y x) xs) (length xs)) refl ∙ sym (position_is x xs), omega arith)
  where
    by : (b : Bool) → ltb (position_or_len (λ y. eqb y x) xs) (length xs) ≡ b → unwrap_or (cond b (Some (position_or_len (λ y. eqb y x) xs)) None) n ≡ position_or_len (λ y. eqb y x) xs
    by true d = refl
    by false d = let h = ltb-false (position_or_len (λ y. eqb y x) xs) (length xs) d in omega (arith, h, position_is x xs, position-le xs x)

-- The same search, place by place

abbrev pub is_at : List ℕ → ℕ → ℕ → Bool
is_at s x j = eqb (get_or s j 0) x

first-from : (s : List ℕ) (x i n : ℕ) → i + n ≤ length s → first_from (is_at s x) i n ≡ i + position (take n (drop i s)) x
unfolding first_from
first-from s x i zero h = omega arith
first-from s x i (suc n) h =
    rw (drop-cons s i 0 (omega arith)) (go (is_at s x i) (first-from s x (suc i) n (omega arith)))
  where
    go : (b : Bool) → first_from (is_at s x) (suc i) n ≡ suc i + position (take n (drop (suc i) s)) x
        → cond b i (first_from (is_at s x) (suc i) n) ≡ i + cond b 0 (suc (position (take n (drop (suc i) s)) x))
    go true e = omega arith
    go false e = omega arith

pub position_first : (s : List ℕ) (n x : ℕ) → n ≤ length s → first_from (is_at s x) 0 n ≡ position (take n s) x
position_first s n x h = first-from s x 0 n (omega arith) ∙ omega arith

-- the smallest identifier that is not there is no smaller than the next number
pub fresh_later : (s : List ℕ) (n x : ℕ) → x < n → ltb (position s x) (length s) ≡ true → fresh_from s (x + 1) (n - (x + 1)) ≡ fresh_from s x (n - x)
fresh_later s n x h e =
    let m : n - x ≡ suc (n - (x + 1)) = omega arith in
    sym (ap (fresh_from s x) m ∙ ap (λ b. cond b (fresh_from s (suc x) (n - (x + 1))) x) e ∙ ap (λ k. fresh_from s k (n - (x + 1))) (sym (add-one x)))

-- The comparison of two lists, entry by entry

abbrev pub Same : List ℕ → List ℕ → ℕ → Type 0
Same k l i = eq_list k l ≡ eq_list (drop i k) (drop i l)

module _ (k l : List ℕ) (i : ℕ) (e : length k ≡ length l) (q : Same k l i) where
  pub same-passed : i < length l → get_or k i 0 ≡ get_or l i 0 → Same k l (i + 1)
  same-passed h f = q ∙ rw (add-one i, drop-cons k i 0 (omega arith), drop-cons l i 0 h, eq-eqb (get_or k i 0) (get_or l i 0) f)

  pub same_failed : i < length l → get_or k i 0 ≢ get_or l i 0 → eq_list k l ≡ false
  same_failed h f = q ∙ rw (drop-cons k i 0 (omega arith), drop-cons l i 0 h, ne_eqb (get_or k i 0) (get_or l i 0) f)

  pub same_ended : length l ≤ i → eq_list k l ≡ true
  same_ended h = q ∙ rw (drop_of_length-le k {i = i} (omega arith), drop_of_length-le l {i = i} h)

-- One value more

notes-append : (seen us vs : List ℕ) → notes seen (us ++ vs) ≡ notes (notes seen us) vs
notes-append seen [] vs = refl
notes-append seen (u ∷ us) vs = notes-append (noted seen u) us vs

identifiers-append : (seen ks ls : List ℕ) → identifiers seen (ks ++ ls) ≡ identifiers seen ks ++ identifiers (notes seen (identifiers seen ks)) ls
identifiers-append seen [] ls = refl
identifiers-append seen (k ∷ ks) ls = ap (λ l. identifier seen k ∷ l) (identifiers-append (noted seen (identifier seen k)) ks ls)

pub take_more : (xs : List ℕ) (i : ℕ) → i < length xs → take i xs ++ (get_or xs i 0 ∷ []) ≡ take (i + 1) xs
take_more xs i h = sym (ap (λ k. take k xs) (add-one i) ∙ take-suc xs i 0 h)

-- an array with one entry more
pub entry_more : {ls : List ℕ} (xs : List ℕ) (i y : ℕ) → ls ≡ padded 5 xs → length xs ≡ i → i < 5 → set ls i y ≡ padded 5 (xs ++ (y ∷ []))
entry_more xs i y e n h = ap (λ l. set l i y) e ∙ ap (λ k. set (padded 5 xs) k y) (sym n) ∙ padded_more 5 xs y (omega arith)

-- one value more, which is labelled
module _ (s vs : List ℕ) (i : ℕ) (low : i < 5) (long : i < length vs) {seen : List ℕ} (e : seen ≡ notes s (take i vs)) where
  pub value-seen : noted seen (get_or vs i 0) ≡ notes s (take (i + 1) vs)
  value-seen = ap (λ l. noted l (get_or vs i 0)) e ∙ sym (notes-append s (take i vs) (get_or vs i 0 ∷ [])) ∙ ap (notes s) (take_more vs i long)

  pub value-labels : {ls : List ℕ} → ls ≡ padded 5 (labels s (take i vs)) → set ls i (position seen (get_or vs i 0) + 1) ≡ padded 5 (labels s (take (i + 1) vs))
  value-labels l =
      let z : position seen (get_or vs i 0) + 1 ≡ suc (position (notes s (take i vs)) (get_or vs i 0)) = omega (arith, ap (λ z. position z (get_or vs i 0)) e) in
      entry_more (labels s (take i vs)) i (position seen (get_or vs i 0) + 1) l (labels_length s (take i vs) ∙ length-take-le i vs (omega arith)) low
      ∙ ap (λ k. padded 5 (labels s (take i vs) ++ (k ∷ []))) z ∙ ap (padded 5) (sym (labels_append s (take i vs) (get_or vs i 0 ∷ [])))
      ∙ ap (λ z. padded 5 (labels s z)) (take_more vs i long)

-- one label more, for which an identifier is found
module _ (s ls : List ℕ) (i : ℕ) (low : i < 5) (long : i < length ls) {seen : List ℕ} (e : seen ≡ notes s (identifiers s (take i ls))) where
  abbrev vs : List ℕ
  vs = identifiers s (take i ls)

  count : length vs ≡ i
  count = identifiers-length s (take i ls) ∙ length-take-le i ls (omega arith)

  more : vs ++ (identifier seen (get_or ls i 0) ∷ []) ≡ identifiers s (take (i + 1) ls)
  more =
      ap (λ z. vs ++ (identifier z (get_or ls i 0) ∷ [])) e ∙ sym (identifiers-append s (take i ls) (get_or ls i 0 ∷ []))
      ∙ ap (identifiers s) (take_more ls i long)

  pub found-seen : noted seen (identifier seen (get_or ls i 0)) ≡ notes s (identifiers s (take (i + 1) ls))
  found-seen = ap (λ l. noted l (identifier seen (get_or ls i 0))) e ∙ sym (notes-append s vs (identifier seen (get_or ls i 0) ∷ [])) ∙ ap (notes s) more

  pub found_ids : {ids : List ℕ} → ids ≡ padded 5 (identifiers s (take i ls)) → set ids i (identifier seen (get_or ls i 0)) ≡ padded 5 (identifiers s (take (i + 1) ls))
  found_ids k = entry_more vs i (identifier seen (get_or ls i 0)) k count low ∙ ap (padded 5) more

-- how many identifiers are known by then
pub noted_room : (s vs : List ℕ) (i n : ℕ) {seen : List ℕ} → seen ≡ notes s (take i vs) → length s ≤ n → length seen ≤ n + i
noted_room s vs i n e h = omega (arith, ap length e, notes-le s (take i vs), take-le i vs)

pub found_room : (s ls : List ℕ) (i n : ℕ) {seen : List ℕ} → seen ≡ notes s (identifiers s (take i ls)) → length s ≤ n → length seen ≤ n + i
found_room s ls i n e h = omega (arith, ap length e, notes-le s (identifiers s (take i ls)), identifiers-length s (take i ls), take-le i ls)

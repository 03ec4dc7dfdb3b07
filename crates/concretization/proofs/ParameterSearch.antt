-- One turn of the search for parameters.
-- Assumes nothing.
use Prim.Native.Nat.{ℕ, suc, ◌+◌, ◌-◌, ◌≤◌, ◌<◌}
use mathlib.Core.Bool.{Bool, true, false, cond}
use mathlib.Core.List.{List, [], ◌∷◌, ◌++◌, flat_map}
use mathlib.Core.Option.{Option, none, some}
use mathlib.Core.Path.{◌≡◌, refl, sym, ap, ◌∙◌}
use native.Mathlib.Omega.{arith}
use lib.ListN.{length, get_or, take, drop, set, drop_of_length-le}
use lib.Seq.{drop-cons}
use Rattle.graphs.specs.Lists.{up_from, select, first}
use Rattle.classes.specs.Classes.{noted, labels}
use Rattle.classes.specs.Contents.{notes, identifiers}
use Rattle.classes.proofs.Legal.{labels_length}
use Rattle.moves.specs.Moves.{pool}
use Rattle.forms.specs.declared.Arc.{Arc}
use Rattle.lists.specs.Arrays.{padded}
use Rattle.forms.specs.Slots.{values_from}
use Rattle.std.specs.Prelude.{Option as Given, Some, None}
use Rattle.concretization.specs.Parameters.{worth, tries, suits, found_of, label_slots, wanted_of, sought, new_contents}
use Rattle.lists.proofs.Arrays.{padded-take}

-- What a search says

found_none : (o : Option (List ℕ)) → None ≡ found_of o → o ≡ none
found_none none e = refl
found_none (some v) e = cc

module _ {A : Type 0} (p : A → Bool) where
  pub first-none : (us vs : List A) → first p us ≡ none → first p (us ++ vs) ≡ first p vs
  first-none [] vs e = refl
  first-none (u ∷ us) vs e = go (p u) refl e (first-none us vs)
    where
      go : (b : Bool) → p u ≡ b → cond b (some u) (first p us) ≡ none → (first p us ≡ none → first p (us ++ vs) ≡ first p vs) → cond (p u) (some u) (first p (us ++ vs)) ≡ first p vs
      go true q e h = let z : some u ≡ none = e in cc
      go false q e h = ap (λ d. cond d (some u) (first p (us ++ vs))) q ∙ h e

  pub first_some : (us vs : List A) {a : A} → first p us ≡ some a → first p (us ++ vs) ≡ some a
  first_some [] vs {a} e = let z : none ≡ some a = e in cc
  first_some (u ∷ us) vs {a} e = go (p u) refl e (first_some us vs)
    where
      go : (b : Bool) → p u ≡ b → cond b (some u) (first p us) ≡ some a → (first p us ≡ some a → first p (us ++ vs) ≡ some a) → cond (p u) (some u) (first p (us ++ vs)) ≡ some a
      go true q e h = ap (λ d. cond d (some u) (first p (us ++ vs))) q ∙ e
      go false q e h = ap (λ d. cond d (some u) (first p (us ++ vs))) q ∙ h e

found_some : (p : List ℕ → Bool) (us vs : List (List ℕ)) (r : List ℕ) → Some r ≡ found_of (first p us) → Some r ≡ found_of (first p (us ++ vs))
found_some p us vs r e = go (first p us) refl e
  where
    go : (o : Option (List ℕ)) → first p us ≡ o → Some r ≡ found_of o → Some r ≡ found_of (first p (us ++ vs))
    go none q e = cc
    go (some a) q e = e ∙ ap found_of (sym (first_some p us vs q))

-- The choices for one parameter

-- what is tried with the choices ys for the parameter in this slot, and m more
abbrev pub tried_with : List ℕ → ℕ → ℕ → List ℕ → List ℕ → List ℕ → List (List ℕ)
tried_with xs m at seen vals ys = flat_map (λ x. tries xs m (suc at) (noted seen x) (set vals at x)) (select (worth seen) ys)

module _ (xs : List ℕ) (m at : ℕ) (seen vals : List ℕ) where
  block : ℕ → List (List ℕ)
  block x = tries xs m (suc at) (noted seen x) (set vals at x)

  with_cons : (x : ℕ) (ys : List ℕ) (b : Bool) → worth seen x ≡ b → tried_with xs m at seen vals (x ∷ ys) ≡ cond b (block x) [] ++ tried_with xs m at seen vals ys
  unfolding flat_map block
  with_cons x ys true e = ap (λ d. flat_map (λ z. tries xs m (suc at) (noted seen z) (set vals at z)) (cond d (x ∷ select (worth seen) ys) (select (worth seen) ys))) e
  with_cons x ys false e = ap (λ d. flat_map (λ z. tries xs m (suc at) (noted seen z) (set vals at z)) (cond d (x ∷ select (worth seen) ys) (select (worth seen) ys))) e

  module _ (i : ℕ) (h : i < length xs) where
    at_turn : (b : Bool) → worth seen (get_or xs i 0) ≡ b → tried_with xs m at seen vals (drop i xs) ≡ cond b (block (get_or xs i 0)) [] ++ tried_with xs m at seen vals (drop (i + 1) xs)
    at_turn b e =
        let q : suc i ≡ i + 1 = omega arith in
        ap (tried_with xs m at seen vals) (drop-cons xs i 0 h) ∙ with_cons (get_or xs i 0) (drop (suc i) xs) b e
        ∙ ap (λ k. cond b (block (get_or xs i 0)) [] ++ tried_with xs m at seen vals (drop k xs)) q

    pub turn_skip : (p : List ℕ → Bool) → worth seen (get_or xs i 0) ≡ false → first p (tried_with xs m at seen vals (drop i xs)) ≡ first p (tried_with xs m at seen vals (drop (i + 1) xs))
    turn_skip p e = ap (first p) (at_turn false e)

    pub turn-fails : (p : List ℕ → Bool) → worth seen (get_or xs i 0) ≡ true → None ≡ found_of (first p (tries xs m (suc at) (noted seen (get_or xs i 0)) (set vals at (get_or xs i 0))))
        → first p (tried_with xs m at seen vals (drop i xs)) ≡ first p (tried_with xs m at seen vals (drop (i + 1) xs))
    unfolding block
    turn-fails p e q =
        let us = tries xs m (suc at) (noted seen (get_or xs i 0)) (set vals at (get_or xs i 0)) in
        ap (first p) (at_turn true e) ∙ first-none p us (tried_with xs m at seen vals (drop (i + 1) xs)) (found_none (first p us) q)

    pub turn_finds : (p : List ℕ → Bool) (r : List ℕ) → worth seen (get_or xs i 0) ≡ true → Some r ≡ found_of (first p (tries xs m (suc at) (noted seen (get_or xs i 0)) (set vals at (get_or xs i 0))))
        → Some r ≡ found_of (first p (tried_with xs m at seen vals (drop i xs)))
    unfolding block
    turn_finds p r e q =
        let us = tries xs m (suc at) (noted seen (get_or xs i 0)) (set vals at (get_or xs i 0)) in
        found_some p us (tried_with xs m at seen vals (drop (i + 1) xs)) r q ∙ ap (λ l. found_of (first p l)) (sym (at_turn true e))

  pub turn-done : (p : List ℕ → Bool) (i : ℕ) → length xs ≤ i → first p (tried_with xs m at seen vals (drop i xs)) ≡ none
  unfolding flat_map
  turn-done p i h = ap (λ l. first p (tried_with xs m at seen vals l)) (drop_of_length-le xs {i = i} h)

pub tries_last : (xs : List ℕ) (n d at : ℕ) (seen vals : List ℕ) → d ≡ n → vals ∷ [] ≡ tries xs (n - d) at seen vals
unfolding tries
tries_last xs n d at seen vals e = let z : 0 ≡ n - d = omega arith in ap (λ k. tries xs k at seen vals) z

pub tries-first : (xs : List ℕ) (n d at : ℕ) (seen vals : List ℕ) → d < n → tried_with xs (n - (d + 1)) at seen vals xs ≡ tries xs (n - d) at seen vals
unfolding tries
tries-first xs n d at seen vals h = let z : suc (n - (d + 1)) ≡ n - d = omega arith in ap (λ k. tries xs k at seen vals) z

-- what a search from the next slot on gives, after the identifier is noted
pub tried_next : (p : List ℕ → Bool) (xs : List ℕ) (m d : ℕ) (seen s vals : List ℕ) {r : Given (List ℕ)} → s ≡ seen → r ≡ found_of (first p (tries xs m (7 + (d + 1)) s vals))
    → r ≡ found_of (first p (tries xs m (suc (7 + d)) seen vals))
tried_next p xs m d seen s vals e h =
    let z : 7 + (d + 1) ≡ suc (7 + d) = omega arith in
    h ∙ ap (λ k. found_of (first p (tries xs m k s vals))) z ∙ ap (λ k. found_of (first p (tries xs m (suc (7 + d)) k vals))) e

-- The whole search, and the new contents, with what their parts give put in

pub sought-is : (x : Arc) (cs v vals k : List ℕ) {cs' wanted xs seen vals' : List ℕ} {r : Given (List ℕ)} → cs' ≡ cs → wanted ≡ wanted_of x (length cs) k → xs ≡ pool 15 cs → seen ≡ notes cs v → vals' ≡ vals
    → r ≡ found_of (first (suits x cs' wanted) (tries xs (x.params - 0) 7 seen vals')) → r ≡ found_of (sought x cs v vals k)
sought-is x cs v vals k {cs'} {wanted} {xs} {seen} {vals'} a b c d e h =
    let z : x.params - 0 ≡ x.params = omega arith in
    h ∙ ap (λ w. found_of (first (suits x w wanted) (tries xs (x.params - 0) 7 seen vals'))) a
    ∙ ap (λ w. found_of (first (suits x cs w) (tries xs (x.params - 0) 7 seen vals'))) b
    ∙ ap (λ w. found_of (first (suits x cs (wanted_of x (length cs) k)) (tries w (x.params - 0) 7 seen vals'))) c
    ∙ ap (λ w. found_of (first (suits x cs (wanted_of x (length cs) k)) (tries (pool 15 cs) w 7 seen vals'))) z
    ∙ ap (λ w. found_of (first (suits x cs (wanted_of x (length cs) k)) (tries (pool 15 cs) x.params 7 w vals'))) d
    ∙ ap (λ w. found_of (first (suits x cs (wanted_of x (length cs) k)) (tries (pool 15 cs) x.params 7 (notes cs v) w))) e

pub renewed-is : (x : Arc) (cs vals : List ℕ) (r : ℕ) (k : List ℕ) {u ls w : List ℕ} → r ≤ 5 → length (take r k) ≡ r → u ≡ notes cs (values_from vals x.source 0 x.sets)
    → ls ≡ padded 5 (labels (notes (up_from 1 (length cs)) (values_from (label_slots k) x.target 0 x.sets)) (take r k)) → w ≡ padded 5 (identifiers u (take r ls))
    → w ≡ padded 5 (new_contents x cs vals r k)
renewed-is x cs vals r k {u} {ls} {w} h n a b e =
    let l = labels (notes (up_from 1 (length cs)) (values_from (label_slots k) x.target 0 x.sets)) (take r k) in
    let m : length l ≡ r = labels_length (notes (up_from 1 (length cs)) (values_from (label_slots k) x.target 0 x.sets)) (take r k) ∙ n in
    e ∙ ap (λ z. padded 5 (identifiers z (take r ls))) a
    ∙ ap (λ z. padded 5 (identifiers (notes cs (values_from vals x.source 0 x.sets)) z)) (ap (take r) b ∙ ap (λ j. take j (padded 5 l)) (sym m) ∙ padded-take 5 l (omega arith))

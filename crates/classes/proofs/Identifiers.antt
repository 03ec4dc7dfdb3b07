-- `identifiers` has the given labels, is the smallest list that has them, and stays among the known and the small identifiers.
-- Assumes nothing.
use Prim.Native.Nat.{ℕ, zero, suc, ◌+◌, ◌≤◌, ◌<◌, pred}
use mathlib.Core.List.{List, [], ◌∷◌, ◌++◌, Memᴰ}
use mathlib.Core.Logic.{◌≢◌, inl, inr, ⊎_elim, by_cases}
use mathlib.Core.Path.{◌≡◌, refl, sym, ap, ◌∙◌, subst⁻¹}
use native.Mathlib.Decide.{ℕ_discrete, dec_lt, dec_le}
use native.Mathlib.Omega.{arith}
use borrow.Author.Tests.{le-leb, lt-leb}
use lib.ListN.{length, get_or}
use Rattle.graphs.specs.Lists.{item, AtMost}
use Rattle.graphs.proofs.Lists.{get_or-mem}
use Rattle.classes.specs.Renaming.{Renaming, rename, Absent, Distinct}
use Rattle.classes.specs.Classes.{position, noted, labels}
use Rattle.classes.specs.Contents.{notes, Legal}
use Rattle.classes.proofs.Labels.{position-cons-same, position-cons_other, position-le, position-found, position_absent, noted_old, noted_new, noted_renamed}
use Rattle.classes.proofs.Legal.{noted-length}
use Rattle.classes.specs.Contents.{fresh, identifier, identifiers}
use Rattle.graphs.proofs.Dictionary.{at_most_cons}
use Rattle.classes.proofs.Fresh.{fresh_absent, fresh-le, fresh-least}

-- The identifiers that have a label

absent_get_or : (d : ℕ) (xs : List ℕ) (i : ℕ) → Absent d xs → i < length xs → get_or xs i 0 ≢ d
absent_get_or d [] i a h = absurd (omega arith)
absent_get_or d (x ∷ xs) zero a h = a.0
absent_get_or d (x ∷ xs) (suc i) a h = absent_get_or d xs i a.1 (omega arith)

position-get_or : (xs : List ℕ) (i : ℕ) → Distinct xs → i < length xs → position xs (get_or xs i 0) ≡ i
position-get_or [] i a h = absurd (omega arith)
position-get_or (x ∷ xs) zero a h = position-cons-same x x xs refl
position-get_or (x ∷ xs) (suc i) (n, a) h =
    position-cons_other x (get_or xs i 0) xs (λ e. absent_get_or x xs i n (omega arith) (sym e)) ∙ ap suc (position-get_or xs i a (omega arith))

pub absent_snoc : (d e : ℕ) (xs : List ℕ) → Absent d xs → e ≢ d → Absent d (xs ++ (e ∷ []))
absent_snoc d e [] a n = (n, tt)
absent_snoc d e (x ∷ xs) (m, a) n = (m, absent_snoc d e xs a n)

distinct_snoc : (e : ℕ) (xs : List ℕ) → Distinct xs → Absent e xs → Distinct (xs ++ (e ∷ []))
distinct_snoc e [] d a = (tt, tt)
distinct_snoc e (x ∷ xs) (n, d) (m, a) = (absent_snoc x e xs n (λ q. m (sym q)), distinct_snoc e xs d a)

pub noted-distinct : (seen : List ℕ) (d : ℕ) → Distinct seen → Distinct (noted seen d)
noted-distinct seen d h = by_cases (dec_lt (position seen d) (length seen))
    (λ k. rw (noted_old seen d k) h)
    (λ k. rw (noted_new seen d (omega arith)) (distinct_snoc d seen h (position_absent seen d (omega arith))))

pub notes-distinct : (seen ds : List ℕ) → Distinct seen → Distinct (notes seen ds)
notes-distinct seen [] h = h
notes-distinct seen (d ∷ ds) h = notes-distinct (noted seen d) ds (noted-distinct seen d h)

pub notes_renamed : (π : Renaming) (seen ds : List ℕ) → notes (rename π seen) (rename π ds) ≡ rename π (notes seen ds)
notes_renamed π seen [] = refl
notes_renamed π seen (d ∷ ds) = ap (λ s. notes s (rename π ds)) (noted_renamed π seen d) ∙ notes_renamed π (noted seen d) ds

noted-mem : (seen : List ℕ) (d : ℕ) {x : ℕ} (P : ℕ → Type 0) → ((y : ℕ) → Memᴰ y seen → P y) → P d → Memᴰ x (noted seen d) → P x
noted-mem seen d {x} P old new m = by_cases (dec_lt (position seen d) (length seen))
    (λ k. old x (rw (noted_old seen d k) at m))
    (λ k.
    let m' : Memᴰ x (seen ++ (d ∷ [])) = rw (noted_new seen d (omega arith)) at m in
    ⊎_elim (old x) (λ o. subst⁻¹ P (mathlib.Core.List.Memᴰ.eq_of_singleton o) new) (mathlib.Core.List.Memᴰ.append_cases seen m'))

-- what holds of all in seen and in ds holds of all in `notes seen ds`
pub notes_every : (P : ℕ → Type 0) (seen ds : List ℕ) → ((y : ℕ) → Memᴰ y seen → P y) → ((y : ℕ) → Memᴰ y ds → P y)
    → (x : ℕ) → Memᴰ x (notes seen ds) → P x
notes_every P seen [] old new = old
notes_every P seen (d ∷ ds) old new =
    notes_every P (noted seen d) ds (λ y m. noted-mem seen d P old (new d (mathlib.Core.List.Memᴰ.head refl)) m) (λ y m. new y (mathlib.Core.List.Memᴰ.tail m))

-- One identifier

pub identifier_old : (seen : List ℕ) (x : ℕ) → x ≤ length seen → identifier seen x ≡ item seen x
identifier_old seen x h = rw (le-leb x (length seen) h)

pub identifier_new : (seen : List ℕ) (x : ℕ) → length seen < x → identifier seen x ≡ fresh seen
identifier_new seen x h = rw (lt-leb x (length seen) h)

-- it has the label
pub identifier_label : (seen : List ℕ) (x : ℕ) → Distinct seen → 1 ≤ x → x ≤ suc (length seen) → suc (position seen (identifier seen x)) ≡ x
identifier_label seen x d low high = by_cases (dec_le x (length seen))
    (λ h. omega (arith, ap (position seen) (identifier_old seen x h), position-get_or seen (pred x) d (omega arith)))
    (λ h. omega (arith, ap (position seen) (identifier_new seen x (omega arith)), fresh_absent seen, position-le seen (fresh seen)))

-- no smaller one has it
identifier-least : (seen : List ℕ) (d : ℕ) → identifier seen (suc (position seen d)) ≤ d
identifier-least seen d = by_cases (dec_lt (position seen d) (length seen))
    (λ h. omega (arith, identifier_old seen (suc (position seen d)) h, position-found seen d h))
    (λ h. omega (arith, identifier_new seen (suc (position seen d)) (omega arith), fresh-least seen d (omega arith)))

identifier_every : (P : ℕ → Type 0) (seen : List ℕ) (x : ℕ) → ((y : ℕ) → Memᴰ y seen → P y) → ((y : ℕ) → y ≤ length seen → P y) → 1 ≤ x → P (identifier seen x)
identifier_every P seen x old small low = by_cases (dec_le x (length seen))
    (λ h. rw (identifier_old seen x h) (old (item seen x) (get_or-mem seen (pred x) 0 (omega arith))))
    (λ h. rw (identifier_new seen x (omega arith)) (small (fresh seen) (fresh-le seen)))

-- Lists of them

pub identifiers-length : (seen ls : List ℕ) → length (identifiers seen ls) ≡ length ls
identifiers-length seen [] = refl
identifiers-length seen (x ∷ xs) = ap suc (identifiers-length (noted seen (identifier seen x)) xs)

pub identifiers-labels : (seen ls : List ℕ) → Distinct seen → Legal (length seen) ls → labels seen (identifiers seen ls) ≡ ls
identifiers-labels seen [] d l = refl
identifiers-labels seen (x ∷ xs) d (low, high, rest) =
    let i : ℕ = identifier seen x in
    let p : suc (position seen i) ≡ x = identifier_label seen x d low high in
    cc (p, identifiers-labels (noted seen i) xs (noted-distinct seen i d) (rw (noted-length seen i, p) rest))

-- no list with the same labels is smaller
pub identifiers-least : (seen ds : List ℕ) → AtMost (identifiers seen (labels seen ds)) ds
identifiers-least seen [] = inl refl
identifiers-least seen (d ∷ ds) =
    let i : ℕ = identifier seen (suc (position seen d)) in
    let h : i ≤ d = identifier-least seen d in
    by_cases (ℕ_discrete i d)
    (λ e. rw e (at_most_cons refl (identifiers-least (noted seen d) ds)))
    (λ n. inr (inl (omega arith)))

-- what holds of all in seen and of all small numbers holds of all identifiers
pub identifiers_every : (P : ℕ → Type 0) (seen ls : List ℕ) → ((y : ℕ) → Memᴰ y seen → P y) → ((y : ℕ) → y < length seen + length ls → P y)
    → Distinct seen → Legal (length seen) ls → (x : ℕ) → Memᴰ x (identifiers seen ls) → P x
identifiers_every P seen [] old small d l x m = elim m [ ]
identifiers_every P seen (k ∷ ks) old small d (low, high, rest) x m =
    let i : ℕ = identifier seen k in
    let p : suc (position seen i) ≡ k = identifier_label seen k d low high in
    let here : P i = identifier_every P seen k old (λ y h. small y (omega arith)) low in
    ⊎_elim (λ e. subst⁻¹ P e here)
    (identifiers_every P (noted seen i) ks (λ y n. noted-mem seen i P old here n) (λ y h. small y (omega (arith, noted-length seen i, position-le seen i)))
    (noted-distinct seen i d) (rw (noted-length seen i, p) rest) x)
    (mathlib.Core.List.Memᴰ.cases_cons m)

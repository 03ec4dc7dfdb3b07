-- The contents given back, register by register: constants, one identifier for each block, the smallest unused one for a new block.
-- Assumes nothing.
use Prim.Native.Nat.{ℕ, zero, suc, ◌≤◌, ◌<◌, max, pred}
use mathlib.Core.List.{List, [], ◌∷◌, ◌++◌}
use mathlib.Core.Logic.{◌≢◌, by_cases}
use mathlib.Core.Path.{◌≡◌, sym, ap, ◌∙◌}
use native.Mathlib.Decide.{dec_lt, dec_le}
use native.Mathlib.Omega.{arith}
use lib.ListN.{length, get_or, get_or-append}
use lib.Seq.{get_or-append_seam}
use Rattle.graphs.specs.Lists.{item}
use Rattle.classes.specs.Renaming.{Absent, Distinct}
use Rattle.classes.specs.Classes.{position, noted, Unused, GivenBack}
use Rattle.classes.specs.Contents.{Legal, fresh, identifier, identifiers, contents}
use Rattle.classes.proofs.Labels.{position-cons_other, position_absent, noted_old, noted_new}
use Rattle.classes.proofs.Legal.{noted-length}
use Rattle.classes.proofs.Fresh.{fresh_absent, fresh-least}
use Rattle.classes.proofs.Identifiers.{noted-distinct, absent_snoc, identifier_old, identifier_new, identifier_label, identifiers-length}

absent_position : (xs : List ℕ) (d : ℕ) → Absent d xs → length xs ≤ position xs d
absent_position [] d a = omega arith
absent_position (x ∷ xs) d (n, a) = omega (arith, position-cons_other x d xs n, absent_position xs d a)

absent_init : (e d : ℕ) (xs : List ℕ) → Absent e (xs ++ (d ∷ [])) → Absent e xs × (d ≢ e)
absent_init e d [] (n, a) = (tt, n)
absent_init e d (x ∷ xs) (n, a) = let (b, m) = absent_init e d xs a in ((n, b), m)

-- what has a label once d has one
absent_noted : (seen : List ℕ) (d e : ℕ) → Absent e (noted seen d) → Absent e seen × (d ≢ e)
absent_noted seen d e a = by_cases (dec_lt (position seen d) (length seen))
    (λ k.
    let b : Absent e seen = rw (noted_old seen d k) at a in
    (b, λ q. omega (arith, absent_position seen e b, ap (position seen) q)))
    (λ k. absent_init e d seen (rw (noted_new seen d (omega arith)) at a))

noted_absent : (seen : List ℕ) (d e : ℕ) → Absent e seen → d ≢ e → Absent e (noted seen d)
noted_absent seen d e a n = by_cases (dec_lt (position seen d) (length seen))
    (λ k. rw (noted_old seen d k) a)
    (λ k. rw (noted_new seen d (omega arith)) (absent_snoc e d seen a n))

-- a label keeps its identifier, and a new one has the identifier that was given to it
item-kept : (seen : List ℕ) (d x : ℕ) → 1 ≤ x → x ≤ length seen → item (noted seen d) x ≡ item seen x
item-kept seen d x low high = by_cases (dec_lt (position seen d) (length seen))
    (λ k. rw (noted_old seen d k))
    (λ k. rw (noted_new seen d (omega arith)) (get_or-append seen (d ∷ []) 0 (pred x) (omega arith)))

item-given : (seen : List ℕ) (x : ℕ) → Distinct seen → 1 ≤ x → x ≤ suc (length seen) → item (noted seen (identifier seen x)) x ≡ identifier seen x
item-given seen x distinct low high =
    let d : ℕ = identifier seen x in
    let p : suc (position seen d) ≡ x = identifier_label seen x distinct low high in
    by_cases (dec_le x (length seen))
    (λ h. rw (noted_old seen d (omega arith)) (sym (identifier_old seen x h)))
    (λ h. let e : pred x ≡ length seen = omega arith in rw (noted_new seen d (omega arith)) (ap (λ n. get_or (seen ++ (d ∷ [])) n 0) e ∙ get_or-append_seam seen d [] 0))

-- a legal list's labels are at least 1
pub legal-low : (b : ℕ) (k : List ℕ) (i : ℕ) → Legal b k → i < length k → 1 ≤ get_or k i 0
legal-low b [] i l h = absurd (omega arith)
legal-low b (x ∷ xs) zero (low, high, rest) h = low
legal-low b (x ∷ xs) (suc i) (low, high, rest) h = legal-low (max b x) xs i rest (omega arith)

-- what is left once the first register has its identifier
rest-legal : (seen : List ℕ) (x : ℕ) (xs : List ℕ) → Distinct seen → Legal (length seen) (x ∷ xs) → Legal (length (noted seen (identifier seen x))) xs
rest-legal seen x xs d (low, high, rest) = rw (noted-length seen (identifier seen x), identifier_label seen x d low high) rest

given-constants : (seen k : List ℕ) → Distinct seen → Legal (length seen) k → (i : ℕ) → i < length k → get_or k i 0 ≤ length seen
    → get_or (identifiers seen k) i 0 ≡ item seen (get_or k i 0)
given-constants seen [] d l i h c = absurd (omega arith)
given-constants seen (x ∷ xs) d l zero h c = identifier_old seen x c
given-constants seen (x ∷ xs) d l (suc i) h c =
    let y : ℕ = identifier seen x in
    given-constants (noted seen y) xs (noted-distinct seen y d) (rest-legal seen x xs d l) i (omega arith) (omega (arith, noted-length seen y))
    ∙ item-kept seen y (get_or xs i 0) (legal-low (max (length seen) x) xs i l.2 (omega arith)) c

given-blocks : (seen k : List ℕ) → Distinct seen → Legal (length seen) k → (i j : ℕ) → i < j → j < length k → get_or k i 0 ≡ get_or k j 0
    → get_or (identifiers seen k) i 0 ≡ get_or (identifiers seen k) j 0
given-blocks seen [] d l i j h h' e = absurd (omega arith)
given-blocks seen (x ∷ xs) d l i zero h h' e = absurd (omega arith)
given-blocks seen (x ∷ xs) d l zero (suc j) h h' e =
    let y : ℕ = identifier seen x in
    let p : suc (position seen y) ≡ x = identifier_label seen x d l.0 l.1 in
    let known : get_or xs j 0 ≤ length (noted seen y) = omega (arith, noted-length seen y) in
    sym (given-constants (noted seen y) xs (noted-distinct seen y d) (rest-legal seen x xs d l) j (omega arith) known
    ∙ ap (item (noted seen y)) (sym e) ∙ item-given seen x d l.0 l.1)
given-blocks seen (x ∷ xs) d l (suc i) (suc j) h h' e =
    let y : ℕ = identifier seen x in
    given-blocks (noted seen y) xs (noted-distinct seen y d) (rest-legal seen x xs d l) i j (omega arith) (omega arith) e

-- no register so far holds e, the first included
unlike : (y : ℕ) (v : List ℕ) (i e : ℕ) → y ≢ e → ((j : ℕ) → j < i → get_or v j 0 ≢ e) → (j : ℕ) → j < suc i → get_or (y ∷ v) j 0 ≢ e
unlike y v i e n h zero l = n
unlike y v i e n h (suc j) l = h j (omega arith)

given-smallest : (seen k : List ℕ) → Distinct seen → Legal (length seen) k → (i : ℕ) → i < length k → length seen < get_or k i 0
    → ((j : ℕ) → j < i → get_or k j 0 ≢ get_or k i 0)
    → Unused seen (identifiers seen k) i (get_or (identifiers seen k) i 0)
    × ((e : ℕ) → Unused seen (identifiers seen k) i e → get_or (identifiers seen k) i 0 ≤ e)
given-smallest seen [] d l i h new first = absurd (omega arith)
given-smallest seen (x ∷ xs) d l zero h new first = rw (identifier_new seen x new)
    ((position_absent seen (fresh seen) (fresh_absent seen), λ j m. absurd (omega arith)), λ e u. fresh-least seen e (absent_position seen e u.0))
given-smallest seen (x ∷ xs) d l (suc i) h new first =
    let y : ℕ = identifier seen x in
    let p : suc (position seen y) ≡ x = identifier_label seen x d l.0 l.1 in
    let other : x ≢ get_or xs i 0 = first 0 (omega arith) in
    let larger : length (noted seen y) < get_or xs i 0 = by_cases (dec_le x (length seen))
    (λ c. omega (arith, noted-length seen y))
    (λ c. omega (arith, noted-length seen y)) in
    let (unused, least) = given-smallest (noted seen y) xs (noted-distinct seen y d) (rest-legal seen x xs d l) i (omega arith) larger (λ j m. first (suc j) (omega arith)) in
    let (absent, differs) = absent_noted seen y (get_or (identifiers (noted seen y) xs) i 0) unused.0 in (
      (absent, unlike y (identifiers (noted seen y) xs) i (get_or (identifiers (noted seen y) xs) i 0) differs unused.1),
      λ e u. least e (noted_absent seen y e u.0 (u.1 0 (omega arith)), λ j m. u.1 (suc j) (omega arith)),
    )

pub contents-given : (cs k : List ℕ) → Distinct cs → Legal (length cs) k → GivenBack cs k (contents cs k)
contents-given cs k d l =
    record {
      wide = identifiers-length cs k;
      constants = given-constants cs k d l;
      blocks = given-blocks cs k d l;
      smallest = given-smallest cs k d l;
    }

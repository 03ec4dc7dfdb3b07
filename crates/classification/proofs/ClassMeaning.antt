-- The claims hold of what the calls' definitions give, and so of every reply and buffer that is equal to it.
-- Assumes nothing.
use Prim.Native.Nat.{ℕ, zero, suc, ◌*◌, ◌≤◌, ◌<◌}
use mathlib.Core.Bool.{Bool, true, false, ◌&&◌}
use mathlib.Core.List.{List, [], Memᴰ}
use mathlib.Core.Logic.{◌↔◌, ◌≢◌, ⊎_elim}
use mathlib.Core.Option.{Option, none, some}
use mathlib.Core.Path.{◌≡◌, refl, sym, ap, ap₂, ◌∙◌, subst, subst⁻¹}
use native.Mathlib.Omega.{arith}
use borrow.Author.Tests.{eqb-true, leb-true, ltb-true, eq-eqb, le-leb, lt-ltb}
use lib.Dec.{T, eqb, leb, ltb, lt→ltb}
use lib.ListN.{length, get_or, take}
use Rattle.lists.specs.Arrays.{written, Kept}
use Rattle.lists.proofs.Arrays.{written-begins, front_kept}
use Rattle.std.specs.Prelude.{Result, Ok, Err}
use Rattle.refusals.specs.declared.Refusal.{Refusal}
use Rattle.refusals.specs.Judged.{Judged, refusal, ◌then◌, require}
use Rattle.refusals.specs.Judged.Judged.{accepted, refused}
use Rattle.refusals.proofs.Composed.{then-accepted, then-refused, required}
use Rattle.graphs.specs.Lists.{up_from, eq_list}
use Rattle.graphs.proofs.Lists.{First, first-is, T_and, get_or-mem, table-length, up_from-length}
use Rattle.classes.specs.Renaming.{Distinct, rising, Representatives}
use Rattle.classes.specs.Classes.{labels, lists, index, GivenBack}
use Rattle.classes.specs.Contents.{Legal, contents}
use Rattle.classes.specs.Matrix.{cell, matrix, class_matrix}
use Rattle.classes.specs.MatrixClasses.{class_of_matrix, ClassAnswer}
use Rattle.classes.proofs.Renamings.{rising-distinct}
use Rattle.classes.proofs.Labels.{same_class, labels-class}
use Rattle.classes.proofs.Legal.{labels_length, labels-legal}
use Rattle.classes.proofs.Catalogue.{mem-lists, lists_ascending, index-mem, index-get_or}
use Rattle.classes.proofs.Contents.{contents-labels, contents-length, representatives}
use Rattle.classes.proofs.GivenBack.{contents-given}
use Rattle.classes.proofs.Matrices.{matrix-class, class_of-matrix, class_of-matrix-is}
use Rattle.catalogue.proofs.Complete.{lists-legal}
use Rattle.classification.specs.ClassTests.{test_counts, test_lists, test_range, class_found, number_of, done_of, written_of}
use Rattle.classification.specs.ClassCalls.{class_count_for, class_for, list_of, contents_for, matrix_for, matrix_contents_for, class_matrix_for, matrix_class_for}
use Rattle.classification.specs.ClassClaims.{FitCounts, Constants, FitConstants, NumberMeans, WrittenMeans, CountMeans, ClassIs, ClassMeans, ContentsMean, MatrixMeans, ClassHas, ClassMatrixMeans, SomeHave, BackFrom, MatrixClassMeans, MatrixContentsMean, BackByMatrix}
use Rattle.classification.proofs.Passed.{both, counts_fit, counts_pass, lists_fit, lists_pass, ranged-is, searched_is}

-- From what is accepted to what is said

module _ {Taken : Type 0} where
  number-means : {Right : ℕ → Type 0} (j : Judged ℕ) → (Taken → (n : ℕ) × (j ≡ accepted n) × Right n) → ((n : ℕ) → j ≡ accepted n → Taken) → NumberMeans Taken Right (number_of j)
  number-means j right only = record {
    said = λ t. let (n, e, p) = right t in (n, ap number_of e, p);
    unsaid = λ f. go f j refl;
  }
    where
      go : (Taken → ⊥) → (i : Judged ℕ) → j ≡ i → (x : Refusal) × (number_of i ≡ Err x)
      go f (accepted n) e = absurd (f (only n e))
      go f (refused x) e = (x, refl)

  written-means : {Right : List ℕ → Type 0} (n : ℕ) (j : Judged (List ℕ)) (before : List ℕ)
      → (Taken → (xs : List ℕ) × (j ≡ accepted xs) × (length xs ≡ n) × (n ≤ length before) × Right xs) → ((xs : List ℕ) → j ≡ accepted xs → Taken)
      → WrittenMeans Taken n Right (done_of j) before (written_of j before)
  written-means {Right} n j before right only = record {
    said = λ t. let (xs, e, l, room, p) = right t in subst⁻¹ (λ i. (done_of i ≡ Ok tt) × Right (take n (written_of i before)) × Kept n before (written_of i before)) e (front xs l room p);
    unsaid = λ f. go f j refl;
  }
    where
      front : (xs : List ℕ) → length xs ≡ n → n ≤ length before → Right xs → (◌≡◌ {A = Result (Unit {0}) Refusal} (Ok tt) (Ok tt)) × Right (take n (written xs before)) × Kept n before (written xs before)
      front xs l room p =
          let same : take n (written xs before) ≡ xs = subst (λ m. take m (written xs before) ≡ xs) l (written-begins xs before) in
          (refl, subst⁻¹ Right same p, subst (λ m. Kept m before (written xs before)) l (front_kept xs before (length xs) refl (omega arith)))

      go : (Taken → ⊥) → (i : Judged (List ℕ)) → j ≡ i → ((x : Refusal) × (done_of i ≡ Err x)) × (written_of i before ≡ before)
      go f (accepted xs) e = absurd (f (only xs e))
      go f (refused x) e = ((x, refl), refl)

-- Classes by their numbers

module _ (r c : ℕ) (few : FitCounts r c) (cs : List ℕ) (cn : Constants c cs) where
  abbrev ls : List (List ℕ)
  ls = lists r c

  class-given : (v : List ℕ) → length v ≡ r → class_for r cs v ≡ accepted (index ls (labels cs v))
  class-given v e =
      ap (λ x. x then (λ ok. accepted (index (lists r (length cs)) (labels cs v)))) (lists_fit _ r cs (eq-eqb (length v) r e) (subst⁻¹ (FitCounts r) cn.0 few, cn.1))
      ∙ ap (λ n. accepted (index (lists r n) (labels cs v))) cn.0

  listed : (v : List ℕ) → length v ≡ r → Memᴰ (labels cs v) ls
  listed v e = subst (λ n. Memᴰ (labels cs v) (lists n c)) (labels_length cs v ∙ e) (mem-lists c (labels cs v) (subst (λ n. Legal n (labels cs v)) cn.0 (labels-legal cs v)))

  -- contents have the number of a listed class exactly if they have its labels
  class-is : (v l : List ℕ) → length v ≡ r → Memᴰ l ls → ClassIs r cs v (index ls l) ↔ (labels cs v ≡ l)
  class-is v l e m =
      let given : number_of (class_for r cs v) ≡ Ok (index ls (labels cs v)) = ap number_of (class-given v e) in (
        (λ q.
            let same : Ok (index ls (labels cs v)) ≡ Ok (index ls l) = sym given ∙ q in
            let i : index ls (labels cs v) ≡ index ls l = cc in
            sym (index-mem ls (labels cs v) (listed v e)).1 ∙ ap (λ n. get_or ls n []) i ∙ (index-mem ls l m).1),
        (λ q. given ∙ ap (λ k. Ok (index ls k)) q),
      )

pub count-means : (r c : ℕ) → CountMeans r c (number_of (class_count_for r c))
count-means r c = number-means (class_count_for r c)
    (λ few. (
      length (lists r c),
      ap (λ x. x then (λ ok. accepted (length (lists r c)))) (counts_fit r c true refl few),
      λ cs (n, rise). subst (λ m. Representatives cs r (length (lists r m))) n (representatives cs r (rising-distinct cs rise)),
    ))
    (λ n e. (counts_pass r c true (then-accepted _ (λ ok. accepted (length (lists r c))) n e).1).1)

pub class-means : (r : ℕ) (cs v : List ℕ) → ClassMeans r cs v (number_of (class_for r cs v))
class-means r cs v = number-means (class_for r cs v)
    (λ ((few, rise), e). (
      index (lists r (length cs)) (labels cs v),
      class-given r (length cs) few cs (refl, rise) v e,
      λ w h.
          let (to, from) = class-is r (length cs) few cs (refl, rise) w (labels cs v) h (listed r (length cs) few cs (refl, rise) v e) in
          let (same, renamed) = labels-class cs v w in
          ((λ q. same (sym (to q))), λ s. from (sym (renamed s))),
    ))
    (λ n e.
    let (b, fit) = lists_pass _ r cs (then-accepted _ (λ ok. accepted (index (lists r (length cs)) (labels cs v))) n e).1 in
    (fit, eqb-true (length v) r b))

-- Contents of a class

ranged-only : (t : Judged (Unit {0})) (k n : ℕ) (y x : List ℕ) → (t then (λ ok. test_range k n then (λ inside. accepted y))) ≡ accepted x → (t ≡ accepted tt) × (k < n)
ranged-only t k n y x e =
    let (u, p, g) = then-accepted t (λ ok. test_range k n then (λ inside. accepted y)) x e in
    (p, ltb-true k n (required (refusal 5 0 0) (λ inside. accepted y) (ltb k n) x g).0)

pub contents_mean : (r : ℕ) (cs : List ℕ) (k : ℕ) (out : List ℕ) → ContentsMean r cs k (done_of (contents_for r cs k out)) out (written_of (contents_for r cs k out) out)
contents_mean r cs k out = written-means r (contents_for r cs k out) out
    (λ (fit, room, h).
    let l : List ℕ = list_of r (length cs) k in
    let (legal, len) = lists-legal r (length cs) k h in
    let d : Distinct cs = rising-distinct cs fit.1 in
    let wide : length (contents cs l) ≡ r = contents-length cs l ∙ len in (
      contents cs l,
      ranged-is _ (lists_fit _ r cs (le-leb r (length out) room) fit) k _ _ _ (lt-ltb k _ h),
      wide,
      room,
      (
        contents-given cs l d legal,
        (class-is r (length cs) fit.0 cs (refl, fit.1) (contents cs l) l wide (get_or-mem _ k [] h)).1 (contents-labels cs l d legal) ∙ ap Ok (index-get_or (lists r (length cs)) k (lists_ascending r (length cs)) h),
      ),
    ))
    (λ xs e.
    let (t, h) = ranged-only _ k _ _ xs e in
    let (b, fit) = lists_pass _ r cs t in
    (fit, leb-true r (length out) b, h))

-- Matrices of contents

module _ (r : ℕ) (cs v out : List ℕ) where
  matrix-given : FitConstants r cs → length v ≡ r → r * r ≤ length out → matrix_for r cs v out ≡ accepted (matrix cs v)
  matrix-given fit e room =
      ap (λ x. x then (λ ok. accepted (matrix cs v))) (lists_fit _ r cs (ap₂ ◌&&◌ (eq-eqb (length v) r e) (le-leb (r * r) (length out) room)) fit)

  pub matrix-means : MatrixMeans r cs v (done_of (matrix_for r cs v out)) out (written_of (matrix_for r cs v out) out)
  matrix-means = written-means (r * r) (matrix_for r cs v out) out
      (λ (fit, e, room). (
        matrix cs v,
        matrix-given fit e room,
        table-length (cell cs) v v ∙ ap (λ n. n * n) e,
        room,
        λ w h. let (same, renamed) = matrix-class cs v w (e ∙ sym h) in ((λ q. same (sym q)), λ s. sym (renamed s)),
      ))
      (λ xs e.
      let (b, fit) = lists_pass _ r cs (then-accepted _ (λ ok. accepted (matrix cs v)) xs e).1 in
      let (p, q) = both (eqb (length v) r) (leb (r * r) (length out)) b in
      (fit, eqb-true (length v) r p, leb-true (r * r) (length out) q))

-- The class of a matrix

pub found-listed : (r c : ℕ) (m l : List ℕ) → class_of_matrix r c m ≡ some l → Memᴰ l (lists r c)
found-listed r c m l o = go (class_of_matrix r c m) (first-is (λ x. eq_list (class_matrix c x) m) (lists r c)) o
  where
    go : (o : Option (List ℕ)) → First (λ x. eq_list (class_matrix c x) m) (lists r c) o → o ≡ some l → Memᴰ l (lists r c)
    go none h d = let z : ◌≡◌ {A = ℕ} 0 1 = cc in absurd (omega arith)
    go (some x) (mem, t) d = let z : x ≡ l = cc in subst (λ y. Memᴰ y (lists r c)) z mem

have_length : (r : ℕ) (cs m : List ℕ) → SomeHave r cs m → length m ≡ r * r
have_length r cs m (v, len, e) = sym (ap length e) ∙ table-length (cell cs) v v ∙ ap (λ n. n * n) len

module _ (r c : ℕ) (m cs : List ℕ) (cn : Constants c cs) where
  answer : ClassAnswer cs r m (class_of_matrix r c m)
  answer = subst (λ n. ClassAnswer cs r m (class_of_matrix r n m)) cn.0 (class_of-matrix cs r m (rising-distinct cs cn.1))

  have_found : SomeHave r cs m → (l : List ℕ) × (class_of_matrix r c m ≡ some l)
  have_found (v, len, e) = go (class_of_matrix r c m) answer
    where
      go : (o : Option (List ℕ)) → ClassAnswer cs r m o → (l : List ℕ) × (o ≡ some l)
      go none f = absurd (f v len e)
      go (some l) a = (l, refl)

  module _ (l : List ℕ) (o : class_of_matrix r c m ≡ some l) where
    found-answer : ClassAnswer cs r m (some l)
    found-answer = subst (ClassAnswer cs r m) o answer

    found_back : BackFrom r cs m (contents cs l)
    found_back =
        let (legal, len, has) = found-answer in
        let d : Distinct cs = rising-distinct cs cn.1 in
        let e : labels cs (contents cs l) ≡ l = contents-labels cs l d legal in
        let w : length (contents cs l) ≡ r = contents-length cs l ∙ len in record {
          wide = w;
          has = (has (contents cs l) w).1 e;
          given = subst⁻¹ (λ k. GivenBack cs k (contents cs l)) e (contents-given cs l d legal);
          class = λ v n h. same_class cs v (contents cs l) ((has v n).0 h ∙ sym e);
        }

    found_have : SomeHave r cs m
    found_have = (contents cs l, found_back.wide, found_back.has)

class-has : (r c : ℕ) (m l : List ℕ) → FitCounts r c → class_of_matrix r c m ≡ some l → ClassHas r c (index (lists r c) l) m
class-has r c m l few o cs v cn e =
    let (to, from) = class-is r c few cs cn v l e (found-listed r c m l o) in
    let (there, back) = (found-answer r c m cs cn l o).2 v e in
    ((λ q. back (to q)), λ q. from (there q))

pub class-matrix-means : (r c k : ℕ) (out : List ℕ) → ClassMatrixMeans r c k (done_of (class_matrix_for r c k out)) out (written_of (class_matrix_for r c k out) out)
class-matrix-means r c k out = written-means (r * r) (class_matrix_for r c k out) out
    (λ (few, room, h).
    let l : List ℕ = list_of r c k in
    let (legal, len) = lists-legal r c k h in (
      class_matrix c l,
      ranged-is _ (counts_fit r c _ (le-leb (r * r) (length out) room) few) k _ _ _ (lt-ltb k _ h),
      table-length (cell (up_from 1 c)) l l ∙ ap (λ n. n * n) len,
      room,
      subst (λ i. ClassHas r c i (class_matrix c l)) (index-get_or (lists r c) k (lists_ascending r c) h) (class-has r c (class_matrix c l) l few (class_of-matrix-is r c (class_matrix c l) l legal len refl)),
    ))
    (λ xs e.
    let (t, h) = ranged-only _ k _ _ xs e in
    let (b, few) = counts_pass r c _ t in
    (few, leb-true (r * r) (length out) b, h))

-- What a search answers, after tests that never say 10

require-not_10 : (b : Bool) (n : ℕ) → n ≢ 10 → require b (refusal n 0 0) ≡ refused (refusal 10 0 0) → ⊥
require-not_10 true n other e = let z : ◌≡◌ {A = ℕ} 0 1 = cc in omega arith
require-not_10 false n other e = let z : refusal n 0 0 ≡ refusal 10 0 0 = cc in other (ap (λ (x : Refusal). x.number) z)

counts-not_10 : (b : Bool) (r c : ℕ) → test_counts b r c ≡ refused (refusal 10 0 0) → ⊥
counts-not_10 b r c e =
    ⊎_elim (require-not_10 b 9 (λ z. omega arith)) (λ (x, p, q). require-not_10 (leb r 5 && leb c 2) 3 (λ z. omega arith) q)
    (then-refused (require b (refusal 9 0 0)) (λ ok. require (leb r 5 && leb c 2) (refusal 3 0 0)) (refusal 10 0 0) e)

lists-not_10 : (b : Bool) (r : ℕ) (cs : List ℕ) → test_lists b r cs ≡ refused (refusal 10 0 0) → ⊥
lists-not_10 b r cs e =
    ⊎_elim (counts-not_10 b r (length cs)) (λ (x, p, q). require-not_10 (rising cs) 4 (λ z. omega arith) q)
    (then-refused (test_counts b r (length cs)) (λ ok. require (rising cs) (refusal 4 0 0)) (refusal 10 0 0) e)

module _ {B : Type 0} (f : List ℕ → B) where
  searched_only : (t : Judged (Unit {0})) (o : Option (List ℕ)) (y : B) → (t then (λ ok. class_found o then (λ l. accepted (f l)))) ≡ accepted y
      → (t ≡ accepted tt) × ((l : List ℕ) × (o ≡ some l))
  searched_only (accepted x) (some l) y e = (refl, (l, refl))
  searched_only (accepted x) none y e = let z : ◌≡◌ {A = ℕ} 0 1 = cc in absurd (omega arith)
  searched_only (refused r) o y e = let z : ◌≡◌ {A = ℕ} 0 1 = cc in absurd (omega arith)

  searched_10 : (t : Judged (Unit {0})) (o : Option (List ℕ)) → (t ≡ refused (refusal 10 0 0) → ⊥)
      → ((t then (λ ok. class_found o then (λ l. accepted (f l)))) ≡ refused (refusal 10 0 0)) ↔ ((t ≡ accepted tt) × ((l : List ℕ) → o ≡ some l → ⊥))
  searched_10 (accepted x) none other = ((λ e. (refl, λ l p. let z : ◌≡◌ {A = ℕ} 0 1 = cc in omega arith)), λ p. refl)
  searched_10 (accepted x) (some l) other = ((λ e. let z : ◌≡◌ {A = ℕ} 0 1 = cc in absurd (omega arith)), λ (t, p). absurd (p l refl))
  searched_10 (refused r) o other = ((λ e. let z : r ≡ refusal 10 0 0 = cc in absurd (other (ap refused z))), λ (t, p). let z : ◌≡◌ {A = ℕ} 0 1 = cc in absurd (omega arith))

number_10 : (j : Judged ℕ) → (number_of j ≡ Err (refusal 10 0 0)) ↔ (j ≡ refused (refusal 10 0 0))
number_10 (accepted n) = ((λ e. let z : ◌≡◌ {A = ℕ} 0 1 = cc in absurd (omega arith)), ap number_of)
number_10 (refused r) = ((λ e. let z : r ≡ refusal 10 0 0 = cc in ap refused z), ap number_of)

written_10 : (j : Judged (List ℕ)) → (done_of j ≡ Err (refusal 10 0 0)) ↔ (j ≡ refused (refusal 10 0 0))
written_10 (accepted xs) = ((λ e. let z : ◌≡◌ {A = ℕ} 0 1 = cc in absurd (omega arith)), ap done_of)
written_10 (refused r) = ((λ e. let z : r ≡ refusal 10 0 0 = cc in ap refused z), ap done_of)

rises_up : (i n : ℕ) → T (rising (up_from i n))
rises_up i zero = tt
rises_up i (suc zero) = tt
rises_up i (suc (suc n)) = (T_and (ltb i (suc i)) (rising (up_from (suc i) (suc n)))).1 (lt→ltb i (suc i) (omega arith), rises_up (suc i) (suc n))

pub matrix-class-means : (r c : ℕ) (m : List ℕ) → MatrixClassMeans r c m (number_of (matrix_class_for r c m))
matrix-class-means r c m =
    let marks : Constants c (up_from 1 c) = (up_from-length 1 c, rises_up 1 c) in
    let (to, from) = number_10 (matrix_class_for r c m) in
    let (there, back) = searched_10 (index (lists r c)) _ (class_of_matrix r c m) (counts-not_10 (eqb (length m) (r * r)) r c) in record {
      number = number-means (matrix_class_for r c m)
          (λ (few, (cs, cn, h)).
          let (l, o) = have_found r c m cs cn h in
          (index (lists r c) l, searched_is _ (counts_fit r c _ (eq-eqb _ _ (have_length r cs m h)) few) _ _ _ o, class-has r c m l few o))
          (λ k e.
          let (t, (l, o)) = searched_only (index (lists r c)) (test_counts (eqb (length m) (r * r)) r c) _ k e in
          ((counts_pass r c (eqb (length m) (r * r)) t).1, (up_from 1 c, marks, found_have r c m (up_from 1 c) marks l o)));
      none = (
        (λ e.
            let (t, f) = there (to e) in
            let (b, few) = counts_pass r c _ t in
            (few, eqb-true _ _ b, λ cs cn h. let (l, o) = have_found r c m cs cn h in f l o)),
        λ (few, len, f). from (back (counts_fit r c _ (eq-eqb _ _ len) few, λ l o. f (up_from 1 c) marks (found_have r c m (up_from 1 c) marks l o))),
      );
    }

module _ (r : ℕ) (cs m out : List ℕ) where
  back_fit : FitConstants r cs → length m ≡ r * r → r ≤ length out → test_lists (eqb (length m) (r * r) && leb r (length out)) r cs ≡ accepted tt
  back_fit fit e room = lists_fit _ r cs (ap₂ ◌&&◌ (eq-eqb _ _ e) (le-leb r (length out) room)) fit

  pub back-passed : test_lists (eqb (length m) (r * r) && leb r (length out)) r cs ≡ accepted tt → FitConstants r cs × (length m ≡ r * r) × (r ≤ length out)
  back-passed t =
      let (b, fit) = lists_pass _ r cs t in
      let (p, q) = both (eqb (length m) (r * r)) (leb r (length out)) b in
      (fit, eqb-true _ _ p, leb-true r (length out) q)

  back-given : FitConstants r cs → r ≤ length out → SomeHave r cs m → (w : List ℕ) × (matrix_contents_for r cs m out ≡ accepted w) × BackFrom r cs m w
  back-given fit room h =
      let (l, o) = have_found r (length cs) m cs (refl, fit.1) h in
      (contents cs l, searched_is _ (back_fit fit (have_length r cs m h) room) _ _ _ o, found_back r (length cs) m cs (refl, fit.1) l o)

  pub matrix-contents_mean : MatrixContentsMean r cs m (done_of (matrix_contents_for r cs m out)) out (written_of (matrix_contents_for r cs m out) out)
  matrix-contents_mean =
      let (to, from) = written_10 (matrix_contents_for r cs m out) in
      let (there, back) = searched_10 (contents cs) _ (class_of_matrix r (length cs) m) (lists-not_10 (eqb (length m) (r * r) && leb r (length out)) r cs) in record {
        contents = written-means r (matrix_contents_for r cs m out) out
            (λ (fit, room, h). let (w, e, b) = back-given fit room h in (w, e, b.wide, room, b))
            (λ xs e.
            let (t, (l, o)) = searched_only (contents cs) (test_lists (eqb (length m) (r * r) && leb r (length out)) r cs) _ xs e in
            let (fit, len, room) = back-passed t in
            (fit, room, found_have r (length cs) m cs (refl, fit.1) l o));
        none = (
          (λ e.
              let (t, f) = there (to e) in
              let (fit, len, room) = back-passed t in
              (fit, len, room, λ h. let (l, o) = have_found r (length cs) m cs (refl, fit.1) h in f l o)),
          λ (fit, len, room, f). from (back (back_fit fit len room, λ l o. f (found_have r (length cs) m cs (refl, fit.1) l o))),
        );
      }

-- The two calls composed

pub back_by_matrix : BackByMatrix
back_by_matrix r cs v out buffer fit e room room' =
    let (w, g, back) = back-given r cs (matrix cs v) buffer fit room' (v, e, refl) in
    (matrix cs v, w, matrix-given r cs v out fit e room, g, back.class v e refl)

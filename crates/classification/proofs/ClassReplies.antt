-- The replies of the calls on contents, classes and matrices, from what their tests and the catalogue's functions say.
-- Assumes nothing.
use Prim.Native.Nat.{ℕ, ◌*◌, ◌≤◌, ◌<◌}
use mathlib.Core.Bool.{◌&&◌}
use mathlib.Core.List.{List}
use mathlib.Core.Option.{Option, none, some}
use mathlib.Core.Path.{◌≡◌, refl, sym, ap, ap₂, ◌∙◌, subst}
use native.Mathlib.Omega.{arith}
use borrow.Author.Tests.{eqb-true, leb-true, lt-ltb}
use lib.Dec.{eqb, leb}
use lib.ListN.{length, take}
use Rattle.std.specs.Prelude.{Result, Ok, Err, Some, None, ok_or}
use Rattle.std.specs.Prelude as rust
use Rattle.refusals.specs.declared.Refusal.{Refusal}
use Rattle.refusals.specs.Judged.{refusal, ◌then◌}
use Rattle.refusals.specs.Judged.Judged.{accepted, refused}
use Rattle.classes.specs.Classes.{labels, lists, index}
use Rattle.classes.specs.Contents.{Legal, contents}
use Rattle.classes.specs.Matrix.{matrix, class_matrix}
use Rattle.classes.specs.MatrixClasses.{class_of_matrix}
use Rattle.classes.proofs.Catalogue.{index-mem}
use Rattle.classes.proofs.Contents.{contents-length}
use Rattle.lists.specs.Arrays.{padded, written}
use Rattle.catalogue.specs.MatrixCells.{found}
use Rattle.catalogue.proofs.Copying.{padded_front}
use Rattle.catalogue.proofs.Complete.{lists-legal}
use Rattle.classification.specs.ClassTests.{test_counts, test_lists, class_found, done_of}
use Rattle.classification.specs.ClassCalls.{class_for, list_of, contents_for, matrix_for, matrix_contents_for, class_matrix_for, matrix_class_for}
use Rattle.classification.specs.ClassClaims.{ClassMeans, ContentsMean, MatrixMeans, ClassMatrixMeans, MatrixClassMeans, MatrixContentsMean}
use Rattle.classification.proofs.ClassMeaning.{found-listed, back-passed, class-means, contents_mean, matrix-means, class-matrix-means, matrix-class-means, matrix-contents_mean}
use Rattle.classification.proofs.Passed.{NumberPromise, WrittenPromise, both, told-refused, told-done, number_promised, written_promised, counts_pass, lists_pass, ranged-is, searched_is}

-- Class lists and contents in arrays

module _ (r c k : ℕ) (few : r ≤ 5) (labels : List ℕ) (h : k < length (lists r c)) (e : labels ≡ padded 5 (list_of r c k)) where
  pub list_front : take r labels ≡ list_of r c k
  list_front = ap (take r) e ∙ padded_front (list_of r c k) r (lists-legal r c k h).1 few

  pub list_legal : Legal c (take r labels)
  list_legal = subst (Legal c) (sym list_front) (lists-legal r c k h).0

module _ (r : ℕ) (few : r ≤ 5) (cs p labels : List ℕ) (k : ℕ) (h : k < length (lists r (length cs))) (e : labels ≡ padded 5 (list_of r (length cs) k)) (f : take (length cs) p ≡ cs) where
  pub given_back : (list : List ℕ) → list ≡ padded 5 (contents (take (length cs) p) (take r labels)) → take r list ≡ contents cs (list_of r (length cs) k)
  given_back list g =
      let same : list ≡ padded 5 (contents cs (list_of r (length cs) k)) = g ∙ ap₂ (λ a b. padded 5 (contents a b)) f (list_front r (length cs) k few labels h e) in
      ap (take r) same ∙ padded_front (contents cs (list_of r (length cs) k)) r (contents-length cs (list_of r (length cs) k) ∙ (lists-legal r (length cs) k h).1) few

-- The class of contents

module _ (r : ℕ) (cs v : List ℕ) (q : Result (Unit {0}) Refusal) (e : q ≡ done_of (test_lists (eqb (length v) r) r cs)) where
  abbrev ClassPromise : Result ℕ Refusal → Type 0
  ClassPromise = NumberPromise (ClassMeans r cs v) (class_for r cs v)

  module _ (d : q ≡ Ok tt) where
    class_pass : test_lists (eqb (length v) r) r cs ≡ accepted tt
    class_pass = told-done (test_lists (eqb (length v) r) r cs) q e d

    pub class-taken : (length cs ≤ 2) × (length v ≤ 5) × (length v ≡ r)
    class-taken =
        let (b, ((few, l), rise)) = lists_pass (eqb (length v) r) r cs class_pass in
        let w : length v ≡ r = eqb-true (length v) r b in
        (l, subst (λ m. m ≤ 5) (sym w) few, w)

    pub class-is : (x : ℕ) (p f : List ℕ) → take (length cs) p ≡ cs → f ≡ padded 5 v
        → x ≡ index (lists (length v) (length cs)) (labels (take (length cs) p) (take (length v) f)) → ClassPromise (Ok x)
    class-is x p f cp fp g =
        let front : take (length v) f ≡ v = ap (take (length v)) fp ∙ padded_front v (length v) refl class-taken.1 in
        number_promised (ClassMeans r cs v) (class_for r cs v) (class-means r cs v) (accepted x)
        (ap (λ t. t then (λ ok. accepted (index (lists r (length cs)) (labels cs v)))) class_pass
        ∙ sym (ap accepted (g ∙ ap₂ (λ a b. index (lists (length v) (length cs)) (labels a b)) cp front ∙ ap (λ m. index (lists m (length cs)) (labels cs v)) class-taken.2)))

-- The contents of a class

module _ (r : ℕ) (cs : List ℕ) (k : ℕ) (out : List ℕ) (q : Result (Unit {0}) Refusal) (e : q ≡ done_of (test_lists (leb r (length out)) r cs)) where
  abbrev ContentsPromise : Result (Unit {0}) Refusal → List ℕ → Type 0
  ContentsPromise = WrittenPromise (λ q. ContentsMean r cs k q out) (contents_for r cs k out) out

  module _ (d : q ≡ Ok tt) where
    contents_pass : test_lists (leb r (length out)) r cs ≡ accepted tt
    contents_pass = told-done (test_lists (leb r (length out)) r cs) q e d

    pub contents-done : (front exit : List ℕ) → k < length (lists r (length cs)) → front ≡ contents cs (list_of r (length cs) k) → exit ≡ written front out → ContentsPromise (Ok tt) exit
    contents-done front exit h f w = written_promised (λ q. ContentsMean r cs k q out) (contents_for r cs k out) out (contents_mean r cs k out) (accepted front) exit (ranged-is _ contents_pass k _ _ _ (lt-ltb k _ h) ∙ sym (ap accepted f)) w

-- The matrix of contents

module _ (r : ℕ) (cs v out : List ℕ) (s : ℕ) (sq : s ≡ r * r) (q : Result (Unit {0}) Refusal) (g : q ≡ done_of (test_lists (eqb (length v) r && leb s (length out)) r cs)) where
  abbrev MatrixPromise : Result (Unit {0}) Refusal → List ℕ → Type 0
  MatrixPromise = WrittenPromise (λ q. MatrixMeans r cs v q out) (matrix_for r cs v out) out

  e : q ≡ done_of (test_lists (eqb (length v) r && leb (r * r) (length out)) r cs)
  e = g ∙ ap (λ x. done_of (test_lists (eqb (length v) r && leb x (length out)) r cs)) sq

  pub matrix-refused : (n : Refusal) → q ≡ Err n → MatrixPromise (Err n) out
  matrix-refused n d = written_promised (λ q. MatrixMeans r cs v q out) (matrix_for r cs v out) out (matrix-means r cs v out) (refused n) out (told-refused (test_lists (eqb (length v) r && leb (r * r) (length out)) r cs) _ q e n d) refl

  module _ (d : q ≡ Ok tt) where
    matrix_pass : test_lists (eqb (length v) r && leb (r * r) (length out)) r cs ≡ accepted tt
    matrix_pass = told-done (test_lists (eqb (length v) r && leb (r * r) (length out)) r cs) q e d

    pub matrix-taken : (length cs ≤ 2) × (length v ≤ 5) × (length v * length v ≤ length out)
    matrix-taken =
        let (b, ((few, l), rise)) = lists_pass _ r cs matrix_pass in
        let (x, y) = both (eqb (length v) r) (leb (r * r) (length out)) b in
        let w : length v ≡ r = eqb-true (length v) r x in
        (l, subst (λ m. m ≤ 5) (sym w) few, subst (λ m. m * m ≤ length out) (sym w) (leb-true (r * r) (length out) y))

    pub matrix-done : (p f exit : List ℕ) → take (length cs) p ≡ cs → f ≡ padded 5 v → exit ≡ written (matrix (take (length cs) p) (take (length v) f)) out → MatrixPromise (Ok tt) exit
    matrix-done p f exit cp fp w =
        let front : take (length v) f ≡ v = ap (take (length v)) fp ∙ padded_front v (length v) refl matrix-taken.1 in
        written_promised (λ q. MatrixMeans r cs v q out) (matrix_for r cs v out) out (matrix-means r cs v out) (accepted _) exit (ap (λ t. t then (λ ok. accepted (matrix cs v))) matrix_pass ∙ sym (ap accepted (ap₂ matrix cp front))) w

-- The matrix of a class

module _ (r c k : ℕ) (out : List ℕ) (s : ℕ) (sq : s ≡ r * r) (q : Result (Unit {0}) Refusal) (g : q ≡ done_of (test_counts (leb s (length out)) r c)) where
  abbrev ClassMatrixPromise : Result (Unit {0}) Refusal → List ℕ → Type 0
  ClassMatrixPromise = WrittenPromise (λ q. ClassMatrixMeans r c k q out) (class_matrix_for r c k out) out

  class-told : q ≡ done_of (test_counts (leb (r * r) (length out)) r c)
  class-told = g ∙ ap (λ x. done_of (test_counts (leb x (length out)) r c)) sq

  module _ (d : q ≡ Ok tt) where
    class-matrix_pass : test_counts (leb (r * r) (length out)) r c ≡ accepted tt
    class-matrix_pass = told-done (test_counts (leb (r * r) (length out)) r c) q class-told d

    class-matrix-taken : (r ≤ 5) × (c ≤ 2) × (r * r ≤ length out)
    class-matrix-taken =
        let (b, (x, y)) = counts_pass r c (leb (r * r) (length out)) class-matrix_pass in
        (x, y, leb-true (r * r) (length out) b)

    pub class-matrix-done : (labels exit : List ℕ) → k < length (lists r c) → labels ≡ padded 5 (list_of r c k) → exit ≡ written (class_matrix c (take r labels)) out → ClassMatrixPromise (Ok tt) exit
    class-matrix-done labels exit h l w =
        written_promised (λ q. ClassMatrixMeans r c k q out) (class_matrix_for r c k out) out (class-matrix-means r c k out) (accepted _) exit
        (ranged-is _ class-matrix_pass k _ _ _ (lt-ltb k _ h) ∙ sym (ap (λ x. accepted (class_matrix c x)) (list_front r c k class-matrix-taken.0 labels h l))) w

-- The class of a matrix

-- what was found, as it is judged
found-class : (r c : ℕ) (o : Option (List ℕ)) (k : ℕ) → Some k ≡ found r c o → (l : List ℕ) × (o ≡ some l) × (k ≡ index (lists r c) l)
found-class r c none k e = let z : ◌≡◌ {A = ℕ} 0 1 = cc in absurd (omega arith)
found-class r c (some l) k e = let d : k ≡ index (lists r c) l = cc in (l, refl, d)

found_none : (r c : ℕ) (o : Option (List ℕ)) → None ≡ found r c o → o ≡ none
found_none r c none e = refl
found_none r c (some l) e = let z : ◌≡◌ {A = ℕ} 0 1 = cc in absurd (omega arith)

-- the number of a class that was found is that of its list
pub class-listed : (r c : ℕ) (m : List ℕ) (k : ℕ) → Some k ≡ found r c (class_of_matrix r c m) → (k < length (lists r c)) × (class_of_matrix r c m ≡ some (list_of r c k))
class-listed r c m k e =
    let (l, o, i) = found-class r c (class_of_matrix r c m) k e in
    let (b, g) = index-mem (lists r c) l (found-listed r c m l o) in
    (subst (λ x. x < length (lists r c)) (sym i) b, o ∙ ap some (sym (ap (λ x. list_of r c x) i ∙ g)))

module _ (r c : ℕ) (m : List ℕ) (s : ℕ) (sq : s ≡ r * r) (q : Result (Unit {0}) Refusal) (g : q ≡ done_of (test_counts (eqb (length m) s) r c)) where
  abbrev MatrixClassPromise : Result ℕ Refusal → Type 0
  MatrixClassPromise = NumberPromise (MatrixClassMeans r c m) (matrix_class_for r c m)

  number-told : q ≡ done_of (test_counts (eqb (length m) (r * r)) r c)
  number-told = g ∙ ap (λ x. done_of (test_counts (eqb (length m) x) r c)) sq

  pub number-not-taken : (n : Refusal) → q ≡ Err n → MatrixClassPromise (Err n)
  number-not-taken n d = number_promised (MatrixClassMeans r c m) (matrix_class_for r c m) (matrix-class-means r c m) (refused n) (told-refused (test_counts (eqb (length m) (r * r)) r c) _ q number-told n d)

  module _ (d : q ≡ Ok tt) where
    number_pass : test_counts (eqb (length m) (r * r)) r c ≡ accepted tt
    number_pass = told-done (test_counts (eqb (length m) (r * r)) r c) q number-told d

    number-found : (k : ℕ) → Some k ≡ found r c (class_of_matrix r c m) → MatrixClassPromise (Ok k)
    number-found k f =
        let (l, o, i) = found-class r c (class_of_matrix r c m) k f in
        number_promised (MatrixClassMeans r c m) (matrix_class_for r c m) (matrix-class-means r c m) (accepted k) (searched_is _ number_pass _ _ _ o ∙ sym (ap accepted i))

    number-none : None ≡ found r c (class_of_matrix r c m) → (n : Refusal) → class_found none ≡ refused n → MatrixClassPromise (Err n)
    number-none f n z =
        number_promised (MatrixClassMeans r c m) (matrix_class_for r c m) (matrix-class-means r c m) (refused n)
        (searched_is _ number_pass _ _ none (found_none r c (class_of_matrix r c m) f) ∙ ap (λ x. x then (λ l. accepted (index (lists r c) l))) z)

    pub number-decided : (o : rust.Option ℕ) → o ≡ found r c (class_of_matrix r c m) → (n : Refusal) → n ≡ refusal 10 0 0 → MatrixClassPromise (ok_or o n)
    number-decided (Some k) f n z = number-found k f
    number-decided None f n z = number-none f n (sym (ap refused z))

-- The contents of a matrix

module _ (r : ℕ) (cs m out : List ℕ) (s : ℕ) (sq : s ≡ r * r) (q : Result (Unit {0}) Refusal) (g : q ≡ done_of (test_lists (eqb (length m) s && leb r (length out)) r cs)) where
  abbrev BackPromise : Result (Unit {0}) Refusal → List ℕ → Type 0
  BackPromise = WrittenPromise (λ q. MatrixContentsMean r cs m q out) (matrix_contents_for r cs m out) out

  abbrev answer : Option (List ℕ)
  answer = class_of_matrix r (length cs) m

  back-told : q ≡ done_of (test_lists (eqb (length m) (r * r) && leb r (length out)) r cs)
  back-told = g ∙ ap (λ x. done_of (test_lists (eqb (length m) x && leb r (length out)) r cs)) sq

  pub back-refused : (n : Refusal) → q ≡ Err n → BackPromise (Err n) out
  back-refused n d = written_promised (λ q. MatrixContentsMean r cs m q out) (matrix_contents_for r cs m out) out (matrix-contents_mean r cs m out) (refused n) out (told-refused (test_lists (eqb (length m) (r * r) && leb r (length out)) r cs) _ q back-told n d) refl

  module _ (d : q ≡ Ok tt) where
    back_pass : test_lists (eqb (length m) (r * r) && leb r (length out)) r cs ≡ accepted tt
    back_pass = told-done (test_lists (eqb (length m) (r * r) && leb r (length out)) r cs) q back-told d

    pub back-taken : (r ≤ 5) × (length cs ≤ 2) × (length m ≡ r * r) × (r ≤ length out)
    back-taken = let (((x, y), rise), l, room) = back-passed r cs m out back_pass in (x, y, l, room)

    pub back_none : None ≡ found r (length cs) answer → (n : Refusal) → class_found none ≡ refused n → BackPromise (Err n) out
    back_none f n z =
        written_promised (λ q. MatrixContentsMean r cs m q out) (matrix_contents_for r cs m out) out (matrix-contents_mean r cs m out) (refused n) out
        (searched_is _ back_pass _ _ none (found_none r (length cs) answer f) ∙ ap (λ x. x then (λ l. accepted (contents cs l))) z) refl

    pub back_done : (k : ℕ) (front exit : List ℕ) → Some k ≡ found r (length cs) answer → front ≡ contents cs (list_of r (length cs) k) → exit ≡ written front out → BackPromise (Ok tt) exit
    back_done k front exit f h w =
        written_promised (λ q. MatrixContentsMean r cs m q out) (matrix_contents_for r cs m out) out (matrix-contents_mean r cs m out) (accepted front) exit
        (searched_is _ back_pass _ _ _ (class-listed r (length cs) m k f).1 ∙ sym (ap accepted h)) w

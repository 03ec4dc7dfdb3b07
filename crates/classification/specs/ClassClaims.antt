-- What the calls on contents, classes and matrices mean, said of renamings, matrices and contents given back. This is what a reader believes.
-- Assumes nothing.
use Rattle.std.specs.Prelude.{ℕ, ◌*◌, ◌≤◌, ◌<◌, List, ◌↔◌, ◌≡◌, T, length, take, Result, Ok, Err}
use Rattle.lists.specs.Arrays.{Kept}
use Rattle.refusals.specs.declared.Refusal.{Refusal}
use Rattle.refusals.specs.Judged.{refusal}
use Rattle.refusals.specs.Judged.Judged.{accepted}
use Rattle.classes.specs.Renaming.{SameClass, rising, Representatives}
use Rattle.classes.specs.Classes.{labels, lists, GivenBack}
use Rattle.classes.specs.Matrix.{matrix}
use Rattle.classification.specs.ClassTests.{number_of}
use Rattle.classification.specs.ClassCalls.{list_of, class_for, matrix_for, matrix_contents_for}

-- counts that are taken
abbrev pub FitCounts : ℕ → ℕ → Type 0
FitCounts r c = (r ≤ 5) × (c ≤ 2)

-- constants that are taken
abbrev pub FitConstants : ℕ → List ℕ → Type 0
FitConstants r cs = FitCounts r (length cs) × T (rising cs)

-- c constants, in order
abbrev pub Constants : ℕ → List ℕ → Type 0
Constants c cs = (length cs ≡ c) × T (rising cs)

-- where the input is taken, the reply is a number, and the right one; elsewhere it is a refusal
pub record NumberMeans (Taken : Type 0) (Right : ℕ → Type 0) (reply : Result ℕ Refusal) : Type 0 where
  pub said : Taken → (n : ℕ) × (reply ≡ Ok n) × Right n
  pub unsaid : (Taken → ⊥) → (x : Refusal) × (reply ≡ Err x)

-- where the input is taken, the call is done, the first n entries of the buffer are right and the rest is kept; elsewhere it refuses, and writes nothing
pub record WrittenMeans (Taken : Type 0) (n : ℕ) (Right : List ℕ → Type 0) (reply : Result (Unit {0}) Refusal) (before after : List ℕ) : Type 0 where
  pub said : Taken → (reply ≡ Ok tt) × Right (take n after) × Kept n before after
  pub unsaid : (Taken → ⊥) → ((x : Refusal) × (reply ≡ Err x)) × (after ≡ before)

-- `class_count`: there are so many classes of r registers, whatever the c constants
abbrev pub CountMeans : ℕ → ℕ → Result ℕ Refusal → Type 0
CountMeans r c = NumberMeans (FitCounts r c) (λ n. (cs : List ℕ) → Constants c cs → Representatives cs r n)

-- `class_of` says k of the contents v
abbrev pub ClassIs : ℕ → (cs v : List ℕ) → ℕ → Type 0
ClassIs r cs v k = number_of (class_for r cs v) ≡ Ok k

-- `class_of`: of contents of r registers it says this number exactly if they are in one class with v
abbrev pub ClassMeans : ℕ → (cs v : List ℕ) → Result ℕ Refusal → Type 0
ClassMeans r cs v =
    NumberMeans (FitConstants r cs × (length v ≡ r))
    (λ k. (w : List ℕ) → length w ≡ r → ClassIs r cs w k ↔ SameClass cs v w)

-- `contents_of`: the contents given back for the list of class k, and `class_of` says k of them
abbrev pub ContentsMean : ℕ → List ℕ → ℕ → Result (Unit {0}) Refusal → (before after : List ℕ) → Type 0
ContentsMean r cs k reply before =
    WrittenMeans (FitConstants r cs × (r ≤ length before) × (k < length (lists r (length cs)))) r
    (λ v. GivenBack cs (list_of r (length cs) k) v × ClassIs r cs v k) reply before

-- `matrix_of`: contents of r registers have this matrix exactly if they are in one class with v
abbrev pub MatrixMeans : ℕ → (cs v : List ℕ) → Result (Unit {0}) Refusal → (before after : List ℕ) → Type 0
MatrixMeans r cs v reply before =
    WrittenMeans (FitConstants r cs × (length v ≡ r) × (r * r ≤ length before)) (r * r)
    (λ m. (w : List ℕ) → length w ≡ r → (matrix cs w ≡ m) ↔ SameClass cs v w) reply before

-- m is the matrix of class k: whatever the c constants, `class_of` says k of contents of r registers exactly if they have the matrix m
abbrev pub ClassHas : ℕ → ℕ → ℕ → List ℕ → Type 0
ClassHas r c k m = (cs v : List ℕ) → Constants c cs → length v ≡ r → ClassIs r cs v k ↔ (matrix cs v ≡ m)

-- `matrix_of_class`: the matrix of class k
abbrev pub ClassMatrixMeans : ℕ → ℕ → ℕ → Result (Unit {0}) Refusal → (before after : List ℕ) → Type 0
ClassMatrixMeans r c k reply before =
    WrittenMeans (FitCounts r c × (r * r ≤ length before) × (k < length (lists r c))) (r * r) (ClassHas r c k) reply before

-- some contents of r registers have the matrix m
abbrev pub SomeHave : ℕ → (cs m : List ℕ) → Type 0
SomeHave r cs m = (v : List ℕ) × (length v ≡ r) × (matrix cs v ≡ m)

-- `class_of_matrix`: the class whose matrix is m; 10 exactly where length and counts are right and no contents have it, whatever the c constants
pub record MatrixClassMeans (r c : ℕ) (m : List ℕ) (reply : Result ℕ Refusal) : Type 0 where
  pub number : NumberMeans (FitCounts r c × ((cs : List ℕ) × Constants c cs × SomeHave r cs m)) (λ k. ClassHas r c k m) reply
  pub none : (reply ≡ Err (refusal 10 0 0)) ↔ (FitCounts r c × (length m ≡ r * r) × ((cs : List ℕ) → Constants c cs → SomeHave r cs m → ⊥))

-- contents of r registers that have the matrix m, in one class with all that have it; they are those given back for their class
pub record BackFrom (r : ℕ) (cs m w : List ℕ) : Type 0 where
  pub wide : length w ≡ r
  pub has : matrix cs w ≡ m
  pub class : (v : List ℕ) → length v ≡ r → matrix cs v ≡ m → SameClass cs v w
  pub given : GivenBack cs (labels cs w) w

-- `contents_of_matrix`: such contents; 10 exactly where lengths, counts and constants are right and no contents have the matrix
pub record MatrixContentsMean (r : ℕ) (cs m : List ℕ) (reply : Result (Unit {0}) Refusal) (before after : List ℕ) : Type 0 where
  pub contents : WrittenMeans (FitConstants r cs × (r ≤ length before) × SomeHave r cs m) r (BackFrom r cs m) reply before after
  pub none : (reply ≡ Err (refusal 10 0 0)) ↔ (FitConstants r cs × (length m ≡ r * r) × (r ≤ length before) × (SomeHave r cs m → ⊥))

-- `matrix_of`, and then `contents_of_matrix` of what it wrote: contents of the same class are given back (`back_by_matrix` proves it)
abbrev pub BackByMatrix : Type 0
BackByMatrix = (r : ℕ) (cs v out buffer : List ℕ) → FitConstants r cs → length v ≡ r → r * r ≤ length out → r ≤ length buffer
    → (m : List ℕ) × (w : List ℕ) × (matrix_for r cs v out ≡ accepted m) × (matrix_contents_for r cs m buffer ≡ accepted w) × SameClass cs v w

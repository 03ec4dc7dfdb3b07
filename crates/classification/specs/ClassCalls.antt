-- The calls on contents, classes and matrices alone: for every input the number or list asked for, or the refusal. This is what a reader believes.
-- Assumes nothing.
use Rattle.std.specs.Prelude.{ℕ, ◌*◌, true, ◌&&◌, List, [], eqb, leb, length, get_or}
use Rattle.refusals.specs.Judged.{Judged, ◌then◌}
use Rattle.refusals.specs.Judged.Judged.{accepted}
use Rattle.classes.specs.Classes.{labels, lists, index}
use Rattle.classes.specs.Contents.{contents}
use Rattle.classes.specs.Matrix.{matrix, class_matrix}
use Rattle.classes.specs.MatrixClasses.{class_of_matrix}
use Rattle.classification.specs.ClassTests.{test_counts, test_lists, test_range, class_found}

-- the number of classes of r registers and c constants
abbrev pub class_count_for : ℕ → ℕ → Judged ℕ
class_count_for r c = test_counts true r c then (λ ok. accepted (length (lists r c)))

-- the class number of the contents v with the constants cs
abbrev pub class_for : ℕ → List ℕ → List ℕ → Judged ℕ
class_for r cs v = test_lists (eqb (length v) r) r cs then (λ ok. accepted (index (lists r (length cs)) (labels cs v)))

-- the list of class k
abbrev pub list_of : ℕ → ℕ → ℕ → List ℕ
list_of r c k = get_or (lists r c) k []

-- the contents given back for class k
abbrev pub contents_for : ℕ → List ℕ → ℕ → List ℕ → Judged (List ℕ)
contents_for r cs k out =
    test_lists (leb r (length out)) r cs then (λ ok. test_range k (length (lists r (length cs))) then (λ inside. accepted (contents cs (list_of r (length cs) k))))

-- the matrix of the contents v
abbrev pub matrix_for : ℕ → List ℕ → List ℕ → List ℕ → Judged (List ℕ)
matrix_for r cs v out = test_lists (eqb (length v) r && leb (r * r) (length out)) r cs then (λ ok. accepted (matrix cs v))

-- the contents given back for the class that has the matrix m
abbrev pub matrix_contents_for : ℕ → List ℕ → List ℕ → List ℕ → Judged (List ℕ)
matrix_contents_for r cs m out =
    test_lists (eqb (length m) (r * r) && leb r (length out)) r cs then (λ ok. class_found (class_of_matrix r (length cs) m) then (λ l. accepted (contents cs l)))

-- the matrix of class k
abbrev pub class_matrix_for : ℕ → ℕ → ℕ → List ℕ → Judged (List ℕ)
class_matrix_for r c k out =
    test_counts (leb (r * r) (length out)) r c then (λ ok. test_range k (length (lists r c)) then (λ inside. accepted (class_matrix c (list_of r c k))))

-- the class number of the matrix m
abbrev pub matrix_class_for : ℕ → ℕ → List ℕ → Judged ℕ
matrix_class_for r c m =
    test_counts (eqb (length m) (r * r)) r c then (λ ok. class_found (class_of_matrix r c m) then (λ l. accepted (index (lists r c) l)))

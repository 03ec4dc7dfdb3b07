-- The class that has a matrix, and what that answer says of contents.
-- Assumes nothing.
use Rattle.std.specs.Prelude.{ℕ, List, ◌↔◌, ◌≡◌, length}
use Rattle.std.proofs.Math.Option.{Option, none, some}
use Rattle.graphs.specs.Lists.{eq_list, first}
use Rattle.classes.specs.Classes.{labels, lists}
use Rattle.classes.specs.Contents.{Legal}
use Rattle.classes.specs.Matrix.{matrix, class_matrix}

-- the class of n registers over b constants that has this matrix
abbrev pub class_of_matrix : ℕ → ℕ → List ℕ → Option (List ℕ)
class_of_matrix n b m = first (λ k. eq_list (class_matrix b k) m) (lists n b)

-- what the answer says of the valuations of n registers: none has this matrix, or just those of a class have it
abbrev pub ClassAnswer : List ℕ → ℕ → List ℕ → Option (List ℕ) → Type 0
ClassAnswer cs n m none = (v : List ℕ) → length v ≡ n → matrix cs v ≡ m → ⊥
ClassAnswer cs n m (some k) = Legal (length cs) k × (length k ≡ n) × ((v : List ℕ) → length v ≡ n → (matrix cs v ≡ m) ↔ (labels cs v ≡ k))

-- The list after a list of labels, in dictionary order, with the shape of the code. Not to be believed: `proofs/Listed` shows that it steps through `Classes.lists`.
-- Assumes nothing.
use Rattle.std.specs.Prelude.{ℕ, suc, ◌+◌, ◌-◌, max, cond, List, [], ◌∷◌, leb, get_or, set, take}
use Rattle.lists.specs.Filling.{filled}

-- the last register, from number i on, whose label is at most those before it and b; `at` where there is none
abbrev pub rising_from : ℕ → ℕ → ℕ → List ℕ → ℕ
rising_from b at i [] = at
rising_from b at i (x ∷ k) = rising_from (max b x) (cond (leb x b) i at) (suc i) k

-- one more than its label, from register p on 1
abbrev pub raised_at : ℕ → ℕ → List ℕ → List ℕ
raised_at r p l = filled (set l p (get_or l p 0 + 1)) (p + 1) (λ i. 1) (r - (p + 1))

-- that register's label goes up, and those behind it go to 1
unfoldable pub raised : ℕ → ℕ → List ℕ → List ℕ
raised r c l = raised_at r (rising_from c 0 0 (take r l)) l

-- The search for parameters: which lists are tried, in which order, and when one passes.
-- Assumes nothing.
use Rattle.std.specs.Prelude.{ℕ, zero, suc, Bool, true, ◌&&◌, cond, eqb, ltb, length, get_or, take, set, Option as Given, Some, None}
use mathlib.Core.List.{List, [], ◌∷◌, flat_map}
use Rattle.std.proofs.Math.Option.{Option, none, some}
use Rattle.graphs.specs.Lists.{up_from, eq_list, select, first}
use Rattle.classes.specs.Classes.{position, noted, labels}
use Rattle.classes.specs.Contents.{notes, fresh, identifiers}
use Rattle.moves.specs.Moves.{pool}
use Rattle.forms.specs.declared.Arc.{Arc}
use Rattle.lists.specs.Arrays.{padded}
use Rattle.forms.specs.Slots.{holds_all, values_from}

-- x is known, or it is the smallest identifier that is not
abbrev pub worth : List ℕ → ℕ → Bool
worth seen x = cond (ltb (position seen x) (length seen)) true (eqb x (fresh seen))

-- the values in slots that are tried for the n parameters from this slot on: each is known by then, or the smallest that is not, in the pool's order
unfoldable pub tries : List ℕ → ℕ → ℕ → List ℕ → List ℕ → List (List ℕ)
tries xs zero at seen vals = vals ∷ []
tries xs (suc n) at seen vals = flat_map (λ x. tries xs n (suc at) (noted seen x) (set vals at x)) (select (worth seen) xs)

-- the guard holds, and the values written have these labels
abbrev pub suits : Arc → List ℕ → List ℕ → List ℕ → Bool
suits x cs wanted vals = holds_all x.guard vals && eq_list (padded 5 (labels cs (values_from vals x.source 0 x.sets))) wanted

-- what a search gives back: the values with the parameters in their slots
abbrev pub found_of : Option (List ℕ) → Given (List ℕ)
found_of none = None
found_of (some vals) = Some vals

-- constants and contents in their slots, no parameters yet
abbrev pub slots_of : List ℕ → List ℕ → List ℕ
slots_of cs v = get_or cs 0 0 ∷ get_or cs 1 0 ∷ get_or v 0 0 ∷ get_or v 1 0 ∷ get_or v 2 0 ∷ get_or v 3 0 ∷ get_or v 4 0 ∷ 0 ∷ 0 ∷ 0 ∷ []

-- the labels of constants and of a class in their slots
abbrev pub label_slots : List ℕ → List ℕ
label_slots k = slots_of (1 ∷ 2 ∷ []) k

-- the labels that the values written must have: those of what the next class holds in the assigned registers, among c constants
abbrev pub wanted_of : Arc → ℕ → List ℕ → List ℕ
wanted_of x c k = padded 5 (labels (up_from 1 c) (values_from (label_slots k) x.target 0 x.sets))

-- the first values that suit, of all that are tried, for constants cs and contents v, which stand in the slots of vals, and the next class k
abbrev pub sought : Arc → List ℕ → List ℕ → List ℕ → List ℕ → Option (List ℕ)
sought x cs v vals k = first (suits x cs (wanted_of x (length cs) k)) (tries (pool 15 cs) x.params 7 (notes cs v) vals)

-- the new contents of r registers: the labels of the next class k, after those of what it holds in the assigned registers, read backwards after the values written
abbrev pub new_contents : Arc → List ℕ → List ℕ → ℕ → List ℕ → List ℕ
new_contents x cs vals r k =
    identifiers (notes cs (values_from vals x.source 0 x.sets))
    (labels (notes (up_from 1 (length cs)) (values_from (label_slots k) x.target 0 x.sets)) (take r k))

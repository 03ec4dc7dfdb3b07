-- The identifiers to choose from, with one constant more.
-- Assumes nothing.
use Prim.Native.Nat.{ℕ, ◌+◌, ◌≤◌, ◌<◌}
use mathlib.Core.Bool.{Bool, true, false, cond}
use mathlib.Core.List.{List, [], ◌∷◌, ◌++◌, append_assoc, append-nil}
use mathlib.Core.Path.{◌≡◌, sym, ap, ◌∙◌}
use native.Mathlib.Omega.{arith}
use lib.Dec.{leb}
use lib.ListN.{length, get_or, take, length-append}
use lib.Seq.{length-take-le, get_or-take}
use Rattle.std.proofs.lemmas.List.{take_more}
use Rattle.graphs.specs.Lists.{select, up_from}
use Rattle.graphs.proofs.Lists.{up_from-length, select-append, select-le}
use Rattle.moves.specs.Moves.{pool}
use Rattle.labelling.proofs.Noted.{take-le}

pub pool_more : (cs : List ℕ) (x : ℕ) → cond (leb 15 x) (pool 15 cs ++ (x ∷ [])) (pool 15 cs) ≡ pool 15 (cs ++ (x ∷ []))
pool_more cs x = go (leb 15 x) ∙ sym (ap (λ l. up_from 0 15 ++ l) (select-append (leb 15) cs (x ∷ [])))
  where
    go : (b : Bool) → cond b (pool 15 cs ++ (x ∷ [])) (pool 15 cs) ≡ up_from 0 15 ++ (select (leb 15) cs ++ cond b (x ∷ []) [])
    go true = append_assoc (up_from 0 15) (select (leb 15) cs) (x ∷ [])
    go false = ap (λ l. up_from 0 15 ++ l) (sym (append-nil (select (leb 15) cs)))

pub pool-length : (cs : List ℕ) → length (pool 15 cs) ≤ 15 + length cs
pool-length cs = omega (arith, length-append (up_from 0 15) (select (leb 15) cs), up_from-length 0 15, select-le (leb 15) cs)

-- a turn of the loop over the first c constants
pub pool_turn : (cs : List ℕ) (c i : ℕ) {s r : List ℕ} → c ≤ 2 → length cs ≡ 2 → i < length (take c cs) → s ≡ pool 15 (take i cs)
    → r ≡ cond (leb 15 (get_or (take c cs) i 0)) (s ++ (get_or (take c cs) i 0 ∷ [])) s → r ≡ pool 15 (take (i + 1) cs)
pool_turn cs c i h two l e f =
    let x : ℕ = get_or (take c cs) i 0 in
    let n : length (take c cs) ≡ c = length-take-le c cs (omega arith) in
    let y : x ≡ get_or cs i 0 = get_or-take c cs i 0 (omega arith) in
    let more : take i cs ++ (x ∷ []) ≡ take (i + 1) cs = ap (λ z. take i cs ++ (z ∷ [])) y ∙ sym (take_more cs i 0 (omega arith)) in
    f ∙ ap (λ l. cond (leb 15 x) (l ++ (x ∷ [])) l) e ∙ pool_more (take i cs) x ∙ ap (pool 15) more

pub pool_room : (cs : List ℕ) (c i : ℕ) {s : List ℕ} → c ≤ 2 → length cs ≡ 2 → i < length (take c cs) → s ≡ pool 15 (take i cs) → length s ≤ 16
pool_room cs c i h two l e =
    let n : length (take c cs) ≡ c = length-take-le c cs (omega arith) in
    omega (arith, ap length e, pool-length (take i cs), take-le i cs)

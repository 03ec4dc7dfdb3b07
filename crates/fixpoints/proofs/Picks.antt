-- The least member with an edge to a node is picked rightly.
-- Assumes nothing.
use Prim.Native.Nat.{ℕ, ◌<◌}
use mathlib.Core.Bool.{Bool, false, ◌&&◌}
use mathlib.Core.List.{[]}
use mathlib.Core.Option.{Option, none, some}
use native.Mathlib.Omega.{arith}
use lib.ListN.{length, get_or}
use Rattle.graphs.specs.Graph.{Graph, Edge}
use Rattle.graphs.proofs.Lists.{T_and, Least, least-is}
use Rattle.graphs.proofs.Sets.{in_length}
use Rattle.fixpoints.specs.Picks.{Chosen, PicksPredecessor, pred_in}

pub pred_picks : (r : Graph) → PicksPredecessor r (pred_in r)
pred_picks r s d e l = chosen (pred_in r s d) (least-is (λ c. get_or s c false && edge c) 0 (length r))
  where
    edge : ℕ → Bool
    edge c = get_or (get_or r c []) d false

    chosen : (o : Option ℕ) → Least (λ c. get_or s c false && edge c) 0 (length r) o → Chosen (Edge r) s d o
    chosen none k = λ c a b.
        let h : c < length r = omega (arith, in_length s c a) in
        k c (omega arith) (omega arith) ((T_and (get_or s c false) (edge c)).1 (a, b.1))
    chosen (some c) (_, _, t, _) = let (a, b) = (T_and (get_or s c false) (edge c)).0 t in (a, (l, b))

-- `labelling::seen::Seen::smallest_other`: the search goes on from x.
use Rattle.std.proofs.Common.{◌≡◌, ◌-◌, length}
use Rattle.classes.specs.Contents.{fresh, fresh_from}
use Rattle.labelling.proofs.seen.Seen.smallest_other.Given as goal

abbrev pub invariant-loop-x : goal.invariant-loop-x
invariant-loop-x l = (l.n ≡ length l.self) × (fresh_from l.self l.x (l.n - l.x) ≡ fresh l.self)

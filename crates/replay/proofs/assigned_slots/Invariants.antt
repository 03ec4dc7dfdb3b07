-- The loop: the assignments from i on decide.
use Rattle.std.proofs.Common.{◌≡◌, ◌-◌, eqb, get_or}
use Rattle.lists.specs.Searches.{all_from}
use Rattle.replay.specs.Progress.{assigned_slots}
use Rattle.replay.proofs.assigned_slots.Given as goal

abbrev pub invariant-loop-i : goal.invariant-loop-i
invariant-loop-i l = all_from (λ j. eqb (get_or l.new (get_or l.target j 0) 0) (get_or l.old (get_or l.source j 0) 0)) l.i (l.n - l.i) ≡ assigned_slots l.old l.new l.n l.source l.target

-- `forms::store_all` meets its contract: the numbers before j are written. Assumes nothing.
use Rattle.std.proofs.Common.{◌≡◌, get_or}
use Rattle.lists.specs.Filling.{filled}
use Rattle.forms.proofs.rows.store_all.Given as goal

abbrev pub invariant-loop-j : goal.invariant-loop-j
invariant-loop-j l = l.form ≡ filled l.fn.form l.i (λ k. get_or l.f k 0) l.j

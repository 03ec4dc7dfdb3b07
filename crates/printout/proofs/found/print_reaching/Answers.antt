-- Its memory is long enough.
use Rattle.std.proofs.Common.{◌≡◌, ◌≤◌, ℕ, sym, arith, length, replicate}
use Rattle.std.proofs.lemmas.List.{length-replicate}
use Rattle.printout.proofs.found.print_reaching.Goals as goal

size : (n b : ℕ) → length (replicate {A = ℕ} n b) ≡ n
size n b = length-replicate {0} {A = ℕ} n b

room : (n b : ℕ) → n ≤ length (replicate {A = ℕ} n b)
room n b = omega (arith, size n b)

pub slice_bounds-print_reaching_over-end-3 : goal.slice_bounds-print_reaching_over-end-3
slice_bounds-print_reaching_over-end-3 g c = sym (size 1240300 32)

pub print_reaching_over-printed-requires : goal.print_reaching_over-printed-requires
print_reaching_over-printed-requires g c = (room 40001 0, room 310 0, room 1240300 32)

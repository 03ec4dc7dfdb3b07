-- `classification::class_of_matrix` meets its contract.
use Rattle.std.proofs.Common.{◌≡◌, Err, rules}
use Rattle.classification.proofs.ClassReplies.{number-not-taken, number-decided}
use Rattle.classification.proofs.class_of_matrix.Goals as goal

pub returns-in_err-test_counts : goal.returns-in_err-test_counts
returns-in_err-test_counts c =
    let a = c.args in
    let n = c.in_err-test_counts.field-0.0 in
    let e : c.from_residual.result ≡ Err n = search rules in
    rw e (number-not-taken a.registers a.constants a.matrix.now _ c.square.ensures _ c.test_counts.ensures n c.in_err-test_counts.was)

pub returns : goal.returns
returns c =
    let a = c.args in
    rw c.ok_or.ensures.value
    (number-decided a.registers a.constants a.matrix.now _ c.square.ensures _ c.test_counts.ensures c.in_ok-test_counts.was _ c.class_of_matrix.ensures _ c.of_call.ensures)

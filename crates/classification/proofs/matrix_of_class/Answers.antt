-- `classification::matrix_of_class` meets its contract.
use Rattle.std.proofs.Common.{arith}
use Rattle.classification.proofs.ClassReplies.{class-matrix-done}
use Rattle.classification.proofs.matrix_of_class.Goals as goal

pub returns : goal.returns
returns c =
    let a = c.args in
    class-matrix-done a.registers a.constants a.class a.out.now _ c.square.ensures _ c.test_counts.ensures c.in_ok-test_counts.was _ _
    (omega (arith, c.if-class_count-class.false, c.class_count.ensures)) c.class_list.ensures c.class_matrix.ensures

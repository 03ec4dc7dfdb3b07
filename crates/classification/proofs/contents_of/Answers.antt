-- `classification::contents_of` meets its contract.
use Rattle.std.proofs.Common.{refl, arith}
use Rattle.classification.proofs.ClassReplies.{contents-done}
use Rattle.classification.proofs.contents_of.Goals as goal

pub returns : goal.returns
returns c =
    let a = c.args in
    contents-done a.registers a.constants.now a.class a.out.now _ c.test_lists.ensures c.in_ok-test_lists.was _ _ (omega (arith, c.if-class_count-class.false, c.class_count.ensures)) refl c.write_contents.ensures

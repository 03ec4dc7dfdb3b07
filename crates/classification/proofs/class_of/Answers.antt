-- `classification::class_of` meets its contract.
use Rattle.std.proofs.Common.{length, take, ap, ◌∙◌}
use Rattle.lists.proofs.Arrays.{padded-take}
use Rattle.classification.proofs.ClassReplies.{class-taken, class-is}
use Rattle.classification.proofs.class_of.Goals as goal

pub returns : goal.returns
returns c =
    let a = c.args in
    let cs = a.constants.now in
    let (l, q, w) = class-taken a.registers cs a.contents.now _ c.test_lists.ensures c.in_ok-test_lists.was in
    class-is a.registers cs a.contents.now _ c.test_lists.ensures c.in_ok-test_lists.was _ _ _
    (ap (take (length cs)) c.array_of.ensures ∙ padded-take 2 cs l) c.array_of-2.ensures c.class_of.ensures

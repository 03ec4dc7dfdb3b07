-- `classification::class_count` meets its contract.
use Rattle.std.proofs.Common.{true, length, sym, ap, ◌∙◌}
use Rattle.refusals.specs.Judged.Judged.{accepted}
use Rattle.classes.specs.Classes.{lists}
use Rattle.classification.specs.ClassTests.{test_counts}
use Rattle.classification.specs.ClassCalls.{class_count_for}
use Rattle.classification.specs.ClassClaims.{CountMeans}
use Rattle.classification.proofs.ClassMeaning.{count-means}
use Rattle.classification.proofs.Passed.{told-next, number_promised}
use Rattle.classification.proofs.class_count.Goals as goal

pub returns : goal.returns
returns c =
    let r = c.args.registers in
    let n = c.args.constants in
    number_promised (CountMeans r n) (class_count_for r n) (count-means r n) (accepted _)
    (told-next (test_counts true r n) (λ ok. accepted (length (lists r n))) _ c.test_counts.ensures c.in_ok-test_counts.was ∙ sym (ap accepted c.class_count.ensures))

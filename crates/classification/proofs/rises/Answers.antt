-- `classification::rises` meets its contract.
use Rattle.std.proofs.Common.{◌∙◌}
use Rattle.std.proofs.lemmas.Bool.{lt-ltb}
use Rattle.classification.proofs.Passed.{rises_short}
use Rattle.classification.proofs.rises.Goals as goal

pub returns-then-constants-lt2 : goal.returns-then-constants-lt2
returns-then-constants-lt2 c = lt-ltb _ _ c.if-constants-lt2.true ∙ rises_short c.args.constants.now c.if-constants-lt2.true

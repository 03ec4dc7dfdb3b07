-- No identifier is there yet; then one constant more.
use Rattle.std.proofs.Common.{refl, rules}
use Rattle.lists.specs.Arrays.{padded}
use Rattle.labelling.proofs.constants_seen.Goals as goal

pub new-seen-requires : goal.new-seen-requires
unfolding padded
new-seen-requires c = (search rules, refl)

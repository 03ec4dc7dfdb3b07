-- `concretization::choices` meets its contract: one constant more.
use Rattle.std.proofs.Common.{arith, refl, rules}
use Rattle.lists.specs.Arrays.{padded}
use Rattle.concretization.proofs.Pool.{pool_turn, pool_room}
use Rattle.concretization.proofs.choices.Goals as goal

pub new-pool-requires : goal.new-pool-requires
unfolding padded
new-pool-requires c = (search rules, refl)

pub push_large-requires : goal.push_large-requires
push_large-requires c = pool_room c.args.constants c.args.c c.loop-x.x-index c.requires (search rules) (omega arith) c.loop-x.invariant

pub loop-x-preserved : goal.loop-x-preserved
loop-x-preserved c = pool_turn c.args.constants c.args.c c.loop-x.x-index c.requires (search rules) (omega arith) c.loop-x.invariant c.push_large.ensures

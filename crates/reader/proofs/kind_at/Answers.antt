-- Answers for `reader::kind_at`.
use Rattle.std.proofs.Common.{rules, ◌≡◌, false}
use Rattle.reader.specs.TableRules.{kind_at}
use Rattle.reader.proofs.kind_at.Goals as goal

pub returns-in-2 : goal.returns-in-2
unfolding kind_at
returns-in-2 c = let never : c.default-in-2.result.condition ≡ false = search rules in rw (c.in-2.is, never)

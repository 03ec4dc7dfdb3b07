-- Answers for `reader::row_of`.
use Rattle.columns.specs.Widths.{largest}
use Rattle.graphs.proofs.Lists.{get_d_le}
use Rattle.reader.proofs.row_of.Goals as goal

pub narrow-requires : goal.narrow-requires
narrow-requires c = get_d_le largest c.args.f c.loop-i.i c.requires

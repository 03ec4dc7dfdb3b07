-- Answers for `reader::has_range`.
use Rattle.std.proofs.Common.{◌∙◌, leb}
use Rattle.columns.specs.Widths.{largest}
use Rattle.reader.specs.TableRules.{in_range}
use Rattle.reader.proofs.Bounds.{all_is}
use Rattle.reader.proofs.has_range.Goals as goal

pub returns : goal.returns
unfolding in_range
returns c = simp (c.are_fit.ensures, c.are_issued.ensures ∙ all_is (λ v. leb v largest) c.args.f)

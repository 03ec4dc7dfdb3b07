-- The form of a table that is accepted is readable.
use Rattle.reader.proofs.TableOutcomes.{told}
use Rattle.opening.proofs.Opened.{opened_readable}
use Rattle.test_reading.proofs.try_case.Goals as goal

pub try_question-question-requires : goal.try_question-question-requires
try_question-question-requires g c = let o = c.open_table.ensures in (opened_readable _ _ (told _ _ _ (o.0, o.1) c.in_default-open_table.is)).0

pub try_text-requires : goal.try_text-requires
try_text-requires g c = let o = c.open_table.ensures in (opened_readable _ _ (told _ _ _ (o.0, o.1) c.in_default-open_table.is)).0

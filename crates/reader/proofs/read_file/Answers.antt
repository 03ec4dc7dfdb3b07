-- Answers for `reader::read_file`.
use Rattle.std.proofs.Common.{subst, List, ℕ}
use Rattle.refusals.specs.Judged.{◌then◌}
use Rattle.refusals.specs.Judged.Judged.{accepted}
use Rattle.fields.specs.LineFiles.{read_file}
use Rattle.reader.specs.Table.{Read, table_rules}
use Rattle.reader.specs.TableReply.{Filled}
use Rattle.reader.proofs.TableOutcomes.{filled-told}
use Rattle.reader.proofs.read_file.Goals as goal

pub returns : goal.returns
returns c =
    let a = c.args in
    let d = c.read_file in
    let begun : List ℕ → Read = λ t. record { progress = a.p; form = t } in
    let told = filled-told (read_file table_rules a.file a.limit (begun a.t.now) a.s.now) d.result (record { progress = d.new.r; form = d.new.t }) d.ensures in
    subst (λ t. Filled (◌then◌ (read_file table_rules a.file a.limit (begun t) a.s.now) (λ x. accepted x.form)) d.result d.new.t) c.requires.2 told

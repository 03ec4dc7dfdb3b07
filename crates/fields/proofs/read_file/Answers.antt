-- Answers for `fields::read_file`.
use Rattle.std.proofs.Common.{sym, subst}
use Rattle.fields.specs.LinesRead.{Tells}
use Rattle.fields.proofs.LineFiles.{read-long, read-onward}
use Rattle.fields.proofs.read_file.Goals as goal

pub returns-then-limit-s : goal.returns-then-limit-s
returns-then-limit-s g c =
    let m = g.R.Rules in
    let a = c.args in
    read-long (m.rules a.r.now) a.file a.s.now a.limit (m.read a.r.now a.t.now) c.if-limit-s.true

pub returns : goal.returns
returns g c =
    let m = g.R.Rules in
    let a = c.args in
    let d = c.read_lines in
    subst (λ o. Tells o d.result (m.read d.new.r d.new.t)) (sym (read-onward (m.rules a.r.now) a.file a.s.now a.limit (m.read a.r.now a.t.now) c.if-limit-s.false)) d.ensures

-- Answers for `fields::first_line`.
use Rattle.std.proofs.Common.{rules, ◌≡◌, sym, ◌∙◌, arith, take, drop, length, length-drop, ◌+◌, ◌-◌}
use Rattle.std.proofs.lemmas.List.{take_all}
use Rattle.fields.proofs.LineParts.{line_alone, line_first}
use Rattle.fields.proofs.first_line.Goals as goal

pub returns-in_err-end-clause-split : goal.returns-in_err-end-clause-split
returns-in_err-end-clause-split c =
    let alone = line_alone c.args.file.now (sym c.line_end.ensures ∙ c.in_err-end.was) in
    search rules

pub returns-clause-split : goal.returns-clause-split
returns-clause-split c =
    let file = c.args.file.now in
    let e = c.in_ok-end.end in
    let all : take (length file - (e + 1)) (drop (e + 1) file) ≡ drop (e + 1) file = take_all (length file - (e + 1)) (drop (e + 1) file) (omega (arith, length-drop (e + 1) file)) in
    rw all (line_first file e (sym c.line_end.ensures ∙ c.in_ok-end.was))

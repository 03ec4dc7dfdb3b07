-- Answers for `fields::read_line`.
use Rattle.std.proofs.Common.{rules, ◌≡◌, ◌<◌, ◌≤◌, arith, sym, ◌∙◌, ap, length, get_or, take, drop, length-set, None}
use Rattle.lists.proofs.Arrays.{padded-none}
use Rattle.columns.proofs.Columns.{width_is}
use Rattle.fields.specs.Format.{field}
use Rattle.fields.specs.LineRead.{value_of}
use Rattle.fields.proofs.FieldsTaken.{value_none, value-some, read_none, read_some, taken-first, taken-end, taken-short, taken_missing, taken_next}
use Rattle.fields.proofs.read_line.Goals as goal

pub loop-rest-init : goal.loop-rest-init
loop-rest-init c = record {
  taken = taken-first c.args.sheet c.args.line.now c.args.row.now (c.requires ∙ sym (padded-none 6));
  six = ap (λ l. length l) c.requires;
}

pub returns-in_err-columns : goal.returns-in_err-columns
returns-in_err-columns c =
    let l = c.loop-rest in
    let more : 0 < length l.rest.now = search rules in
    let w = c.width in
    let short : length l.rest.now < w.result = search rules in
    let e : c.from_residual.result ≡ None = search rules in
    rw e (read_none _ l.row (taken-short c.args.sheet c.args.line.now l.row l.rest.now l.count l.invariant.taken more (omega arith) w.result w.ensures short))

pub field-requires : goal.field-requires
field-requires c =
    let l = c.loop-rest in
    let size : length c.in_ok-columns.columns.now ≡ c.width.result = search rules in
    omega (arith, c.width.ensures, width_is c.args.sheet (get_or l.row 0 0) l.count)

pub returns-in_err-row : goal.returns-in_err-row
returns-in_err-row c =
    let l = c.loop-rest in
    let more : 0 < length l.rest.now = search rules in
    let w = c.width in
    let within : w.result ≤ length l.rest.now = search rules in
    let front : c.in_ok-columns.columns.now ≡ take w.result l.rest.now = search rules in
    let missing = value_none _ (sym c.in_err-row.was ∙ c.field.ensures ∙ ap (λ cs. value_of (field cs)) front) in
    let e : c.from_residual-in_err-row.result ≡ None = search rules in
    rw e
    (read_none _ l.row
    (taken_missing c.args.sheet c.args.line.now l.row l.rest.now l.count l.invariant.taken more (omega arith) w.result w.ensures within missing))

pub loop-rest-preserved : goal.loop-rest-preserved
loop-rest-preserved c =
    let l = c.loop-rest in
    let more : 0 < length l.rest.now = search rules in
    let w = c.width in
    let x = c.in_ok-row.field-0 in
    let within : w.result ≤ length l.rest.now = search rules in
    let front : c.in_ok-columns.columns.now ≡ take w.result l.rest.now = search rules in
    let back : c.in_ok-columns.after.now ≡ drop w.result l.rest.now = search rules in
    let number = value-some _ x (sym c.in_ok-row.was ∙ c.field.ensures ∙ ap (λ cs. value_of (field cs)) front) in
    record {
      taken = rw back (taken_next c.args.sheet c.args.line.now l.row l.rest.now l.count l.invariant.taken more (omega arith) w.result w.ensures within x number);
      six = simp length-set l.invariant.six;
    }

pub returns : goal.returns
returns c =
    let l = c.loop-rest in
    let none : length l.rest.now ≡ 0 = search rules in
    let (o, count, row) = taken-end c.args.sheet c.args.line.now l.row l.rest.now l.count l.invariant.taken none in
    read_some _ l.row l.invariant.taken.numbers l.count o count row

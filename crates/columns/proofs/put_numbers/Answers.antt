-- One number more has room, and its columns stand in front of those of the numbers behind it.
use Rattle.std.proofs.Common.{◌≡◌, ◌+◌, ◌<◌, length, get_or, drop, ap, ◌∙◌, arith}
use Rattle.std.proofs.lemmas.List.Edits.{sets}
use Rattle.columns.specs.Widths.{width}
use Rattle.columns.specs.Columns.{column, columns, line_columns}
use Rattle.columns.proofs.Columns.{number-room, number_more}
use Rattle.columns.proofs.put_numbers.Goals as goal

pub put_in-requires : goal.put_in-requires
put_in-requires c =
    let a = c.args in
    let l = c.loop-i in
    let wide = c.width-columns.ensures ∙ ap (λ k. width a.sheet k l.i) l.invariant.0 in
    omega (arith, wide, number-room a.numbers.now (width a.sheet (get_or a.numbers.now 0 0)) l.i c.loop-i-test.true)

pub overflow_add-end : goal.overflow_add-end
overflow_add-end c =
    let a = c.args in
    let l = c.loop-i in
    let wide = c.width-columns.ensures ∙ ap (λ k. width a.sheet k l.i) l.invariant.0 in
    omega (arith, wide, number-room a.numbers.now (width a.sheet (get_or a.numbers.now 0 0)) l.i c.loop-i-test.true)

pub loop-i-preserved : goal.loop-i-preserved
loop-i-preserved c =
    let a = c.args in
    let l = c.loop-i in
    let w = width a.sheet (get_or a.numbers.now 0 0) in
    let n = c.width-columns.result in
    let wide : n ≡ w l.i = c.width-columns.ensures ∙ ap (λ k. width a.sheet k l.i) l.invariant.0 in
    let more : l.i < length a.numbers.now = c.loop-i-test.true in (
      l.invariant.0,
      omega (arith, wide, l.invariant.1, number-room a.numbers.now w l.i more),
      ap (λ x. sets x (l.end + n) (columns w (l.i + 1) (drop (l.i + 1) a.numbers.now))) c.put_in.ensures
          ∙ ap (λ m. sets (sets l.line l.end (column m (get_or a.numbers.now l.i 0))) (l.end + m) (columns w (l.i + 1) (drop (l.i + 1) a.numbers.now))) wide
          ∙ number_more a.numbers.now w l.i more l.line (sets a.line.now a.at (line_columns a.sheet a.numbers.now)) l.end l.invariant.2,
    )

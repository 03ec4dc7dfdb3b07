-- Answers for `fields::field`.
use Rattle.std.proofs.Common.{rules, ◌≡◌, ◌+◌, ◌-◌, arith, sym, ◌∙◌, ap, take, drop, length, get_or, length-drop}
use Rattle.std.specs.Char.{IsAsciiDigit, IsNotAsciiDigit}
use Rattle.std.proofs.lemmas.List.{take_all}
use Rattle.fields.specs.Format.{digits_from, field}
use Rattle.fields.specs.LineRead.{value_of}
use Rattle.fields.proofs.FieldsTaken.{field_blank, field-begins, begins, field_other, field-digit}
use Rattle.fields.proofs.field.Goals as goal

pub returns-in_err-start : goal.returns-in_err-start
returns-in_err-start c =
    let none = ap value_of (field_blank c.args.columns.now (sym c.blanks_end.ensures ∙ c.in_err-start.was)) in
    search rules

pub returns-then-not-is_ascii_digit : goal.returns-then-not-is_ascii_digit
returns-then-not-is_ascii_digit c =
    let l = c.args.columns.now in
    let n = c.in_ok-start.start in
    let at = sym c.blanks_end.ensures ∙ c.in_ok-start.was in
    let other : IsNotAsciiDigit (get_or l n 0) = search rules in
    let is : field l ≡ _ = field-begins l n at ∙ field_other (get_or l n 0) (drop (n + 1) l) other (begins l n at).1 in
    sym (ap value_of is)

pub returns : goal.returns
returns c =
    let l = c.args.columns.now in
    let n = c.in_ok-start.start in
    let at = sym c.blanks_end.ensures ∙ c.in_ok-start.was in
    let digit : IsAsciiDigit (get_or l n 0) = search rules in
    let all : take (length l - (n + 1)) (drop (n + 1) l) ≡ drop (n + 1) l = take_all (length l - (n + 1)) (drop (n + 1) l) (omega (arith, length-drop (n + 1) l)) in
    let is = field-begins l n at ∙ field-digit (get_or l n 0) (drop (n + 1) l) digit in
    c.number_from.ensures ∙ ap (λ ds. value_of (digits_from (get_or l n 0 - 48) ds)) all ∙ sym (ap value_of is)

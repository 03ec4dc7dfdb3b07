-- Answers for `texts::number`.
use Rattle.std.proofs.Common.{rules, ◌≡◌, ◌+◌, ◌-◌, ◌*◌, ◌≤◌, ◌<◌, arith, ap, ap₂, ◌∙◌, take}
use mathlib.Core.Path.{subst⁻¹}
use mathlib.Core.Logic.{◌⊎◌}
use Rattle.std.specs.Char.{IsAsciiDigit, IsNotAsciiDigit}
use Rattle.texts.specs.Steps.Step.{read}
use Rattle.texts.specs.Descent.{RightNumber}
use Rattle.texts.proofs.StepCodes.{step-stopped}
use Rattle.texts.proofs.Openings.{take_short, number_not, number-one, number_two, digit_not}
use Rattle.texts.proofs.number.Goals as goal

pub returns-then-not-contains : goal.returns-then-not-contains
returns-then-not-contains c =
    let a = c.args in
    let s = take a.n a.s.now in
    let out : (c.byte_at-b.result < 49) ⊎ (57 < c.byte_at-b.result) = search rules in
    subst⁻¹ (RightNumber s a.at) (step-stopped a.at (omega (arith, c.requires, take_short a.n a.s.now c.requires.1))) (number_not s a.at _ c.byte_at-b.ensures c.requires.0 out)

pub returns-then-not-is_ascii_digit : goal.returns-then-not-is_ascii_digit
returns-then-not-is_ascii_digit c =
    let a = c.args in
    let s = take a.n a.s.now in
    let low : 49 ≤ c.byte_at-b.result = search rules in
    let high : c.byte_at-b.result ≤ 57 = search rules in
    let tens : c.from-tens.result ≡ c.byte_at-b.result - 48 = search rules in
    let out : IsNotAsciiDigit c.byte_at-c.result = search rules in
    subst⁻¹ (RightNumber s a.at) (c.read.ensures ∙ ap (λ t. read (a.at + 1) t) tens) (number-one s a.at _ c.byte_at-b.ensures _ c.byte_at-c.ensures low high (digit_not _ out))

pub returns : goal.returns
returns c =
    let a = c.args in
    let s = take a.n a.s.now in
    let low : 49 ≤ c.byte_at-b.result = search rules in
    let high : c.byte_at-b.result ≤ 57 = search rules in
    let tens : c.from-tens.result ≡ c.byte_at-b.result - 48 = search rules in
    let one : c.from.result ≡ c.byte_at-c.result - 48 = search rules in
    let digit : IsAsciiDigit c.byte_at-c.result = search rules in
    subst⁻¹ (RightNumber s a.at) (c.read-2.ensures ∙ ap₂ (λ t o. read (a.at + 1 + 1) (10 * t + o)) tens one)
    (number_two s a.at _ c.byte_at-b.ensures _ c.byte_at-c.ensures low high digit.0 digit.1)

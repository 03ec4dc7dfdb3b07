-- Answers for `fields::number_from`.
use Rattle.std.proofs.Common.{rules, ◌≡◌, ◌-◌, arith, sym, ◌∙◌, ap, length, get_or}
use Rattle.std.specs.Char.{IsAsciiDigit, IsNotAsciiDigit}
use Rattle.fields.specs.Format.{digits_from}
use Rattle.fields.specs.LineRead.{value_of}
use Rattle.fields.proofs.FieldsTaken.{room-first, room_more, room-value, digits_stop, digits-next}
use Rattle.fields.proofs.number_from.Goals as goal

pub loop-b-init : goal.loop-b-init
loop-b-init c =
    let e : c.from-v.result ≡ c.args.first = search rules in
    record { room = rw e (room-first c.args.first (length c.args.digits.now - 0) c.requires.0 (omega arith)); rest = ap (λ v. digits_from v c.args.digits.now) e }

pub returns-then-not-is_ascii_digit : goal.returns-then-not-is_ascii_digit
returns-then-not-is_ascii_digit c =
    let other : IsNotAsciiDigit (get_or c.args.digits.now c.loop-b.b-index 0) = search rules in
    sym (ap value_of (sym c.loop-b.invariant.rest ∙ digits_stop c.args.digits.now c.loop-b.b-index c.loop-b-test.true c.loop-b.v other))

pub overflow_mul-v : goal.overflow_mul-v
overflow_mul-v c = omega (arith, room-value c.loop-b.v _ c.loop-b.invariant.room)

pub overflow_add-v : goal.overflow_add-v
overflow_add-v c = omega (arith, room-value c.loop-b.v _ c.loop-b.invariant.room)

pub loop-b-preserved : goal.loop-b-preserved
loop-b-preserved c =
    let digits = c.args.digits.now in
    let i = c.loop-b.b-index in
    let v = c.loop-b.v in
    let digit : IsAsciiDigit (get_or digits i 0) = search rules in
    let more : v ≡ 0 → ⊥ = λ e. omega arith in
    let e : c.from.result ≡ get_or digits i 0 - 48 = search rules in
    record {
      room = rw e (room_more v (get_or digits i 0 - 48) (length digits - i) _ (omega arith) (omega arith) c.loop-b.invariant.room);
      rest = rw e (sym (digits-next digits i c.loop-b-test.true v digit more) ∙ c.loop-b.invariant.rest);
    }

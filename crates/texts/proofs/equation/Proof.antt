-- `texts::equation` meets its contract. Assumes nothing.
use Prim.Native.Nat.{◌+◌, ◌/◌, ◌%◌, ◌<◌, ◌≤◌}
use mathlib.Core.Path.{◌≡◌, sym, ap, ◌∙◌}
use native.Mathlib.Omega.{arith}
use lib.ListN.{length, take, get_or}
use Rattle.std.specs.Prelude.{◌≢◌}
use Rattle.texts.specs.Steps.Step.{read}
use Rattle.texts.specs.Descent.{equation_from, side_kind, RightNumber}
use Rattle.texts.proofs.Openings.{take_short, in_list}
use Rattle.texts.proofs.StepCodes.{step-stopped, kind-some, kind-none, number-stopped, number_read}
use Rattle.texts.proofs.Walks.{side_in, equation_stops_1, equation_stops_2, equation_stops_3, right-stop, right-equation, right-equation_broken}
use borrow.Author.Rules.{rules}
use Rattle.texts.proofs.equation.Statement.{statement}
use Rattle.texts.proofs.equation.Tie as tie

short : (c : tie.Start) → length (take c.args.n c.args.s.now) ≤ 400
short c = take_short c.args.n c.args.s.now c.requires.1

-- the first number
first : (c : tie.Else-i-lt1024) → let a = c.args in RightNumber (take a.n a.s.now) a.at (read (c.number-i.result % 1024) (c.number-i.result / 1024))
first c = let a = c.args in number_read (take a.n a.s.now) a.at _ c.number-i.ensures c.if-i-lt1024.false

-- then =
equals : (c : tie.Else-byte_at-ne61) → let a = c.args in get_or (take a.n a.s.now) (c.number-i.result % 1024) 0 ≡ 61
equals c = sym c.byte_at.ensures ∙ c.if-byte_at-ne61.false

-- then r or c
kind : (c : tie.In-Some) → let a = c.args in (c.in-Some.k ≡ side_kind (get_or (take a.n a.s.now) (c.number-i.result % 1024 + 1) 0)) × (c.in-Some.k ≢ 0)
kind c = let (e, z) = kind-some _ _ c.in-Some.ensures in (e ∙ ap side_kind c.byte_at-2.ensures, z)

inside : (c : tie.In-Some) → let a = c.args in c.number-i.result % 1024 + 1 < length (take a.n a.s.now)
inside c = let a = c.args in let (e, z) = kind c in side_in (take a.n a.s.now) (c.number-i.result % 1024 + 1) _ e z

returns : tie.Need-returns-then-i-lt1024
returns c =
    let a = c.args in
    let s = take a.n a.s.now in
    let (f, l) = number-stopped s a.at _ c.number-i.ensures c.if-i-lt1024.true in
    right-stop s a.at a.rows a.t.now (equation_from s a.at) _ _ a.t.now (step-stopped _ c.if-i-lt1024.true) (equation_stops_1 s a.at _ f) l

returns-2 : tie.Need-returns-then-byte_at-ne61
returns-2 c =
    let a = c.args in
    let s = take a.n a.s.now in
    let (f, h, l) = first c.before.before in
    right-stop s a.at a.rows a.t.now (equation_from s a.at) _ _ a.t.now (step-stopped _ (omega arith)) (equation_stops_2 s a.at _ _ f l (λ e. c.if-byte_at-ne61.true (c.byte_at.ensures ∙ e))) l

returns-3 : tie.Need-returns-in_default
returns-3 c =
    let a = c.args in
    let s = take a.n a.s.now in
    let e = equals c.before.before.before in
    let l : c.number-i.result % 1024 < length s = in_list s (c.number-i.result % 1024) 60 e in
    right-stop s a.at a.rows a.t.now (equation_from s a.at) _ _ a.t.now (step-stopped _ (omega (arith, short c.before.before.before.before.before.before.before)))
    (equation_stops_3 s a.at _ _ (first c.before.before.before.before.before).0 e (omega arith) (sym (ap side_kind c.byte_at-2.ensures) ∙ kind-none _ c.in_default.ensures)) (omega arith)

number-requires-2 : tie.Need-number-j-requires
number-requires-2 c κs = omega (arith, c.requires, inside c)

returns-4 : tie.Need-returns-then-j-lt1024
returns-4 c =
    let a = c.args in
    let s = take a.n a.s.now in
    right-equation_broken s a.at a.rows a.t.now _ _ _ _ (first c.before.before.before.before.before.before.before) (equals c.before.before.before.before.before) (kind c.before.before).0 (kind c.before.before).1 (number-stopped s _ _ c.number-j.ensures c.if-j-lt1024.true) _ a.t.now (step-stopped _ c.if-j-lt1024.true)

closed-requires : tie.Need-closed-requires
closed-requires c κs = omega (arith, c.requires, short c.before.before.before.before.before.before.before.before.before.before)

returns-5 : tie.Need-returns
returns-5 c =
    let a = c.args in
    let s = take a.n a.s.now in
    right-equation s a.at a.rows a.t.now _ _ _ _ _ (first c.before.before.before.before.before.before.before.before.before) (equals c.before.before.before.before.before.before.before) (kind c.before.before.before.before).0 (kind c.before.before.before.before).1 (number_read s _ _ c.number-j.ensures c.if-j-lt1024.false)
    _ _ c.closed.ensures.1 c.closed.ensures.0

pub equation_spec : {M : Type 1} → statement M
equation_spec =
    tie.close
    (tie.spec
    (λ c κs. search rules)
    returns
    (λ c κs. search rules)
    returns-2
    (λ c. search rules)
    (λ c κs. search rules)
    (λ c κs. search rules)
    (λ c. search rules)
    (λ c. search rules)
    returns-3
    (λ c. search rules)
    number-requires-2
    returns-4
    closed-requires
    returns-5)

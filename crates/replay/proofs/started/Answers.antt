-- `replay::started` meets its contract.
use Rattle.std.proofs.Common.{◌≡◌, arith, length, sym, ◌∙◌}
use Rattle.forms.proofs.Forms.{start-lines}
use Rattle.replay.proofs.StepSlots.{start-found}
use Rattle.replay.proofs.StepWalk.{begun_goes, begun_stops}
use Rattle.replay.proofs.started.Goals as goal

pub target_guard-requires : goal.target_guard-requires
target_guard-requires c = let r = c.requires in (r.long, start-lines _ r)

pub returns-then-met-rest_zero : goal.returns-then-met-rest_zero
returns-then-met-rest_zero c =
    let v : length c.args.start ≡ 5 = omega (arith, c.well_formed) in
    let good = start-found c.args.form.now c.requires _ c.constant_values.ensures c.args.start v
    c.target_guard.ensures.0 c.slot_values-vals.ensures c.holds-met.ensures c.registers.ensures.0 c.rest_zero.ensures in
    begun_goes _ _ (sym good ∙ c.if-met-rest_zero.true) c.start.ensures.0

pub returns-else-met-rest_zero : goal.returns-else-met-rest_zero
returns-else-met-rest_zero c =
    let v : length c.args.start ≡ 5 = omega (arith, c.well_formed) in
    let good = start-found c.args.form.now c.requires _ c.constant_values.ensures c.args.start v
    c.target_guard.ensures.0 c.slot_values-vals.ensures c.holds-met.ensures c.registers.ensures.0 c.rest_zero.ensures in
    begun_stops _ _ (sym good ∙ c.if-met-rest_zero.false) c.start.ensures.0

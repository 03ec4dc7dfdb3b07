-- `concretization::move_by` meets its contract.
use mathlib.Core.Path.{subst⁻¹}
use Rattle.std.proofs.Common.{sym, ◌∙◌}
use Rattle.forms.specs.Slots.{Fits}
use Rattle.forms.proofs.Forms.{arc_fits}
use Rattle.concretization.proofs.SmallestMoves.{moved, not_moved, not-joined}
use Rattle.concretization.proofs.move_by.Goals as goal

pub returns-then-not-connects : goal.returns-then-not-connects
returns-then-not-connects c =
    let a = c.args in
    not-joined a.form.now a.here.place a.here.contents a.to a.next c.requires.0 a.i c.requires.1 (sym c.connects.ensures ∙ c.if-not-connects.true)

pub parameters-requires : goal.parameters-requires
parameters-requires c =
    let a = c.args in (
      subst⁻¹ Fits c.arc_at-arc.ensures (arc_fits a.form.now c.requires.0.readable a.i c.requires.1),
      c.constants-c.ensures.1,
      c.registers-r.ensures.1,
    )

pub returns-in_err-vals : goal.returns-in_err-vals
returns-in_err-vals c =
    let a = c.args in
    let p = c.parameters in
    c.from_residual.ensures ∙ not_moved a.form.now a.here.place a.here.contents a.to a.next c.requires.0 a.i c.requires.1 _ c.constant_values-constants.ensures _ _ c.constants-c.ensures.0 c.registers-r.ensures.0 _ c.arc_at-arc.ensures
    (sym c.connects.ensures ∙ c.if-not-connects.false) p.result p.ensures c.in_err-vals.was

pub renewed-fresh-requires : goal.renewed-fresh-requires
renewed-fresh-requires c =
    let a = c.args in (
      subst⁻¹ Fits c.arc_at-arc.ensures (arc_fits a.form.now c.requires.0.readable a.i c.requires.1),
      c.constants-c.ensures.1,
      c.registers-r.ensures.1,
    )

pub returns : goal.returns
returns c =
    let a = c.args in
    let p = c.parameters in
    moved a.form.now a.here.place a.here.contents a.to a.next c.requires.0 a.i c.requires.1 _ c.constant_values-constants.ensures _ _ c.constants-c.ensures.0 c.registers-r.ensures.0 _ c.arc_at-arc.ensures
    (sym c.connects.ensures ∙ c.if-not-connects.false) p.result p.ensures _ c.renewed-fresh.result c.in_ok-vals.was c.renewed-fresh.ensures

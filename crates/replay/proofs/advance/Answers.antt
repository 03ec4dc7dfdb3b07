-- `replay::advance` meets its contract.
use Rattle.std.proofs.Common.{◌≡◌, ◌<◌, ◌-◌, arith, length, rules, sym, ◌∙◌, subst}
use Rattle.forms.specs.FormAutomaton.{automaton_of}
use Rattle.forms.specs.Slots.{Fits}
use Rattle.forms.proofs.Forms.{arc_fits}
use Rattle.replay.proofs.StepSlots.{step_out, step-found}
use Rattle.replay.proofs.StepWalk.{failed, advanced_bad, advanced_stops, advanced_goes}
use Rattle.replay.proofs.advance.Goals.{then-arc-eq0-via-then-arc-eq0, then-arc-eq0-via-else-arc-eq0+then-transitions-arc}
use Rattle.replay.proofs.advance.Goals as goal

pub returns-in_err-here : goal.returns-in_err-here
returns-in_err-here c = failed (automaton_of c.args.form.now) _ c.from_residual.ensures.1 ∙ advanced_bad _ _ _ c.in_err-here.was

pub returns-then-arc-eq0 : goal.returns-then-arc-eq0
returns-then-arc-eq0 c =
    advanced_stops _ _ _ c.in_ok-here.was (step_out (automaton_of c.args.form.now) _ c.args.s (λ l h.
    elim c.then-arc-eq0.branch [
      | then-arc-eq0-via-then-arc-eq0 w ↦ omega arith
      | then-arc-eq0-via-else-arc-eq0+then-transitions-arc w ↦ omega (arith, w.transitions.ensures.0)
    ]))

pub made-requires : goal.made-requires
made-requires c =
    let t = c.args.form.now in
    let i : c.args.s.arc - 1 < length (automaton_of t).transitions = omega (arith, c.transitions.ensures.0) in
    subst Fits (sym c.arc_at-x.ensures) (arc_fits t c.requires _ i)

pub returns-then-made : goal.returns-then-made
returns-then-made c =
    let t = c.args.form.now in
    let s = c.args.s in
    let v : length c.in_ok-here.here.contents ≡ 5 = search rules in
    let ps : length s.params ≡ 3 = search rules in
    let w : length s.next ≡ 5 = search rules in
    let (good, to) = step-found t c.requires _ c.constant_values-constants.ensures s (omega arith) (omega (arith, c.transitions.ensures.0)) _ _ v ps w
    (omega arith) c.registers.ensures.0 c.arc_at-x.ensures c.made.ensures in
    advanced_goes _ _ _ c.in_ok-here.was (sym good ∙ c.if-made.true) (c.from.ensures ∙ to)

pub returns-else-made : goal.returns-else-made
returns-else-made c =
    let t = c.args.form.now in
    let s = c.args.s in
    let v : length c.in_ok-here.here.contents ≡ 5 = search rules in
    let ps : length s.params ≡ 3 = search rules in
    let w : length s.next ≡ 5 = search rules in
    let (good, to) = step-found t c.requires _ c.constant_values-constants.ensures s (omega arith) (omega (arith, c.transitions.ensures.0)) _ _ v ps w
    (omega arith) c.registers.ensures.0 c.arc_at-x.ensures c.made.ensures in
    advanced_stops _ _ _ c.in_ok-here.was (sym good ∙ c.if-made.false)

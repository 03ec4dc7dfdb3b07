-- `along::write_step` meets its contract.
use Rattle.std.proofs.Common.{◌+◌, ◌*◌, ◌-◌, get_or, arith, refl, sym, ap, ◌∙◌, add-one}
use Rattle.automata.specs.Runs.{nowhere, transition_of}
use Rattle.forms.specs.FormAutomaton.{automaton_of}
use Rattle.forms.proofs.Forms.{form_limits}
use Rattle.concretization.proofs.Moving.{posed_there, is_there, moved_there, picked, move-written, line-written, line_pasted, stands_there}
use Rattle.concretization.proofs.along.write_step.Goals as goal

pub smallest_move-requires : goal.smallest_move-requires
smallest_move-requires c =
    let a = c.args in
    let s = a.nodes.now in
    posed_there s.form.now s.cat.now s.n s.lent a.here a.node c.requires.0 _ _ c.location-to.ensures c.labels-labels.ensures

pub unwrap-m-requires : goal.unwrap-m-requires
unwrap-m-requires c =
    let a = c.args in
    let s = a.nodes.now in
    is_there s.form.now s.cat.now s.n s.lent a.here a.node c.requires.0 _ _ c.location-to.ensures c.labels-labels.ensures _ c.smallest_move.ensures

pub overflow_sub-m : goal.overflow_sub-m
overflow_sub-m c =
    let a = c.args in
    let s = a.nodes.now in
    let lv = c.requires.0 in
    let m = moved_there s.form.now s.cat.now s.n s.lent a.here a.node lv _ _ c.location-to.ensures c.labels-labels.ensures _ (sym c.unwrap-m.ensures ∙ c.smallest_move.ensures) lv.move lv.found in
    let p = picked s.form.now s.cat.now s.n s.lent a.here a.node lv lv.move lv.found in
    omega (arith, m.0, p.low)

pub arc_at-p-requires : goal.arc_at-p-requires
arc_at-p-requires c =
    let a = c.args in
    let s = a.nodes.now in
    let lv = c.requires.0 in
    let m = moved_there s.form.now s.cat.now s.n s.lent a.here a.node lv _ _ c.location-to.ensures c.labels-labels.ensures _ (sym c.unwrap-m.ensures ∙ c.smallest_move.ensures) lv.move lv.found in
    let p = picked s.form.now s.cat.now s.n s.lent a.here a.node lv lv.move lv.found in
    (s.lent.readable, omega (arith, m.0, p.low, p.high))

pub line-shown-requires : goal.line-shown-requires
line-shown-requires c =
    let s = c.args.nodes.now in
    let f = form_limits s.form.now s.lent.readable in
    (c.registers-r.ensures.1, omega (arith, ap (λ x. x.params) c.arc_at-p.ensures, f.parameters (get_or (automaton_of s.form.now).transitions (c.unwrap-m.result.arc - 1) nowhere)))

pub returns : goal.returns
returns c =
    let a = c.args in
    let s = a.nodes.now in
    let t = s.form.now in
    let lim = form_limits t s.lent.readable in
    let loc = c.location-to.ensures in
    λ m f.
    let (ea, ep, en) = moved_there t s.cat.now s.n s.lent a.here a.node c.requires.0 _ _ loc c.labels-labels.ensures _ (sym c.unwrap-m.ensures ∙ c.smallest_move.ensures) m f in
    let p = picked t s.cat.now s.n s.lent a.here a.node c.requires.0 m f in
    let three = lim.parameters (transition_of (automaton_of t) m.transition) in (
      stands_there t a.node m p lim.registers three _ _ loc en,
      c.put.ensures ∙ move-written t a.node m p lim.registers three _ _ _ _ a.run.now (5 + 9 * a.j) ea ep en c.nine.ensures,
      c.put-2.ensures ∙ line_pasted t a.node m p lim.registers three a.j (12 + 12 * a.j) _ a.lines.now
          (c.line-shown.ensures ∙ line-written t a.node m p lim.registers three a.j _ _ _ _ _ _ _ c.arc_at-p.result (add-one a.j) ea loc ep en c.registers-r.ensures.0 c.arc_at-p.ensures refl),
    )

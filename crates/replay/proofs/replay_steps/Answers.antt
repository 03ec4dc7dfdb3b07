-- `replay::replay_steps` meets its contract: the steps that are left decide.
use Rattle.std.proofs.Common.{arith, ap, sym, ◌∙◌, ◌+◌, drop}
use Rattle.forms.specs.FormAutomaton.{automaton_of}
use Rattle.replay.specs.Progress.{through, judged}
use Rattle.replay.proofs.StepWalk.{taken_next, taken-all, judged-through}
use Rattle.replay.proofs.replay_steps.Goals as goal

pub loop-i-init : goal.loop-i-init
loop-i-init c = ap (λ p. through (automaton_of c.args.form.now) p 1 c.args.run.now) c.started-p.ensures

pub loop-i-preserved : goal.loop-i-preserved
loop-i-preserved c =
    let a = automaton_of c.args.form.now in
    let l = c.loop-i in
    ap (λ p. through a p (l.i + 1 + 1) (drop (l.i + 1) c.args.run.now)) c.advance-p.ensures ∙ taken_next a l.p l.i c.args.run.now (omega arith) ∙ l.invariant

pub returns : goal.returns
returns c =
    let a = automaton_of c.args.form.now in
    let l = c.loop-i in
    c.verdict_of.ensures ∙ ap judged (sym (taken-all a l.p l.i c.args.run.now (omega arith)) ∙ l.invariant) ∙ judged-through a c.args.start c.args.run.now

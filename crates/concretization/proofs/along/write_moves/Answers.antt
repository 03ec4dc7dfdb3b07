-- `along::write_moves` meets its contract: one move more.
use mathlib.Core.Path.{subst⁻¹}
use Rattle.std.proofs.Common.{◌+◌, suc, ◌∷◌, arith, sym, ap, ◌∙◌}
use Rattle.forms.specs.FormAutomaton.{automaton_of}
use Rattle.forms.proofs.Forms.{form_limits}
use Rattle.replay.specs.RunForm.{flat_move}
use Rattle.concretization.specs.RunLines.{moment_line}
use Rattle.concretization.specs.PathRuns.{moves_from, Going}
use Rattle.concretization.proofs.Pasting.{paste_more, paste-done}
use Rattle.concretization.proofs.PathTurns.{turn, leaving, none_left}
use Rattle.concretization.proofs.along.write_moves.Goals as goal

pub write_step-here-requires : goal.write_step-here-requires
write_step-here-requires c =
    let l = c.loop-j in
    let s = c.args.nodes.now in
    let t = s.form.now in (
      leaving (automaton_of t) s.lent.readable.fits (form_limits t s.lent.readable).registers c.args.path.now c.args.steps l.j l.here (omega arith) l.invariant.going,
      omega arith,
      omega arith,
      omega arith,
    )

pub loop-j-preserved : goal.loop-j-preserved
loop-j-preserved c =
    let l = c.loop-j in
    let s = c.args.nodes.now in
    let t = s.form.now in
    let a = automaton_of t in
    let p = c.args.path.now in
    let k = c.args.steps in
    let (m, u) = turn a s.lent.readable.fits (form_limits t s.lent.readable).registers p k l.j l.here (omega arith) l.invariant.going in
    let (es, er, el) = c.write_step-here.ensures m u.found in
    let more = u.more ∙ ap (λ z. m ∷ moves_from a p k (l.j + 1) z) (sym es) in record {
      going = subst⁻¹ (Going a p k (l.j + 1)) es u.going;
      moves = paste_more (λ i x. flat_move x) 9 5 l.j _ _ m _ _ more er ∙ l.invariant.moves;
      shown = paste_more (λ i x. moment_line a (suc i) x) 12 12 l.j _ _ m _ _ more el ∙ l.invariant.shown;
    }

pub returns : goal.returns
returns c =
    let l = c.loop-j in
    let s = c.args.nodes.now in
    let a = automaton_of s.form.now in
    let none = none_left a s.lent.readable.fits (form_limits s.form.now s.lent.readable).registers c.args.path.now c.args.steps l.j l.here (omega arith) in (
      paste-done (λ i x. flat_move x) 9 5 l.j _ _ none ∙ l.invariant.moves,
      paste-done (λ i x. moment_line a (suc i) x) 12 12 l.j _ _ none ∙ l.invariant.shown,
    )

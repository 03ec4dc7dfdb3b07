-- `concretization::smallest_move` meets its contract: one transition more.
use Rattle.std.proofs.Common.{◌≡◌, ◌-◌, ◌+◌, length, arith, sym, ap, ◌∙◌}
use Rattle.forms.specs.FormAutomaton.{automaton_of}
use Rattle.moves.specs.Moves.{smallest_from}
use Rattle.concretization.specs.SmallestMove.{state_at, class_at, padded_move}
use Rattle.concretization.proofs.SmallestMoves.{smallest-here, smallest-later, smallest-left, smallest-next, smallest-none}
use Rattle.concretization.proofs.smallest_move.Goals as goal

pub loop-i-init : goal.loop-i-init
loop-i-init c =
    let a = c.args in
    let m = automaton_of a.form.now in
    let z : c.transitions-i-end.result - 0 ≡ length m.transitions = omega (arith, c.transitions-i-end.ensures.0) in record {
      count = c.transitions-i-end.ensures.0;
      agrees = ap (smallest_from 15 m (state_at m a.here.place a.here.contents) (class_at m a.to a.next) 1) z;
    }

pub returns-in-Some : goal.returns-in-Some
returns-in-Some c =
    let a = c.args in
    let l = c.loop-i in
    let m = automaton_of a.form.now in
    let s = state_at m a.here.place a.here.contents in
    let d = class_at m a.to a.next in
    let n = c.transitions-i-end.result in
    smallest-here m s d l.i (n - (l.i + 1)) c.in-Some.m c.in-Some.ensures ∙ ap padded_move (smallest-left m s d l.i n (omega arith) ∙ l.invariant.agrees)

pub loop-i-preserved : goal.loop-i-preserved
loop-i-preserved c =
    let a = c.args in
    let l = c.loop-i in
    let m = automaton_of a.form.now in
    let s = state_at m a.here.place a.here.contents in
    let d = class_at m a.to a.next in
    let n = c.transitions-i-end.result in record {
      count = l.invariant.count;
      agrees = smallest-next m s d l.i n ∙ smallest-later m s d l.i (n - (l.i + 1)) (sym c.in_default.is ∙ c.move_by.ensures) ∙ smallest-left m s d l.i n (omega arith) ∙ l.invariant.agrees;
    }

pub returns : goal.returns
returns c =
    let a = c.args in
    let l = c.loop-i in
    let m = automaton_of a.form.now in
    ap padded_move (sym (smallest-none m (state_at m a.here.place a.here.contents) (class_at m a.to a.next) l.i c.transitions-i-end.result (omega arith)) ∙ l.invariant.agrees)

-- `replay::replay` meets its contract: the steps that are left decide.
use Rattle.std.proofs.Common.{rules, arith, ap, sym, ◌∙◌, ◌+◌, take}
use Rattle.std.specs.Slice.Iter.{chunks_exact_rest}
use Rattle.std.specs.Iterator.Adapters.{enumerate_source, enumerate_count}
use Rattle.forms.specs.FormAutomaton.{automaton_of}
use Rattle.replay.specs.RunForm.{steps_in}
use Rattle.replay.specs.Progress.{judged}
use Rattle.replay.proofs.StepWalk.{chunk_turn, chunk_end, judged-through}
use Rattle.replay.proofs.replay.Goals as goal

pub loop-i-preserved : goal.loop-i-preserved
loop-i-preserved c =
    let l = c.loop-i in
    let taken = c.in-Some.ensures.steps in record {
      can = search rules;
      finite = search rules;
      nine = taken.0.0 ∙ l.invariant.nine;
      agrees = chunk_turn (automaton_of c.args.form.now) l.p (enumerate_count l.i-iterator + 1) _ _ taken.0.1.0 (taken.0.1.1 ∙ l.invariant.nine) (omega arith) taken.2 c.step_of.ensures c.advance-p.ensures
          ∙ l.invariant.agrees;
    }

pub returns : goal.returns
returns c =
    let a = automaton_of c.args.form.now in
    let l = c.loop-i in
    let xs = c.args.run.now in
    c.verdict_of.ensures
    ∙ ap judged (sym (chunk_end a l.p (enumerate_count l.i-iterator + 1) (chunks_exact_rest (enumerate_source l.i-iterator)) (omega (arith, c.in-None.ensures.steps.0.1.0, l.invariant.nine)))
    ∙ l.invariant.agrees) ∙ judged-through a (take 5 xs) (steps_in xs)

-- The loop: the moves from number j on are left.
use Rattle.std.proofs.Common.{◌≡◌}
use Rattle.forms.specs.FormAutomaton.{automaton_of}
use Rattle.concretization.specs.PathRuns.{moves_put, lines_put, moves_from, Going}
use Rattle.concretization.proofs.along.write_moves.Given as goal

abbrev pub invariant-loop-j : goal.invariant-loop-j
invariant-loop-j l =
    let a = automaton_of l.nodes.form.now in record {
      going : Going a l.path l.steps l.j l.here;
      moves : moves_put l.j (moves_from a l.path l.steps l.j l.here) l.run ≡ moves_put 0 (moves_from a l.path l.steps 0 l.fn.first) l.fn.run;
      shown : lines_put a l.j (moves_from a l.path l.steps l.j l.here) l.lines ≡ lines_put a 0 (moves_from a l.path l.steps 0 l.fn.first) l.fn.lines;
    }

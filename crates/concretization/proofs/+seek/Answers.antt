-- `concretization::seek` meets its contract: one choice more for the parameter, with and without success.
use Rattle.std.proofs.Common.{◌+◌, ◌-◌, length, get_or, set, arith, sym, ap, ◌∙◌}
use Rattle.graphs.specs.Lists.{first}
use Rattle.classes.specs.Classes.{noted}
use Rattle.classes.proofs.Labels.{position-le}
use Rattle.classes.proofs.Legal.{noted-length}
use Rattle.concretization.specs.Parameters.{suits, found_of}
use Rattle.concretization.proofs.ParameterSearch.{turn_skip, turn-fails, turn_finds, turn-done, tries_last, tries-first, tried_next}
use Rattle.concretization.proofs.+seek.Goals.{then-worth_trying+in_default, else-worth_trying}
use Rattle.concretization.proofs.+seek.Goals as goal

pub returns-then-depth-arc : goal.returns-then-depth-arc
returns-then-depth-arc t c =
    let a = c.args in
    c.judge.ensures ∙ ap (λ l. found_of (first (suits a.arc a.base a.wanted) l)) (tries_last a.pool.now a.arc.params a.depth (7 + a.depth) a.seen a.vals c.if-depth-arc.true)

pub loop-x-init : goal.loop-x-init
loop-x-init t c =
    let a = c.args in
    ap (first (suits a.arc a.base a.wanted)) (tries-first a.pool.now a.arc.params a.depth (7 + a.depth) a.seen a.vals (omega arith))

pub seek-requires : goal.seek-requires
seek-requires t c =
    (omega (arith, c.decreases), (c.requires.0, c.requires.1, omega arith, omega (arith, c.requires.3, ap length c.note.ensures, noted-length c.args.seen (get_or c.args.pool.now c.loop-x.x-index 0), position-le c.args.seen (get_or c.args.pool.now c.loop-x.x-index 0))))

pub returns-in-Some : goal.returns-in-Some
returns-in-Some t c =
    let a = c.args in
    let l = c.loop-x in
    let p = suits a.arc a.base a.wanted in
    let m = a.arc.params - (a.depth + 1) in
    let x = get_or a.pool.now l.x-index 0 in
    let found = tried_next p a.pool.now m a.depth (noted a.seen x) _ (set a.vals (7 + a.depth) x) c.note.ensures c.in-Some.ensures in
    turn_finds a.pool.now m (7 + a.depth) a.seen a.vals l.x-index c.loop-x-test.true p c.in-Some.found (sym c.worth_trying.ensures ∙ c.if-worth_trying.true) found
    ∙ ap found_of l.invariant

pub loop-x-preserved : goal.loop-x-preserved
loop-x-preserved t c =
    let a = c.args in
    let l = c.loop-x in
    let p = suits a.arc a.base a.wanted in
    let m = a.arc.params - (a.depth + 1) in
    let x = get_or a.pool.now l.x-index 0 in
    let low = c.loop-x-test.true in
    elim c.if-worth_trying.branch [
      | then-worth_trying+in_default w ↦
          let found = tried_next p a.pool.now m a.depth (noted a.seen x) _ (set a.vals (7 + a.depth) x) w.note.ensures w.seek.ensures in
          sym (turn-fails a.pool.now m (7 + a.depth) a.seen a.vals l.x-index low p (sym c.worth_trying.ensures ∙ w.if-worth_trying.true) (sym w.in_default.is ∙ found)) ∙ l.invariant
      | else-worth_trying w ↦ sym (turn_skip a.pool.now m (7 + a.depth) a.seen a.vals l.x-index low p (sym c.worth_trying.ensures ∙ w.if-worth_trying.false)) ∙ l.invariant
    ]

pub returns : goal.returns
returns t c =
    let a = c.args in
    let l = c.loop-x in
    let p = suits a.arc a.base a.wanted in
    ap found_of (sym (turn-done a.pool.now (a.arc.params - (a.depth + 1)) (7 + a.depth) a.seen a.vals p l.x-index c.loop-x-test.false) ∙ l.invariant)

-- `classification::contents_of_matrix` meets its contract.
use Rattle.std.proofs.Common.{◌≡◌, ◌&&◌, eqb, leb, length, Err, refl, sym, ap, ◌∙◌, rules}
use Rattle.refusals.specs.Judged.Judged.{refused}
use Rattle.classification.specs.ClassTests.{test_lists, done_of}
use Rattle.classification.proofs.Passed.{ok_or-err, ok_or-ok}
use Rattle.classification.proofs.ClassReplies.{class-listed, back-refused, back-taken, back_none, back_done}
use Rattle.classification.proofs.contents_of_matrix.Goals as goal

pub returns-in_err-test_lists : goal.returns-in_err-test_lists
returns-in_err-test_lists c =
    let a = c.args in
    let n = c.in_err-test_lists.field-0.0 in
    let fits : c.if-matrix-square.fits ≡ (eqb (length a.matrix.now) c.square.result && leb a.registers (length a.out.now)) = search rules in
    let e : c.from_residual.result ≡ Err n = search rules in
    rw e (back-refused a.registers a.constants.now a.matrix.now a.out.now _ c.square.ensures _
    (c.test_lists.ensures ∙ ap (λ b. done_of (test_lists b a.registers a.constants.now)) fits) n c.in_err-test_lists.was)

pub returns-in_err-class : goal.returns-in_err-class
returns-in_err-class c =
    let a = c.args in
    let n = c.in_err-class.field-0.0 in
    let fits : c.if-matrix-square.fits ≡ (eqb (length a.matrix.now) c.square.result && leb a.registers (length a.out.now)) = search rules in
    let e : c.from_residual-in_err-class.result ≡ Err n = search rules in
    let (none, same) = ok_or-err c.class_of_matrix.result c.of_call.result n (sym c.ok_or.ensures.value ∙ c.in_err-class.was) in
    rw e (back_none a.registers a.constants.now a.matrix.now a.out.now _ c.square.ensures _
    (c.test_lists.ensures ∙ ap (λ b. done_of (test_lists b a.registers a.constants.now)) fits) c.in_ok-test_lists.was
    (none ∙ c.class_of_matrix.ensures) n (sym (ap refused (sym same ∙ c.of_call.ensures))))

pub write_contents-requires : goal.write_contents-requires
write_contents-requires c =
    let a = c.args in
    let fits : c.if-matrix-square.fits ≡ (eqb (length a.matrix.now) c.square.result && leb a.registers (length a.out.now)) = search rules in
    let (q, l, m, w) = back-taken a.registers a.constants.now a.matrix.now a.out.now _ c.square.ensures _
    (c.test_lists.ensures ∙ ap (λ b. done_of (test_lists b a.registers a.constants.now)) fits) c.in_ok-test_lists.was in
    let found = ok_or-ok c.class_of_matrix.result c.of_call.result c.in_ok-class.class (sym c.ok_or.ensures.value ∙ c.in_ok-class.was) ∙ c.class_of_matrix.ensures in
    (q, l, (class-listed a.registers (length a.constants.now) a.matrix.now _ found).0, w)

pub returns : goal.returns
returns c =
    let a = c.args in
    let fits : c.if-matrix-square.fits ≡ (eqb (length a.matrix.now) c.square.result && leb a.registers (length a.out.now)) = search rules in
    let found = ok_or-ok c.class_of_matrix.result c.of_call.result c.in_ok-class.class (sym c.ok_or.ensures.value ∙ c.in_ok-class.was) ∙ c.class_of_matrix.ensures in
    back_done a.registers a.constants.now a.matrix.now a.out.now _ c.square.ensures _
    (c.test_lists.ensures ∙ ap (λ b. done_of (test_lists b a.registers a.constants.now)) fits) c.in_ok-test_lists.was _ _ _ found refl c.write_contents.ensures

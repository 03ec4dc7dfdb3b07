-- `classification::matrix_of` meets its contract.
use Rattle.std.proofs.Common.{◌≡◌, ◌*◌, ◌&&◌, eqb, leb, length, take, Err, refl, ap, ◌∙◌, rules}
use Rattle.lists.proofs.Arrays.{padded-take}
use Rattle.classification.specs.ClassTests.{test_lists, done_of}
use Rattle.classification.proofs.ClassReplies.{matrix-refused, matrix-taken, matrix-done}
use Rattle.classification.proofs.matrix_of.Goals as goal

pub returns-in_err-test_lists : goal.returns-in_err-test_lists
returns-in_err-test_lists c =
    let a = c.args in
    let r = a.registers in
    let n = c.in_err-test_lists.field-0.0 in
    let fits : c.if-contents-registers.fits ≡ (eqb (length a.contents.now) r && leb (r * r) (length a.out.now)) = search rules in
    let e : c.from_residual.result ≡ Err n = search rules in
    rw e (matrix-refused r a.constants.now a.contents.now a.out.now (r * r) refl _ (c.test_lists.ensures ∙ ap (λ b. done_of (test_lists b r a.constants.now)) fits) n c.in_err-test_lists.was)

pub returns : goal.returns
returns c =
    let a = c.args in
    let r = a.registers in
    let cs = a.constants.now in
    let v = a.contents.now in
    let fits : c.if-contents-registers.fits ≡ (eqb (length v) r && leb (r * r) (length a.out.now)) = search rules in
    let g = c.test_lists.ensures ∙ ap (λ b. done_of (test_lists b r cs)) fits in
    let (l, q, w) = matrix-taken r cs v a.out.now (r * r) refl _ g c.in_ok-test_lists.was in
    matrix-done r cs v a.out.now (r * r) refl _ g c.in_ok-test_lists.was _ _ _
    (ap (take (length cs)) c.array_of.ensures ∙ padded-take 2 cs l) c.array_of-2.ensures c.matrix_of.ensures

-- `numbers::class_of` meets its contract: the labels of contents are legal.
use Rattle.std.proofs.Common.{◌≡◌, length, take, subst, ap, ◌∙◌, arith, rules}
use Rattle.std.proofs.Math.Seq.{length-take-le}
use Rattle.classes.specs.Classes.{labels, lists, index}
use Rattle.classes.specs.Contents.{Legal}
use Rattle.classes.proofs.Legal.{labels_length, labels-legal}
use Rattle.catalogue.proofs.Copying.{padded_front}
use Rattle.catalogue.proofs.numbers.class_of.Goals as goal
use Rattle.catalogue.proofs.numbers.class_of.Goals.{After-labels_of}

-- the labels are at the front of the array
front : (c : After-labels_of)
    → let a = c.args in take a.r c.labels_of.result ≡ labels (take a.c a.constants) (take a.r a.contents)
front c =
    let a = c.args in
    let five : length a.contents ≡ 5 = search rules in
    ap (take a.r) c.labels_of.ensures
    ∙ padded_front (labels (take a.c a.constants) (take a.r a.contents)) a.r
    (labels_length (take a.c a.constants) (take a.r a.contents) ∙ length-take-le a.r a.contents (omega arith)) (omega arith)

pub class_number-requires : goal.class_number-requires
class_number-requires c =
    let a = c.args in
    let p = c.requires in
    let two : length a.constants ≡ 2 = search rules in (
      p.1,
      p.0,
      rw (front c) (subst (λ b. Legal b (labels (take a.c a.constants) (take a.r a.contents)))
          (length-take-le a.c a.constants (omega arith)) (labels-legal (take a.c a.constants) (take a.r a.contents))),
    )

pub returns : goal.returns
returns c =
    let a = c.args in
    c.class_number.ensures ∙ ap (index (lists a.r a.c)) (front c.before)

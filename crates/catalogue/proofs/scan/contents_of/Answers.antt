-- Each label of a legal list is at least 1.
use Rattle.std.proofs.Common.{◌≡◌, ap, length, take, rules, arith}
use Rattle.std.proofs.Math.Seq.{length-take-le, get_or-take}
use Rattle.labelling.proofs.Noted.{take-le}
use Rattle.classes.proofs.GivenBack.{legal-low}
use Rattle.catalogue.proofs.scan.contents_of.Goals as goal

pub identifiers_of-requires : goal.identifiers_of-requires
identifiers_of-requires c =
    let a = c.args in
    let five : length a.labels ≡ 5 = search rules in (
      omega (arith, ap length c.constants_seen.ensures, take-le a.c a.constants, c.requires.0),
      c.requires.1,
      (λ i h. rw (← get_or-take a.r a.labels i 0 h) (legal-low a.c (take a.r a.labels) i c.requires.2 (omega (arith, length-take-le a.r a.labels (omega arith))))),
    )

-- `listing::fill_labels` meets its contract.
use Rattle.std.proofs.Common.{◌<◌, ◌+◌, ◌*◌, ◌-◌, [], length, get_or, replicate, refl, sym, ap, ◌∙◌, add-one, arith, rules}
use Rattle.std.proofs.lemmas.Slice.{put_mid-paste}
use Rattle.std.proofs.Math.Nat.{sub-zero}
use Rattle.classes.specs.Classes.{lists}
use Rattle.lists.specs.Arrays.{padded}
use Rattle.lists.specs.Filling.{filled}
use Rattle.catalogue.specs.Serving.{label_rows}
use Rattle.catalogue.specs.Listing.{raised}
use Rattle.catalogue.proofs.Copying.{overlay_all}
use Rattle.catalogue.proofs.LabelRows.{label_rows-length, label_rows_more}
use Rattle.catalogue.proofs.Listed.{listed-first, listed_small, listed_next}
use Rattle.catalogue.proofs.listing.fill_labels.Goals as goal

pub loop-k-init : goal.loop-k-init
loop-k-init c =
    let a = c.args in record {
      done = refl;
      next = λ h. c.ones-labels.ensures ∙ ap (filled (replicate 5 0) 0 (λ i. 1)) (sub-zero a.r) ∙ listed-first a.r a.c c.requires.0 c.requires.1 h;
    }

pub raise-labels-requires : goal.raise-labels-requires
raise-labels-requires c =
    let a = c.args in
    let l = c.loop-k in
    let k : l.k < length (lists a.r a.c) = omega arith in
    (c.requires.0, rw (l.invariant.next k) (listed_small a.r a.c c.requires.0 c.requires.1 l.k k))

pub loop-k-preserved : goal.loop-k-preserved
loop-k-preserved c =
    let a = c.args in
    let l = c.loop-k in
    let k : l.k < length (lists a.r a.c) = omega arith in record {
      done =
          put_mid-paste (l.k * 5) (l.k * 5 + 5 - l.k * 5) l.flat c.copy_from_slice.new.self l.labels 5 c.copy_from_slice.ensures.after (omega arith) (search rules)
          ∙ rw (l.invariant.done, l.invariant.next k) (label_rows_more a.r a.c c.requires.0 a.flat.now l.k k c.requires.2);
      next = λ h.
          c.raise-labels.ensures ∙ ap (raised a.r a.c) (l.invariant.next k) ∙ listed_next a.r a.c c.requires.0 c.requires.1 l.k (omega arith)
          ∙ ap (λ j. padded 5 (get_or (lists a.r a.c) j [])) (sym (add-one l.k));
    }

pub returns : goal.returns
returns c =
    let a = c.args in
    let l = c.loop-k in
    l.invariant.done
    ∙ overlay_all (label_rows a.r a.c) a.flat.now (l.k * 5) (omega (arith, label_rows-length a.r a.c c.requires.0))

-- `classification::write_contents` meets its contract.
use Rattle.std.proofs.Common.{◌≡◌, List, ℕ, length, take, ap, ◌∙◌}
use Rattle.lists.proofs.Arrays.{padded-take}
use Rattle.classes.specs.Contents.{contents}
use Rattle.classes.proofs.Contents.{contents-length}
use Rattle.catalogue.proofs.Complete.{lists-legal}
use Rattle.classification.specs.ClassCalls.{list_of}
use Rattle.classification.proofs.ClassReplies.{list_legal, given_back}
use Rattle.classification.proofs.write_contents.Goals as goal

pub contents_of-list-requires : goal.contents_of-list-requires
contents_of-list-requires c =
    let a = c.args in
    let (q, l, h, room) = c.requires in
    (l, q, list_legal a.r (length a.constants.now) a.class q _ h c.class_list-labels.ensures)

pub returns : goal.returns
returns c =
    let a = c.args in
    let cs = a.constants.now in
    let (q, l, h, room) = c.requires in
    let v : List ℕ = contents cs (list_of a.r (length cs) a.class) in
    let wide : length v ≡ a.r = contents-length cs (list_of a.r (length cs) a.class) ∙ (lists-legal a.r (length cs) a.class h).1 in
    let same : c.copy_from_slice.new.self ≡ v =
    c.copy_from_slice.ensures.after
    ∙ given_back a.r q cs _ _ a.class h c.class_list-labels.ensures (ap (take (length cs)) c.array_of.ensures ∙ padded-take 2 cs l) _ c.contents_of-list.ensures in
    rw (same, wide)

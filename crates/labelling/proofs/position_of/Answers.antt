-- The library's search finds the position.
use Rattle.std.proofs.Common.{◌∙◌, ap, take, eqb, rules, tests, arith}
use Rattle.std.proofs.lemmas.Iterator.{YieldsList-from_slice}
use Rattle.std.proofs.lemmas.Iterator.Search.{position_from_yields_List}
use Rattle.std.specs.Option.{unwrap_or}
use Rattle.std.proofs.Math.Seq.{length-take-le}
use Rattle.labelling.proofs.NotedTurns.{position_found}
use Rattle.labelling.proofs.position_of.Goals as goal

pub returns : goal.returns
returns c =
    let a = c.args in
    let xs = take a.n a.list.now in
    let found = position_found a.x a.n xs (length-take-le a.n a.list.now c.requires) in
    let r = position_from_yields_List (λ y. eqb y a.x) _ _ c.position.result c.position.ensures.ran (YieldsList-from_slice xs cc) (λ y b q k. search (rules, tests)) in
    let e = c.unwrap_or.ensures ∙ ap (λ o. unwrap_or o a.n) r ∙ found.0 in
    (e, omega (arith, found.1, e))

-- `matrices::first_equal` meets its contract.
use Rattle.std.proofs.Common.{◌≡◌, ◌+◌, ◌-◌, not, eqb, take, drop, ap, ◌∙◌, arith, rules, tests}
use Rattle.std.specs.List.{position}
use Rattle.std.specs.Option.{unwrap_or}
use Rattle.std.proofs.lemmas.Iterator.{YieldsList-from_slice}
use Rattle.std.proofs.lemmas.Iterator.Search.{position_from_yields_List}
use Rattle.catalogue.specs.MatrixCells.{first_equal}
use Rattle.catalogue.proofs.MatrixRows.{first-position, first_equal-within}
use Rattle.catalogue.proofs.matrices.first_equal.Goals as goal

pub returns : goal.returns
returns c =
    let a = c.args in
    let m = a.matrix.now in
    let part = take (a.at + a.n - a.at) (drop a.at m) in
    let found = position_from_yields_List (λ x. not (eqb x 0)) _ _ _ c.position.ensures.ran (YieldsList-from_slice part cc) (λ x b q k. search (rules, tests)) in
    let w : a.at + a.n - a.at ≡ a.n = omega arith in
    let first : c.unwrap_or.result ≡ first_equal m a.at a.n =
    c.unwrap_or.ensures ∙ ap (λ r. unwrap_or r a.n) found ∙ ap (λ k. unwrap_or (position (λ x. not (eqb x 0)) (take k (drop a.at m))) a.n) w
    ∙ first-position m a.at a.n c.requires.1 in
    (first, omega (arith, first_equal-within m a.at a.n))

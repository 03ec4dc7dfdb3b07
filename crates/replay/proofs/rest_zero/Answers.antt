-- `replay::rest_zero` meets its contract: the chain tests the slots that it doesn't skip.
use Rattle.std.proofs.Common.{rules, tests, eqb, drop, ◌∙◌}
use Rattle.std.proofs.lemmas.Iterator.{YieldsList-from_slice}
use Rattle.std.proofs.lemmas.Iterator.Adapters.{YieldsList-from_skip}
use Rattle.std.proofs.lemmas.Iterator.Search.{all_from_yields_List}
use Rattle.replay.proofs.Turns.{listed-all}
use Rattle.replay.proofs.rest_zero.Goals as goal

pub returns : goal.returns
returns c =
    all_from_yields_List (λ x. eqb x 0) _ _ c.all.result c.all.ensures.ran (YieldsList-from_skip c.args.n (YieldsList-from_slice c.args.xs.now (cc)) (cc)) (λ x b q k. search (rules, tests))
    ∙ listed-all (λ x. eqb x 0) (drop c.args.n c.args.xs.now)

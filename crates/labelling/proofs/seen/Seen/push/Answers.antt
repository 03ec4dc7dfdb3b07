-- One identifier more.
use Rattle.std.proofs.Common.{◌∙◌, ap, length, ◌++◌, [], ◌∷◌, arith}
use Rattle.labelling.proofs.Noted.{push-tidy, push-view}
use Rattle.labelling.proofs.seen.Seen.push.Goals as goal

pub invariant_of-self : goal.invariant_of-self
invariant_of-self c = push-tidy c.self.inside c.self.invariant c.args.x (omega (arith, ap length c.self.view_is, c.requires))

pub returns : goal.returns
returns c = push-view c.self.inside c.self.invariant c.args.x (omega (arith, ap length c.self.view_is, c.requires)) ∙ ap (λ l. l ++ (c.args.x ∷ [])) c.self.view_is

-- `forms::constant_values` meets its contract.
-- Assumes nothing.
use Rattle.forms.proofs.Accessors.{values_are}
use borrow.Author.Rules.{rules}
use Rattle.forms.proofs.constant_values.Statement.{statement}
use Rattle.forms.proofs.constant_values.Tie as tie

pub constant_values_spec : {M : Type 1} → statement M
constant_values_spec = tie.close (tie.spec (λ c. search rules) (λ c. search rules) (λ c. let e = c in values_are e.args.form.now e.requires))

-- `forms::target_guard` meets its contract: the conditions of a target stand in the rows of the start conditions.
-- Assumes nothing.
use mathlib.Core.Path.{subst⁻¹}
use native.Mathlib.Omega.{arith}
use Rattle.forms.specs.FormAutomaton.{target_of}
use Rattle.forms.specs.Slots.{FitsGuard}
use Rattle.forms.proofs.Forms.{guard-fits, target-few}
use Rattle.forms.proofs.target_guard.Statement.{statement}
use Rattle.forms.proofs.target_guard.Tie as tie

guard-at-requires : tie.Need-guard_at-requires
unfolding target_of
guard-at-requires c κs = let e = c in (e.requires.0, omega arith, e.requires.1)

returns : tie.Need-returns
unfolding target_of
returns c =
    let e = c in
    let t = e.args.form.now in
    (c.guard_at.ensures, subst⁻¹ FitsGuard c.guard_at.ensures (guard-fits (target_of t).conditions (target-few t) e.requires.1))

pub target_guard_spec : {M : Type 1} → statement M
target_guard_spec = tie.close (tie.spec guard-at-requires returns)

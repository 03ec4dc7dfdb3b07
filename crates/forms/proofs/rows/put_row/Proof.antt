-- `forms::put_row` meets its contract. Assumes nothing.
use Prim.Native.Nat.{◌*◌}
use lib.ListN.{length, get_or}
use mathlib.Core.Path.{◌≡◌, ◌∙◌, ap}
use Rattle.lists.specs.Filling.{filled}
use Rattle.forms.specs.TableForm.{put}
use borrow.Author.Rules.{rules}
use Rattle.forms.proofs.rows.put_row.Statement.{statement}
use Rattle.forms.proofs.rows.put_row.Tie as tie

returns : tie.Need-returns
unfolding put
returns c =
    let a = c.args in
    let e : length a.f ≡ 6 = search rules in
    c.store_all.ensures ∙ ap (filled a.form.now (6 * a.row) (λ i. get_or a.f i 0)) e

pub put_row_spec : {M : Type 1} → statement M
put_row_spec =
    tie.close
    (tie.spec (λ c. search rules) (λ c. search rules) (λ c κs. search rules) (λ c. search rules) returns)

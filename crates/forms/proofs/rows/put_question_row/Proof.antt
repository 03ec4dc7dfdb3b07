-- `forms::put_question_row` meets its contract. Assumes nothing.
use Rattle.forms.specs.QuestionForm.{put}
use borrow.Author.Rules.{rules}
use Rattle.forms.proofs.rows.put_question_row.Statement.{statement}
use Rattle.forms.proofs.rows.put_question_row.Tie as tie

pub put_question_row_spec : {M : Type 1} → statement M
unfolding put
put_question_row_spec = tie.close (tie.spec (λ c. search rules) (λ c. search rules) (λ c κs. search rules) (λ c. search rules) (λ c. search rules))

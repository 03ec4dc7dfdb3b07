-- Answers for `questions::put_row`: the numbers of a line that is accepted are those of a row.
use Rattle.std.proofs.Common.{rules, arith, ℕ, List, w32, Fits, ◌≡◌, ◌≤◌, get_or}
use Rattle.std.specs.Prelude.{Option}
use Rattle.columns.specs.Widths.{largest}
use Rattle.fields.specs.LineRead.{judge_read}
use Rattle.questions.specs.declared.Reading.{Reading}
use Rattle.questions.specs.QuestionRules.{judge_fields}
use Rattle.questions.proofs.Fits.{line_small}
use Rattle.questions.proofs.put_row.Goals as goal

numbers : (q : Reading) (n : Option ℕ) (f : List ℕ) → Fits w32 q.counts.registers → Fits w32 q.counts.constants → Fits w32 q.counts.locations → q.count ≤ 50000
    → judge_read (judge_fields q.counts q.count) n f ≡ 0 → (get_or f 0 0 ≤ largest) × (get_or f 1 0 ≤ largest) × (get_or f 2 0 ≤ largest)
numbers q n f r k l h e =
    line_small q.counts q.count largest (omega (arith, r.fits)) (omega (arith, k.fits)) (omega (arith, l.fits)) (omega arith) n f e (omega arith)

pub narrow-k-requires : goal.narrow-k-requires
narrow-k-requires c = (numbers c.args.q c.requires.judged.0 c.args.f (search rules) (search rules) (search rules) c.requires.small c.requires.judged.1).0

pub narrow-a-requires : goal.narrow-a-requires
narrow-a-requires c = (numbers c.args.q c.requires.judged.0 c.args.f (search rules) (search rules) (search rules) c.requires.small c.requires.judged.1).1

pub narrow-b-requires : goal.narrow-b-requires
narrow-b-requires c = (numbers c.args.q c.requires.judged.0 c.args.f (search rules) (search rules) (search rules) c.requires.small c.requires.judged.1).2

-- The sample's bytes say the automata, targets and questions of the starred examples, the sample that stops, and that of the two largest identifiers.
-- Assumes nothing.
use mathlib.Core.List.{List, [], ◌∷◌}
use mathlib.Core.Path.{refl}
use native.Mathlib.Omega.{arith}
use Rattle.columns.specs.Columns.{column_of}
use Rattle.columns.specs.Widths.{width}
use Rattle.automata.specs.Questions.{Row, row}
use Rattle.automata.specs.Automaton.{Automaton}
use Rattle.automata.specs.Automaton.Term.{register, constant}
use Rattle.automata.specs.Examples.{◌equals◌, sample, loose, stopped, delivered, delivered_by_one}
use Rattle.writing.specs.Said.{TableFile, TargetFile, QuestionFile}
use Rattle.writing.specs.Sample.{sample_bytes, loose_bytes, stopped_bytes, largest_bytes, delivered_bytes, delivered_by_one_bytes, always_bytes, waiting_bytes, inevitable_bytes}

pub sample_says : TableFile sample_bytes sample
unfolding column_of width
sample_says = record { written = refl; fits = tt; small = tt; issued = tt; start = (0 ∷ 0 ∷ [], tt) }

pub loose_says : TableFile loose_bytes loose
unfolding column_of width
loose_says = record { written = refl; fits = tt; small = tt; issued = tt; start = (0 ∷ 0 ∷ [], tt) }

pub stopped_says : TableFile stopped_bytes stopped
unfolding column_of width
stopped_says = record { written = refl; fits = tt; small = tt; issued = tt; start = (0 ∷ 0 ∷ [], tt) }

-- the sample of the two largest identifiers
abbrev pub largest_sample : Automaton
largest_sample =
    record {
      registers = 2;
      constants = 4294967294 ∷ 4294967295 ∷ [];
      locations = 3;
      arities = 1 ∷ 1 ∷ [];
      start = 1;
      starting = register 1 equals constant 1 ∷ register 2 equals constant 2 ∷ [];
      transitions = sample.transitions;
    }

pub largest_says : TableFile largest_bytes largest_sample
unfolding column_of width
largest_says = record { written = refl; fits = tt; small = tt; issued = tt; start = (4294967294 ∷ 4294967295 ∷ [], tt) }

pub largest-delivered_says : TargetFile largest_sample delivered_bytes delivered
unfolding column_of width
largest-delivered_says = record { written = refl; fits = tt; few = omega arith }

pub delivered_says : TargetFile sample delivered_bytes delivered
unfolding column_of width
delivered_says = record { written = refl; fits = tt; few = omega arith }

pub delivered_by_one_says : TargetFile sample delivered_by_one_bytes delivered_by_one
unfolding column_of width
delivered_by_one_says = record { written = refl; fits = tt; few = omega arith }

pub loose_by_one_says : TargetFile loose delivered_by_one_bytes delivered_by_one
unfolding column_of width
loose_by_one_says = record { written = refl; fits = tt; few = omega arith }

-- the questions' rows
abbrev pub always_rows : List Row
always_rows = row 2 1 1 ∷ row 8 1 0 ∷ []

abbrev pub waiting_rows : List Row
waiting_rows = row 1 1 0 ∷ row 8 1 0 ∷ []

abbrev pub inevitable_rows : List Row
inevitable_rows = row 1 3 0 ∷ row 14 1 0 ∷ []

pub always_says : QuestionFile sample always_bytes always_rows
unfolding column_of width
always_says = record { written = refl; fits = tt }

pub largest-waiting_says : QuestionFile largest_sample waiting_bytes waiting_rows
unfolding column_of width
largest-waiting_says = record { written = refl; fits = tt }

pub inevitable_says : QuestionFile sample inevitable_bytes inevitable_rows
unfolding column_of width
inevitable_says = record { written = refl; fits = tt }

pub stopped_inevitable_says : QuestionFile stopped inevitable_bytes inevitable_rows
unfolding column_of width
stopped_inevitable_says = record { written = refl; fits = tt }

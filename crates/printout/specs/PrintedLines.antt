-- The lines that are printed, as the code has them. What they say is in `Document`, so that this page need not be believed.
-- Assumes nothing.
use Rattle.std.specs.Prelude.{ℕ, zero, suc, ◌*◌, min, List, [], ◌∷◌, ◌++◌, get_or, take, drop, Result, Ok, Err}
use Rattle.std.proofs.Math.Option.{Option, none, some}
use Rattle.refusals.specs.declared.Refusal.{Refusal}
use Rattle.refusals.specs.Judged.{Judged, left}
use Rattle.graphs.specs.Search.{Walk}
use Rattle.automata.specs.Automaton.{Automaton}
use Rattle.automata.specs.Answers.{nearest_to}
use Rattle.moves.specs.PathMoves.{walk_contents, walk_moves}
use Rattle.forms.specs.FormAutomaton.{automaton_of, target_of}
use Rattle.witness.specs.declared.Answer.{Answer}
use Rattle.witness.specs.declared.Answer.TheVariants.{Never, Reached}
use Rattle.claims.specs.declared.Asking.{Asking}
use Rattle.claims.specs.declared.Asking.TheVariants.{Yes, No}
use Rattle.claims.specs.Files.{WithTarget, WithQuestion}
use Rattle.claims.specs.ReachReply.{reach_told}
use Rattle.claims.specs.AskReply.{ask_told}
use Rattle.printout.specs.Document.{moment_lines}

-- The moments of a run in their slots

-- the numbers of a moment in its twelve slots: the first says how many follow, and no more than eleven can
abbrev pub shown : List ℕ → List ℕ
shown slots = take (min (get_or slots 0 0) 11) (drop 1 slots)

-- the first n moments
unfoldable pub moments : ℕ → List ℕ → List (List ℕ)
moments zero slots = []
moments (suc n) slots = moments n slots ++ (shown (drop (12 * n) slots) ∷ [])

-- the moments of the run that is printed: the start and one for each step, none where there is no run
abbrev pub moment_count : Result Answer Refusal → ℕ
moment_count (Ok (Never reached)) = 0
moment_count (Ok (Reached steps reached)) = suc steps
moment_count (Err r) = 0

-- the class that a no names
abbrev pub class_of : Result Asking Refusal → ℕ
class_of (Ok Yes) = 0
class_of (Ok (No class registers)) = class
class_of (Err r) = 0

-- The printouts

-- the lines below the answer's: none, or the start and the moments of the run along the walk
abbrev pub walk_lines : Automaton → Option Walk → List (List ℕ)
walk_lines a none = []
walk_lines a (some w) = (0 ∷ 0 ∷ a.start ∷ walk_contents a w) ∷ moment_lines a 1 (walk_moves 15 a w)

-- the lines for a table and a target
unfoldable pub reach_printed : Judged WithTarget → List (List ℕ)
reach_printed j = reach_told j ∷ left j (λ f. walk_lines (automaton_of f.table) (nearest_to (automaton_of f.table) (target_of f.target))) []

-- the line for a table and a question
abbrev pub ask_printed : Judged WithQuestion → List (List ℕ)
ask_printed j = ask_told j ∷ []

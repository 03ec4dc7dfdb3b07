-- How the replayer keeps its place in a run: a step at a time, by value; and what it tests of a step, over slots. The public contracts of whole runs cite Judge alone.
-- Assumes nothing.
use Rattle.std.specs.Prelude.{ℕ, ◌+◌, Bool, ◌&&◌, cond, Result, Ok, Err, List, [], ◌∷◌, ◌++◌, eqb, get_or}
use Rattle.lists.specs.Searches.{all_from}
use Rattle.automata.specs.Automaton.{Automaton}
use Rattle.automata.specs.Runs.{State, transition_of}
use Rattle.forms.specs.declared.Arc.{Arc}
use Rattle.forms.specs.Slots.{holds_all}
use Rattle.replay.specs.declared.Step.{Step}
use Rattle.replay.specs.declared.Stand.{Stand}
use Rattle.replay.specs.declared.Stop.{Stop}
use Rattle.replay.specs.declared.Verdict.{Verdict}
use Rattle.replay.specs.declared.Verdict.TheVariants.{Good, Bad}
use Rattle.replay.specs.Judge.{start_good, step_good}
use Rattle.replay.specs.RunForm.{rest_zero, contents_of}

-- where a run stands, or, once it is bad, where it stopped
abbrev pub Progress : Type 0
Progress = Result Stand Stop

-- the state in which it stands
abbrev pub state_of : Automaton → Stand → State
state_of a p = record { location = p.place; valuation = contents_of a p.contents }

-- a run that stood here, and is bad since moment n
abbrev pub stopped : Stand → ℕ → Stop
stopped p n = record { stand = p; moment = n }

-- at the start, which is moment 0
abbrev pub begun : Automaton → List ℕ → Progress
begun a v =
    let p : Stand = record { place = a.start; contents = v } in
    cond (start_good a v) (Ok p) (Err (stopped p 0))

-- after one step more, which is moment n; what is bad stays as it is
unfoldable pub advanced : Automaton → Progress → ℕ → Step → Progress
advanced a (Err m) n s = Err m
advanced a (Ok p) n s = cond (step_good a (state_of a p) s) (Ok (record { place = (transition_of a s.arc).to; contents = s.next })) (Err (stopped p n))

-- after steps, the first of which is moment n
unfoldable pub through : Automaton → Progress → ℕ → List Step → Progress
through a p n [] = p
through a p n (s ∷ ss) = through a (advanced a p n s) (n + 1) ss

-- the verdict so far
abbrev pub judged : Progress → Verdict
judged (Ok p) = Good
judged (Err m) = Bad m.moment

-- the values in their slots: two of constants, five of contents, three of parameters
abbrev pub slot_values : List ℕ → List ℕ → List ℕ → List ℕ
slot_values cs v ps = get_or cs 0 0 ∷ get_or cs 1 0 ∷ (v ++ ps)

-- the first n assignments hold: the new values hold in the target slots what the old ones have in the source slots
abbrev pub assigned_slots : List ℕ → List ℕ → ℕ → List ℕ → List ℕ → Bool
assigned_slots old new n source target = all_from (λ i. eqb (get_or new (get_or target i 0) 0) (get_or old (get_or source i 0) 0)) 0 n

-- the transition makes the step from this place and these contents, with these constants and this number of registers, and the unused slots are 0
unfoldable pub made_by : List ℕ → ℕ → Arc → ℕ → List ℕ → Step → Bool
made_by cs registers x place v s =
    eqb x.from place && holds_all x.guard (slot_values cs v s.params)
    && assigned_slots (slot_values cs v s.params) (slot_values cs s.next s.params) x.sets x.source x.target
    && (rest_zero x.params s.params && rest_zero registers s.next)

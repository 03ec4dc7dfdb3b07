-- Document 01's sample through the calls: the replies for its bytes, and the runs that are handed over. This is what a reader believes.
-- Assumes nothing.
use Rattle.std.specs.Prelude.{ℕ, List, [], ◌∷◌, ◌≡◌, Ok}
use Rattle.automata.specs.Automaton.{Automaton}
use Rattle.automata.specs.Runs.{Move, Target}
use Rattle.automata.specs.Examples.{move}
use Rattle.moves.specs.Taken.{Taken}
use Rattle.writing.specs.Said.{TableFile, TargetFile}
use Rattle.writing.specs.Sample.{sample_bytes, loose_bytes, stopped_bytes, largest_bytes, delivered_bytes, delivered_by_one_bytes, always_bytes, waiting_bytes, inevitable_bytes}
use Rattle.claims.specs.Files.{target_files, question_files}
use Rattle.claims.specs.ReachReply.{reach_reply}
use Rattle.claims.specs.AskReply.{ask_reply}
use Rattle.witness.specs.declared.Answer.TheVariants.{Never, Reached}
use Rattle.claims.specs.declared.Notation.{Notation}
use Rattle.claims.specs.declared.Notation.TheVariants.{Rows as in_rows, Text as in_text}
use Rattle.claims.specs.declared.Asking.{Asking}
use Rattle.claims.specs.declared.Asking.TheVariants.{Yes, No}

pub data Sample : Type 0 where
  reaches : (table target : List ℕ) → (steps count : ℕ) → (contents : List ℕ) → (moves : List Move) → Sample
  never : (table target : List ℕ) → (count : ℕ) → Sample
  asks : Notation → (table question : List ℕ) → Asking → Sample

-- what is replied for the bytes; and the run that is taken for what they say
abbrev pub Shows : Sample → Type 0
Shows (reaches s g n count v ms) = (reach_reply (target_files s g) ≡ Ok (Reached n count)) × ((a : Automaton) × (x : Target) × TableFile s a × TargetFile a g x × Taken 15 a x v ms)
Shows (never s g count) = reach_reply (target_files s g) ≡ Ok (Never count)
Shows (asks w s q r) = ask_reply (question_files w s q) ≡ Ok r

-- AG!(L3&r1=r2), document 02's own text
abbrev pub never_by_one_text : List ℕ
never_by_one_text = 65 ∷ 71 ∷ 33 ∷ 40 ∷ 76 ∷ 51 ∷ 38 ∷ 114 ∷ 49 ∷ 61 ∷ 114 ∷ 50 ∷ 41 ∷ []

-- place 3: two steps, three configurations; with registers equal: never; that without the line `8 1 1 1`: two steps, ending 2, 2; EG of register 1 =
-- register 1: yes (document 02, W3); AF place 3: yes, and no where the sample stops at place 2; the text: yes. With the two largest identifiers as constants:
-- place 3 by a run that names them; EG place 1: no at class 1
abbrev pub samples : List Sample
samples =
    reaches sample_bytes delivered_bytes 2 3 (0 ∷ 0 ∷ []) (move 1 (1 ∷ []) (1 ∷ 0 ∷ []) ∷ move 2 (2 ∷ []) (1 ∷ 2 ∷ []) ∷ [])
    ∷ never sample_bytes delivered_by_one_bytes 3
    ∷ reaches loose_bytes delivered_by_one_bytes 2 5 (0 ∷ 0 ∷ []) (move 1 (1 ∷ []) (1 ∷ 0 ∷ []) ∷ move 2 (2 ∷ []) (2 ∷ 2 ∷ []) ∷ [])
    ∷ asks in_rows sample_bytes always_bytes Yes
    ∷ asks in_rows sample_bytes inevitable_bytes Yes
    ∷ asks in_rows stopped_bytes inevitable_bytes (No 0 2)
    ∷ asks in_text sample_bytes never_by_one_text Yes
    ∷ reaches largest_bytes delivered_bytes 2 6 (4294967294 ∷ 4294967295 ∷ []) (move 1 (4294967295 ∷ []) (4294967295 ∷ 4294967294 ∷ []) ∷ move 2 (0 ∷ []) (4294967295 ∷ 0 ∷ []) ∷ [])
    ∷ asks in_rows largest_bytes waiting_bytes (No 1 2)
    ∷ []

-- Document 01's printouts, line by line, said of what the bytes of the files say, of runs and of formulas. This is what a reader believes.
-- Assumes nothing.
use Rattle.std.specs.Prelude.{ℕ, suc, ◌<◌, Bool, ◌↔◌, ◌≡◌, T, length}
use mathlib.Core.List.{List, [], ◌∷◌, ◌++◌, Memᴰ}
use Rattle.std.proofs.Math.Option.{some}
use Rattle.refusals.specs.declared.Refusal.{Refusal}
use Rattle.refusals.specs.Judged.{refusal_numbers}
use Rattle.refusals.specs.Judged.Judged.{refused}
use Rattle.columns.specs.declared.Sheet.{Sheet}
use Rattle.columns.specs.declared.Sheet.TheVariants.{Run, Answer, Plain}
use Rattle.columns.specs.Columns.{line_columns, file_bytes}
use Rattle.fields.specs.Format.{fields}
use Rattle.sets.specs.Members.{population}
use Rattle.graphs.specs.Formulas.{Formula}
use Rattle.automata.specs.Automaton.{Automaton}
use Rattle.automata.specs.Runs.{Move, Target, Never}
use Rattle.automata.specs.Questions.{Atom, Row, HoldsAtStarts}
use Rattle.moves.specs.Taken.{Taken}
use Rattle.concretization.specs.RunLines.{moment_numbers}
use Rattle.writing.specs.Said.{TableFile, TargetFile}
use Rattle.claims.specs.declared.Notation.{Notation}
use Rattle.claims.specs.Files.{target_files, question_files}
use Rattle.claims.specs.Reachable.{RunTo}
use Rattle.claims.specs.Demand.{QuestionSaid, QuestionRefused, FailsWith}

-- Targets

-- runs of the table reach n configurations
pub record ReachedCount (a : Automaton) (n : ℕ) : Type 0 where
  pub reached : ℕ → Bool
  pub right : (i : ℕ) → i < 10784 → T (reached i) ↔ ((k : ℕ) × RunTo a i k)
  pub count : n ≡ population reached 10784

-- the lines of the moments from number k on
abbrev pub moment_lines : Automaton → ℕ → List Move → List (List ℕ)
moment_lines a k [] = []
moment_lines a k (m ∷ ms) = moment_numbers a k m ∷ moment_lines a (suc k) ms

-- the lines for a target x of a table whose runs reach n configurations
pub data TargetLines (a : Automaton) (x : Target) (n : ℕ) : List (List ℕ) → Type 0 where
  -- no run reaches it: one line
  never : Never a x → TargetLines a x n ((0 ∷ 0 ∷ n ∷ []) ∷ [])
  -- the run that document 01 takes: its steps, its start, its moments
  reached : (v : List ℕ) (ms : List Move) → Taken 15 a x v ms → TargetLines a x n ((1 ∷ length ms ∷ n ∷ []) ∷ (0 ∷ 0 ∷ a.start ∷ v) ∷ moment_lines a 1 ms)

-- Questions

-- the line for a question to a table
pub data QuestionLines (a : Automaton) (f : Formula Atom) : List (List ℕ) → Type 0 where
  -- it holds at every permitted start
  yes : HoldsAtStarts a f → QuestionLines a f ((1 ∷ []) ∷ [])
  -- the smallest class with which it fails, and the contents given back for it
  no : (k : ℕ) (v : List ℕ) → FailsWith a f k v → QuestionLines a f ((0 ∷ k ∷ v) ∷ [])

-- The printouts

-- the lines of a target's printout as bytes: the answer's, then those of the run's moments
abbrev pub reach_bytes : List (List ℕ) → List ℕ
reach_bytes [] = []
reach_bytes (vs ∷ ls) = file_bytes Plain (vs ∷ []) ++ file_bytes Run ls

-- every line on this sheet is read back as its numbers
abbrev pub ReadBack : Sheet → List (List ℕ) → Type 0
ReadBack s ls = (vs : List ℕ) → Memᴰ vs ls → fields s (length vs) (line_columns s vs) ≡ some vs

-- so is every line of a target's printout
abbrev pub ReachReadBack : List (List ℕ) → Type 0
ReachReadBack [] = Unit {0}
ReachReadBack (vs ∷ ls) = ReadBack Plain (vs ∷ []) × ReadBack Run ls

-- the lines for the bytes s of a table and g of a target
pub record ReachPrintout (s g : List ℕ) (ls : List (List ℕ)) : Type 0 where
  pub said : (a : Automaton) (x : Target) → TableFile s a → TargetFile a g x → (n : ℕ) × ReachedCount a n × TargetLines a x n ls
  -- where they say no table and target: 2, number, file and line of the refusal
  pub unsaid : ((a : Automaton) (x : Target) → TableFile s a → TargetFile a g x → ⊥) → (r : Refusal) × (target_files s g ≡ refused r) × (ls ≡ (2 ∷ refusal_numbers r) ∷ [])
  pub readable : ReachReadBack ls

-- the same for the bytes q of a question in the notation w; where they say a table, the refusal is one of the question
pub record AskPrintout (w : Notation) (s q : List ℕ) (ls : List (List ℕ)) : Type 0 where
  pub said : (a : Automaton) (f : Formula Atom) (rs : List Row) → TableFile s a → QuestionSaid w a q f rs → QuestionLines a f ls
  pub unsaid : ((a : Automaton) (f : Formula Atom) (rs : List Row) → TableFile s a → QuestionSaid w a q f rs → ⊥)
      → (r : Refusal) × (question_files w s q ≡ refused r) × ((a : Automaton) → TableFile s a → QuestionRefused w a q r) × (ls ≡ (2 ∷ refusal_numbers r) ∷ [])
  pub readable : ReadBack Answer ls

-- Why a text is turned back (document 02, W1), said of the grammar. This is what a reader believes.
-- Assumes nothing.
use Rattle.std.specs.Prelude.{ℕ, pred, ◌≤◌, ◌<◌, List, ◌⊎◌, ◌≡◌, T, length, take}
use Rattle.refusals.specs.declared.Refusal.{Refusal}
use Rattle.refusals.specs.Judged.{refusal}
use Rattle.automata.specs.Automaton.{Automaton}
use Rattle.automata.specs.Questions.{Row}
use Rattle.automata.specs.WellFormed.{fits_rows}
use Rattle.grammar.specs.Grammar.{Question, Writes, StopsAt, size, rows_from}

-- row i, counted from 1, is the first with a number out of range
abbrev pub FirstMisfit : Automaton → List Row → ℕ → Type 0
FirstMisfit a rs i = (1 ≤ i) × (i ≤ length rs) × T (fits_rows a 0 (take (pred i) rs)) × (T (fits_rows a 0 (take i rs)) → ⊥)

-- the refusal n of the bytes s, to the table a: more than 400 bytes (1); outside the grammar, with the byte (11); more than 32 rows (12); a number out of
-- range, with the first such row (5)
abbrev pub TextRefused : Automaton → List ℕ → Refusal → Type 0
TextRefused a s n =
    ((400 < length s) × (n ≡ refusal 1 2 0))
    ⊎ ((length s ≤ 400) × ((p : ℕ) × StopsAt s p × (n ≡ refusal 11 2 p)))
    ⊎ ((length s ≤ 400) × ((q : Question) × Writes q s × (32 < size q) × (n ≡ refusal 12 2 0)))
    ⊎ ((length s ≤ 400) × ((q : Question) × Writes q s × (size q ≤ 32) × ((i : ℕ) × FirstMisfit a (rows_from 0 q) i × (n ≡ refusal 5 2 i))))

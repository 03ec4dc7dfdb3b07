-- What opening a table gives, for every list of bytes: its form and its classes, or the refusal; refusal 7 comes after all lines. This is what a reader believes.
-- Assumes nothing.
use Rattle.std.specs.Prelude.{ℕ, List}
use Rattle.refusals.specs.Judged.{Judged, refusal, ◌then◌, require}
use Rattle.refusals.specs.Judged.Judged.{accepted}
use Rattle.forms.specs.FormAutomaton.{automaton_of}
use Rattle.reader.specs.Table.{read_table}
use Rattle.conditions.specs.Startable.{startable}

-- a table that was read has a start, or is refused by number 7 at line 0
abbrev pub with_start : List ℕ → Judged (List ℕ)
with_start t = require (startable (automaton_of t)) (refusal 7 1 0) then (λ ok. accepted t)

-- the form of a table that can be used, or its refusal
unfoldable pub open_table : List ℕ → Judged (List ℕ)
open_table s = read_table s then with_start

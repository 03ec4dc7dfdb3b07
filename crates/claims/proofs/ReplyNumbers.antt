-- The replies in document 01's numbers are those of what was read.
-- Assumes nothing.
use mathlib.Core.Bool.{Bool, true, false}
use mathlib.Core.Option.{Option, none, some}
use mathlib.Core.Path.{◌≡◌, refl}
use Rattle.refusals.specs.Judged.{Judged, told}
use Rattle.refusals.specs.Judged.Judged.{accepted, refused}
use Rattle.graphs.specs.Search.{Walk}
use Rattle.automata.specs.Automaton.{Automaton}
use Rattle.automata.specs.Answers.{nearest_to}
use Rattle.forms.specs.FormAutomaton.{automaton_of, target_of}
use Rattle.replay.specs.declared.Verdict.{Verdict}
use Rattle.replay.specs.declared.Verdict.TheVariants.{Bad, Good}
use Rattle.claims.specs.Files.{WithTarget}
use Rattle.claims.specs.ReachReply.{found_reply, reach_reply, found_numbers, reach_told}
use Rattle.claims.specs.AnswerNumbers.{reach_numbers, replayed_numbers, leads_numbers}
use Rattle.claims.specs.StepReplies.{leads, flagged}
use Rattle.claims.specs.Replaying.{replayed, verdict_numbers}

found-told : (a : Automaton) (o : Option Walk) → reach_numbers (found_reply a o) ≡ found_numbers a o
found-told a none = refl
found-told a (some w) = refl

pub reach_told_lem : (j : Judged WithTarget) → reach_numbers (reach_reply j) ≡ reach_told j
unfolding reach_reply reach_told
reach_told_lem (accepted f) = found-told (automaton_of f.table) (nearest_to (automaton_of f.table) (target_of f.target))
reach_told_lem (refused r) = refl

pub leads-told : (j : Judged Bool) → leads_numbers (leads j) ≡ told flagged j
leads-told (accepted true) = refl
leads-told (accepted false) = refl
leads-told (refused r) = refl

pub replay_told : (j : Judged Verdict) → replayed_numbers (replayed j) ≡ told verdict_numbers j
replay_told (accepted Good) = refl
replay_told (accepted (Bad m)) = refl
replay_told (refused r) = refl

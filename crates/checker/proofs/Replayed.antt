-- What the calls on a run promise, from their reply.
-- Assumes nothing.
use Rattle.std.proofs.Common.{◌≡◌, ℕ, List, Result, ap, ◌∙◌}
use mathlib.Core.Path.{subst⁻¹}
use Rattle.refusals.specs.declared.Refusal.{Refusal}
use Rattle.refusals.specs.Judged.{told}
use Rattle.replay.specs.declared.Step.{Step}
use Rattle.replay.specs.declared.Verdict.{Verdict}
use Rattle.claims.specs.Replaying.{replay_of, replay_reply, replay_steps_of, replay_steps_reply, verdict_numbers, ReplayMeans, ReplayStepsMean}
use Rattle.claims.specs.AnswerNumbers.{replayed_numbers}
use Rattle.claims.proofs.ReplyNumbers.{replay_told}
use Rattle.claims.proofs.Told.{replay_means, replay_steps_mean}

module _ (s : List ℕ) where
  pub replay_promised : (run : List ℕ) (r : Result Verdict Refusal) → r ≡ replay_reply s run
      → (r ≡ replay_reply s run) × (replayed_numbers r ≡ told verdict_numbers (replay_of s run)) × ReplayMeans s run r
  replay_promised run r e = (e, ap replayed_numbers e ∙ replay_told (replay_of s run), subst⁻¹ (ReplayMeans s run) e (replay_means s run))

  pub steps_promised : (start : List ℕ) (steps : List Step) (r : Result Verdict Refusal) → r ≡ replay_steps_reply s start steps
      → (r ≡ replay_steps_reply s start steps) × (replayed_numbers r ≡ told verdict_numbers (replay_steps_of s start steps)) × ReplayStepsMean s start steps r
  steps_promised start steps r e =
      (e, ap replayed_numbers e ∙ replay_told (replay_steps_of s start steps), subst⁻¹ (ReplayStepsMean s start steps) e (replay_steps_mean s start steps))

-- Document 01's numbers for each case of a reply. This is what a reader believes.
-- Assumes nothing.
use Rattle.std.specs.Prelude.{ℕ, Bool, true, false, List, [], ◌∷◌, take, Result, Ok, Err}
use Rattle.refusals.specs.declared.Refusal.{Refusal}
use Rattle.refusals.specs.Judged.{refusal_numbers}
use Rattle.witness.specs.declared.Answer.{Answer}
use Rattle.witness.specs.declared.Answer.TheVariants.{Never, Reached}
use Rattle.claims.specs.declared.Asking.{Asking}
use Rattle.claims.specs.declared.Asking.TheVariants.{Yes, No}
use Rattle.replay.specs.declared.Verdict.{Verdict}
use Rattle.replay.specs.declared.Verdict.TheVariants.{Good, Bad}

-- a target: 0, 0 and the reached configurations for never; 1, the steps and the reached configurations; 2, number, file and line of a refusal
abbrev pub reach_numbers : Result Answer Refusal → List ℕ
reach_numbers (Ok (Never count)) = 0 ∷ 0 ∷ count ∷ []
reach_numbers (Ok (Reached n count)) = 1 ∷ n ∷ count ∷ []
reach_numbers (Err r) = 2 ∷ refusal_numbers r

-- a question: 1 for yes; 0, the class and its contents, one for each register, for no; 2, number, file and line of a refusal
abbrev pub ask_numbers : Result Asking Refusal → List ℕ → List ℕ
ask_numbers (Ok Yes) contents = 1 ∷ []
ask_numbers (Ok (No class registers)) contents = 0 ∷ class ∷ take registers contents
ask_numbers (Err r) contents = 2 ∷ refusal_numbers r

-- a replayed run: nothing for good, the first bad moment, or number, file and line of a refusal
abbrev pub replayed_numbers : Result Verdict Refusal → List ℕ
replayed_numbers (Ok Good) = []
replayed_numbers (Ok (Bad m)) = m ∷ []
replayed_numbers (Err r) = refusal_numbers r

-- a step: 1 where one leads there, 0 where none does, or number, file and line of a refusal
abbrev pub leads_numbers : Result Bool Refusal → List ℕ
leads_numbers (Ok true) = 1 ∷ []
leads_numbers (Ok false) = 0 ∷ []
leads_numbers (Err r) = refusal_numbers r

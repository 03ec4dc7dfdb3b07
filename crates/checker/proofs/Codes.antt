-- The editor's numbers: those of the replies.
-- Assumes nothing.
use Prim.Native.Nat.{ℕ, ◌≤◌}
use mathlib.Core.Bool.{Bool}
use mathlib.Core.List.{List}
use mathlib.Core.Option.{Option, none, some}
use mathlib.Core.Path.{◌≡◌, refl, sym, ap, ◌∙◌, subst⁻¹}
use native.Mathlib.Omega.{arith}
use Rattle.std.proofs.Common.{Ok, Err}
use Rattle.refusals.specs.declared.Refusal.{Refusal}
use Rattle.refusals.specs.Judged.{Judged}
use Rattle.refusals.specs.Judged.Judged.{accepted, refused}
use Rattle.graphs.specs.Search.{Walk}
use Rattle.automata.specs.Automaton.{Automaton}
use Rattle.automata.specs.Questions.{question}
use Rattle.automata.specs.Answers.{nearest_to, failing}
use Rattle.forms.specs.FormAutomaton.{automaton_of, target_of}
use Rattle.witness.specs.Printed.{reachable, walked}
use Rattle.claims.specs.Files.{WithTarget, with_target, target_files, WithQuestion, question_files}
use Rattle.claims.specs.ReachReply.{found_reply, reach_reply}
use Rattle.claims.specs.AskReply.{rows_in, asked_reply, ask_reply}
use Rattle.claims.specs.Editor.{reach_code, ask_code, ReachCodeMeans, AskCodeMeans}
use Rattle.claims.proofs.Meaning.{reach_code-means, ask_code-means}
use Rattle.claims.specs.declared.Notation.{Notation}
use Rattle.checker.specs.Codes.{code}
use Rattle.checker.proofs.RefusalNumbers.{target_files-low, question_files-low}

-- whether there is a walk, as the reply's number
found_code : (a : Automaton) (o : Option Walk) → code (Ok (walked o)) ≡ reach_code (found_reply a o)
found_code a none = refl
found_code a (some w) = refl

found-low : (a : Automaton) (o : Option Walk) → reach_code (found_reply a o) ≤ 1
found-low a none = omega arith
found-low a (some w) = omega arith

asked-low : (a : Automaton) (o : Option ℕ) → ask_code (asked_reply a o) ≤ 1
asked-low a none = omega arith
asked-low a (some k) = omega arith

module _ (s g : List ℕ) where
  pub refused_code : (r : Refusal) → target_files s g ≡ refused r → code (Err r) ≡ reach_code (reach_reply (target_files s g))
  unfolding reach_reply
  refused_code r e = sym (ap (λ j. reach_code (reach_reply j)) e)

  pub reaches_code : (t u : List ℕ) → target_files s g ≡ accepted (with_target t u) → (b : Bool) → b ≡ reachable (automaton_of t) (target_of u)
      → code (Ok b) ≡ reach_code (reach_reply (target_files s g))
  unfolding reach_reply
  reaches_code t u e b d = ap (λ x. code (Ok x)) d ∙ found_code (automaton_of t) (nearest_to (automaton_of t) (target_of u)) ∙ sym (ap (λ j. reach_code (reach_reply j)) e)

  -- no number is higher than 112
  pub code-low : reach_code (reach_reply (target_files s g)) ≤ 112
  unfolding reach_reply
  code-low = go (target_files s g) (target_files-low s g)
    where
      go : (j : Judged WithTarget) → ((r : Refusal) → j ≡ refused r → r.number ≤ 12) → reach_code (reach_reply j) ≤ 112
      go (accepted f) h = omega (arith, found-low (automaton_of f.table) (nearest_to (automaton_of f.table) (target_of f.target)))
      go (refused r) h = omega (arith, h r refl)

  -- the number says what the reply means
  pub reach_meant : (n : ℕ) → n ≡ reach_code (reach_reply (target_files s g)) → (n ≡ reach_code (reach_reply (target_files s g))) × ReachCodeMeans s g n
  reach_meant n h = (h, subst⁻¹ (ReachCodeMeans s g) h (reach_code-means s g))

module _ (w : Notation) (s q : List ℕ) where
  pub refused_ask : (r : Refusal) → question_files w s q ≡ refused r → code (Err r) ≡ ask_code (ask_reply (question_files w s q))
  unfolding ask_reply
  refused_ask r e = sym (ap (λ j. ask_code (ask_reply j)) e)

  pub answered_ask : (h : WithQuestion) → question_files w s q ≡ accepted h → (n : ℕ)
      → n ≡ ask_code (asked_reply (automaton_of h.table) (failing (automaton_of h.table) (question (rows_in h)))) → n ≡ ask_code (ask_reply (question_files w s q))
  unfolding ask_reply
  answered_ask h e n d = d ∙ sym (ap (λ j. ask_code (ask_reply j)) e)

  pub ask-low : ask_code (ask_reply (question_files w s q)) ≤ 112
  unfolding ask_reply
  ask-low = go (question_files w s q) (question_files-low w s q)
    where
      go : (j : Judged WithQuestion) → ((r : Refusal) → j ≡ refused r → r.number ≤ 12) → ask_code (ask_reply j) ≤ 112
      go (accepted h) f = omega (arith, asked-low (automaton_of h.table) (failing (automaton_of h.table) (question (rows_in h))))
      go (refused r) f = omega (arith, f r refl)

  pub ask_meant : (n : ℕ) → n ≡ ask_code (ask_reply (question_files w s q)) → (n ≡ ask_code (ask_reply (question_files w s q))) × AskCodeMeans w s q n
  ask_meant n h = (h, subst⁻¹ (AskCodeMeans w s q) h (ask_code-means w s q))

-- Numbers in slots: of the contents of a no, as many as there are registers; of a moment's twelve slots, as many as its first says.
-- Assumes nothing.
use Prim.Native.Nat.{ℕ, zero, suc, ◌+◌, ◌*◌, ◌-◌, ◌≤◌, min}
use mathlib.Core.List.{List, [], ◌∷◌, ◌++◌, append_assoc}
use mathlib.Core.Logic.{by_cases}
use mathlib.Core.Path.{◌≡◌, refl, sym, ap, ◌∙◌, subst, subst⁻¹}
use native.Mathlib.Decide.{dec_lt}
use native.Mathlib.Nat.{min-eq_left, min-eq_right}
use native.Mathlib.Numerals.{add-one}
use native.Mathlib.Omega.{arith}
use lib.Dec.{T, eqb→eq}
use lib.Ieee.Fits.{and_l, and_r}
use lib.ListN.{length, get_or, take, drop, length-append, length-drop}
use lib.Seq.{take_all, take-append-le, drop-append-add}
use Rattle.lists.specs.Arrays.{padded}
use Rattle.lists.proofs.Arrays.{padded-length, padded-take}
use Rattle.columns.specs.declared.Sheet.{Sheet}
use Rattle.columns.specs.Columns.{file_bytes}
use Rattle.graphs.proofs.Lists.{and_elim}
use Rattle.automata.specs.Automaton.{Automaton, arity}
use Rattle.automata.specs.Runs.{State, Move, transition_of, is_step, after, permitted, initial, is_run, follows}
use Rattle.labelling.proofs.Noted.{five_numbers}
use Rattle.forms.proofs.Forms.{Limits}
use Rattle.concretization.specs.RunLines.{moment_numbers, moment_line, lines_from, slotted, run_lines}
use Rattle.printout.specs.Document.{moment_lines}
use Rattle.printout.specs.PrintedLines.{shown, moments}
use Rattle.printout.specs.Text.{Put}
use Rattle.printout.proofs.PutLines.{put-none, put_more, file_append}

-- The contents of a no

-- no more is taken than there is
take-least : (n k : ℕ) (v : List ℕ) → length v ≡ k → take (min n k) v ≡ take n v
take-least n k v l =
    by_cases (dec_lt k n)
    (λ h. take_all (min n k) v (omega (arith, min-eq_right {n = k} {m = n} (omega arith))) ∙ sym (take_all n v (omega arith)))
    (λ h. ap (λ m. take m v) (min-eq_left {n = n} {m = k} (omega arith)))

-- two numbers, and so many of five slots
pub five_taken : (x y : ℕ) (v : List ℕ) (n r m : ℕ) → length v ≡ 5 → r ≡ min n 5 → m ≡ suc (suc r)
    → take m (x ∷ y ∷ get_or v 0 0 ∷ get_or v 1 0 ∷ get_or v 2 0 ∷ get_or v 3 0 ∷ get_or v 4 0 ∷ []) ≡ x ∷ y ∷ take n v
five_taken x y v n r m l h e =
    ap (λ k. take k (x ∷ y ∷ get_or v 0 0 ∷ get_or v 1 0 ∷ get_or v 2 0 ∷ get_or v 3 0 ∷ get_or v 4 0 ∷ [])) e
    ∙ ap (λ w. x ∷ y ∷ take r w) (five_numbers v l) ∙ ap (λ k. x ∷ y ∷ take k v) h ∙ ap (λ w. x ∷ y ∷ w) (take-least n 5 v l)

-- The moments of a run

pub moments-none : (s : Sheet) (slots : List ℕ) (at : ℕ) (t : List ℕ) → Put (file_bytes s (moments 0 slots)) at at t t
unfolding moments
moments-none s slots at t = put-none at t

-- a moment more, from the part of the slots that begins with it
pub moments_more : (s : Sheet) (n : ℕ) (slots : List ℕ) (at mid end : ℕ) (a b c : List ℕ) → Put (file_bytes s (moments n slots)) at mid a b
    → Put (file_bytes s (shown (take (length slots - 12 * n) (drop (12 * n) slots)) ∷ [])) mid end b c → Put (file_bytes s (moments (n + 1) slots)) at end a c
unfolding moments
moments_more s n slots at mid end a b c p q =
    let here : List (List ℕ) = shown (drop (12 * n) slots) ∷ [] in
    let rest : take (length slots - 12 * n) (drop (12 * n) slots) ≡ drop (12 * n) slots = take_all (length slots - 12 * n) (drop (12 * n) slots) (omega (arith, length-drop (12 * n) slots)) in
    let both = put_more (file_bytes s (moments n slots)) (file_bytes s here) at mid end a b c p (subst (λ x. Put (file_bytes s (shown x ∷ [])) mid end b c) rest q) in
    subst⁻¹ (λ k. Put (file_bytes s (moments k slots)) at end a c) (add-one n) (subst⁻¹ (λ x. Put x at end a c) (file_append s (moments n slots) here) both)

-- what is shown of a moment's slots are its numbers
shown-slotted : (xs rest : List ℕ) → length xs ≤ 11 → shown (slotted xs ++ rest) ≡ xs
unfolding padded
shown-slotted xs rest h =
    ap (λ n. take n (padded 11 xs ++ rest)) (min-eq_left {n = length xs} {m = 11} h)
    ∙ take-append-le (length xs) (padded 11 xs) rest (omega (arith, padded-length 11 xs)) ∙ padded-take 11 xs h

-- the first moment, and the rest
moments-first : (n : ℕ) (xs rest : List ℕ) → length xs ≤ 11 → moments (suc n) (slotted xs ++ rest) ≡ xs ∷ moments n rest
unfolding moments
moments-first zero xs rest h = ap (λ x. x ∷ []) (shown-slotted xs rest h)
moments-first (suc n) xs rest h =
    let e : 12 * suc n ≡ length (slotted xs) + 12 * n = omega (arith, padded-length 12 (length xs ∷ xs)) in
    let d : drop (12 * suc n) (slotted xs ++ rest) ≡ drop (12 * n) rest = ap (λ k. drop k (slotted xs ++ rest)) e ∙ drop-append-add (slotted xs) rest (12 * n) in
    ap (λ l. l ++ (shown (drop (12 * suc n) (slotted xs ++ rest)) ∷ [])) (moments-first n xs rest h) ∙ ap (λ l. (xs ∷ moments n rest) ++ (shown l ∷ [])) d

module _ (a : Automaton) (few : Limits a) where
  move-few : (st : State) (m : Move) (k : ℕ) → T (is_step a st m) → length (moment_numbers a k m) ≤ 11
  move-few st m k t =
      let p : length m.parameters ≡ arity a (transition_of a m.transition) = eqb→eq (length m.parameters) (arity a (transition_of a m.transition)) (search (and_l, and_r) depth 9) in
      let w : length m.valuation ≡ a.registers = eqb→eq (length m.valuation) a.registers (search (and_l, and_r) depth 9) in
      omega (arith, length-append m.valuation m.parameters, few.registers, few.parameters (transition_of a m.transition))

  moments-from : (k : ℕ) (st : State) (ms : List Move) (rest : List ℕ) → T (follows a st ms) → moments (length ms) (lines_from a k ms ++ rest) ≡ moment_lines a k ms
  unfolding moments
  moments-from k st [] rest t = refl
  moments-from k st (m ∷ ms) rest t =
      let (u, r) = and_elim (is_step a st m) (follows a (after a m) ms) t in
      ap (moments (suc (length ms))) (append_assoc (moment_line a k m) (lines_from a (suc k) ms) rest)
      ∙ moments-first (length ms) (moment_numbers a k m) (lines_from a (suc k) ms ++ rest) (move-few st m k u)
      ∙ ap (λ l. moment_numbers a k m ∷ l) (moments-from (suc k) (after a m) ms rest r)

  -- of the lines of a run, the numbers of its start and of its moments
  pub moments-run : (v : List ℕ) (ms : List Move) (n : ℕ) (rest : List ℕ) → T (is_run a v ms) → length ms ≡ n → moments (suc n) (run_lines a v ms ++ rest) ≡ (0 ∷ 0 ∷ a.start ∷ v) ∷ moment_lines a 1 ms
  moments-run v ms n rest run count =
      let (q, f) = and_elim (permitted a v) (follows a (initial a v) ms) run in
      let l : length v ≡ a.registers = eqb→eq (length v) a.registers (search (and_l, and_r) depth 9) in
      ap (λ k. moments (suc k) (run_lines a v ms ++ rest)) (sym count)
      ∙ ap (moments (suc (length ms))) (append_assoc (slotted (0 ∷ 0 ∷ a.start ∷ v)) (lines_from a 1 ms) rest)
      ∙ moments-first (length ms) (0 ∷ 0 ∷ a.start ∷ v) (lines_from a 1 ms ++ rest) (omega (arith, few.registers))
      ∙ ap (λ y. (0 ∷ 0 ∷ a.start ∷ v) ∷ y) (moments-from 1 (initial a v) ms rest f)

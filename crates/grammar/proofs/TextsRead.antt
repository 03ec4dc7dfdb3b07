-- What reading a text gives: a text is read exactly if some question is written so, as that question; else the byte is the one at which it stops.
-- Assumes nothing.
use Prim.Native.Nat.{ℕ, suc, ◌+◌, ◌-◌, ◌≤◌}
use mathlib.Core.List.{List, [], ◌∷◌, ◌++◌, append_assoc, append-nil}
use mathlib.Core.Logic.{inl, inr, ◌↔◌, by_cases}
use mathlib.Core.Path.{◌≡◌, refl, sym, ap, subst, ◌∙◌}
use native.Mathlib.Decide.{dec_lt}
use native.Mathlib.Omega.{arith}
use lib.Dec.{T}
use lib.ListN.{length, take, drop, length-append, take-append-drop}
use lib.Seq.{take-append-le, take-append-add}
use Rattle.graphs.proofs.Lists.{append_inj}
use Rattle.grammar.specs.Grammar.{Question, write, proper, Writes, Text, Viable, StopsAt}
use Rattle.grammar.specs.Parser.{Read, question, Parse, whole, parse}
use Rattle.grammar.specs.Parser.Read.{got, stop}
use Rattle.grammar.specs.Parser.Parse.{parsed, outside}
use Rattle.grammar.proofs.ParserLaws.{Outcome}
use Rattle.grammar.proofs.GrammarRead.{BeforeQuestion, before_end, before_ahead, Questions, reads_question, bound_free}

-- a question followed by what may follow it is read as that question, and what follows is left
pub read-written : (q : Question) (t : List ℕ) (f : ℕ) → length (write q ++ t) ≤ f → T (proper q) → BeforeQuestion q t → question f (write q ++ t) ≡ got q t
read-written q t f l k b = (reads_question f).complete q t l k b

-- a whole question is
read_whole : (q : Question) (f : ℕ) (s : List ℕ) → write q ≡ s → length s ≤ f → T (proper q) → question f s ≡ got q []
read_whole q f s e l k =
    let i : write q ++ [] ≡ s = append-nil (write q) ∙ e in
    subst (λ z. question f z ≡ got q []) i (read-written q [] f (rw i l) k (before_end q))

-- the question of a text is that question
pub text-parsed : (q : Question) → T (proper q) → parse (write q) ≡ parsed q
unfolding parse
text-parsed q k = rw (read_whole q (length (write q)) (write q) refl (omega arith) k) refl

-- no text has two readings
pub write_unique : (p q : Question) → T (proper p) → T (proper q) → write p ≡ write q → p ≡ q
write_unique p q k l e =
    let z : parsed p ≡ parsed q = sym (text-parsed p k) ∙ (ap parse e ∙ text-parsed q l) in cc

-- every beginning of a text is viable
begin_viable : (q : Question) → T (proper q) → (d rest : List ℕ) → write q ≡ d ++ rest → (i : ℕ) → i ≤ length d → Viable (take i d)
begin_viable q k d rest e i h =
    (drop i d ++ rest, (q, (k, e ∙ (ap (λ z. z ++ rest) (sym (take-append-drop i d)) ∙ append_assoc (take i d) (drop i d) rest))))

-- what reading says of a text
abbrev pub Means : List ℕ → Parse → Type 0
Means s (parsed q) = Writes q s
Means s (outside p) = StopsAt s p

module _ (s : List ℕ) where
  -- it stops at byte b, after d, which begins a text
  stops_here : (d : List ℕ) (b : ℕ) (r : List ℕ) → s ≡ d ++ (b ∷ r) → (q : Question) (rest : List ℕ) → T (proper q) → write q ≡ d ++ rest
      → ((x : List ℕ) → Text (d ++ (b ∷ x)) → ⊥) → (p : ℕ) → p ≡ suc (length d) → StopsAt s p
  stops_here d b r e q rest k w never p i =
      let long : length s ≡ length d + suc (length r) = ap length e ∙ length-append d (b ∷ r) in
      inl (
        omega arith,
        omega arith,
        (λ (x, t).
            let j : take p s ≡ d ++ (b ∷ []) = rw (i, e) (first_more) in
            never x (subst Text (ap (λ z. z ++ x) j ∙ append_assoc d (b ∷ []) x) t)),
        λ n h.
            let j : take n s ≡ take n d = ap (take n) e ∙ take-append-le n d (b ∷ r) (omega arith) in
            subst Viable (sym j) (begin_viable q k d rest w n (omega arith)),
      )
    where
      first_more : take (suc (length d)) (d ++ (b ∷ r)) ≡ d ++ (b ∷ [])
      first_more = let m : suc (length d) ≡ length d + 1 = omega arith in rw m (take-append-add d (b ∷ r) 1)

  -- a reading of s with a bound for all of a longer text
  other_bound : (f : ℕ) → length s ≤ f → question f s ≡ question (length s) s
  other_bound f l = bound_free f (length s) s l (omega arith)

  got-means : (q : Question) (r : List ℕ) → T (proper q) → s ≡ write q ++ r → BeforeQuestion q r → Means s (whole (length s) (got q r))
  got-means q [] k e b = (k, sym (e ∙ append-nil (write q)))
  got-means q (c ∷ r) k e b =
      stops_here (write q) c r e q [] k (sym (append-nil (write q)))
      (λ x (q', (k', e')).
      let f : ℕ = length (write q ++ (c ∷ x)) in
      let i : question f (write q ++ (c ∷ x)) ≡ got q (c ∷ x) = read-written q (c ∷ x) f (omega arith) k (before_ahead q [] c r x b) in
      let j : question f (write q ++ (c ∷ x)) ≡ got q' [] = read_whole q' f (write q ++ (c ∷ x)) e' (omega arith) k' in
      let z : ◌≡◌ {A = ℕ} 0 1 = cc in omega arith)
      (length s - length r) (omega (arith, ap length e, length-append (write q) (c ∷ r)))

  stop-means : (r : List ℕ) → question (length s) s ≡ stop r → ((f : ℕ) → length s ≤ f → Outcome Questions f (question f) s (stop r)) → Means s (whole (length s) (stop r))
  stop-means [] g o =
      let (d, e, (q, rest, k, w), local) = o (length s) (omega arith) in
      let i : s ≡ d = e ∙ append-nil d in
      inr (
        omega arith,
        (rest, (q, (k, w ∙ ap (λ z. z ++ rest) (sym i)))),
        λ (q', (k', e')).
            let j : question (length s) s ≡ got q' [] = read_whole q' (length s) s e' (omega arith) k' in
            let z : ◌≡◌ {A = ℕ} 0 1 = cc in omega arith,
      )
  stop-means (c ∷ r) g o =
      let (d, e, (q, rest, k, w), local) = o (length s) (omega arith) in
      stops_here d c r e q rest k w
      (λ x (q', (k', e')). never d e x q' k' e')
      (suc (length s) - suc (length r)) (omega (arith, ap length e, length-append d (c ∷ r)))
    where
      never : (d : List ℕ) → s ≡ d ++ (c ∷ r) → (x : List ℕ) (q : Question) → T (proper q) → write q ≡ d ++ (c ∷ x) → ⊥
      never d e x q k w =
          let f : ℕ = length s + length (d ++ (c ∷ x)) in
          let (d', e', begun, local) = o f (omega arith) in
          let (i, same) = append_inj d' d (c ∷ r) (c ∷ r) (omega (arith, ap length e, ap length e', length-append d (c ∷ r), length-append d' (c ∷ r))) (sym e' ∙ e) in
          let h : question f (d' ++ (c ∷ x)) ≡ stop (c ∷ x) = local c r x refl (rw i (omega arith)) in
          let j : question f (d ++ (c ∷ x)) ≡ got q [] = read_whole q f (d ++ (c ∷ x)) w (omega arith) k in
          let z : ◌≡◌ {A = ℕ} 0 1 = cc in omega arith

-- what reading gives is right
pub reads_right : (s : List ℕ) → Means s (parse s)
unfolding parse
reads_right s = step (question (length s) s) refl ((reads_question (length s)).outcome s (omega arith))
  where
    step : (o : Read Question) → question (length s) s ≡ o → Outcome Questions (length s) (question (length s)) s o → Means s (whole (length s) o)
    step (got q r) g (k, e, b) = got-means s q r k e b
    step (stop r) g h = stop-means s r g (λ f l. subst (Outcome Questions f (question f) s) (other_bound s f l ∙ g) ((reads_question f).outcome s l))

-- two bytes at which one text stops are the same
pub stops_once : (s : List ℕ) (i j : ℕ) → StopsAt s i → StopsAt s j → i ≡ j
stops_once s i j (inl (a, b, never, begins)) (inl (a', b', never', begins')) =
    by_cases (dec_lt i j) (λ h. absurd (never (begins' i h))) (λ h. by_cases (dec_lt j i) (λ k. absurd (never' (begins j k))) (λ k. omega arith))
stops_once s i j (inl (a, b, never, begins)) (inr (e, (rest, (q, (k, w))), none)) = absurd (never (begin_viable q k s rest w i b))
stops_once s i j (inr (e, (rest, (q, (k, w))), none)) (inl (a, b, never, begins)) = absurd (never (begin_viable q k s rest w j b))
stops_once s i j (inr (e, v, none)) (inr (e', v', none')) = e ∙ sym e'

-- a text stops nowhere
pub text_stops_not : (s : List ℕ) (i : ℕ) → Text s → StopsAt s i → ⊥
text_stops_not s i (q, (k, w)) (inl (a, b, never, begins)) = never (begin_viable q k s [] (w ∙ sym (append-nil s)) i b)
text_stops_not s i t (inr (e, v, none)) = none t

-- a text is read exactly if some question is written so
pub parsed-exact : (s : List ℕ) (q : Question) → (parse s ≡ parsed q) ↔ Writes q s
parsed-exact s q = ((λ e. subst (Means s) e (reads_right s)), λ (k, w). ap parse (sym w) ∙ text-parsed q k)

-- and else the reply is the byte at which it stops
pub outside-exact : (s : List ℕ) (p : ℕ) → (parse s ≡ outside p) ↔ StopsAt s p
outside-exact s p = ((λ e. subst (Means s) e (reads_right s)), λ h. step (parse s) refl (reads_right s) h)
  where
    step : (o : Parse) → parse s ≡ o → Means s o → StopsAt s p → parse s ≡ outside p
    step (parsed q) e (k, w) h = absurd (text_stops_not s p (q, (k, w)) h)
    step (outside i) e h h' = e ∙ ap outside (stops_once s i p h h')

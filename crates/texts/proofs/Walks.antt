-- What the reader's functions answer, over positions in the text: every way out of them is one lemma.
-- Assumes nothing.
use Prim.Native.Nat.{ℕ, suc, ◌+◌, ◌≤◌, ◌<◌}
use mathlib.Core.Bool.{Bool, true, false}
use mathlib.Core.List.{List, [], ◌∷◌, ◌++◌}
use mathlib.Core.Logic.{◌≢◌, by_cases}
use mathlib.Core.Option.{none, some}
use mathlib.Core.Path.{◌≡◌, refl, sym, ap, ◌∙◌}
use native.Mathlib.Decide.{ℕ_discrete}
use native.Mathlib.Omega.{arith}
use lib.ListN.{length, drop, get_or}
use borrow.Author.Tests.{ne_eqb}
use Rattle.automata.specs.Questions.{Atom, Row, row}
use Rattle.automata.specs.Questions.Atom.{at, equal, is}
use Rattle.grammar.specs.Grammar.{Join, Question, size, rows_from, atom_row}
use Rattle.grammar.specs.Grammar.Join.{conjunction, disjunction, implication}
use Rattle.grammar.specs.Grammar.Question.{basic, joined, until}
use Rattle.grammar.specs.Parser.{Read, paired, chain, each, value_of, token, only, Side, joins, sides, number}
use Rattle.grammar.specs.Parser.Read.{got, stop}
use Rattle.grammar.proofs.TextRows.{rows-size}
use Rattle.texts.specs.Steps.{Step}
use Rattle.texts.specs.Steps.Step.{read, stopped}
use Rattle.texts.specs.RowsPut.{put_first, put_rows}
use Rattle.texts.specs.Descent.{from, pair_from, equation_from, location_from, of_joined, of_until, of_equation, prefixed_step, prefixed_rows, middle_kind, side_kind, Right, RightNumber}
use Rattle.texts.proofs.Openings.{Before, in_list, token-none, token-some}

-- Equations

module _ (s : List ℕ) (i : ℕ) where
  -- r, a number, =, r or c, a number
  pub equation_stops_1 : (r : List ℕ) → number (drop i s) ≡ stop r → equation_from s i ≡ stop r
  unfolding equation_from
  equation_stops_1 r e = rw e refl

  module _ (v p : ℕ) (e : number (drop i s) ≡ got v (drop p s)) where
    pub equation_stops_2 : p ≤ length s → get_or s p 0 ≢ 61 → equation_from s i ≡ stop (drop p s)
    unfolding equation_from
    equation_stops_2 h k = rw e (rw (token-none (only 61) s p h (rw (ne_eqb (get_or s p 0) 61 k) refl)) refl)

    module _ (e' : get_or s p 0 ≡ 61) where
      pub equation_stops_3 : p + 1 ≤ length s → side_kind (get_or s (p + 1) 0) ≡ 0 → equation_from s i ≡ stop (drop (p + 1) s)
      unfolding equation_from side_kind
      equation_stops_3 h k = rw e (rw (token-some (only 61) s p tt 60 e' refl) (rw (token-none sides s (p + 1) h (no_side (get_or s (p + 1) 0) k)) refl))
        where
          no_side : (b : ℕ) → side_kind b ≡ 0 → value_of sides b ≡ none
          no_side b k = by_cases (ℕ_discrete b 114) (λ j. absurd (omega (arith, rw j at k)))
              (λ j. by_cases (ℕ_discrete b 99) (λ l. absurd (omega (arith, rw l at k))) (λ l. rw (ne_eqb b 114 j) (rw (ne_eqb b 99 l) refl)))

      -- the side is named by kind k
      module _ (x : Side) (b : ℕ) (e'' : get_or s (p + 1) 0 ≡ suc b) (f : value_of sides (suc b) ≡ some x) where
        last_number : (o : Read ℕ) → number (drop (p + 1 + 1) s) ≡ o → equation_from s i ≡ each of_equation (paired v (paired tt (paired x o)))
        unfolding equation_from
        last_number o g = rw e (rw (token-some (only 61) s p tt 60 e' refl) (rw (token-some sides s (p + 1) x b e'' f) (rw g refl)))

        pub equation_stops_4 : (r : List ℕ) → number (drop (p + 1 + 1) s) ≡ stop r → equation_from s i ≡ stop r
        equation_stops_4 r g = last_number (stop r) g

side_atom : Side → ℕ → ℕ → Atom
side_atom Side.register i j = equal i j
side_atom Side.constant i j = is i j

side_equation : (x : Side) (v j : ℕ) (r : List ℕ) → each of_equation (paired v (paired tt (paired x (got j r)))) ≡ got (basic (side_atom x v j)) r
unfolding side_atom
side_equation Side.register v j r = refl
side_equation Side.constant v j r = refl

-- the side that a byte names, if its kind is not 0
record Named (b : ℕ) : Type 0 where
  side : Side
  before : ℕ
  byte : b ≡ suc before
  found : value_of sides (suc before) ≡ some side
  kind : (i j : ℕ) → atom_row (side_atom side i j) ≡ row (side_kind b) i j

named_side : (b : ℕ) → side_kind b ≢ 0 → Named b
unfolding side_kind side_atom
named_side b h = by_cases (ℕ_discrete b 114)
    (λ e. rw e (record { side = Side.register; before = 113; byte = refl; found = refl; kind = λ i j. refl }))
    (λ n. by_cases (ℕ_discrete b 99)
    (λ e. rw e (record { side = Side.constant; before = 98; byte = refl; found = refl; kind = λ i j. refl }))
    (λ m. absurd (h (rw (ne_eqb b 114 n) (rw (ne_eqb b 99 m) refl)))))

-- Answers

module _ (s : List ℕ) (i n : ℕ) (t : List ℕ) where
  pub right-stop : (o : Read Question) (p : ℕ) (x : Step) (t' : List ℕ) → x ≡ stopped p → o ≡ stop (drop p s) → p ≤ length s → Right o s i n t x t'
  right-stop o p x t' ex e h = rw ex (e, h)

  pub right-atom : (o : Read Question) (a : Atom) (p k v w : ℕ) → o ≡ got (basic a) (drop p s) → atom_row a ≡ row k v w → i < p → p ≤ length s
      → (x : Step) (t' : List ℕ) → x ≡ read p (n + 1) → t' ≡ put_first t n (row k v w) → Right o s i n t x t'
  right-atom o a p k v w e f h l x t' ex et = rw ex (basic a, e, refl, et ∙ ap (put_first t n) (sym f), h, l, omega arith)

  pub right-location : (v p : ℕ) → RightNumber s i (read p v) → (x : Step) (t' : List ℕ) → x ≡ read p (n + 1) → t' ≡ put_first t n (row 1 v 0) → Right (location_from s i) s i n t x t'
  unfolding location_from
  right-location v p (e, h, l) = right-atom (location_from s i) (at v) p 1 v 0 (rw e refl) refl h l

  pub right-location_broken : (p : ℕ) → RightNumber s i (stopped p) → (x : Step) (t' : List ℕ) → x ≡ stopped p → Right (location_from s i) s i n t x t'
  unfolding location_from
  right-location_broken p (e, l) x t' ex = right-stop (location_from s i) p x t' ex (rw e refl) l

  -- an equation, read to its end
  pub right-equation : (v p j p' k : ℕ) → RightNumber s i (read p v) → get_or s p 0 ≡ 61 → k ≡ side_kind (get_or s (p + 1) 0) → k ≢ 0 → RightNumber s (p + 1 + 1) (read p' j)
      → (x : Step) (t' : List ℕ) → x ≡ read p' (n + 1) → t' ≡ put_first t n (row k v j) → Right (equation_from s i) s i n t x t'
  right-equation v p j p' k (e, h, l) b f z (e', h', l') x t' ex et =
      let m = named_side (get_or s (p + 1) 0) (λ y. z (f ∙ y)) in
      right-atom (equation_from s i) (side_atom m.side v j) p' k v j
      (last_number s i v p e b m.side m.before m.byte m.found (got j (drop p' s)) e' ∙ side_equation m.side v j (drop p' s))
      (m.kind v j ∙ ap (λ y. row y v j) (sym f)) (omega arith) l' x t' ex et

  pub right-equation_broken : (v p p' k : ℕ) → RightNumber s i (read p v) → get_or s p 0 ≡ 61 → k ≡ side_kind (get_or s (p + 1) 0) → k ≢ 0 → RightNumber s (p + 1 + 1) (stopped p')
      → (x : Step) (t' : List ℕ) → x ≡ stopped p' → Right (equation_from s i) s i n t x t'
  right-equation_broken v p p' k (e, h, l) b f z (e', l') x t' ex =
      let m = named_side (get_or s (p + 1) 0) (λ y. z (f ∙ y)) in
      right-stop (equation_from s i) p' x t' ex (equation_stops_4 s i v p e b m.side m.before m.byte m.found (drop p' s) e') l'

-- the byte at p + 1 is in the text, where its kind is not 0
pub side_in : (s : List ℕ) (i k : ℕ) → k ≡ side_kind (get_or s i 0) → k ≢ 0 → i < length s
side_in s i k f z = let m = named_side (get_or s i 0) (λ y. z (f ∙ y)) in in_list s i m.before m.byte

put-append : (t : List ℕ) (n : ℕ) (xs ys : List Row) → put_rows t n (xs ++ ys) ≡ put_rows (put_rows t n xs) (n + length xs) ys
put-append t n [] ys = let e : n + 0 ≡ n = omega arith in rw e refl
put-append t n (x ∷ xs) ys = let e : n + suc (length xs) ≡ n + 1 + length xs = omega arith in rw e (put-append (put_first t n x) (n + 1) xs ys)

-- the rows of a question, then others
put-question : (t : List ℕ) (n : ℕ) (q : Question) (ys : List Row) → put_rows t n (rows_from n q ++ ys) ≡ put_rows (put_rows t n (rows_from n q)) (n + size q) ys
put-question t n q ys = rw (sym (rows-size n q)) (put-append t n (rows_from n q) ys)

each-got : (f : Question → Question) (o : Read Question) (q : Question) (r : List ℕ) → o ≡ got q r → each f o ≡ got (f q) r
each-got f o q r e = rw e refl

each-stop : (f : Question → Question) (o : Read Question) (r : List ℕ) → o ≡ stop r → each f o ≡ stop r
each-stop f o r e = rw e refl

module _ (s : List ℕ) (i j n : ℕ) (t : List ℕ) (o o' : Read Question) where
  -- an operator before a question
  pub right_prefix : (k : ℕ) (f : Question → Question) → Before f k → o ≡ each f o' → i < j → (y : Step) (u : List ℕ) → Right o' s j n t y u
      → (x : Step) (t' : List ℕ) → x ≡ prefixed_step y → t' ≡ prefixed_rows k u y → Right o s i n t x t'
  right_prefix k f b e h (read a r) u (q, e', er, eu, h', l, bound) x t' ex et =
      let (es, rows) = b q in
      rw ex (
        f q,
        e ∙ each-got f o' q (drop a s) e',
        omega arith,
        et ∙ (rw (eu, er) (sym (ap (put_rows t n) (rows n) ∙ put-question t n q (row k (n + size q) 0 ∷ [])))),
        omega arith,
        l,
        omega arith,
      )
  right_prefix k f b e h (stopped p) u (e', l) x t' ex et = rw ex (e ∙ each-stop f o' (drop p s) e', l)

  -- the same question from an earlier byte
  pub right-same : o ≡ o' → i < j → (x : Step) (t' : List ℕ) → Right o' s j n t x t' → Right o s i n t x t'
  right-same e h (read a r) t' (q, e', er, eu, h', l, bound) = (q, e ∙ e', er, eu, omega arith, l, omega arith)
  right-same e h (stopped p) t' (e', l) = (e ∙ e', l)

-- Two questions

-- f joins two questions with a row of kind k
abbrev Joins : (Question → Question → Question) → ℕ → Type 0
Joins f k = (p q : Question) → (size (f p q) ≡ suc (size p + size q))
    × ((n : ℕ) → rows_from n (f p q) ≡ rows_from n p ++ (rows_from (n + size p) q ++ (row k (n + size p) (n + size p + size q) ∷ [])))

abbrev ended : (Question → Question → Question) → Question → Question → Read (Unit {0}) → Read Question
ended f p q (got u r) = got (f p q) r
ended f p q (stop r) = stop r

-- what follows the byte that joins p with another question
abbrev rest : (Question → Question → Question) → Question → Read Question → Read Question
rest f p (got q r) = ended f p q (token (only 41) r)
rest f p (stop r) = stop r

module _ (s : List ℕ) (i : ℕ) where
  pub pair_stops_left : (u : Bool) (r : List ℕ) → from s i ≡ stop r → pair_from u s i ≡ stop r
  unfolding from pair_from
  pair_stops_left true r e = rw e refl
  pair_stops_left false r e = rw e refl

  module _ (p : Question) (m : ℕ) (e : from s i ≡ got p (drop m s)) where
    pub pair_stops_middle : (u : Bool) → m ≤ length s → middle_kind u (get_or s m 0) ≡ 0 → pair_from u s i ≡ stop (drop m s)
    unfolding from pair_from middle_kind
    pair_stops_middle true h k = rw e (rw (token-none (only 85) s m h (none_there (get_or s m 0) k)) refl)
      where
        none_there : (b : ℕ) → middle_kind true b ≡ 0 → value_of (only 85) b ≡ none
        none_there b k = by_cases (ℕ_discrete b 85) (λ j. absurd (omega (arith, rw j at k))) (λ j. rw (ne_eqb b 85 j) refl)
    pair_stops_middle false h k = rw e (rw (token-none joins s m h (none_there (get_or s m 0) k)) refl)
      where
        none_there : (b : ℕ) → middle_kind false b ≡ 0 → value_of joins b ≡ none
        none_there b k = by_cases (ℕ_discrete b 38) (λ j. absurd (omega (arith, rw j at k)))
            (λ j. by_cases (ℕ_discrete b 124) (λ l. absurd (omega (arith, rw l at k)))
            (λ l. by_cases (ℕ_discrete b 62) (λ n. absurd (omega (arith, rw n at k))) (λ n. rw (ne_eqb b 38 j) (rw (ne_eqb b 124 l) (rw (ne_eqb b 62 n) refl)))))

    -- a byte that joins
    abbrev Joined : Bool → Type 0
    Joined u = (f : Question → Question → Question) × Joins f (middle_kind u (get_or s m 0)) × (m < length s) × (pair_from u s i ≡ rest f p (from s (m + 1)))

    until-rest : (o : Read Question) → each of_until (chain {D = λ _. Unit {0} × (Question × Unit {0})} (got p (drop m s)) (λ _ r. chain {D = λ _. Question × Unit {0}} (got tt (drop (m + 1) s)) (λ _ r. chain {D = λ _. Unit {0}} o (λ _. token (only 41))))) ≡ rest until p o
    until-rest (stop r) = refl
    until-rest (got q r) = step (token (only 41) r)
      where
        step : (x : Read (Unit {0})) → each of_until (paired {D = λ _. Unit {0} × (Question × Unit {0})} p (paired {D = λ _. Question × Unit {0}} tt (paired {D = λ _. Unit {0}} q x))) ≡ ended until p q x
        step (got u r) = refl
        step (stop r) = refl

    joined-rest : (j : Join) (o : Read Question) → each of_joined (chain {D = λ _. Join × (Question × Unit {0})} (got p (drop m s)) (λ _ r. chain {D = λ _. Question × Unit {0}} (got j (drop (m + 1) s)) (λ _ r. chain {D = λ _. Unit {0}} o (λ _. token (only 41))))) ≡ rest (joined j) p o
    joined-rest j (stop r) = refl
    joined-rest j (got q r) = step (token (only 41) r)
      where
        step : (x : Read (Unit {0})) → each of_joined (paired {D = λ _. Join × (Question × Unit {0})} p (paired {D = λ _. Question × Unit {0}} j (paired {D = λ _. Unit {0}} q x))) ≡ ended (joined j) p q x
        step (got u r) = refl
        step (stop r) = refl

    joined_by_lem : (j : Join) (b : ℕ) → get_or s m 0 ≡ suc b → value_of joins (suc b) ≡ some j → pair_from false s i ≡ rest (joined j) p (from s (m + 1))
    unfolding from pair_from
    joined_by_lem j b e' f = rw e (rw (token-some joins s m j b e' f) (joined-rest j (from s (m + 1))))

    pub pair-joins : (u : Bool) → middle_kind u (get_or s m 0) ≢ 0 → Joined u
    unfolding from pair_from middle_kind
    pair-joins true z = by_cases (ℕ_discrete (get_or s m 0) 85)
        (λ j. (until, (rw j (λ p q. (refl, λ n. refl))), in_list s m 84 j, rw e (rw (token-some (only 85) s m tt 84 j refl) (until-rest (from s (m + 1))))))
        (λ j. absurd (z (rw (ne_eqb (get_or s m 0) 85 j) refl)))
    pair-joins false z = by_cases (ℕ_discrete (get_or s m 0) 38)
        (λ j. (joined conjunction, (rw j (λ p q. (refl, λ n. refl))), in_list s m 37 j, joined_by_lem conjunction 37 j refl))
        (λ j. by_cases (ℕ_discrete (get_or s m 0) 124)
        (λ k. (joined disjunction, (rw k (λ p q. (refl, λ n. refl))), in_list s m 123 k, joined_by_lem disjunction 123 k refl))
        (λ k. by_cases (ℕ_discrete (get_or s m 0) 62)
        (λ l. (joined implication, (rw l (λ p q. (refl, λ n. refl))), in_list s m 61 l, joined_by_lem implication 61 l refl))
        (λ l. absurd (z (rw (ne_eqb (get_or s m 0) 38 j) (rw (ne_eqb (get_or s m 0) 124 k) (rw (ne_eqb (get_or s m 0) 62 l) refl)))))))

rest_stops : (f : Question → Question → Question) (p : Question) (o : Read Question) (r : List ℕ) → o ≡ stop r → rest f p o ≡ stop r
rest_stops f p o r e = rw e refl

rest_open : (f : Question → Question → Question) (p : Question) (o : Read Question) (q : Question) (s : List ℕ) (m : ℕ) → o ≡ got q (drop m s) → m ≤ length s → get_or s m 0 ≢ 41 → rest f p o ≡ stop (drop m s)
rest_open f p o q s m e h z = rw e (rw (token-none (only 41) s m h (rw (ne_eqb (get_or s m 0) 41 z) refl)) refl)

rest-closed : (f : Question → Question → Question) (p : Question) (o : Read Question) (q : Question) (s : List ℕ) (m : ℕ) → o ≡ got q (drop m s) → get_or s m 0 ≡ 41 → rest f p o ≡ got (f p q) (drop (m + 1) s)
rest-closed f p o q s m e b = rw e (rw (token-some (only 41) s m tt 40 b refl) refl)

-- the rows of two questions, then one that names their last ones
put-pair : (t : List ℕ) (n : ℕ) (p q : Question) (x : Row)
    → put_rows t n (rows_from n p ++ (rows_from (n + size p) q ++ (x ∷ []))) ≡ put_first (put_rows (put_rows t n (rows_from n p)) (n + size p) (rows_from (n + size p) q)) (n + size p + size q) x
put-pair t n p q x = put-question t n p (rows_from (n + size p) q ++ (x ∷ [])) ∙ put-question (put_rows t n (rows_from n p)) (n + size p) q (x ∷ [])

pair-rows : (t v w : List ℕ) (n r r' k k' : ℕ) (p q : Question) → k ≡ k' → r ≡ n + size p → r' ≡ r + size q → v ≡ put_rows t n (rows_from n p) → w ≡ put_rows v r (rows_from r q)
    → put_first w r' (row k r r') ≡ put_rows t n (rows_from n p ++ (rows_from (n + size p) q ++ (row k' (n + size p) (n + size p + size q) ∷ [])))
pair-rows t v w n r r' k k' p q ek er er' ev ew = rw ew (rw ev (rw er' (rw er (rw ek (sym (put-pair t n p q (row k' (n + size p) (n + size p + size q))))))))

module _ (s : List ℕ) (i n : ℕ) (t : List ℕ) (u : Bool) where
  pub right-left-stop : (p : ℕ) (v : List ℕ) → Right (from s i) s i n t (stopped p) v → (x : Step) (t' : List ℕ) → x ≡ stopped p → Right (pair_from u s i) s i n t x t'
  right-left-stop p v (e, l) x t' ex = right-stop s i n t (pair_from u s i) p x t' ex (pair_stops_left s i u (drop p s) e) l

  module _ (m r : ℕ) (v : List ℕ) (L : Right (from s i) s i n t (read m r) v) where
    pub right_middle_stop : middle_kind u (get_or s m 0) ≡ 0 → (x : Step) (t' : List ℕ) → x ≡ stopped m → Right (pair_from u s i) s i n t x t'
    right_middle_stop k x t' ex = let (p, e, er, ev, h, l, bound) = L in right-stop s i n t (pair_from u s i) m x t' ex (pair_stops_middle s i p m e u l k) l

    module _ (k : ℕ) (ek : k ≡ middle_kind u (get_or s m 0)) (z : k ≢ 0) where
      pub middle_in : m < length s
      middle_in = let (p, e, er, ev, h, l, bound) = L in let (f, j, l', w) = pair-joins s i p m e u (λ y. z (ek ∙ y)) in l'

      pub right-right-stop : (a : ℕ) (w : List ℕ) → Right (from s (m + 1)) s (m + 1) r v (stopped a) w → (x : Step) (t' : List ℕ) → x ≡ stopped a → Right (pair_from u s i) s i n t x t'
      right-right-stop a w (e', l') x t' ex =
          let (p, e, er, ev, h, l, bound) = L in
          let (f, j, lm, w) = pair-joins s i p m e u (λ y. z (ek ∙ y)) in
          right-stop s i n t (pair_from u s i) a x t' ex (w ∙ rest_stops f p (from s (m + 1)) (drop a s) e') l'

      module _ (a r' : ℕ) (w : List ℕ) (R : Right (from s (m + 1)) s (m + 1) r v (read a r') w) where
        pub right_open_stop : get_or s a 0 ≢ 41 → (x : Step) (t' : List ℕ) → x ≡ stopped a → Right (pair_from u s i) s i n t x t'
        right_open_stop b x t' ex =
            let (p, e, er, ev, h, l, bound) = L in
            let (q, e', er', ew, h', l', bound') = R in
            let (f, j, lm, w) = pair-joins s i p m e u (λ y. z (ek ∙ y)) in
            right-stop s i n t (pair_from u s i) a x t' ex (w ∙ rest_open f p (from s (m + 1)) q s a e' l' b) l'

        pub right-pair : get_or s a 0 ≡ 41 → (x : Step) (t' : List ℕ) → x ≡ read (a + 1) (r' + 1) → t' ≡ put_first w r' (row k r r') → Right (pair_from u s i) s i n t x t'
        right-pair b x t' ex et =
            let (p, e, er, ev, h, l, bound) = L in
            let (q, e', er', ew, h', l', bound') = R in
            let (f, j, lm, y) = pair-joins s i p m e u (λ y. z (ek ∙ y)) in
            let (es, rows) = j p q in
            rw ex (
              f p q,
              y ∙ rest-closed f p (from s (m + 1)) q s a e' b,
              omega arith,
              et ∙ (pair-rows t v w n r r' k (middle_kind u (get_or s m 0)) p q ek er er' ev ew ∙ sym (ap (put_rows t n) (rows n))),
              omega arith,
              omega (arith, in_list s a 40 b),
              omega arith,
            )

-- The parser of crate grammar at a byte of the text: tokens, numbers, and how a question begins.
-- Assumes nothing.
use Prim.Native.Nat.{ℕ, zero, suc, ◌+◌, ◌*◌, ◌-◌, ◌≤◌, ◌<◌}
use mathlib.Core.Bool.{Bool, true, false, cond, ◌&&◌}
use mathlib.Core.List.{List, [], ◌∷◌, ◌++◌}
use mathlib.Core.Logic.{◌≢◌, ◌⊎◌, inl, inr, by_cases}
use mathlib.Core.Option.{Option, none, some}
use mathlib.Core.Path.{◌≡◌, refl, sym, ◌∙◌}
use native.Mathlib.Decide.{dec_lt, ℕ_discrete}
use native.Mathlib.Numerals.{add-one}
use native.Mathlib.Omega.{arith}
use lib.Dec.{eqb, leb}
use lib.ListN.{length, take, drop, get_or, length-take, length-drop, drop_of_length-le, get_or-eq_default}
use lib.Seq.{drop-cons}
use borrow.Author.Tests.{ne_eqb, le-leb, lt-leb}
use Rattle.automata.specs.Questions.{row}
use Rattle.grammar.specs.Grammar.{Temporal, Join, Question, size, exists_kind, always_kind, rows_from}
use Rattle.grammar.specs.Grammar.Temporal.{X, G, F}
use Rattle.grammar.specs.Grammar.Question.{negated, E, A}
use Rattle.grammar.specs.Parser.{Read, paired, each, value_of, token, only, Head, AfterE, Side, heads, temporals, after_es, joins, Pair, pair, Equation, equation, body, after_ebody, build, question, number, digit, second}
use Rattle.grammar.specs.Parser.Read.{got, stop}
use Rattle.grammar.specs.Parser.AfterE.{temporal}
use Rattle.grammar.proofs.GrammarRead.{question-head}
use Rattle.texts.specs.Steps.Step.{read, stopped}
use Rattle.texts.specs.Descent.{from, pair_from, equation_from, location_from, of_joined, of_until, of_equation, of_location, kind_or0, prefix_kind, RightNumber}

-- a byte that is not 0 stands in the list
pub in_list : (s : List ℕ) (i b : ℕ) → get_or s i 0 ≡ suc b → i < length s
in_list s i b e = by_cases (dec_lt i (length s)) (λ h. h) (λ h. let z : get_or s i 0 ≡ 0 = get_or-eq_default s 0 (omega arith) in absurd (omega arith))

-- a text of n bytes, where n is at most 400
pub take_short : (n : ℕ) (s : List ℕ) → n ≤ 400 → length (take n s) ≤ 400
take_short n s h = omega (arith, length-take n s)

-- the rest from a byte in the list
pub drop-next : (s : List ℕ) (i : ℕ) → i < length s → drop i s ≡ get_or s i 0 ∷ drop (i + 1) s
drop-next s i h = rw (add-one i) (drop-cons s i 0 h)

module _ {C : Type 0} (t : List (ℕ × C)) (s : List ℕ) (i : ℕ) where
  pub token-none : i ≤ length s → value_of t (get_or s i 0) ≡ none → token t (drop i s) ≡ stop (drop i s)
  token-none h e = by_cases (dec_lt i (length s))
      (λ l. rw (drop-next s i l) (rw e refl))
      (λ l. rw (drop_of_length-le s {i = i} (omega arith)) refl)

  pub token-some : (c : C) (b : ℕ) → get_or s i 0 ≡ suc b → value_of t (suc b) ≡ some c → token t (drop i s) ≡ got c (drop (i + 1) s)
  token-some c b e f = rw (drop-next s i (in_list s i b e)) (rw e (rw f refl))

  -- a byte of a table that does not have 0 stands in the list
  found_in : {c : C} → value_of t 0 ≡ none → value_of t (get_or s i 0) ≡ some c → i < length s
  found_in {c} z f = by_cases (dec_lt i (length s)) (λ h. h)
      (λ h.
      let e : get_or s i 0 ≡ 0 = get_or-eq_default s 0 (omega arith) in
      let g : value_of t 0 ≡ some c = rw e at f in
      let y : ◌≡◌ {A = ℕ} 0 1 = cc in
      absurd (omega arith))

  token-found : (c : C) → value_of t 0 ≡ none → value_of t (get_or s i 0) ≡ some c → token t (drop i s) ≡ got c (drop (i + 1) s)
  token-found c z f = rw (drop-next s i (found_in z f)) (rw f refl)

-- Numbers

and-false : (a : Bool) → a && false ≡ false
and-false true = refl
and-false false = refl

below : (a b x : ℕ) → x < a → leb a x && leb x b ≡ false
below a b x h = rw (lt-leb a x h) refl

above : (a b x : ℕ) → b < x → leb a x && leb x b ≡ false
above a b x h = rw (lt-leb x b h) (and-false (leb a x))

within : (a b x : ℕ) → a ≤ x → x ≤ b → leb a x && leb x b ≡ true
within a b x h k = rw (le-leb a x h) (rw (le-leb x b k) refl)

module _ (s : List ℕ) (i b : ℕ) (e : b ≡ get_or s i 0) where
  pub number_out : i ≤ length s → leb 49 b && leb b 57 ≡ false → number (drop i s) ≡ stop (drop i s)
  unfolding number
  number_out h f = by_cases (dec_lt i (length s))
      (λ l. rw (drop-next s i l) (rw (sym e) (rw f refl)))
      (λ l. rw (drop_of_length-le s {i = i} (omega arith)) refl)

  first_in : 49 ≤ b → i < length s
  first_in h = by_cases (dec_lt i (length s)) (λ l. l) (λ l. let z : get_or s i 0 ≡ 0 = get_or-eq_default s 0 (omega arith) in absurd (omega arith))

  number-first : 49 ≤ b → b ≤ 57 → number (drop i s) ≡ second (b - 48) (drop (i + 1) s)
  unfolding number
  number-first h k = rw (drop-next s i (first_in h)) (rw (sym e) (rw (within 49 57 b h k) refl))

  module _ (c : ℕ) (e' : c ≡ get_or s (i + 1) 0) (h : 49 ≤ b) (k : b ≤ 57) where
    pub number-one : digit c ≡ false → RightNumber s i (read (i + 1) (b - 48))
    number-one f = (
      number-first h k ∙ by_cases (dec_lt (i + 1) (length s))
          (λ l. rw (drop-next s (i + 1) l) (rw (sym e') (rw f refl)))
          (λ l. rw (drop_of_length-le s {i = i + 1} (omega arith)) refl),
      omega arith,
      omega (arith, first_in h),
    )

    pub number_two : 48 ≤ c → c ≤ 57 → RightNumber s i (read (i + 1 + 1) (10 * (b - 48) + (c - 48)))
    number_two h' k' =
        let l : i + 1 < length s = by_cases (dec_lt (i + 1) (length s)) (λ l. l) (λ l. let z : get_or s (i + 1) 0 ≡ 0 = get_or-eq_default s 0 (omega arith) in absurd (omega arith)) in
        (number-first h k ∙ rw (drop-next s (i + 1) l) (rw (sym e') (rw (within 48 57 c h' k') refl)), omega arith, omega arith)

pub number-low : (s : List ℕ) (i b : ℕ) → b ≡ get_or s i 0 → i ≤ length s → b < 49 → RightNumber s i (stopped i)
number-low s i b e h k = (number_out s i b e h (below 49 57 b k), h)

pub number_high : (s : List ℕ) (i b : ℕ) → b ≡ get_or s i 0 → i ≤ length s → 57 < b → RightNumber s i (stopped i)
number_high s i b e h k = (number_out s i b e h (above 49 57 b k), h)

pub number_not : (s : List ℕ) (i b : ℕ) → b ≡ get_or s i 0 → i ≤ length s → (b < 49) ⊎ (57 < b) → RightNumber s i (stopped i)
number_not s i b e h (inl k) = number-low s i b e h k
number_not s i b e h (inr k) = number_high s i b e h k

pub digit_low : (c : ℕ) → c < 48 → digit c ≡ false
digit_low c h = below 48 57 c h

pub digit_high : (c : ℕ) → 57 < c → digit c ≡ false
digit_high c h = above 48 57 c h

pub digit_not : (c : ℕ) → (c < 48) ⊎ (57 < c) → digit c ≡ false
digit_not c (inl h) = digit_low c h
digit_not c (inr h) = digit_high c h

-- How a question begins

module _ (s : List ℕ) (i : ℕ) where
  -- by its first byte
  by_head : (h : Head) (b : ℕ) → get_or s i 0 ≡ suc b → value_of heads (suc b) ≡ some h → from s i ≡ each build (paired h (body (question (length s)) h (drop (i + 1) s)))
  unfolding from
  by_head h b e f =
      let l : i < length s = in_list s i b e in
      rw (drop-next s i l) (rw e (question-head (length s) (suc b) (drop (i + 1) s) (omega (arith, length-drop (i + 1) s)) ∙ rw f refl))

  -- or with none
  no-head : i ≤ length s → value_of heads (get_or s i 0) ≡ none → from s i ≡ stop (drop i s)
  unfolding from
  no-head h f = by_cases (dec_lt i (length s))
      (λ l. rw (drop-next s i l) (question-head (length s) (get_or s i 0) (drop (i + 1) s) (omega (arith, length-drop (i + 1) s)) ∙ rw f refl))
      (λ l. rw (drop_of_length-le s {i = i} (omega arith)) (empty (length s)))
    where
      empty : (n : ℕ) → question n [] ≡ stop []
      empty zero = refl
      empty (suc n) = refl

each-negation : (o : Read Question) → each build (paired Head.negation o) ≡ each negated o
each-negation (got q r) = refl
each-negation (stop r) = refl

each-exists : (t : Temporal) (o : Read Question) → each build (paired Head.exists (paired (temporal t) o)) ≡ each (E t) o
each-exists t (got q r) = refl
each-exists t (stop r) = refl

each-always : (t : Temporal) (o : Read Question) → each build (paired Head.always (paired t o)) ≡ each (A t) o
each-always t (got q r) = refl
each-always t (stop r) = refl

each-bracket : (o : Read (Pair Join)) → each build (paired Head.bracket o) ≡ each of_joined o
each-bracket (got (p, (j, (q, u))) r) = refl
each-bracket (stop r) = refl

each-until : (o : Read (Pair (Unit {0}))) → each build (paired Head.exists (paired AfterE.bracket o)) ≡ each of_until o
each-until (got (p, (u, (q, v))) r) = refl
each-until (stop r) = refl

each-equation : (o : Read Equation) → each build (paired Head.register o) ≡ each of_equation o
each-equation (got (i, (u, (Side.register, j))) r) = refl
each-equation (got (i, (u, (Side.constant, j))) r) = refl
each-equation (stop r) = refl

each-location : (o : Read ℕ) → each build (paired Head.location o) ≡ each of_location o
each-location (got l r) = refl
each-location (stop r) = refl

-- from byte i on stands what o gives from the later byte p on
abbrev pub Goes : List ℕ → ℕ → Read Question → ℕ → Type 0
Goes s i o p = (from s i ≡ o) × (i < p) × (p ≤ length s)

-- f puts an operator with a row of kind k before a question
abbrev pub Before : (Question → Question) → ℕ → Type 0
Before f k = (q : Question) → (size (f q) ≡ suc (size q)) × ((n : ℕ) → rows_from n (f q) ≡ rows_from n q ++ (row k (n + size q) 0 ∷ []))

-- such an operator stands from byte i up to byte p
abbrev pub Opens : List ℕ → ℕ → ℕ → ℕ → Type 0
Opens s i k p = (f : Question → Question) × Before f k × Goes s i (each f (from s p)) p

-- no question can go on at byte p
abbrev pub Breaks : List ℕ → ℕ → ℕ → Type 0
Breaks s i p = (from s i ≡ stop (drop p s)) × (p ≤ length s)

-- what follows E: X, G or F, or a bracket
abbrev or_bracket : Option Temporal → Bool → Option AfterE
or_bracket (some o) b = some (temporal o)
or_bracket none b = cond b (some AfterE.bracket) none

after_es_lem : (c : ℕ) → value_of after_es c ≡ or_bracket (value_of temporals c) (eqb c 40)
after_es_lem c = by (eqb c 88) (eqb c 71) (eqb c 70) (eqb c 40)
  where
    by : (x g f b : Bool) → cond x (some (temporal X)) (cond g (some (temporal G)) (cond f (some (temporal F)) (cond b (some AfterE.bracket) none)))
        ≡ or_bracket (cond x (some X) (cond g (some G) (cond f (some F) none))) b
    by true g f b = refl
    by false true f b = refl
    by false false true b = refl
    by false false false b = refl

kind-none : (kind : Temporal → ℕ) → ((o : Temporal) → kind o ≢ 0) → (x : Option Temporal) → kind_or0 kind x ≡ 0 → x ≡ none
kind-none kind z none e = refl
kind-none kind z (some o) e = absurd (z o e)

exists-some : (o : Temporal) → exists_kind o ≢ 0
exists-some X = omega arith
exists-some G = omega arith
exists-some F = omega arith

always-some : (o : Temporal) → always_kind o ≢ 0
always-some X = omega arith
always-some G = omega arith
always-some F = omega arith

module _ (s : List ℕ) (i : ℕ) where
  -- two questions in brackets
  pub bracket-here : get_or s i 0 ≡ 40 → Goes s i (pair_from false s (i + 1)) (i + 1)
  unfolding pair_from
  bracket-here e = (by_head s i Head.bracket 39 e refl ∙ each-bracket (pair (question (length s)) joins (drop (i + 1) s)), omega arith, omega (arith, in_list s i 39 e))

  pub location-here : get_or s i 0 ≡ 76 → Goes s i (location_from s (i + 1)) (i + 1)
  unfolding location_from
  location-here e = (by_head s i Head.location 75 e refl ∙ each-location (number (drop (i + 1) s)), omega arith, omega (arith, in_list s i 75 e))

  pub register-here : get_or s i 0 ≡ 114 → Goes s i (equation_from s (i + 1)) (i + 1)
  unfolding equation_from
  register-here e = (by_head s i Head.register 113 e refl ∙ each-equation (equation (drop (i + 1) s)), omega arith, omega (arith, in_list s i 113 e))

  pub not-here : get_or s i 0 ≡ 33 → Opens s i 4 (i + 1)
  unfolding from
  not-here e = (negated, (λ q. (refl, λ n. refl)), (by_head s i Head.negation 32 e refl ∙ each-negation (from s (i + 1)), omega arith, omega (arith, in_list s i 32 e)))

  module _ (e : get_or s i 0 ≡ 69) where
    after_E : (x : AfterE) → value_of after_es (get_or s (i + 1) 0) ≡ some x
        → from s i ≡ each build (paired Head.exists (paired x (after_ebody (question (length s)) x (drop (i + 1 + 1) s))))
    after_E x f = by_head s i Head.exists 68 e refl ∙ rw (token-found after_es s (i + 1) x refl f) refl

    exists-here : (o : Temporal) → value_of temporals (get_or s (i + 1) 0) ≡ some o → Opens s i (exists_kind o) (i + 1 + 1)
    unfolding from
    exists-here o f = (
      E o,
      (λ q. (refl, λ n. refl)),
      (
        after_E (temporal o) (rw (after_es_lem (get_or s (i + 1) 0)) (rw f refl)) ∙ each-exists o (from s (i + 1 + 1)),
        omega arith,
        omega (arith, found_in temporals s (i + 1) refl f),
      ),
    )

    pub until-here : get_or s (i + 1) 0 ≡ 40 → Goes s i (pair_from true s (i + 1 + 1)) (i + 1 + 1)
    unfolding pair_from
    until-here e' = (after_E AfterE.bracket (rw e' refl) ∙ each-until (pair (question (length s)) (only 85) (drop (i + 1 + 1) s)), omega arith, omega (arith, in_list s (i + 1) 39 e'))

    pub exists_breaks : prefix_kind (get_or s i 0) (get_or s (i + 1) 0) ≡ 0 → get_or s (i + 1) 0 ≢ 40 → Breaks s i (i + 1)
    unfolding prefix_kind
    exists_breaks z n =
        let c = get_or s (i + 1) 0 in
        let f : value_of temporals c ≡ none = kind-none exists_kind exists-some (value_of temporals c) (rw e at z) in
        let l : i < length s = in_list s i 68 e in
        (by_head s i Head.exists 68 e refl ∙ rw (token-none after_es s (i + 1) (omega arith) (rw (after_es_lem c) (rw f (rw (ne_eqb c 40 n) refl)))) refl, omega arith)

  module _ (e : get_or s i 0 ≡ 65) where
    always-here : (o : Temporal) → value_of temporals (get_or s (i + 1) 0) ≡ some o → Opens s i (always_kind o) (i + 1 + 1)
    unfolding from
    always-here o f = (
      A o,
      (λ q. (refl, λ n. refl)),
      (
        by_head s i Head.always 64 e refl ∙ rw (token-found temporals s (i + 1) o refl f) (each-always o (from s (i + 1 + 1))),
        omega arith,
        omega (arith, found_in temporals s (i + 1) refl f),
      ),
    )

    pub always_breaks : prefix_kind (get_or s i 0) (get_or s (i + 1) 0) ≡ 0 → Breaks s i (i + 1)
    unfolding prefix_kind
    always_breaks z =
        let f : value_of temporals (get_or s (i + 1) 0) ≡ none = kind-none always_kind always-some (value_of temporals (get_or s (i + 1) 0)) (rw e at z) in
        let l : i < length s = in_list s i 64 e in
        (by_head s i Head.always 64 e refl ∙ rw (token-none temporals s (i + 1) (omega arith) f) refl, omega arith)

  -- none of the six first bytes
  pub none_here : i ≤ length s → get_or s i 0 ≢ 40 → get_or s i 0 ≢ 33 → get_or s i 0 ≢ 76 → get_or s i 0 ≢ 114 → get_or s i 0 ≢ 69 → get_or s i 0 ≢ 65 → Breaks s i i
  none_here h b n l r e a =
      let x = get_or s i 0 in
      (no-head s i h (rw (ne_eqb x 33 n) (rw (ne_eqb x 40 b) (rw (ne_eqb x 76 l) (rw (ne_eqb x 114 r) (rw (ne_eqb x 69 e) (rw (ne_eqb x 65 a) refl)))))), h)

  -- an operator of two bytes
  two_bytes : (kind : Temporal → ℕ) → ((o : Temporal) → value_of temporals (get_or s (i + 1) 0) ≡ some o → Opens s i (kind o) (i + 1 + 1))
      → kind_or0 kind (value_of temporals (get_or s (i + 1) 0)) ≢ 0 → Opens s i (kind_or0 kind (value_of temporals (get_or s (i + 1) 0))) (i + 1 + 1)
  two_bytes kind here z = by (value_of temporals (get_or s (i + 1) 0)) refl z
    where
      by : (x : Option Temporal) → value_of temporals (get_or s (i + 1) 0) ≡ x → kind_or0 kind x ≢ 0 → Opens s i (kind_or0 kind x) (i + 1 + 1)
      by none f z = absurd (z refl)
      by (some o) f z = here o f

  pub prefix_here : (k : ℕ) → k ≡ prefix_kind (get_or s i 0) (get_or s (i + 1) 0) → k ≢ 0 → Opens s i k (i + 1 + 1)
  unfolding prefix_kind
  prefix_here k ek z =
      let b = get_or s i 0 in
      let y : prefix_kind b (get_or s (i + 1) 0) ≢ 0 = λ e. z (ek ∙ e) in
      rw ek (by_cases (ℕ_discrete b 69) (λ e. rw e (two_bytes exists_kind (exists-here e) (rw e at y)))
      (λ m. by_cases (ℕ_discrete b 65) (λ e. rw e (two_bytes always_kind (always-here e) (rw e at y)))
      (λ l. absurd (y (rw (ne_eqb b 69 m) (rw (ne_eqb b 65 l) refl))))))

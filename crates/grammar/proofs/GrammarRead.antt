-- The parser reads exactly the grammar, no text has two readings, and it stops at the first byte at which no continuation is possible.
-- Assumes nothing.
use Prim.Native.Nat.{ℕ, zero, suc, ◌≤◌, ◌<◌}
use mathlib.Core.Bool.{false}
use mathlib.Core.List.{List, [], ◌∷◌, ◌++◌}
use mathlib.Core.Option.{Option, none, some}
use mathlib.Core.Path.{◌≡◌, refl, ap, ◌∙◌}
use native.Mathlib.Omega.{arith}
use lib.Dec.{T}
use borrow.Author.Tests.{eq-eqb}
use lib.Ieee.Fits.{and_i, and_l, and_r}
use lib.ListN.{length, length-append}
use Rattle.automata.specs.Questions.Atom.{at, equal, is}
use Rattle.automata.specs.WellFormed.{inside}
use Rattle.grammar.specs.Grammar.{Temporal, Join, Question, digits, write, proper, temporal_byte, join_byte}
use Rattle.grammar.specs.Grammar.Temporal.{X, G, F}
use Rattle.grammar.specs.Grammar.Join.{conjunction, disjunction, implication}
use Rattle.grammar.specs.Grammar.Question.{basic, negated, E, A, joined, until}
use Rattle.grammar.specs.Parser.{Read, Parser, paired, chain, seq, each, value_of, took, token, only, digit, number, Head, AfterE, Side, heads, temporals, after_es, joins, sides, Pair, pair, Equation, equation, AfterEBody, after_ebody, Body, body, build, question}
use Rattle.grammar.specs.Parser.AfterE.{temporal}
use Rattle.grammar.specs.Parser.Read.{got, stop}
use Rattle.grammar.proofs.ParserLaws.{Grammar, Outcome, Reads, Seq, reads_seq, Byte, reads_token, reads_each}
use Rattle.grammar.proofs.NumberTexts.{Before, Number, reads_number, number_ahead}

-- Questions as a grammar

-- a question that ends in a number of one digit is not followed by a digit
abbrev pub BeforeQuestion : Question → List ℕ → Type 0
BeforeQuestion (basic (at l)) t = Before l t
BeforeQuestion (basic (equal i j)) t = Before j t
BeforeQuestion (basic (is i j)) t = Before j t
BeforeQuestion (negated q) t = BeforeQuestion q t
BeforeQuestion (E o q) t = BeforeQuestion q t
BeforeQuestion (A o q) t = BeforeQuestion q t
BeforeQuestion (joined o p q) t = Unit {0}
BeforeQuestion (until p q) t = Unit {0}

-- what is no digit may follow
pub before_other : (q : Question) (b : ℕ) (t : List ℕ) → digit b ≡ false → BeforeQuestion q (b ∷ t)
before_other (basic (at l)) b t e = λ h. e
before_other (basic (equal i j)) b t e = λ h. e
before_other (basic (is i j)) b t e = λ h. e
before_other (negated q) b t e = before_other q b t e
before_other (E o q) b t e = before_other q b t e
before_other (A o q) b t e = before_other q b t e
before_other (joined o p q) b t e = tt
before_other (until p q) b t e = tt

-- and the end
pub before_end : (q : Question) → BeforeQuestion q []
before_end (basic (at l)) = tt
before_end (basic (equal i j)) = tt
before_end (basic (is i j)) = tt
before_end (negated q) = before_end q
before_end (E o q) = before_end q
before_end (A o q) = before_end q
before_end (joined o p q) = tt
before_end (until p q) = tt

pub before_ahead : (q : Question) (d : List ℕ) (b : ℕ) (x y : List ℕ) → BeforeQuestion q (d ++ (b ∷ x)) → BeforeQuestion q (d ++ (b ∷ y))
before_ahead (basic (at l)) d b x y h = number_ahead l d b x y h
before_ahead (basic (equal i j)) d b x y h = number_ahead j d b x y h
before_ahead (basic (is i j)) d b x y h = number_ahead j d b x y h
before_ahead (negated q) d b x y h = before_ahead q d b x y h
before_ahead (E o q) d b x y h = before_ahead q d b x y h
before_ahead (A o q) d b x y h = before_ahead q d b x y h
before_ahead (joined o p q) d b x y h = tt
before_ahead (until p q) d b x y h = tt

abbrev pub Questions : Grammar Question
Questions = record { bytes = write; legal = λ q. T (proper q); before = BeforeQuestion }

-- Its parts

head_byte : Head → ℕ
head_byte Head.negation = 33
head_byte Head.bracket = 40
head_byte Head.location = 76
head_byte Head.register = 114
head_byte Head.exists = 69
head_byte Head.always = 65

after_byte : AfterE → ℕ
after_byte (temporal o) = temporal_byte o
after_byte AfterE.bracket = 40

side_byte : Side → ℕ
side_byte Side.register = 114
side_byte Side.constant = 99

abbrev PairGrammar : {J : Type 0} → (J → ℕ) → Grammar (Pair J)
PairGrammar {J} byte_of =
    Seq {D = λ _. J × (Question × Unit {0})} Questions (λ _. Seq {D = λ _. Question × Unit {0}} (Byte byte_of) (λ _. Seq {D = λ _. Unit {0}} Questions (λ _. Byte (λ _. 41))))

abbrev EquationGrammar : Grammar Equation
EquationGrammar =
    Seq {D = λ _. Unit {0} × (Side × ℕ)} Number (λ _. Seq {D = λ _. Side × ℕ} (Byte (λ _. 61)) (λ _. Seq {D = λ _. ℕ} (Byte side_byte) (λ _. Number)))

abbrev AfterGrammar : (x : AfterE) → Grammar (AfterEBody x)
AfterGrammar (temporal o) = Questions
AfterGrammar AfterE.bracket = PairGrammar (λ _. 85)

abbrev BodyGrammar : (h : Head) → Grammar (Body h)
BodyGrammar Head.negation = Questions
BodyGrammar Head.bracket = PairGrammar join_byte
BodyGrammar Head.location = Number
BodyGrammar Head.register = EquationGrammar
BodyGrammar Head.exists = Seq (Byte after_byte) AfterGrammar
BodyGrammar Head.always = Seq {D = λ _. Question} (Byte temporal_byte) (λ _. Questions)

-- what is left is no longer than the whole
rest_shorter : (n : ℕ) (d s : List ℕ) → length (d ++ s) ≤ n → length s ≤ n
rest_shorter n d s l = omega (arith, length-append d s)

reads_only : (b n : ℕ) → Reads (Byte (λ (u : Unit {0}). b)) n (token (only b))
reads_only b n = reads_token (λ _. b) (only b) (refl, tt) (λ c. rw (eq-eqb b b refl) refl) tt n

all-joins : (o : Join) → value_of joins (join_byte o) ≡ some o
all-joins conjunction = refl
all-joins disjunction = refl
all-joins implication = refl

reads_join : (n : ℕ) → Reads (Byte join_byte) n (token joins)
reads_join n = reads_token join_byte joins (refl, (refl, (refl, tt))) all-joins conjunction n

all-temporals : (o : Temporal) → value_of temporals (temporal_byte o) ≡ some o
all-temporals X = refl
all-temporals G = refl
all-temporals F = refl

reads_temporal : (n : ℕ) → Reads (Byte temporal_byte) n (token temporals)
reads_temporal n = reads_token temporal_byte temporals (refl, (refl, (refl, tt))) all-temporals X n

all-sides : (x : Side) → value_of sides (side_byte x) ≡ some x
unfolding side_byte
all-sides Side.register = refl
all-sides Side.constant = refl

reads_side : (n : ℕ) → Reads (Byte side_byte) n (token sides)
unfolding side_byte
reads_side n = reads_token side_byte sides (refl, (refl, tt)) all-sides Side.register n

all-after_es : (x : AfterE) → value_of after_es (after_byte x) ≡ some x
unfolding after_byte
all-after_es (temporal X) = refl
all-after_es (temporal G) = refl
all-after_es (temporal F) = refl
all-after_es AfterE.bracket = refl

reads_after_e : (n : ℕ) → Reads (Byte after_byte) n (token after_es)
unfolding after_byte
reads_after_e n = reads_token after_byte after_es (refl, (refl, (refl, (refl, tt)))) all-after_es AfterE.bracket n

all-heads : (h : Head) → value_of heads (head_byte h) ≡ some h
unfolding head_byte
all-heads Head.negation = refl
all-heads Head.bracket = refl
all-heads Head.location = refl
all-heads Head.register = refl
all-heads Head.exists = refl
all-heads Head.always = refl

reads_head : (n : ℕ) → Reads (Byte head_byte) n (token heads)
unfolding head_byte
reads_head n = reads_token head_byte heads (refl, (refl, (refl, (refl, (refl, (refl, tt)))))) all-heads Head.location n

reads_equation : (n : ℕ) → Reads EquationGrammar n equation
reads_equation n =
    reads_seq Number _ number _ n n (reads_number n)
    (λ _. reads_seq (Byte (λ _. 61)) _ (token (only 61)) _ n n (reads_only 61 n)
    (λ _. reads_seq (Byte side_byte) _ (token sides) _ n n (reads_side n) (λ _. reads_number n) (λ c s l. omega arith) (λ c d t l b. tt))
    (λ c s l. omega arith) (λ c d t l b. tt))
    (λ c s l. rest_shorter n (digits c) s l) (λ c d t l b. λ h. refl)

module _ (n : ℕ) (p : Parser Question) (P : Reads Questions n p) where
  reads_pair : {J : Type 0} (byte_of : J → ℕ) (t : List (ℕ × J)) → Reads (Byte byte_of) n (token t) → ((o : J) → digit (byte_of o) ≡ false) → Reads (PairGrammar byte_of) n (pair p t)
  reads_pair byte_of t R other =
      reads_seq Questions _ p _ n n P
      (λ _. reads_seq (Byte byte_of) _ (token t) _ n n R
      (λ _. reads_seq Questions _ p _ n n P (λ _. reads_only 41 n) (λ q s l. rest_shorter n (write q) s l) (λ q u t l b. before_other q 41 t refl))
      (λ c s l. omega arith) (λ c d t l b. tt))
      (λ q s l. rest_shorter n (write q) s l) (λ q d t l b. before_other q (byte_of d.0) _ (other d.0))

  join_other : (o : Join) → digit (join_byte o) ≡ false
  join_other conjunction = refl
  join_other disjunction = refl
  join_other implication = refl

  reads_after : (x : AfterE) → Reads (AfterGrammar x) n (after_ebody p x)
  reads_after (temporal o) = P
  reads_after AfterE.bracket = reads_pair (λ _. 85) (only 85) (reads_only 85 n) (λ u. refl)

  reads_body : (h : Head) → Reads (BodyGrammar h) n (body p h)
  reads_body Head.negation = P
  reads_body Head.bracket = reads_pair join_byte joins (reads_join n) join_other
  reads_body Head.location = reads_number n
  reads_body Head.register = reads_equation n
  reads_body Head.exists = reads_seq (Byte after_byte) AfterGrammar (token after_es) (after_ebody p) n n (reads_after_e n) reads_after (λ c s l. omega arith) (λ c d t l b. tt)
  reads_body Head.always = reads_seq (Byte temporal_byte) _ (token temporals) _ n n (reads_temporal n) (λ _. P) (λ c s l. omega arith) (λ c d t l b. tt)

-- A question is its first byte and what follows

abbrev Parts : Grammar ((h : Head) × Body h)
Parts = Seq (Byte head_byte) BodyGrammar

build-same : (v : (h : Head) × Body h) → write (build v) ≡ Parts.bytes v
unfolding head_byte after_byte side_byte
build-same (Head.negation, q) = refl
build-same (Head.bracket, (p, (o, (q, u)))) = refl
build-same (Head.location, n) = refl
build-same (Head.register, (i, (u, (Side.register, j)))) = refl
build-same (Head.register, (i, (u, (Side.constant, j)))) = refl
build-same (Head.exists, (temporal o, q)) = refl
build-same (Head.exists, (AfterE.bracket, (p, (u, (q, v))))) = refl
build-same (Head.always, (o, q)) = refl

build-legal : (v : (h : Head) × Body h) → Parts.legal v → T (proper (build v))
build-legal (Head.negation, q) (u, l) = l
build-legal (Head.bracket, (p, (o, (q, u)))) (i, (l, (j, (k, m)))) = and_i (proper p) (proper q) l k
build-legal (Head.location, n) (u, l) = l
build-legal (Head.register, (i, (u, (Side.register, j)))) (a, (l, (b, (c, k)))) = and_i (inside 99 i) (inside 99 j) l k
build-legal (Head.register, (i, (u, (Side.constant, j)))) (a, (l, (b, (c, k)))) = and_i (inside 99 i) (inside 99 j) l k
build-legal (Head.exists, (temporal o, q)) (a, (b, l)) = l
build-legal (Head.exists, (AfterE.bracket, (p, (u, (q, v))))) (a, (b, (l, (c, (k, d))))) = and_i (proper p) (proper q) l k
build-legal (Head.always, (o, q)) (a, (b, l)) = l

build_before : (v : (h : Head) × Body h) (t : List ℕ) → Parts.before v t → BeforeQuestion (build v) t
build_before (Head.negation, q) t b = b
build_before (Head.bracket, (p, (o, (q, u)))) t b = tt
build_before (Head.location, n) t b = b
build_before (Head.register, (i, (u, (Side.register, j)))) t b = b
build_before (Head.register, (i, (u, (Side.constant, j)))) t b = b
build_before (Head.exists, (temporal o, q)) t b = b
build_before (Head.exists, (AfterE.bracket, (p, (u, (q, v))))) t b = tt
build_before (Head.always, (o, q)) t b = b

abbrev Back : Question → Type 0
Back q = (v : (h : Head) × Body h) × (build v ≡ q) × (T (proper q) → Parts.legal v) × ((t : List ℕ) → BeforeQuestion q t → Parts.before v t)

build-back : (q : Question) → Back q
build-back (basic (at l)) = ((Head.location, l), refl, (λ k. (tt, k)), λ t b. b)
build-back (basic (equal i j)) =
    ((Head.register, (i, (tt, (Side.register, j)))), refl, (λ k. (tt, (and_l (inside 99 i) (inside 99 j) k, (tt, (tt, and_r (inside 99 i) (inside 99 j) k))))), λ t b. b)
build-back (basic (is i j)) =
    ((Head.register, (i, (tt, (Side.constant, j)))), refl, (λ k. (tt, (and_l (inside 99 i) (inside 99 j) k, (tt, (tt, and_r (inside 99 i) (inside 99 j) k))))), λ t b. b)
build-back (negated q) = ((Head.negation, q), refl, (λ k. (tt, k)), λ t b. b)
build-back (E o q) = ((Head.exists, (temporal o, q)), refl, (λ k. (tt, (tt, k))), λ t b. b)
build-back (A o q) = ((Head.always, (o, q)), refl, (λ k. (tt, (tt, k))), λ t b. b)
build-back (joined o p q) =
    ((Head.bracket, (p, (o, (q, tt)))), refl, (λ k. (tt, (and_l (proper p) (proper q) k, (tt, (and_r (proper p) (proper q) k, tt))))), λ t b. tt)
build-back (until p q) =
    ((Head.exists, (AfterE.bracket, (p, (tt, (q, tt))))), refl, (λ k. (tt, (tt, (and_l (proper p) (proper q) k, (tt, (and_r (proper p) (proper q) k, tt)))))), λ t b. tt)

write-some : (q : Question) → (b : ℕ) × (s : List ℕ) × (write q ≡ b ∷ s)
write-some (basic (at l)) = (76, _, refl)
write-some (basic (equal i j)) = (114, _, refl)
write-some (basic (is i j)) = (114, _, refl)
write-some (negated q) = (33, _, refl)
write-some (E o q) = (69, _, refl)
write-some (A o q) = (65, _, refl)
write-some (joined o p q) = (40, _, refl)
write-some (until p q) = (69, _, refl)

none_outcome : (s : List ℕ) → length s ≤ 0 → Outcome Questions 0 (question 0) s (stop s)
none_outcome [] l = ([], refl, (basic (at 1), write (basic (at 1)), tt, refl), λ b t x e k. let z : ◌≡◌ {A = ℕ} 0 1 = cc in absurd (omega arith))
none_outcome (b ∷ s) l = absurd (omega arith)

-- the parser of questions reads the grammar
pub reads_question : (f : ℕ) → Reads Questions f (question f)
reads_question zero = record {
  outcome = none_outcome;
  complete = λ q t l k b. let (c, s, e) = write-some q in absurd (omega (arith, length-append (write q) t, ap length e));
  example = (basic (at 1), tt);
  ahead = before_ahead;
}
reads_question (suc f) =
    reads_each Parts Questions build (seq (token heads) (body (question f))) (suc f)
    (reads_seq (Byte head_byte) BodyGrammar (token heads) (body (question f)) (suc f) f (reads_head (suc f)) (reads_body f (question f) (reads_question f)) (λ c s l. omega arith) (λ c d t l b. tt))
    build-same build-legal build_before build-back before_ahead

-- The bound on the bytes does not matter

module _ (m : ℕ) where
  abbrev Agree : {C : Type 0} → Parser C → Parser C → Type 0
  Agree p q = (s : List ℕ) → length s ≤ m → p s ≡ q s

  abbrev Shrinks : {C : Type 0} → Parser C → Type 0
  Shrinks {C} p = (s : List ℕ) → length s ≤ m → (c : C) (r : List ℕ) → p s ≡ got c r → length r ≤ m

  reads_shrinks : {C : Type 0} (g : Grammar C) (n : ℕ) → m ≤ n → (p : Parser C) → Reads g n p → Shrinks p
  reads_shrinks {C} g n h p P s l c r e = step (p s) e (P.outcome s (omega arith))
    where
      step : (o : Read C) → o ≡ got c r → Outcome g n p s o → length r ≤ m
      step (got d t) i (k, j, b) = let z : t ≡ r = cc in omega (arith, ap length j, length-append (g.bytes d) t, ap length z)
      step (stop t) i k = let z : ◌≡◌ {A = ℕ} 0 1 = cc in absurd (omega arith)

  agree_seq : {C : Type 0} {D : C → Type 0} (p p' : Parser C) (q q' : (c : C) → Parser (D c)) → Agree p p' → Shrinks p → ((c : C) → Agree (q c) (q' c)) → Agree (seq p q) (seq p' q')
  agree_seq {C} p p' q q' a k b s l = step (p s) refl ∙ ap (λ z. chain z q') (a s l)
    where
      step : (o : Read C) → p s ≡ o → chain o q ≡ chain o q'
      step (got c r) e = ap (paired c) (b c r (k s l c r e))
      step (stop r) e = refl

  module _ (p p' : Parser Question) (a : Agree p p') (n : ℕ) (h : m ≤ n) (P : Reads Questions n p) where
    agree_pair : {J : Type 0} (byte_of : J → ℕ) (t : List (ℕ × J)) → Reads (Byte byte_of) n (token t) → Agree (pair p t) (pair p' t)
    agree_pair byte_of t R =
        agree_seq p p' _ _ a (reads_shrinks Questions n h p P)
        (λ _. agree_seq (token t) (token t) _ _ (λ s l. refl) (reads_shrinks (Byte byte_of) n h (token t) R)
        (λ _. agree_seq p p' _ _ a (reads_shrinks Questions n h p P) (λ _ s l. refl)))

    agree_after : (x : AfterE) → Agree (after_ebody p x) (after_ebody p' x)
    agree_after (temporal o) = a
    agree_after AfterE.bracket = agree_pair (λ _. 85) (only 85) (reads_only 85 n)

    agree_body : (x : Head) → Agree (body p x) (body p' x)
    agree_body Head.negation = a
    agree_body Head.bracket = agree_pair join_byte joins (reads_join n)
    agree_body Head.location = λ s l. refl
    agree_body Head.register = λ s l. refl
    agree_body Head.exists = agree_seq (token after_es) (token after_es) (after_ebody p) (after_ebody p') (λ s l. refl) (reads_shrinks (Byte after_byte) n h (token after_es) (reads_after_e n)) agree_after
    agree_body Head.always = agree_seq (token temporals) (token temporals) _ _ (λ s l. refl) (reads_shrinks (Byte temporal_byte) n h (token temporals) (reads_temporal n)) (λ _. a)

pub bound_free : (f g : ℕ) (s : List ℕ) → length s ≤ f → length s ≤ g → question f s ≡ question g s
bound_free zero zero s l k = refl
bound_free zero (suc g) [] l k = refl
bound_free zero (suc g) (b ∷ s) l k = absurd (omega arith)
bound_free (suc f) zero [] l k = refl
bound_free (suc f) zero (b ∷ s) l k = absurd (omega arith)
bound_free (suc f) (suc g) [] l k = refl
bound_free (suc f) (suc g) (b ∷ s) l k =
    let i : length s ≤ f = omega arith in
    let j : length s ≤ g = omega arith in
    step (value_of heads b) (λ h. agree_body (length s) (question f) (question g) (λ t lt. bound_free f g t (omega arith) (omega arith)) f i (reads_question f) h s (omega arith))
  where
    step : (o : Option Head) → ((h : Head) → body (question f) h s ≡ body (question g) h s) → each build (chain (took o b s) (body (question f))) ≡ each build (chain (took o b s) (body (question g)))
    step none a = refl
    step (some h) a = ap (λ z. each build (paired h z)) (a h)

-- a question by its first byte
pub question-head : (f b : ℕ) (s : List ℕ) → length s < f → question f (b ∷ s) ≡ each build (chain (took (value_of heads b) b s) (body (question f)))
question-head zero b s l = absurd (omega arith)
question-head (suc f) b s l = step (value_of heads b) (λ h. agree_body (length s) (question f) (question (suc f)) (λ t lt. bound_free f (suc f) t (omega arith) (omega arith)) f (omega arith) (reads_question f) h s (omega arith))
  where
    step : (o : Option Head) → ((h : Head) → body (question f) h s ≡ body (question (suc f)) h s) → each build (chain (took o b s) (body (question f))) ≡ each build (chain (took o b s) (body (question (suc f))))
    step none a = refl
    step (some h) a = ap (λ z. each build (paired h z)) (a h)

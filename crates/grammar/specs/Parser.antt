-- A parser by recursive descent, as the code does it. proofs/GrammarRead and TextsRead show what it reads; it needs no belief.
-- Assumes nothing.
use Rattle.std.specs.Prelude.{ℕ, zero, suc, ◌+◌, ◌*◌, ◌-◌, Bool, cond, ◌&&◌, List, [], ◌∷◌, eqb, leb, length}
use Rattle.std.proofs.Math.Option.{Option, none, some}
use Rattle.automata.specs.Questions.Atom.{at, equal, is}
use Rattle.grammar.specs.Grammar.{Temporal, Join, Question}
use Rattle.grammar.specs.Grammar.Temporal.{X, G, F}
use Rattle.grammar.specs.Grammar.Join.{conjunction, disjunction, implication}
use Rattle.grammar.specs.Grammar.Question.{basic, negated, E, A, joined, until}

-- a value with the bytes that follow it, or the bytes from the one at which nothing can be read
pub data Read (C : Type 0) : Type 0 where
  got : C → List ℕ → Read C
  stop : List ℕ → Read C

abbrev pub Parser : Type 0 → Type 0
Parser C = List ℕ → Read C

module _ {C : Type 0} {D : C → Type 0} where
  abbrev pub paired : (v : C) → Read (D v) → Read ((v : C) × D v)
  paired v (got w r) = got (v, w) r
  paired v (stop r) = stop r

  abbrev pub chain : Read C → ((v : C) → Parser (D v)) → Read ((v : C) × D v)
  chain (got v r) q = paired v (q v r)
  chain (stop r) q = stop r

  -- one after the other
  abbrev pub seq : Parser C → ((v : C) → Parser (D v)) → Parser ((v : C) × D v)
  seq p q s = chain (p s) q

abbrev pub each : {C D : Type 0} → (C → D) → Read C → Read D
each f (got v r) = got (f v) r
each f (stop r) = stop r

module _ {C : Type 0} where
  -- the value that stands beside a byte
  abbrev pub value_of : List (ℕ × C) → ℕ → Option C
  value_of [] b = none
  value_of ((c, v) ∷ t) b = cond (eqb b c) (some v) (value_of t b)

  abbrev pub took : Option C → ℕ → List ℕ → Read C
  took none b s = stop (b ∷ s)
  took (some v) b s = got v s

  -- one byte of a table
  abbrev pub token : List (ℕ × C) → Parser C
  token t [] = stop []
  token t (b ∷ s) = took (value_of t b) b s

-- the only byte
abbrev pub only : ℕ → List (ℕ × Unit {0})
only b = (b, tt) ∷ []

-- 0 to 9
abbrev pub digit : ℕ → Bool
digit b = leb 48 b && leb b 57

-- after a first digit
abbrev pub second : ℕ → Parser ℕ
second d [] = got d []
second d (c ∷ s) = cond (digit c) (got (10 * d + (c - 48)) s) (got d (c ∷ s))

-- one or two digits, the first not 0
unfoldable pub number : Parser ℕ
number [] = stop []
number (b ∷ s) = cond (leb 49 b && leb b 57) (second (b - 48) s) (stop (b ∷ s))

pub data Head : Type 0 where
  negation : Head
  bracket : Head
  location : Head
  register : Head
  exists : Head
  always : Head

pub data AfterE : Type 0 where
  temporal : Temporal → AfterE
  bracket : AfterE

pub data Side : Type 0 where
  register : Side
  constant : Side

abbrev pub heads : List (ℕ × Head)
heads = (33, Head.negation) ∷ (40, Head.bracket) ∷ (76, Head.location) ∷ (114, Head.register) ∷ (69, Head.exists) ∷ (65, Head.always) ∷ []

abbrev pub temporals : List (ℕ × Temporal)
temporals = (88, X) ∷ (71, G) ∷ (70, F) ∷ []

abbrev pub after_es : List (ℕ × AfterE)
after_es = (88, AfterE.temporal X) ∷ (71, AfterE.temporal G) ∷ (70, AfterE.temporal F) ∷ (40, AfterE.bracket) ∷ []

abbrev pub joins : List (ℕ × Join)
joins = (38, conjunction) ∷ (124, disjunction) ∷ (62, implication) ∷ []

abbrev pub sides : List (ℕ × Side)
sides = (114, Side.register) ∷ (99, Side.constant) ∷ []

-- two questions with what joins them, up to the closing bracket
abbrev pub Pair : Type 0 → Type 0
Pair J = Question × (J × (Question × Unit {0}))

abbrev pub pair : {J : Type 0} → Parser Question → List (ℕ × J) → Parser (Pair J)
pair {J} p t = seq {D = λ _. J × (Question × Unit {0})} p (λ _. seq {D = λ _. Question × Unit {0}} (token t) (λ _. seq {D = λ _. Unit {0}} p (λ _. token (only 41))))

-- two equal terms after the byte r
abbrev pub Equation : Type 0
Equation = ℕ × (Unit {0} × (Side × ℕ))

abbrev pub equation : Parser Equation
equation = seq {D = λ _. Unit {0} × (Side × ℕ)} number (λ _. seq {D = λ _. Side × ℕ} (token (only 61)) (λ _. seq {D = λ _. ℕ} (token sides) (λ _. number)))

abbrev pub AfterEBody : AfterE → Type 0
AfterEBody (temporal o) = Question
AfterEBody AfterE.bracket = Pair (Unit {0})

abbrev pub after_ebody : Parser Question → (x : AfterE) → Parser (AfterEBody x)
after_ebody p (temporal o) = p
after_ebody p AfterE.bracket = pair p (only 85)

abbrev pub Body : Head → Type 0
Body Head.negation = Question
Body Head.bracket = Pair Join
Body Head.location = ℕ
Body Head.register = Equation
Body Head.exists = (x : AfterE) × AfterEBody x
Body Head.always = Temporal × Question

abbrev pub body : Parser Question → (h : Head) → Parser (Body h)
body p Head.negation = p
body p Head.bracket = pair p joins
body p Head.location = number
body p Head.register = equation
body p Head.exists = seq (token after_es) (after_ebody p)
body p Head.always = seq {D = λ _. Question} (token temporals) (λ _. p)

-- the question of what was read
abbrev pub build : (h : Head) × Body h → Question
build (Head.negation, q) = negated q
build (Head.bracket, (p, (o, (q, u)))) = joined o p q
build (Head.location, n) = basic (at n)
build (Head.register, (i, (u, (Side.register, j)))) = basic (equal i j)
build (Head.register, (i, (u, (Side.constant, j)))) = basic (is i j)
build (Head.exists, (temporal o, q)) = E o q
build (Head.exists, (AfterE.bracket, (p, (u, (q, v))))) = until p q
build (Head.always, (o, q)) = A o q

-- a question, of at most so many bytes
abbrev pub question : ℕ → Parser Question
question zero s = stop s
question (suc f) s = each build (seq (token heads) (body (question f)) s)

-- the question of a text, or the byte at which it stops
pub data Parse : Type 0 where
  parsed : Question → Parse
  outside : ℕ → Parse

-- nothing may follow
abbrev pub whole : ℕ → Read Question → Parse
whole n (got q []) = parsed q
whole n (got q (b ∷ r)) = outside (n - length r)
whole n (stop r) = outside (suc n - length r)

unfoldable pub parse : List ℕ → Parse
parse s = whole (length s) (question (length s) s)

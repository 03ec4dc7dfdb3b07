-- The one proof of the circle of `texts::question`, `texts::pair` and `texts::atom`. The measure is three times the bytes that are left, with one more for a
-- question, which begins with an atom at the same byte, and two more for a pair, which begins with a question there.
-- Assumes nothing.
use Prim.Native.Nat.{ℕ, ◌+◌, ◌*◌, ◌-◌, ◌/◌, ◌%◌, ◌≤◌, ◌<◌}
use mathlib.Core.Bool.{true, false}
use mathlib.Core.Path.{◌≡◌, sym, ap, ap₂, ◌∙◌}
use native.Mathlib.Omega.{arith}
use lib.ListN.{length, take, get_or}
use borrow.Author.Rules.{rules}
use borrow.Fn.Kinds.{In}
use borrow.Fn.PlainCycle.{Measures, is, falls, and}
use Rattle.std.specs.Prelude.{◌≢◌}
use Rattle.texts.specs.Steps.{step_of}
use Rattle.texts.specs.Steps.Step.{read}
use Rattle.texts.specs.Descent.{from, pair_from, equation_from, location_from, prefix_kind, middle_kind, Right}
use Rattle.texts.proofs.StepCodes.{step-stopped, kind-some, kind-none, right-stopped, right-read, right-few}
use Rattle.texts.proofs.Openings.{Opens, Breaks, take_short, bracket-here, location-here, register-here, not-here, until-here, exists_breaks, always_breaks, none_here, prefix_here}
use Rattle.texts.proofs.Walks.{right-stop, right_prefix, right-same, right-left-stop, right_middle_stop, middle_in, right-right-stop, right_open_stop, right-pair}
use Rattle.texts.proofs.atom.Reads as atom
use Rattle.texts.proofs.atom.Kinds as atom-kinds
use Rattle.texts.proofs.+atom_pair_question.Lts-atom as atom-lts
use Rattle.texts.proofs.pair.Reads as pair
use Rattle.texts.proofs.pair.Kinds as pair-kinds
use Rattle.texts.proofs.+atom_pair_question.Lts-pair as pair-lts
use Rattle.texts.proofs.question.Reads as question
use Rattle.texts.proofs.question.Kinds as question-kinds
use Rattle.texts.proofs.+atom_pair_question.Lts-question as question-lts
use Rattle.texts.proofs.byte_at.Reads as byte-at-reads
use Rattle.texts.proofs.closed.Reads as closed-reads
use Rattle.texts.proofs.equation.Reads as equation-reads
use Rattle.texts.proofs.location.Reads as location-reads
use Rattle.texts.proofs.middle.Reads as middle-reads
use Rattle.texts.proofs.prefix.Reads as prefix-reads
use Rattle.texts.proofs.prefixed.Reads as prefixed-reads
use Rattle.texts.proofs.+atom_pair_question.{statement}
use Rattle.texts.proofs.+atom_pair_question.Tie.{close}

abbrev μ-atom : Measures 2 atom-kinds.ps ℕ
μ-atom κs a = 3 * (length (take a.1.0 a.0.now) - a.1.1.1.0)

abbrev μ-pair : Measures 2 pair-kinds.ps ℕ
μ-pair κs a = 3 * (length (take a.1.0 a.0.now) - a.1.1.1.0) + 2

abbrev μ-question : Measures 2 question-kinds.ps ℕ
μ-question κs a = 3 * (length (take a.1.0 a.0.now) - a.1.1.1.0) + 1

abbrev atom-at : ℕ → In 2 atom-kinds.ps
atom-at t = and 2 atom-kinds.ps (is 2 atom-kinds.ps μ-atom t) atom.Pre

abbrev atom-below : ℕ → In 2 atom-kinds.ps
atom-below t = and 2 atom-kinds.ps (falls 2 atom-kinds.ps ◌<◌ μ-atom t) atom.Pre

abbrev pair-at : ℕ → In 2 pair-kinds.ps
pair-at t = and 2 pair-kinds.ps (is 2 pair-kinds.ps μ-pair t) pair.Pre

abbrev pair-below : ℕ → In 2 pair-kinds.ps
pair-below t = and 2 pair-kinds.ps (falls 2 pair-kinds.ps ◌<◌ μ-pair t) pair.Pre

abbrev question-at : ℕ → In 2 question-kinds.ps
question-at t = and 2 question-kinds.ps (is 2 question-kinds.ps μ-question t) question.Pre

abbrev question-below : ℕ → In 2 question-kinds.ps
question-below t = and 2 question-kinds.ps (falls 2 question-kinds.ps ◌<◌ μ-question t) question.Pre

-- what the calls ask and give
abbrev atom_claims : ℕ → atom-lts.Claims
atom_claims t = (
  byte-at-reads.Asked,
  byte-at-reads.Learnt,
  question-below t,
  question.Post,
  prefixed-reads.Asked,
  prefixed-reads.Learnt,
  location-reads.Asked,
  location-reads.Learnt,
  equation-reads.Asked,
  equation-reads.Learnt,
  prefix-reads.Asked,
  prefix-reads.Learnt,
  pair-below t,
  pair.Post,
)

abbrev pair_claims : ℕ → pair-lts.Claims
pair_claims t = (question-below t, question.Post, byte-at-reads.Asked, byte-at-reads.Learnt, middle-reads.Asked, middle-reads.Learnt, closed-reads.Asked, closed-reads.Learnt)

abbrev question_claims : ℕ → question-lts.Claims
question_claims t = (byte-at-reads.Asked, byte-at-reads.Learnt, pair-below t, pair.Post, atom-below t, atom.Post)

-- An atom

short : (t : ℕ) (w : atom-lts.Start (atom_claims t) (atom-at t) atom.Post) → length (take w.args.n w.args.s.now) ≤ 400
short t w = take_short w.args.n w.args.s.now w.requires.1.1

-- no question can go on at byte p
breaks : (t : ℕ) (w : atom-lts.Start (atom_claims t) (atom-at t) atom.Post) (p : ℕ) → let a = w.args in let s = take a.n a.s.now in
    Breaks s a.at p → Right (from s a.at) s a.at a.rows a.t.now (step_of p) a.t.now
breaks t w p (e, l) =
    let a = w.args in
    let s = take a.n a.s.now in
    right-stop s a.at a.rows a.t.now (from s a.at) p _ a.t.now (step-stopped _ (omega (arith, short t w))) e l

atom-add-next : (t : ℕ) → atom-lts.Need-overflow_add-next (atom_claims t) (atom-at t) atom.Post
atom-add-next t c = let w = c in omega (arith, w.requires.1, short t w.before)

-- the operator !
opens_not : (t : ℕ) (c : atom-lts.Then-b-eq33 (atom_claims t) (atom-at t) atom.Post) → let a = c.args in Opens (take a.n a.s.now) a.at 4 (a.at + 1)
opens_not t c = let a = c.args in not-here (take a.n a.s.now) a.at (sym c.byte_at-b.ensures ∙ c.if-b-eq33.true)

atom-question_requires : (t : ℕ) → atom-lts.Need-question-q-requires (atom_claims t) (atom-at t) atom.Post
atom-question_requires t c κs =
    let w = c in
    let o = opens_not t c.before in
    (omega (arith, w.requires, o.2), (o.2.2, w.requires.1.1, omega (arith, w.requires.1)))

atom_prefixed_requires : (t : ℕ) → atom-lts.Need-prefixed-requires (atom_claims t) (atom-at t) atom.Post
atom_prefixed_requires t c κs =
    let w = c in
    let a = w.args in
    let s = take a.n a.s.now in
    right-few (from s (a.at + 1)) s (a.at + 1) a.rows a.t.now _ _ c.question-q.ensures (omega (arith, w.requires.1)) (short t w.before.before.before.before.before)

atom_returns : (t : ℕ) → atom-lts.Need-returns-then-b-eq33 (atom_claims t) (atom-at t) atom.Post
atom_returns t c =
    let a = c.args in
    let s = take a.n a.s.now in
    let o = opens_not t c.before.before.before.before in
    right_prefix s a.at (a.at + 1) a.rows a.t.now (from s a.at) (from s (a.at + 1)) 4 o.0 o.1 o.2.0 o.2.1 (step_of c.question-q.result) c.question-q.new.t c.question-q.ensures
    _ _ c.prefixed.ensures.0 c.prefixed.ensures.1

atom-location_requires : (t : ℕ) → atom-lts.Need-location-requires (atom_claims t) (atom-at t) atom.Post
atom-location_requires t c κs =
    let w = c in
    let o = location-here (take w.args.n w.args.s.now) w.args.at (sym c.byte_at-b.ensures ∙ c.if-b-eq76.true) in
    (o.2, w.requires.1.1, omega (arith, w.requires.1.2))

atom_returns_2 : (t : ℕ) → atom-lts.Need-returns-then-b-eq76 (atom_claims t) (atom-at t) atom.Post
atom_returns_2 t c =
    let a = c.args in
    let s = take a.n a.s.now in
    let o = location-here s a.at (sym c.byte_at-b.ensures ∙ c.if-b-eq76.true) in
    right-same s a.at (a.at + 1) a.rows a.t.now (from s a.at) (location_from s (a.at + 1)) o.0 o.1 (step_of c.location.result) c.location.new.t c.location.ensures

atom-equation_requires : (t : ℕ) → atom-lts.Need-equation-requires (atom_claims t) (atom-at t) atom.Post
atom-equation_requires t c κs =
    let w = c in
    let o = register-here (take w.args.n w.args.s.now) w.args.at (sym c.byte_at-b.ensures ∙ c.if-b-eq114.true) in
    (o.2, w.requires.1.1, omega (arith, w.requires.1.2))

atom_returns_3 : (t : ℕ) → atom-lts.Need-returns-then-b-eq114 (atom_claims t) (atom-at t) atom.Post
atom_returns_3 t c =
    let a = c.args in
    let s = take a.n a.s.now in
    let o = register-here s a.at (sym c.byte_at-b.ensures ∙ c.if-b-eq114.true) in
    right-same s a.at (a.at + 1) a.rows a.t.now (from s a.at) (equation_from s (a.at + 1)) o.0 o.1 (step_of c.equation.result) c.equation.new.t c.equation.ensures

-- the two bytes are no operator
no_operator : (t : ℕ) (c : atom-lts.In_default (atom_claims t) (atom-at t) atom.Post) → let a = c.args in prefix_kind (get_or (take a.n a.s.now) a.at 0) (get_or (take a.n a.s.now) (a.at + 1) 0) ≡ 0
no_operator t c = sym (ap₂ prefix_kind c.byte_at-b.ensures c.byte_at-c.ensures) ∙ kind-none _ c.in_default.ensures

atom-add-pair : (t : ℕ) → atom-lts.Need-overflow_add-next-then-c-eq40 (atom_claims t) (atom-at t) atom.Post
atom-add-pair t c = let w = c in omega (arith, w.requires.1, short t w.before.before.before.before.before.before.before.before.before.before)

atom-pair_requires : (t : ℕ) → atom-lts.Need-pair-requires (atom_claims t) (atom-at t) atom.Post
atom-pair_requires t c κs =
    let w = c in
    let o = until-here (take w.args.n w.args.s.now) w.args.at (sym c.byte_at-b.ensures ∙ c.if-b-eq69.true) (sym c.byte_at-c.ensures ∙ c.if-c-eq40.true) in
    (omega (arith, w.requires, o), (o.2, w.requires.1.1, omega (arith, w.requires.1.2)))

atom_returns_4 : (t : ℕ) → atom-lts.Need-returns-then-c-eq40 (atom_claims t) (atom-at t) atom.Post
atom_returns_4 t c =
    let a = c.args in
    let s = take a.n a.s.now in
    let o = until-here s a.at (sym c.byte_at-b.ensures ∙ c.if-b-eq69.true) (sym c.byte_at-c.ensures ∙ c.if-c-eq40.true) in
    right-same s a.at (a.at + 1 + 1) a.rows a.t.now (from s a.at) (pair_from true s (a.at + 1 + 1)) o.0 o.1 (step_of c.pair.result) c.pair.new.t c.pair.ensures

atom_returns_5 : (t : ℕ) → atom-lts.Need-returns-then-b-eq69 (atom_claims t) (atom-at t) atom.Post
atom_returns_5 t c =
    let w = c in
    let a = w.args in
    let s = take a.n a.s.now in
    breaks t w.before.before.before.before.before.before.before.before.before (a.at + 1) (exists_breaks s a.at (sym c.byte_at-b.ensures ∙ c.if-b-eq69.true) (no_operator t c.before.before) (λ h. c.if-c-eq40.false (c.byte_at-c.ensures ∙ h)))

atom_returns_6 : (t : ℕ) → atom-lts.Need-returns-then-b-eq65 (atom_claims t) (atom-at t) atom.Post
atom_returns_6 t c =
    let w = c in
    let a = w.args in
    let s = take a.n a.s.now in
    breaks t w.before.before.before.before.before.before.before.before.before (a.at + 1) (always_breaks s a.at (sym c.byte_at-b.ensures ∙ c.if-b-eq65.true) (no_operator t c.before.before))

atom_returns_7 : (t : ℕ) → atom-lts.Need-returns-in_default (atom_claims t) (atom-at t) atom.Post
atom_returns_7 t c =
    let w = c in
    let a = w.args in
    let s = take a.n a.s.now in
    let b = c.byte_at-b.ensures in
    breaks t w.before.before.before.before.before.before.before.before.before a.at (none_here s a.at w.requires.1.0 w.requires.1.3 (λ h. c.if-b-eq33.false (b ∙ h)) (λ h. c.if-b-eq76.false (b ∙ h)) (λ h. c.if-b-eq114.false (b ∙ h)) (λ h. c.if-b-eq69.false (b ∙ h)) (λ h. c.if-b-eq65.false (b ∙ h)))

-- the operator of two bytes
opens_two : (t : ℕ) (c : atom-lts.In-Some (atom_claims t) (atom-at t) atom.Post) → let a = c.args in Opens (take a.n a.s.now) a.at c.in-Some.k (a.at + 1 + 1)
opens_two t c =
    let a = c.args in
    let (e, z) = kind-some _ _ c.in-Some.ensures in
    prefix_here (take a.n a.s.now) a.at _ (e ∙ ap₂ prefix_kind c.byte_at-b.ensures c.byte_at-c.ensures) z

atom-add-question : (t : ℕ) → atom-lts.Need-overflow_add-next-2 (atom_claims t) (atom-at t) atom.Post
atom-add-question t c = let w = c in omega (arith, w.requires.1, short t w.before.before.before.before.before.before.before.before)

atom-question_requires_2 : (t : ℕ) → atom-lts.Need-question-q-requires-2 (atom_claims t) (atom-at t) atom.Post
atom-question_requires_2 t c κs =
    let w = c in
    let o = opens_two t c.before in
    (omega (arith, w.requires, o.2), (o.2.2, w.requires.1.1, omega (arith, w.requires.1)))

atom_prefixed_requires_2 : (t : ℕ) → atom-lts.Need-prefixed-requires-2 (atom_claims t) (atom-at t) atom.Post
atom_prefixed_requires_2 t c κs =
    let w = c in
    let a = w.args in
    let s = take a.n a.s.now in
    right-few (from s (a.at + 1 + 1)) s (a.at + 1 + 1) a.rows a.t.now _ _ c.question-q-2.ensures (omega (arith, w.requires.1)) (short t w.before.before.before.before.before.before.before.before.before.before)

atom_returns_8 : (t : ℕ) → atom-lts.Need-returns (atom_claims t) (atom-at t) atom.Post
atom_returns_8 t c =
    let a = c.args in
    let s = take a.n a.s.now in
    let o = opens_two t c.before.before.before.before in
    right_prefix s a.at (a.at + 1 + 1) a.rows a.t.now (from s a.at) (from s (a.at + 1 + 1)) _ o.0 o.1 o.2.0 o.2.1 (step_of c.question-q-2.result) c.question-q-2.new.t c.question-q-2.ensures
    _ _ c.prefixed-2.ensures.0 c.prefixed-2.ensures.1

-- A pair

-- the left question
left : (t : ℕ) (c : pair-lts.Else-p-lt1024 (pair_claims t) (pair-at t) pair.Post) → let a = c.args in let p = c.question-p.result in
    Right (from (take a.n a.s.now) a.at) (take a.n a.s.now) a.at a.rows a.t.now (read (p % 1024) (p / 1024)) c.question-p.new.t
left t c = let a = c.args in let s = take a.n a.s.now in right-read (from s a.at) s a.at a.rows a.t.now _ _ c.question-p.ensures c.if-p-lt1024.false

-- what follows it
kind : (t : ℕ) (c : pair-lts.In-Some (pair_claims t) (pair-at t) pair.Post) → let a = c.args in (c.in-Some.k ≡ middle_kind a.until (get_or (take a.n a.s.now) (c.question-p.result % 1024) 0)) × (c.in-Some.k ≢ 0)
kind t c = let (e, z) = kind-some _ _ c.in-Some.ensures in (e ∙ ap (middle_kind c.args.until) c.byte_at.ensures, z)

-- the right question
right : (t : ℕ) (c : pair-lts.Else-q-lt1024 (pair_claims t) (pair-at t) pair.Post) → let a = c.args in let p = c.question-p.result in let q = c.question-q.result in
    Right (from (take a.n a.s.now) (p % 1024 + 1)) (take a.n a.s.now) (p % 1024 + 1) (p / 1024) c.question-p.new.t (read (q % 1024) (q / 1024)) c.question-q.new.t
right t c =
    let a = c.args in
    let s = take a.n a.s.now in
    let p = c.question-p.result in
    right-read (from s (p % 1024 + 1)) s (p % 1024 + 1) (p / 1024) c.question-p.new.t _ _ c.question-q.ensures c.if-q-lt1024.false

pair_returns : (t : ℕ) → pair-lts.Need-returns-then-p-lt1024 (pair_claims t) (pair-at t) pair.Post
pair_returns t c =
    let a = c.args in
    let s = take a.n a.s.now in
    right-left-stop s a.at a.rows a.t.now a.until _ c.question-p.new.t (right-stopped (from s a.at) s a.at a.rows a.t.now _ _ c.question-p.ensures c.if-p-lt1024.true) _ c.question-p.new.t (step-stopped _ c.if-p-lt1024.true)

pair_returns_2 : (t : ℕ) → pair-lts.Need-returns-in_default (pair_claims t) (pair-at t) pair.Post
pair_returns_2 t c =
    let a = c.args in
    let s = take a.n a.s.now in
    right_middle_stop s a.at a.rows a.t.now a.until _ _ c.question-p.new.t (left t c.before.before.before) (sym (ap (middle_kind c.args.until) c.byte_at.ensures) ∙ kind-none _ c.in_default.ensures) _ c.question-p.new.t (step-stopped _ (omega arith))

pair-question_requires_2 : (t : ℕ) → pair-lts.Need-question-q-requires (pair_claims t) (pair-at t) pair.Post
pair-question_requires_2 t c κs =
    let w = c in
    let a = w.args in
    let s = take a.n a.s.now in
    let p = c.question-p.result in
    let r = left t c.before.before.before.before in
    let l : p % 1024 < length s = middle_in s a.at a.rows a.t.now a.until (p % 1024) (p / 1024) c.question-p.new.t r _ (kind t c.before).0 (kind t c.before).1 in
    (omega (arith, w.requires, r.4), (omega arith, w.requires.1.1, omega (arith, w.requires.1, r.6)))

pair_returns_3 : (t : ℕ) → pair-lts.Need-returns-then-q-lt1024 (pair_claims t) (pair-at t) pair.Post
pair_returns_3 t c =
    let a = c.args in
    let s = take a.n a.s.now in
    let p = c.question-p.result in
    let v = c.question-p.new.t in
    right-right-stop s a.at a.rows a.t.now a.until (p % 1024) (p / 1024) v (left t c.before.before.before.before.before.before) _ (kind t c.before.before.before).0 (kind t c.before.before.before).1
    _ c.question-q.new.t (right-stopped (from s (p % 1024 + 1)) s (p % 1024 + 1) (p / 1024) v _ _ c.question-q.ensures c.if-q-lt1024.true) _ c.question-q.new.t (step-stopped _ c.if-q-lt1024.true)

pair-closed_requires : (t : ℕ) → pair-lts.Need-closed-requires (pair_claims t) (pair-at t) pair.Post
pair-closed_requires t c κs =
    let l = left t c.before.before.before.before.before.before.before.before.before in
    let r = right t c.before.before.before in
    let w = c in
    omega (arith, w.requires.1, take_short w.args.n w.args.s.now w.requires.1.1, l.5, l.6, r.5, r.6)

pair_returns_5 : (t : ℕ) → pair-lts.Need-returns (pair_claims t) (pair-at t) pair.Post
pair_returns_5 t c =
    let a = c.args in
    let s = take a.n a.s.now in
    let p = c.question-p.result in
    right-pair s a.at a.rows a.t.now a.until (p % 1024) (p / 1024) c.question-p.new.t (left t c.before.before.before.before.before.before.before.before.before.before) _ (kind t c.before.before.before.before.before.before.before).0 (kind t c.before.before.before.before.before.before.before).1
    _ _ c.question-q.new.t (right t c.before.before.before.before) (omega (arith, c.byte_at-2.ensures)) _ _ c.closed.ensures.1 c.closed.ensures.0

-- A question

question-add-at : (t : ℕ) → question-lts.Need-overflow_add-at (question_claims t) (question-at t) question.Post
question-add-at t c = let w = c.before.before.before in omega (arith, w.requires.1, take_short w.args.n w.args.s.now w.requires.1.1)

question-pair_requires : (t : ℕ) → question-lts.Need-pair-requires (question_claims t) (question-at t) question.Post
question-pair_requires t c κs =
    let w = c in
    let g = bracket-here (take w.args.n w.args.s.now) w.args.at (sym c.byte_at.ensures ∙ c.if-byte_at-eq40.true) in
    (omega (arith, w.requires, g.2), (g.2, w.requires.1.1, omega (arith, w.requires.1)))

question_returns : (t : ℕ) → question-lts.Need-returns-then-byte_at-eq40 (question_claims t) (question-at t) question.Post
question_returns t c =
    let a = c.args in
    let s = take a.n a.s.now in
    let g = bracket-here s a.at (sym c.byte_at.ensures ∙ c.if-byte_at-eq40.true) in
    right-same s a.at (a.at + 1) a.rows a.t.now (from s a.at) (pair_from false s (a.at + 1)) g.0 g.1 (step_of c.pair.result) c.pair.new.t c.pair.ensures

question-atom_requires : (t : ℕ) → question-lts.Need-atom-requires (question_claims t) (question-at t) question.Post
question-atom_requires t c κs =
    let w = c in
    (omega (arith, w.requires), (w.requires.1.0, w.requires.1.1, w.requires.1.2, λ h. c.if-byte_at-eq40.false (c.byte_at.ensures ∙ h)))

question_returns_2 : (t : ℕ) → question-lts.Need-returns (question_claims t) (question-at t) question.Post
question_returns_2 t c = c.atom.ensures

pub +atom_pair_question_spec : {M : Type 1} → statement M
+atom_pair_question_spec =
    close μ-atom μ-pair μ-question
    (λ t. atom-lts.spec (atom_claims t) (atom-at t) atom.Post
    (λ c κs. search rules)
    (atom-add-next t)
    (atom-question_requires t)
    (atom_prefixed_requires t)
    (atom_returns t)
    (atom-location_requires t)
    (atom_returns_2 t)
    (atom-equation_requires t)
    (atom_returns_3 t)
    (λ c κs. search rules)
    (λ c κs. search rules)
    (λ c. search rules)
    (λ c. search rules)
    (atom-add-pair t)
    (atom-pair_requires t)
    (atom_returns_4 t)
    (atom_returns_5 t)
    (atom_returns_6 t)
    (atom_returns_7 t)
    (atom-add-question t)
    (atom-question_requires_2 t)
    (atom_prefixed_requires_2 t)
    (atom_returns_8 t))
    (λ t. pair-lts.spec (pair_claims t) (pair-at t) pair.Post
    (λ c κs. search rules)
    (pair_returns t)
    (λ c κs. search rules)
    (λ c κs. search rules)
    (λ c. search rules)
    (λ c. search rules)
    (pair_returns_2 t)
    (λ c. search rules)
    (pair-question_requires_2 t)
    (pair_returns_3 t)
    (λ c κs. search rules)
    (λ c.
    let a = c.args in
    let s = take a.n a.s.now in
    let p = c.question-p.result in
    right_open_stop s a.at a.rows a.t.now a.until (p % 1024) (p / 1024) c.question-p.new.t (left t c.before.before.before.before.before.before.before.before) _ (kind t c.before.before.before.before.before).0 (kind t c.before.before.before.before.before).1
    _ _ c.question-q.new.t (right t c.before.before) (λ h. omega (arith, c.byte_at-2.ensures, h)) _ c.question-q.new.t (step-stopped _ (omega arith)))
    (λ c. search rules)
    (pair-closed_requires t)
    (pair_returns_5 t))
    (λ t. question-lts.spec (question_claims t) (question-at t) question.Post
    (λ c κs. search rules)
    (question-add-at t)
    (question-pair_requires t)
    (question_returns t)
    (question-atom_requires t)
    (question_returns_2 t))

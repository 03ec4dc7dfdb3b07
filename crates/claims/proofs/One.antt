-- The claims leave no freedom: two replies with their buffers that meet one claim are equal.
-- Assumes nothing.
use Prim.Native.Nat.{ℕ, zero, suc, ◌+◌, ◌*◌, ◌<◌}
use mathlib.Core.Bool.{Bool, true, false}
use mathlib.Core.List.{List, [], ◌∷◌, append_cancel_right}
use mathlib.Core.Logic.{by_cases}
use mathlib.Core.Path.{◌≡◌, refl, sym, ap, ◌∙◌, subst, subst⁻¹}
use native.Mathlib.Decide.{dec_lt}
use native.Mathlib.Omega.{arith}
use lib.Dec.{T}
use lib.ListN.{get_or, take}
use lib.Seq.{get_or-take}
use Rattle.lists.specs.Arrays.{Kept}
use Rattle.lists.proofs.Arrays.{kept-one}
use Rattle.sets.specs.Members.{member, population}
use Rattle.sets.proofs.Words.{word_one}
use Rattle.graphs.specs.Formulas.{Formula}
use Rattle.graphs.specs.Lists.{AtMost}
use Rattle.graphs.specs.Lists.{follow}
use Rattle.graphs.proofs.Dictionary.{at_most_antisym}
use Rattle.classes.specs.Classes.{GivenBack}
use Rattle.classes.proofs.OneGiven.{one-given}
use Rattle.automata.specs.Automaton.{Automaton}
use Rattle.automata.specs.Runs.{Target}
use Rattle.automata.specs.Questions.{Atom}
use Rattle.automata.specs.WellFormed.{well_formed}
use Rattle.automata.specs.Configurations.{classes}
use Rattle.automata.proofs.Reachability.{one-length}
use Rattle.moves.proofs.Taken.{one-taken}
use Rattle.replay.specs.RunForm.{flat_run}
use Rattle.concretization.specs.RunLines.{run_lines}
use Rattle.claims.specs.Files.{ReachBuffers, reach_buffers}
use Rattle.claims.specs.Reachable.{LeastRun, FirstPath, SearchClaim}
use Rattle.claims.specs.Demand.{RunGiven, TargetAnswer, count_of, ReachClaim, FailsWith}
use Rattle.witness.specs.declared.Answer.{Answer}
use Rattle.witness.specs.declared.Answer.TheVariants.{Never, Reached}
use Rattle.std.proofs.Common.{Result, Ok, Err}
use Rattle.refusals.specs.declared.Refusal.{Refusal}
use Rattle.claims.proofs.Least.{last_of, last_snoc}

-- Least steps, first paths, the words and lists of a search

pub one-least : (a : Automaton) (i n m : ℕ) → LeastRun a i n → LeastRun a i m → n ≡ m
one-least a i n m p q = omega (arith, p.least m q.run, q.least n p.run)

pub one-path : (a : Automaton) (i n : ℕ) (xs ys : List ℕ) → FirstPath a i n xs → FirstPath a i n ys → xs ≡ ys
one-path a i n xs ys p q =
    at_most_antisym xs ys (subst (AtMost xs) q.along (p.first q.run)) (subst (AtMost ys) p.along (q.first p.run))

-- a Boolean is known by its being true
same_test : (x y : Bool) → (T x → T y) → (T y → T x) → x ≡ y
same_test true true f g = refl
same_test true false f g = absurd (f tt)
same_test false true f g = absurd (g tt)
same_test false false f g = refl

-- the last link of a path
follow_last : (f : ℕ → ℕ) (k c : ℕ) → last_of 0 (follow f k c) ≡ c
follow_last f zero c = refl
follow_last f (suc k) c = last_snoc 0 (follow f k (f c)) c

last_link : (f g : ℕ → ℕ) (k i : ℕ) → follow f (suc k) i ≡ follow g (suc k) i → f i ≡ g i
last_link f g k i e =
    sym (follow_last f k (f i)) ∙ ap (last_of 0) (append_cancel_right (follow f k (f i)) (follow g k (g i)) (i ∷ []) e) ∙ follow_last g k (g i)

module _ (a : Automaton) (b x y : ReachBuffers) (p : SearchClaim a b x) (q : SearchClaim a b y) where
  same_bit : (i : ℕ) → i < 10784 → member x.words i ≡ member y.words i
  same_bit i h = same_test (member x.words i) (member y.words i) (λ t. (q.marked i h).1 ((p.marked i h).0 t)) (λ t. (p.marked i h).1 ((q.marked i h).0 t))

  same-words : x.words ≡ y.words
  same-words = kept-one 337 b.words x.words y.words p.kept.0 q.kept.0 (λ i h.
      word_one x.words y.words i (p.words i h) (q.words i h) (λ c l. same_bit c (omega arith)))

  -- the links agree where the paths do
  same-link : (i k : ℕ) → i < 10784 → get_or x.least i 0 ≡ k → get_or y.least i 0 ≡ k → follow (λ c. get_or x.links c 0) k i ≡ follow (λ c. get_or y.links c 0) k i
      → get_or x.links i 0 ≡ get_or y.links i 0
  same-link i zero h z z' e = p.start i h z ∙ sym (q.start i h z')
  same-link i (suc k) h z z' e = last_link (λ c. get_or x.links c 0) (λ c. get_or y.links c 0) k i e

  same-entry : (i : ℕ) → i < 10784 → (get_or x.least i 0 ≡ get_or y.least i 0) × (get_or x.links i 0 ≡ get_or y.links i 0)
  same-entry i h = go (member x.words i) refl
    where
      go : (m : Bool) → member x.words i ≡ m → (get_or x.least i 0 ≡ get_or y.least i 0) × (get_or x.links i 0 ≡ get_or y.links i 0)
      go false e =
          let (l, k) = p.unmarked i h (λ t. subst T e t) in
          let (l', k') = q.unmarked i h (λ t. subst T (sym (same_bit i h) ∙ e) t) in
          (l ∙ sym l', k ∙ sym k')
      go true e =
          let t : T (member x.words i) = subst⁻¹ T e tt in
          let u : T (member y.words i) = subst T (same_bit i h) t in
          let n : get_or x.least i 0 ≡ get_or y.least i 0 = one-least a i _ _ (p.fewest i h t) (q.fewest i h u) in
          let path = one-path a i (get_or y.least i 0) _ _ (subst (λ m. FirstPath a i m (follow (λ c. get_or x.links c 0) m i)) n (p.path i h t)) (q.path i h u) in
          (n, same-link i (get_or y.least i 0) h n refl path)

  pub one-search : (x.words ≡ y.words) × (x.least ≡ y.least) × (x.links ≡ y.links)
  one-search = (
    same-words,
    kept-one 10784 b.least x.least y.least p.kept.1 q.kept.1 (λ i h. (same-entry i h).0),
    kept-one 10784 b.links x.links y.links p.kept.2 q.kept.2 (λ i h. (same-entry i h).1),
  )

-- The run that is handed over

-- of one target only one run is, with the same list and lines
pub one-run : (s : List ℕ) (a : Automaton) → T (well_formed a) → (g : Target) (n m : ℕ) (b x y : ReachBuffers) → RunGiven s a g n b x → RunGiven s a g m b y
    → (n ≡ m) × (x.run ≡ y.run) × (x.lines ≡ y.lines)
one-run s a wf g n m b x y p q =
    let len : n ≡ m = sym p.count ∙ one-length a g _ _ _ _ p.taken.shortest q.taken.shortest ∙ q.count in
    let (v, ms) = one-taken a wf 15 g _ _ _ _ p.taken q.taken in
    let front : take (5 + 9 * n) x.run ≡ take (5 + 9 * n) y.run =
    p.held ∙ ap (λ u. flat_run u p.moves) v ∙ ap (flat_run q.contents) ms ∙ sym q.held ∙ ap (λ k. take (5 + 9 * k) y.run) (sym len) in
    let lines : take (12 * suc n) x.lines ≡ take (12 * suc n) y.lines =
    p.printed ∙ ap (λ u. run_lines a u p.moves) v ∙ ap (run_lines a q.contents) ms ∙ sym q.printed ∙ ap (λ k. take (12 * suc k) y.lines) (sym len) in (
      len,
      kept-one (5 + 9 * n) b.run x.run y.run p.kept.0 (subst⁻¹ (λ k. Kept (5 + 9 * k) b.run y.run) len q.kept.0) (λ i h. front_entry (5 + 9 * n) x.run y.run i h front),
      kept-one (12 * suc n) b.lines x.lines y.lines p.kept.1 (subst⁻¹ (λ k. Kept (12 * suc k) b.lines y.lines) len q.kept.1) (λ i h. front_entry (12 * suc n) x.lines y.lines i h lines),
    )
  where
    front_entry : (n : ℕ) (xs ys : List ℕ) (i : ℕ) → i < n → take n xs ≡ take n ys → get_or xs i 0 ≡ get_or ys i 0
    front_entry n xs ys i h e = sym (get_or-take n xs i 0 h) ∙ ap (λ l. get_or l i 0) e ∙ get_or-take n ys i 0 h

-- the reply and all buffers of a call on a target
pub one_reach : (s : List ℕ) (a : Automaton) → T (well_formed a) → (g : Target) (r q : Result Answer Refusal) (b x y : ReachBuffers) → ReachClaim s a g r b x → ReachClaim s a g q b y → (r ≡ q) × (x ≡ y)
one_reach s a wf g r q b x y c d =
    let (w, l, k) = one-search a b x y c.search d.search in
    let n : count_of r ≡ count_of q = c.count ∙ ap (λ ws. population (member ws) 10784) w ∙ sym d.count in
    go r q c.answer d.answer n w l k
  where
    go : (r q : Result Answer Refusal) → TargetAnswer s a g r b x → TargetAnswer s a g q b y → count_of r ≡ count_of q → x.words ≡ y.words → x.least ≡ y.least → x.links ≡ y.links → (r ≡ q) × (x ≡ y)
    go (Ok (Never i)) (Ok (Never j)) (_, u, p) (_, u', p') n w l k = (ap (λ c. Ok (Never c)) n, λ i. reach_buffers (w i) (l i) (k i) ((u ∙ sym u') i) ((p ∙ sym p') i))
    go (Ok (Never i)) (Ok (Reached m j)) (never, _, _) given n w l k = absurd (never _ _ given.taken.shortest.reaches)
    go (Ok (Reached m j)) (Ok (Never i)) given (never, _, _) n w l k = absurd (never _ _ given.taken.shortest.reaches)
    go (Ok (Reached m i)) (Ok (Reached m' j)) p q n w l k =
        let (e, u, v) = one-run s a wf g m m' b x y p q in
        (λ i. Ok (Reached (e i) (n i)), λ i. reach_buffers (w i) (l i) (k i) (u i) (v i))
    go (Ok (Never i)) (Err x) p given n w l k = elim given [ ]
    go (Ok (Reached m j)) (Err x) given q n w l k = elim q [ ]
    go (Err x) r p given n w l k = elim p [ ]

-- The answer to a question

pub one-failing : (a : Automaton) (f : Formula Atom) (k j : ℕ) (u v : List ℕ) → FailsWith a f k u → FailsWith a f j v → (k ≡ j) × (u ≡ v)
one-failing a f k j u v p q =
    let e : k ≡ j = by_cases (dec_lt k j) (λ h. absurd (p.fails (q.smallest u p.start (rw p.class h)))) (λ h. by_cases (dec_lt j k) (λ l. absurd (q.fails (p.smallest v q.start (rw q.class l)))) (λ l. omega arith)) in
    (e, one-given a.constants (get_or (classes a) k []) u v p.given (subst⁻¹ (λ i. GivenBack a.constants (get_or (classes a) i []) v) e q.given))

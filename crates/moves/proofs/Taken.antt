-- The run along the first shortest walk is the one that document 01 takes (`taken`), and only one run is (`one-taken`).
-- Assumes nothing.
use Prim.Native.Nat.{ℕ, ◌+◌, ◌<◌}
use mathlib.Core.List.{List, [], ◌∷◌, ◌++◌, map, append-nil, append_assoc, Memᴰ}
use mathlib.Core.Logic.{⊎_map}
use mathlib.Core.Option.{some}
use mathlib.Core.Path.{◌≡◌, refl, sym, ap, ◌∙◌, subst, subst⁻¹}
use native.Mathlib.Omega.{arith}
use lib.Dec.{T}
use lib.ListN.{length}
use Rattle.graphs.specs.Lists.{AtMost}
use Rattle.graphs.specs.Graph.{In, Edge}
use Rattle.graphs.specs.Search.{Walk, nodes, steps, end, IsWalk, First, Answer}
use Rattle.graphs.specs.Search.Walk.{start, ◌▸◌}
use Rattle.graphs.proofs.Lists.{and_elim, append_inj}
use Rattle.graphs.proofs.Dictionary.{at_most_antisym}
use Rattle.graphs.proofs.Search.{search-nearest}
use Rattle.classes.specs.Classes.{labels, GivenBack}
use Rattle.classes.specs.Contents.{Legal}
use Rattle.classes.proofs.Catalogue.{lists-mem}
use Rattle.classes.proofs.GivenBack.{contents-given}
use Rattle.classes.proofs.OneGiven.{one-given}
use Rattle.automata.specs.Automaton.{Automaton, arity}
use Rattle.automata.specs.Runs.{State, Move, transition_of, is_step, after, permitted, initial, follows, final, is_run, Target, Reaches}
use Rattle.automata.specs.WellFormed.{well_formed, fits_target, Proper, constant_count}
use Rattle.automata.specs.Configurations.{Configuration, conf, number, Related}
use Rattle.automata.specs.ConfigurationGraph.{numbered, rows, starts, targets, Listed}
use Rattle.automata.specs.Answers.{nearest_to}
use Rattle.automata.proofs.Numbering.{numbered-number}
use Rattle.automata.proofs.StepClasses.{makes-few}
use Rattle.automata.proofs.Reachability.{one-length}
use Rattle.automata.proofs.ClassBisimulation.{wf_constants, move-makes, step-proper, initial-proper, conf-listed, node_below, forth, target_agrees, start_agrees}
use Rattle.moves.specs.Moves.{roomy}
use Rattle.moves.specs.Taken.{spelled, Smallest}
use Rattle.moves.specs.PathMoves.{EachSmallest, origin, onward, walk_contents, walk_moves, RunAnswer}
use Rattle.moves.specs.Taken.{states}
use Rattle.moves.specs.Taken.{passed, AllSmallest, Taken}
use Rattle.moves.proofs.PathMoves.{prints}

module _ (a : Automaton) (wf : T (well_formed a)) where
  -- equal numbers are equal configurations
  same-conf : (s t : State) → Proper a s → Proper a t → number a (conf a s) ≡ number a (conf a t) → conf a s ≡ conf a t
  same-conf s t p q e =
      sym (numbered-number a (conf a s) (conf-listed a wf s p)) ∙ ap (numbered a) e ∙ numbered-number a (conf a t) (conf-listed a wf t q)

  step_on : (s : State) (m : Move) → T (is_step a s m) → Proper a (after a m)
  step_on s m h = step-proper a wf s (after a m) (record { move = m; fits = h; ends = refl })

  -- Only one move from a state to a configuration is the smallest

  spelled-one : (s : State) (m m' : Move) → T (is_step a s m) → T (is_step a s m') → spelled m ≡ spelled m' → m ≡ m'
  spelled-one s m m' h h' e =
      let t : m.transition ≡ m'.transition = cc in
      let rest : m.parameters ++ m.valuation ≡ m'.parameters ++ m'.valuation = cc in
      let few = makes-few a (transition_of a m.transition) s.valuation m.parameters m.valuation (move-makes a wf s m h) in
      let few' = makes-few a (transition_of a m'.transition) s.valuation m'.parameters m'.valuation (move-makes a wf s m' h') in
      let same : length m.parameters ≡ length m'.parameters = few ∙ ap (λ i. arity a (transition_of a i)) t ∙ sym few' in
      let (p, w) = append_inj m.parameters m'.parameters m.valuation m'.valuation same rest in
      λ i. record { transition = t i; parameters = p i; valuation = w i }

  pub one-smallest : (n : ℕ) (s : State) (d : Configuration) (m m' : Move) → Smallest n a s d m → Smallest n a s d m' → m ≡ m'
  one-smallest n s d m m' p q =
      spelled-one s m m' p.leads.step q.leads.step (at_most_antisym (spelled m) (spelled m') (p.least m' q.leads) (q.least m p.leads))

  one-path : (n : ℕ) (s : State) (ms ns : List Move) → AllSmallest n a s ms → AllSmallest n a s ns
      → map (λ x. number a (conf a x)) (states a s ms) ≡ map (λ x. number a (conf a x)) (states a s ns) → ms ≡ ns
  one-path n s [] [] p q e = refl
  one-path n s [] (m ∷ ns) p q e = let z : ◌≡◌ {A = ℕ} 0 1 = by ns e in absurd (omega arith)
    where
      by : (ns : List Move) → number a (conf a s) ∷ [] ≡ number a (conf a s) ∷ map (λ x. number a (conf a x)) (states a (after a m) ns) → ◌≡◌ {A = ℕ} 0 1
      by [] e = cc
      by (x ∷ ns) e = cc
  one-path n s (m ∷ ms) [] p q e = let z : ◌≡◌ {A = ℕ} 0 1 = by ms e in absurd (omega arith)
    where
      by : (ms : List Move) → number a (conf a s) ∷ map (λ x. number a (conf a x)) (states a (after a m) ms) ≡ number a (conf a s) ∷ [] → ◌≡◌ {A = ℕ} 0 1
      by [] e = cc
      by (x ∷ ms) e = cc
  one-path n s (m ∷ ms) (m' ∷ ns) (p, ps) (q, qs) e =
      let rest : map (λ x. number a (conf a x)) (states a (after a m) ms) ≡ map (λ x. number a (conf a x)) (states a (after a m') ns) = cc in
      let here : number a (conf a (after a m)) ≡ number a (conf a (after a m')) = head (after a m) ms (after a m') ns rest in
      let same = same-conf (after a m) (after a m') (step_on s m p.leads.step) (step_on s m' q.leads.step) here in
      let one : m' ≡ m = one-smallest n s (conf a (after a m')) m' m q (subst (λ d. Smallest n a s d m) same p) in
      let more = one-path n (after a m) ms ns ps (subst (λ x. AllSmallest n a (after a x) ns) one qs) (rest ∙ ap (λ x. map (λ y. number a (conf a y)) (states a (after a x) ns)) one) in
      cc
    where
      head : (x : State) (ms : List Move) (y : State) (ns : List Move) → map (λ x. number a (conf a x)) (states a x ms) ≡ map (λ x. number a (conf a x)) (states a y ns)
          → number a (conf a x) ≡ number a (conf a y)
      head x [] y [] e = cc
      head x [] y (n ∷ ns) e = cc
      head x (m ∷ ms) y [] e = cc
      head x (m ∷ ms) y (n ∷ ns) e = cc

  -- The run that is taken

  pub one-taken : (n : ℕ) (g : Target) (v w : List ℕ) (ms ns : List Move) → Taken n a g v ms → Taken n a g w ns → (v ≡ w) × (ms ≡ ns)
  one-taken n g v w ms ns p q =
      let len = one-length a g v w ms ns p.shortest q.shortest in
      let numbers : passed a v ms ≡ passed a w ns = at_most_antisym (passed a v ms) (passed a w ns) (p.first w ns q.shortest.reaches (sym len)) (q.first v ms p.shortest.reaches len) in
      let (ok, _) = and_elim (permitted a v) (follows a (initial a v) ms) p.shortest.reaches.run in
      let (ok', _) = and_elim (permitted a w) (follows a (initial a w) ns) q.shortest.reaches.run in
      let here : number a (conf a (initial a v)) ≡ number a (conf a (initial a w)) = head v ms w ns numbers in
      let same = same-conf (initial a v) (initial a w) (initial-proper a wf v ok) (initial-proper a wf w ok') here in
      let class : labels a.constants v ≡ labels a.constants w = ap (λ (c : Configuration). c.class) same in
      let start : w ≡ v = one-given a.constants (labels a.constants w) w v q.given (subst (λ k. GivenBack a.constants k v) class p.given) in
      (sym start, one-path n (initial a v) ms ns p.moves (subst (λ u. AllSmallest n a (initial a u) ns) start q.moves) (numbers ∙ ap (λ u. passed a u ns) start))
    where
      head : (v : List ℕ) (ms : List Move) (w : List ℕ) (ns : List Move) → passed a v ms ≡ passed a w ns → number a (conf a (initial a v)) ≡ number a (conf a (initial a w))
      head v [] w [] e = cc
      head v [] w (n ∷ ns) e = cc
      head v (m ∷ ms) w [] e = cc
      head v (m ∷ ms) w (n ∷ ns) e = cc

  -- A run as a walk through its configurations

  abbrev later : State → List Move → List ℕ
  later s [] = []
  later s (m ∷ ms) = number a (conf a (after a m)) ∷ later (after a m) ms

  later-passed : (s : State) (ms : List Move) → map (λ x. number a (conf a x)) (states a s ms) ≡ number a (conf a s) ∷ later s ms
  later-passed s [] = refl
  later-passed s (m ∷ ms) = ap (λ l. number a (conf a s) ∷ l) (later-passed (after a m) ms)

  abbrev walk_on : Walk → List ℕ → Walk
  walk_on p [] = p
  walk_on p (j ∷ js) = walk_on (p ▸ j) js

  record Walks (s : State) (ms : List Move) (p q : Walk) : Type 0 where
    is : IsWalk (rows a) (starts a) q
    ends : Related a (final a s ms) (end q)
    through : nodes q ≡ nodes p ++ later s ms
    count : steps q ≡ steps p + length ms

  walks : (s : State) (ms : List Move) (p : Walk) → IsWalk (rows a) (starts a) p → Related a s (end p) → T (follows a s ms) → Walks s ms p (walk_on p (later s ms))
  walks s [] p is b f = record { is = is; ends = b; through = sym (append-nil (nodes p)); count = omega arith }
  walks s (m ∷ ms) p is b f =
      let (one, more) = and_elim (is_step a s m) (follows a (after a m) ms) f in
      let (j, edge, c) = forth a wf s (after a m) (end p) b (record { move = m; fits = one; ends = refl }) in
      let j' : ℕ = number a (conf a (after a m)) in
      let u = walks (after a m) ms (p ▸ j') (is, subst⁻¹ (Edge (rows a) (end p)) c.named edge) (record { proper = c.proper; named = refl }) more in
      record { is = u.is; ends = u.ends; through = u.through ∙ append_assoc (nodes p) (j' ∷ []) (later (after a m) ms); count = omega (arith, u.count) }

  -- a run, as a walk of as many steps through its configurations
  pub walk_of : (v : List ℕ) (ms : List Move) → T (is_run a v ms)
      → (q : Walk) × IsWalk (rows a) (starts a) q × Related a (final a (initial a v) ms) (end q) × (nodes q ≡ passed a v ms) × (steps q ≡ length ms)
  walk_of v ms r =
      let (ok, f) = and_elim (permitted a v) (follows a (initial a v) ms) r in
      let s : State = initial a v in
      let b : Related a s (number a (conf a s)) = record { proper = initial-proper a wf v ok; named = refl } in
      let low : number a (conf a s) < length (rows a) = node_below a wf s (number a (conf a s)) b in
      let u = walks s ms (start (number a (conf a s))) (low, (start_agrees a wf s (number a (conf a s)) b).0 (ok, refl)) b f in
      (walk_on (start (number a (conf a s))) (later s ms), u.is, u.ends, u.through ∙ sym (later-passed s ms), omega (arith, u.count))

  -- a run that reaches the target, as a walk to a node of the target
  reaching_walk : (g : Target) → T (fits_target a g) → (v : List ℕ) (ms : List Move) → Reaches a g v ms
      → (q : Walk) × IsWalk (rows a) (starts a) q × In (targets a g) (end q) × (nodes q ≡ passed a v ms) × (steps q ≡ length ms)
  reaching_walk g fits v ms r =
      let (q, is, ends, through, count) = walk_of v ms r.run in
      (q, is, (target_agrees a wf g fits (final a (initial a v) ms) (end q) ends).0 r.target, through, count)

  all-smallest : (n : ℕ) (s : State) (ms : List Move) (ds : List Configuration) → EachSmallest n a s ms ds → AllSmallest n a s ms
  all-smallest n s [] [] e = tt
  all-smallest n s [] (d ∷ ds) e = absurd e
  all-smallest n s (m ∷ ms) [] e = absurd e
  all-smallest n s (m ∷ ms) (d ∷ ds) (p, e) = (subst⁻¹ (λ c. Smallest n a s c m) p.leads.ends p, all-smallest n (after a m) ms ds e)

  first-state : (s : State) (ms : List Move) → Memᴰ s (states a s ms)
  first-state s [] = Memᴰ.head refl
  first-state s (m ∷ ms) = Memᴰ.head refl

  first-conf : (s : State) (ms : List Move) (c : Configuration) (ds : List Configuration) → map (conf a) (states a s ms) ≡ c ∷ ds → conf a s ≡ c
  first-conf s [] c ds e = cc
  first-conf s (m ∷ ms) c ds e = cc

  -- the run along the first shortest walk to a target is the one that is taken
  pub taken : (n : ℕ) → T (roomy n a) → (g : Target) → T (fits_target a g) → (w : Walk) → nearest_to a g ≡ some w → Taken n a g (walk_contents a w) (walk_moves n a w)
  taken n room g fits w e =
      let (short, count, through, along) = subst (RunAnswer n a g) e (prints n a wf room g fits) in
      let f : First (rows a) (starts a) (In (targets a g)) w = subst (Answer (rows a) (starts a) (targets a g)) e (search-nearest (rows a) (starts a) (targets a g)) in
      let v : List ℕ = walk_contents a w in
      let s : State = initial a v in
      let c : Configuration = numbered a (origin w) in
      let same : conf a s ≡ c = first-conf s (walk_moves n a w) c (map (numbered a) (onward w)) along.configurations in
      let class : labels a.constants v ≡ c.class = ap (λ (d : Configuration). d.class) same in
      let (ok, _) = and_elim (permitted a v) (follows a s (walk_moves n a w)) along.run in
      let listed : Listed a c = subst (Listed a) same (conf-listed a wf s (initial-proper a wf v ok)) in
      let legal : Legal (constant_count a) c.class = (lists-mem a.registers (constant_count a) c.class listed.class).0 in
      record {
        shortest = short;
        first = λ u ns r len.
            let (q, is, goal, walked, m) = reaching_walk g fits u ns r in
            subst (λ l. AtMost l (passed a u ns)) (sym through) (subst (AtMost (nodes w)) walked (⊎_map (ap nodes) (λ d. d) (f.first q is goal (omega (arith, m, len, count)))));
        given = subst⁻¹ (λ k. GivenBack a.constants k v) class (contents-given a.constants c.class (wf_constants a wf) legal);
        small = along.identifiers s (first-state s (walk_moves n a w));
        moves = all-smallest n s (walk_moves n a w) (map (numbered a) (onward w)) along.smallest;
      }

-- The run along a path of configurations, and along the walk that the search finds.
-- Assumes nothing.
use Prim.Native.Nat.{ℕ, suc, ◌+◌, ◌≤◌, ◌<◌}
use mathlib.Core.Bool.{false}
use mathlib.Core.List.Memᴰ
use mathlib.Core.List.{List, [], ◌∷◌, ◌++◌, map, map-append, map-map, Memᴰ}
use mathlib.Core.Logic.{◌⊎◌, inl, inr, ⊎_elim}
use mathlib.Core.Option.{Option, none, some}
use mathlib.Core.Path.{◌≡◌, refl, sym, ap, ◌∙◌, subst, subst⁻¹}
use native.Mathlib.Omega.{arith}
use lib.Dec.{T, eqb, eqb→eq, leb→le}
use lib.Ieee.Fits.{and_i, and_l, and_r}
use lib.ListN.{length, get_or, length-map, length-append}
use Rattle.graphs.specs.Lists.{all_of}
use Rattle.graphs.specs.Graph.{Edge}
use Rattle.graphs.specs.Search.{Walk, end, steps, nodes, IsWalk, Answer}
use Rattle.graphs.specs.Search.Walk.{start, ◌▸◌}
use Rattle.graphs.proofs.Search.{search-nearest}
use Rattle.graphs.proofs.Lists.{get_d_map}
use Rattle.classes.specs.Contents.{Legal, contents}
use Rattle.classes.proofs.Contents.{contents-labels, contents-length}
use Rattle.classes.proofs.Identifiers.{identifiers_every}
use Rattle.classes.proofs.Catalogue.{lists-mem}
use Rattle.automata.specs.Automaton.{Automaton, meets}
use Rattle.automata.specs.Runs.{State, Move, is_step, after, permitted, initial, follows, final, Target, hits}
use Rattle.automata.specs.WellFormed.{well_formed, Proper, constant_count, fits_target}
use Rattle.automata.specs.Configurations.{Configuration, conf, configuration, number, Related}
use Rattle.automata.specs.ConfigurationGraph.{marks, step_conf, configurations, numbered, rows, starts, start_conf, targets, Listed}
use Rattle.automata.specs.Answers.{nearest_to, Verdict}
use Rattle.automata.proofs.Numbering.{configuration-path, number-numbered, rows-length}
use Rattle.automata.proofs.ClassBisimulation.{wf_constants, wf_start, step-proper, permitted_agrees, target_agrees}
use Rattle.automata.proofs.Reachability.{run-proper, decides}
use Rattle.moves.specs.Moves.{smallest, roomy}
use Rattle.moves.specs.Taken.{Pooled}
use Rattle.moves.specs.PathMoves.{through, EachSmallest, Trail, start_contents, moves_along, RunAlong, origin, onward, walk_contents, walk_moves, RunAnswer}
use Rattle.moves.specs.Taken.{states}
use Rattle.moves.proofs.Smallest.{smallest-found}

-- the configuration that a path ends in
abbrev tip : Configuration → List Configuration → Configuration
tip c [] = c
tip c (d ∷ ds) = tip d ds

-- What moves that are each the smallest have in common

module _ (n : ℕ) (a : Automaton) where
  each-follows : (s : State) (ms : List Move) (ds : List Configuration) → EachSmallest n a s ms ds → T (follows a s ms)
  each-follows s [] [] e = tt
  each-follows s [] (d ∷ ds) e = absurd e
  each-follows s (m ∷ ms) [] e = absurd e
  each-follows s (m ∷ ms) (d ∷ ds) (h, e) = and_i (is_step a s m) (follows a (after a m) ms) h.leads.step (each-follows (after a m) ms ds e)

  each-count : (s : State) (ms : List Move) (ds : List Configuration) → EachSmallest n a s ms ds → length ms ≡ length ds
  each-count s [] [] e = refl
  each-count s [] (d ∷ ds) e = absurd e
  each-count s (m ∷ ms) [] e = absurd e
  each-count s (m ∷ ms) (d ∷ ds) (h, e) = ap suc (each-count (after a m) ms ds e)

  each-configurations : (s : State) (ms : List Move) (ds : List Configuration) → EachSmallest n a s ms ds → map (conf a) (states a s ms) ≡ conf a s ∷ ds
  each-configurations s [] [] e = refl
  each-configurations s [] (d ∷ ds) e = absurd e
  each-configurations s (m ∷ ms) [] e = absurd e
  each-configurations s (m ∷ ms) (d ∷ ds) (h, e) = ap (λ l. conf a s ∷ l) (each-configurations (after a m) ms ds e ∙ ap (λ c. c ∷ ds) h.leads.ends)

  each-identifiers : (s : State) (ms : List Move) (ds : List Configuration) → Pooled n a.constants s.valuation → EachSmallest n a s ms ds
      → (x : State) → Memᴰ x (states a s ms) → Pooled n a.constants x.valuation
  each-identifiers s [] [] p e x m = ⊎_elim (λ q. subst⁻¹ (λ y. Pooled n a.constants y.valuation) q p) (λ q. elim q [ ]) (Memᴰ.cases_cons m)
  each-identifiers s [] (d ∷ ds) p e x m = absurd e
  each-identifiers s (m ∷ ms) [] p e x o = absurd e
  each-identifiers s (m ∷ ms) (d ∷ ds) p (h, e) x o =
      ⊎_elim (λ q. subst⁻¹ (λ y. Pooled n a.constants y.valuation) q p) (each-identifiers (after a m) ms ds h.valuation e x) (Memᴰ.cases_cons o)

  each-parameters : (s : State) (ms : List Move) (ds : List Configuration) → EachSmallest n a s ms ds → (x : Move) → Memᴰ x ms → Pooled n a.constants x.parameters
  each-parameters s [] ds e x m = elim m [ ]
  each-parameters s (m ∷ ms) [] e x o = absurd e
  each-parameters s (m ∷ ms) (d ∷ ds) (h, e) x o =
      ⊎_elim (λ q. subst⁻¹ (λ y. Pooled n a.constants y.parameters) q h.parameters) (each-parameters (after a m) ms ds e x) (Memᴰ.cases_cons o)

  each_last : (s : State) (ms : List Move) (ds : List Configuration) → EachSmallest n a s ms ds → conf a (final a s ms) ≡ tip (conf a s) ds
  each_last s [] [] e = refl
  each_last s [] (d ∷ ds) e = absurd e
  each_last s (m ∷ ms) [] e = absurd e
  each_last s (m ∷ ms) (d ∷ ds) (h, e) = each_last (after a m) ms ds e ∙ ap (λ c. tip c ds) h.leads.ends

-- Along a path

module _ (n : ℕ) (a : Automaton) (wf : T (well_formed a)) (room : T (roomy n a)) where
  pub through-smallest : (s : State) (ds : List Configuration) → Proper a s → Pooled n a.constants s.valuation → Trail a (conf a s) ds → EachSmallest n a s (through n a s ds) ds
  through-smallest s [] p q h = tt
  through-smallest s (d ∷ ds) p q (listed, step, rest) =
      let (m, e, is) = smallest-found n a wf room s p q d listed step in
      let proper : Proper a (after a m) = step-proper a wf s (after a m) (record { move = m; fits = is.leads.step; ends = refl }) in
      let more = through-smallest (after a m) ds proper is.valuation (subst⁻¹ (λ c. Trail a c ds) is.leads.ends rest) in
      subst⁻¹ (λ o. EachSmallest n a s (elim o [ none ↦ [] | some m ↦ m ∷ through n a (after a m) ds ]) (d ∷ ds)) e (is, more)

  -- the contents given back for a class are constants or small
  contents-pooled : (k : List ℕ) → Legal (constant_count a) k → length k ≡ a.registers → Pooled n a.constants (contents a.constants k)
  contents-pooled k legal wide =
      let h : constant_count a + a.registers ≤ n = leb→le (constant_count a + a.registers) n (search and_l) in
      identifiers_every (λ x. Memᴰ x a.constants ⊎ (x < n)) a.constants k (λ y m. inl m) (λ y u. inr (omega arith)) (wf_constants a wf) legal

  start-conf : (c : Configuration) → Listed a c → T (start_conf a c) → conf a (initial a (start_contents a c)) ≡ c
  start-conf c listed ok =
      let legal = (lists-mem a.registers (constant_count a) c.class listed.class).0 in
      let at : c.location ≡ a.start = eqb→eq c.location a.start (and_l (eqb c.location a.start) (all_of (meets (marks a) c.class []) a.starting) ok) in
      configuration-path (conf a (initial a (start_contents a c))) c (sym at) (contents-labels a.constants c.class (wf_constants a wf) legal)

  -- a path that begins at a start: the run along it
  pub run_along : (c : Configuration) (ds : List Configuration) → Listed a c → T (start_conf a c) → Trail a c ds → RunAlong n a (start_contents a c) (moves_along n a c ds) c ds
  run_along c ds listed ok path =
      let v : List ℕ = start_contents a c in
      let s : State = initial a v in
      let ms : List Move = moves_along n a c ds in
      let (legal, wide) = lists-mem a.registers (constant_count a) c.class listed.class in
      let proper : Proper a s = record { location = wf_start a wf; wide = contents-length a.constants c.class ∙ wide } in
      let same : conf a s ≡ c = start-conf c listed ok in
      let small : Pooled n a.constants v = contents-pooled c.class legal wide in
      let each : EachSmallest n a s ms ds = through-smallest s ds proper small (subst⁻¹ (λ d. Trail a d ds) same path) in
      let permit : T (permitted a v) = and_r (eqb a.start a.start) (permitted a v) (subst T (permitted_agrees a wf s proper) (subst⁻¹ (λ d. T (start_conf a d)) same ok)) in
      record {
        run = and_i (permitted a v) (follows a s ms) permit (each-follows n a s ms ds each);
        configurations = each-configurations n a s ms ds each ∙ ap (λ d. d ∷ ds) same;
        count = each-count n a s ms ds each;
        smallest = each;
        identifiers = each-identifiers n a s ms ds small each;
        parameters = each-parameters n a s ms ds each;
      }

  -- Along a walk of the graph

  tip_snoc : (c : Configuration) (ds : List Configuration) (d : Configuration) → tip c (ds ++ (d ∷ [])) ≡ d
  tip_snoc c [] d = refl
  tip_snoc c (e ∷ ds) d = tip_snoc e ds d

  path_snoc : (c : Configuration) (ds : List Configuration) (d : Configuration) → Trail a c ds → Listed a d → T (step_conf a (tip c ds) d) → Trail a c (ds ++ (d ∷ []))
  path_snoc c [] d p l st = (l, st, tt)
  path_snoc c (e ∷ ds) d (le, se, p) l st = (le, se, path_snoc e ds d p l st)

  -- an edge of the graph is a step of its configurations
  edge_step : (i j : ℕ) → i < length (rows a) → Edge (rows a) i j → T (step_conf a (numbered a i) (numbered a j))
  edge_step i j h (k, e) =
      let none : Configuration = configuration 0 [] in
      let row = get_d_map (λ c. map (step_conf a c) (configurations a)) (configurations a) i none [] (rw (rows-length a) at h) in
      let cell = get_d_map (step_conf a (numbered a i)) (configurations a) j none false (rw (rows-length a) at k) in
      subst T (ap (λ r. get_or r j false) row ∙ cell) e

  -- a walk from a start as a path
  record Walked (w : Walk) : Type 0 where
    begins : Listed a (numbered a (origin w))
    starts_there : T (start_conf a (numbered a (origin w)))
    path : Trail a (numbered a (origin w)) (map (numbered a) (onward w))
    ends : tip (numbered a (origin w)) (map (numbered a) (onward w)) ≡ numbered a (end w)
    below : end w < length (rows a)
    onwards : length (onward w) ≡ steps w
    all-nodes : nodes w ≡ origin w ∷ onward w
    named : map (λ i. number a (numbered a i)) (nodes w) ≡ nodes w

  walked : (w : Walk) → IsWalk (rows a) (starts a) w → Walked w
  walked (start i) (h, k) =
      let below = rw (rows-length a) at h in
      record {
        begins = (number-numbered a i below).0;
        starts_there = subst T (get_d_map (start_conf a) (configurations a) i (configuration 0 []) false below) k;
        path = tt;
        ends = refl;
        below = h;
        onwards = refl;
        all-nodes = refl;
        named = ap (λ k. k ∷ []) (number-numbered a i below).1;
      }
  walked (p ▸ j) (is, (h, k)) =
      let u = walked p is in
      let e : map (numbered a) (onward p ++ (j ∷ [])) ≡ map (numbered a) (onward p) ++ (numbered a j ∷ []) = map-append (numbered a) (onward p) (j ∷ []) in
      record {
        begins = u.begins;
        starts_there = u.starts_there;
        path = subst⁻¹ (Trail a (numbered a (origin p))) e (path_snoc (numbered a (origin p)) (map (numbered a) (onward p)) (numbered a j) u.path
            (number-numbered a j (rw (rows-length a) at h)).0 (subst⁻¹ (λ c. T (step_conf a c (numbered a j))) u.ends (edge_step (end p) j u.below (h, k))));
        ends = ap (tip (numbered a (origin p))) e ∙ tip_snoc (numbered a (origin p)) (map (numbered a) (onward p)) (numbered a j);
        below = h;
        onwards = omega (arith, length-append (onward p) (j ∷ []), u.onwards);
        all-nodes = ap (λ l. l ++ (j ∷ [])) u.all-nodes;
        named = cc (map-append (λ i. number a (numbered a i)) (nodes p) (j ∷ []), u.named, (number-numbered a j (rw (rows-length a) at h)).1);
      }

  pub run-walk : (w : Walk) → IsWalk (rows a) (starts a) w → RunAlong n a (walk_contents a w) (walk_moves n a w) (numbered a (origin w)) (map (numbered a) (onward w))
  run-walk w is = let u = walked w is in run_along (numbered a (origin w)) (map (numbered a) (onward w)) u.begins u.starts_there u.path

  pub walk-count : (w : Walk) → IsWalk (rows a) (starts a) w → length (walk_moves n a w) ≡ steps w
  walk-count w is = (run-walk w is).count ∙ length-map (onward w) (numbered a) ∙ (walked w is).onwards

  -- the configurations of its states have just the walk's numbers
  pub walk-nodes : (w : Walk) → IsWalk (rows a) (starts a) w
      → map (λ s. number a (conf a s)) (states a (initial a (walk_contents a w)) (walk_moves n a w)) ≡ nodes w
  walk-nodes w is =
      let u = walked w is in
      let ss : List State = states a (initial a (walk_contents a w)) (walk_moves n a w) in
      cc (
        map-map (number a) (conf a) ss,
        (run-walk w is).configurations,
        map-map (number a) (numbered a) (origin w ∷ onward w),
        u.all-nodes,
        u.named,
      )

  -- it ends in the configuration of the walk's last node
  walk_end : (w : Walk) → IsWalk (rows a) (starts a) w → Related a (final a (initial a (walk_contents a w)) (walk_moves n a w)) (end w)
  walk_end w is =
      let u = walked w is in
      let r = run-walk w is in
      let s : State = initial a (walk_contents a w) in
      record {
        proper = run-proper a wf (walk_contents a w) (walk_moves n a w) r.run;
        named = ap (number a) (each_last n a s (walk_moves n a w) (map (numbered a) (onward w)) r.smallest ∙ ap (λ c. tip c (map (numbered a) (onward w))) (start-conf (numbered a (origin w)) u.begins u.starts_there) ∙ u.ends) ∙ (number-numbered a (end w) (rw (rows-length a) at u.below)).1;
      }

  -- the answer for a target
  pub prints : (g : Target) → T (fits_target a g) → RunAnswer n a g (nearest_to a g)
  prints g fits = go (nearest_to a g) (decides a wf g fits) (search-nearest (rows a) (starts a) (targets a g))
    where
      go : (o : Option Walk) → Verdict a g o → Answer (rows a) (starts a) (targets a g) o → RunAnswer n a g o
      go none never _ = never
      go (some w) (v, ms, short, len) f =
          let is = f.walk in
          let r = run-walk w is in
          let e = walk-count w is in
          let hit : T (hits a g (final a (initial a (walk_contents a w)) (walk_moves n a w))) = (target_agrees a wf g fits _ (end w) (walk_end w is)).1 f.goal in (
            record { reaches = record { run = r.run; target = hit }; least = λ u ns h. omega (arith, short.least u ns h) },
            e,
            walk-nodes w is,
            r,
          )

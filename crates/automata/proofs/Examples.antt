-- A claim that passes its test is true, so all examples are.
-- Assumes nothing.
use Prim.Native.Nat.{ℕ}
use mathlib.Core.Bool.{◌&&◌}
use mathlib.Core.List.Memᴰ
use mathlib.Core.List.{List, [], ◌∷◌, Memᴰ}
use mathlib.Core.Option.{Option, none, some}
use mathlib.Core.Path.{◌≡◌, refl, sym, ap, ◌∙◌, subst, subst⁻¹}
use native.Mathlib.Omega.{arith}
use lib.Dec.{T, eqb, eqb→eq}
use lib.Ieee.Fits.{and_l, and_r}
use lib.ListN.{length, get_or, length-map}
use Rattle.graphs.specs.Lists.{eq_list, select}
use Rattle.graphs.specs.Formulas.{Formula}
use Rattle.graphs.specs.Search.{Walk, steps}
use Rattle.graphs.proofs.Lists.{and_elim, all_of-mem, eq_list→eq, get_or-mem, mem-select, select-mem}
use Rattle.classes.specs.Classes.{labels, lists, index}
use Rattle.classes.specs.Contents.{contents}
use Rattle.classes.specs.Renaming.{Representatives}
use Rattle.classes.specs.Matrix.{matrix}
use Rattle.classes.specs.MatrixClasses.{class_of_matrix, ClassAnswer}
use Rattle.classes.proofs.Labels.{labels-class}
use Rattle.classes.proofs.Catalogue.{lists-mem, lists_ascending, index-get_or}
use Rattle.classes.proofs.Contents.{representatives, contents-labels, contents-length}
use Rattle.classes.proofs.Matrices.{class_of-matrix}
use Rattle.automata.specs.Automaton.{Automaton}
use Rattle.automata.specs.Runs.{State, Move, Target, Shortest, Never, initial, is_run, final, hits}
use Rattle.automata.specs.Questions.{Atom, HoldsAtStarts}
use Rattle.automata.specs.WellFormed.{well_formed, Proper, constant_count}
use Rattle.automata.specs.Configurations.{Configuration, configuration, conf, classes}
use Rattle.automata.specs.ConfigurationGraph.{step_conf, configurations}
use Rattle.automata.specs.Answers.{nearest_to, Verdict, failing, Reply}
use Rattle.automata.specs.Examples.{Claim, Means, check, examples, state, is_none, is_some, takes, eq_configurations}
use Rattle.automata.specs.Examples.Claim.{class_count, class_list, no_class, successors, shortest, never, holds, fails}
use Rattle.automata.proofs.Questions.{replies}
use Rattle.automata.proofs.Numbering.{configuration-path, listed-mem, mem-listed}
use Rattle.automata.proofs.ClassBisimulation.{wf_constants, conf-listed, step-proper, step-forth, step_back}
use Rattle.automata.proofs.Reachability.{decides}
use Rattle.automata.proofs.ExamplesPass.{passes}

eq_configurations→eq : (cs ds : List Configuration) → T (eq_configurations cs ds) → cs ≡ ds
eq_configurations→eq [] [] t = refl
eq_configurations→eq (c ∷ cs) (d ∷ ds) t =
    let (h, rest) = and_elim (eqb c.location d.location && eq_list c.class d.class) (eq_configurations cs ds) t in
    let (l, k) = and_elim (eqb c.location d.location) (eq_list c.class d.class) h in
    let same : c ≡ d = configuration-path c d (eqb→eq c.location d.location l) (eq_list→eq c.class d.class k) in
    cc (same, eq_configurations→eq cs ds rest)
eq_configurations→eq [] (d ∷ ds) t = elim t [ ]
eq_configurations→eq (c ∷ cs) [] t = elim t [ ]

no-class : (n c : ℕ) (m : List ℕ) → T (is_none (class_of_matrix n c m)) → Means (no_class n c m)
no-class n c m t cs d e = go (class_of_matrix n c m) t (subst (λ b. ClassAnswer cs n m (class_of_matrix n b m)) e (class_of-matrix cs n m d))
  where
    go : (o : Option (List ℕ)) → T (is_none o) → ClassAnswer cs n m o → (v : List ℕ) → length v ≡ n → matrix cs v ≡ m → ⊥
    go none t h = h
    go (some k) t h = absurd t

module _ (a : Automaton) (wf : T (well_formed a)) where
  exact-successors : (s : State) (ds : List Configuration) → Proper a s → select (step_conf a (conf a s)) (configurations a) ≡ ds → Means (successors a s ds)
  exact-successors s ds p e u (π, fixed, turned) d =
      let v : State = state s.location u in
      let wide : length u ≡ a.registers = ap length (sym turned) ∙ length-map s.valuation π.to ∙ p.wide in
      let q : Proper a v = record { location = p.location; wide = wide } in
      let same : conf a s ≡ conf a v = ap (configuration s.location) ((labels-class a.constants s.valuation u).1 (π, fixed, turned)) in (
        (λ (s', st, c).
            let listed = listed-mem a (conf a s') (conf-listed a wf s' (step-proper a wf v s' st)) in
            let passes = subst⁻¹ (λ x. T (step_conf a x (conf a s'))) same (step-forth a wf v s' q st) in
            subst (Memᴰ d) e (Memᴰ.cast (sym c) (mem-select (step_conf a (conf a s)) (configurations a) listed passes))),
        (λ m.
            let (listed, passes) = select-mem (step_conf a (conf a s)) (configurations a) (subst⁻¹ (Memᴰ d) e m) in
            step_back a wf v d q (mem-listed a d listed).class (subst (λ x. T (step_conf a x d)) same passes)),
      )

  shortest-run : (g : Target) (n : ℕ) (v : List ℕ) (ms : List Move) → T (is_run a v ms) → T (hits a g (final a (initial a v) ms)) → length ms ≡ n
      → (o : Option Walk) → Verdict a g o → T (takes n o) → Shortest a g v ms
  shortest-run g n v ms run hit e none verdict t = absurd t
  shortest-run g n v ms run hit e (some w) (v', ms', short, k) t = record {
    reaches = record { run = run; target = hit };
    least = λ u ns r. omega (arith, short.least u ns r, eqb→eq (steps w) n t);
  }

  never-reached : (g : Target) (o : Option Walk) → Verdict a g o → T (is_none o) → Never a g
  never-reached g none verdict t = verdict
  never-reached g (some w) verdict t = absurd t

  holds_everywhere : (f : Formula Atom) (o : Option ℕ) → Reply a f o → T (is_none o) → HoldsAtStarts a f
  holds_everywhere f none reply t = reply
  holds_everywhere f (some k) reply t = absurd t

  fails_somewhere : (f : Formula Atom) (o : Option ℕ) → Reply a f o → T (is_some o) → Means (fails a f)
  fails_somewhere f none reply t = absurd t
  fails_somewhere f (some k) (below, bad, _) t =
      let l : List ℕ = get_or (classes a) k [] in
      let (legal, wide) = lists-mem a.registers (constant_count a) l (get_or-mem (classes a) k [] below) in
      let v : List ℕ = contents a.constants l in
      let class : labels a.constants v ≡ l = contents-labels a.constants l (wf_constants a wf) legal in
      let (ok, no-hold) = bad v (contents-length a.constants l ∙ wide)
      (ap (index (classes a)) class ∙ index-get_or (classes a) k (lists_ascending a.registers (constant_count a)) below) in
      (v, ok, no-hold)

pub sound : (c : Claim) → T (check c) → Means c
sound (class_count n c total) t = λ cs d e. subst (Representatives cs n) (ap (λ b. length (lists n b)) e ∙ eqb→eq (length (lists n c)) total t) (representatives cs n d)
sound (class_list cs v k) t = eq_list→eq (labels cs v) k t
sound (no_class n c m) t = no-class n c m t
sound (successors a s ds) t =
    exact-successors a (search (and_l, and_r)) s ds
    (record { location = search (and_l, and_r); wide = eqb→eq (length s.valuation) a.registers (search (and_l, and_r)) })
    (eq_configurations→eq (select (step_conf a (conf a s)) (configurations a)) ds (search (and_l, and_r)))
sound (shortest a g n v ms) t =
    let wf : T (well_formed a) = search (and_l, and_r) in
    let n-steps : length ms ≡ n = eqb→eq (length ms) n (search (and_l, and_r)) in
    (shortest-run a wf g n v ms (search (and_l, and_r)) (search (and_l, and_r)) n-steps (nearest_to a g) (decides a wf g (search (and_l, and_r))) (search (and_l, and_r)), n-steps)
sound (never a g) t =
    let wf : T (well_formed a) = search (and_l, and_r) in
    never-reached a wf g (nearest_to a g) (decides a wf g (search (and_l, and_r))) (search (and_l, and_r))
sound (holds a f) t =
    let wf : T (well_formed a) = search (and_l, and_r) in
    holds_everywhere a wf f (failing a f) (replies a wf f (search (and_l, and_r))) (search (and_l, and_r))
sound (fails a f) t =
    let wf : T (well_formed a) = search (and_l, and_r) in
    fails_somewhere a wf f (failing a f) (replies a wf f (search (and_l, and_r))) (search (and_l, and_r))

-- every example, those with a star first, is true of the definitions
pub examples_hold : (c : Claim) → Memᴰ c examples → Means c
examples_hold c m = sound c (all_of-mem check examples passes m)

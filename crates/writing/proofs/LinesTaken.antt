-- The lines of a well-formed automaton, and of a target that fits, are taken one after the other (`table_taken`, `target-taken`).
-- Assumes nothing.
use Prim.Native.Nat.{ℕ, suc, pred, ◌+◌, ◌*◌, ◌-◌, ◌≤◌, ◌<◌}
use mathlib.Core.Bool.{true, false}
use mathlib.Core.List.{List, [], ◌∷◌, ◌++◌, map, append-nil}
use mathlib.Core.Logic.{◌≢◌, by_cases}
use mathlib.Core.Path.{◌≡◌, refl, ◌∙◌, ap, subst}
use borrow.Author.Tests.{le-leb, lt-leb, lt-ltb}
use native.Mathlib.Decide.{ℕ_discrete}
use native.Mathlib.Omega.{arith}
use lib.Dec.{T, leb, ltb, eqb, leb→le, ltb→lt}
use Rattle.columns.specs.declared.Sheet.TheVariants.{Table}
use Rattle.columns.specs.Widths.{largest}
use lib.Ieee.Fits.{and_l, and_r}
use lib.ListN.{length, get_or, length-replicate}
use Rattle.graphs.specs.Lists.{all_of}
use Rattle.graphs.proofs.Lists.{T_true}
use Rattle.classes.specs.Renaming.{rising}
use Rattle.automata.specs.Automaton.{Condition, Assignment, Transition, Automaton, arity}
use Rattle.automata.specs.Runs.{Target}
use Rattle.automata.specs.WellFormed.{inside, fits_condition, fits_assignment, constant_count, fits_transition, fits_conditions, well_formed, limited}
use Rattle.automata.proofs.Equivariance.{inside→}
use Rattle.lists.specs.Arrays.{padded}
use Rattle.forms.specs.TableForm.{row_count, form_length, cell, put, action_rows, arity_row, start_row, starting_rows, transition_row, assignment_rows}
use Rattle.forms.proofs.Forms.{Limits, limits}
use Rattle.reader.specs.declared.Progress.{Progress}
use Rattle.reader.specs.TableRules.{at, line, always, kind_of, condition_fields, kind_at, judge_line, advance, further, placed, at_start, before_target, complete}
use Rattle.reader.specs.Table.{Read, table_rules, blank_form}
use Rattle.forms.proofs.FormRows.{length_without, length-put, kept, written}
use Rattle.writing.specs.Lines.{condition_line, assignment_line, transitions_lines, head_line, table_lines, target_lines, issued}
use Rattle.writing.proofs.Reading.{Written, Taken}
use Rattle.writing.proofs.Accepting.{accepts, in_order_lem, condition_range, assignment_range, Low, low-written, low-issued, constant-written, low2, low4, low6, condition-low, assignment_low}

-- the lines are taken, the first after p, and something is read
abbrev pub Takes : Progress → List ℕ → List (List ℕ) → Type 0
Takes p t rs = (u : Read) × Taken table_rules rs (record { progress = p; form = t }) u

take-line : (p : Progress) (t vs : List ℕ) (rs : List (List ℕ)) → Written Table vs → judge_line p (length vs) (padded 6 vs) ≡ 0 → Takes (further p (padded 6 vs) t) (placed p (padded 6 vs) t) rs → Takes p t (vs ∷ rs)
take-line p t vs rs h j (u, taken) = (u, (h, j, taken))

-- a line of six digits
take-low : (p : Progress) (t vs : List ℕ) (rs : List (List ℕ)) → Low vs → (all_of (λ v. leb v largest) (padded 6 vs) ≡ true → judge_line p (length vs) (padded 6 vs) ≡ 0) → Takes (further p (padded 6 vs) t) (placed p (padded 6 vs) t) rs → Takes p t (vs ∷ rs)
take-low p t vs rs h j taken = take-line p t vs rs (low-written Table vs h) (j (low-issued vs h)) taken

take-end : (p : Progress) (t : List ℕ) → 4 ≤ p.stage → p.transitions ≤ p.transition → Takes p t []
unfolding complete
take-end p t a b = (record { progress = p; form = t }, (refl, rw (le-leb 4 p.stage a, le-leb p.transitions p.transition b)))

rising-rest : (v : ℕ) (vs : List ℕ) → T (rising (v ∷ vs)) → T (rising vs)
rising-rest v [] t = tt
rising-rest v (w ∷ vs) t = and_r (ltb v w) (rising (w ∷ vs)) t

-- a table of r registers, c constants, l locations, n transitions, and actions with these parameters
module _ (r c l n : ℕ) (ns : List ℕ) where
  record Small : Type 0 where
    registers : r ≤ 5
    constants : c ≤ 2
    locations : l ≤ 16
    actions : length ns ≤ 16

  -- what line 1 says
  record Known (registers constants locations actions transitions : ℕ) : Type 0 where
    same1 : registers ≡ r
    same2 : constants ≡ c
    same3 : locations ≡ l
    same4 : actions ≡ length ns
    same5 : transitions ≡ n

  abbrev KnownBy : Progress → Type 0
  KnownBy p = Known p.registers p.constants p.locations p.actions p.transitions

  -- no condition and no transition was read
  abbrev Untouched : Progress → Type 0
  Untouched p = (p.conds ≡ 0) × (p.params ≡ 0) × (p.transition ≡ 0)

  -- the parameters of the first i actions stand in the form
  record Stored (i : ℕ) (t : List ℕ) : Type 0 where
    size : length t ≡ form_length
    each : (j : ℕ) → j < i → cell t (action_rows + j) 1 ≡ get_or ns j 0

  stored-kept : (i : ℕ) (t : List ℕ) (row : ℕ) (f : List ℕ) → ((j : ℕ) → j < i → action_rows + j ≢ row) → Stored i t → Stored i (put t row f)
  stored-kept i t row f h s =
      record {
        size = length-put t row f ∙ s.size;
        each = λ j k. kept (λ x. at x 1 ≡ get_or ns j 0) t row f (action_rows + j) (h j k) (s.each j k);
      }

  -- Constants

  record Early (p : Progress) (t : List ℕ) : Type 0 where
    known : KnownBy p
    none : Untouched p
    acts0 : p.acts ≡ 0
    from1 : 1 ≤ p.stage
    to2 : p.stage ≤ 2
    size : length t ≡ form_length

  constants-taken : (cs : List ℕ) (p : Progress) (t : List ℕ) (ls : List (List ℕ)) → Early p t → p.ids + length cs ≡ c → T (rising cs) → (p.stage ≡ 2 → T (rising (p.newest ∷ cs)))
      → T (all_of (λ v. leb v largest) cs) → ((q : Progress) (v : List ℕ) → Early q v → q.ids ≡ c → Takes q v ls) → Takes p t (map (λ v. 2 ∷ v ∷ []) cs ++ ls)
  unfolding advance kind_at padded
  constants-taken [] p t ls s e a b d next = next p t s (omega arith)
  constants-taken (v ∷ cs) p t ls s e a b d next =
      let f : List ℕ = padded 6 (2 ∷ v ∷ []) in
      take-line p t (2 ∷ v ∷ []) (map (λ v. 2 ∷ v ∷ []) cs ++ ls)
      (constant-written v (omega (arith, leb→le v largest (and_l (leb v largest) (all_of (λ v. leb v largest) cs) d))))
      (accepts p 2 f refl s.from1 s.to2 (lt-ltb p.ids p.constants (omega (arith, s.known.same2))) refl (rw (T_true (leb v largest) (and_l (leb v largest) (all_of (λ v. leb v largest) cs) d))) refl
      (in_order_lem p.stage 2 p.newest v (λ h. ltb→lt p.newest v (and_l (ltb p.newest v) (rising (v ∷ cs)) (b h)))))
      (constants-taken cs (further p f t) (placed p f t) ls
      (record { known = s.known; none = s.none; acts0 = s.acts0; from1 = omega arith; to2 = omega arith; size = length-put t (1 + p.ids) f ∙ s.size })
      (omega arith) (rising-rest v cs a) (λ h. a) (and_r (leb v largest) (all_of (λ v. leb v largest) cs) d) next)

  -- Actions

  record Acting (p : Progress) (t : List ℕ) (i : ℕ) : Type 0 where
    known : KnownBy p
    none : Untouched p
    ids_all : p.ids ≡ c
    from1 : 1 ≤ p.stage
    to3 : p.stage ≤ 3
    begun : 1 ≤ i → p.stage ≡ 3
    acted : p.acts ≡ i
    stored : Stored i t

  arities-taken : Small → (ms : List ℕ) (p : Progress) (t : List ℕ) (ls : List (List ℕ)) (i : ℕ) → Acting p t i → i + length ms ≡ length ns → T (all_of (λ m. leb m 3) ms)
      → ((j : ℕ) → get_or ms j 0 ≡ get_or ns (i + j) 0)
      → ((q : Progress) (v : List ℕ) → Acting q v (length ns) → Takes q v ls) → Takes p t (map (λ v. 3 ∷ v ∷ []) ms ++ ls)
  unfolding advance kind_at padded
  arities-taken z [] p t ls i s e h g next = let d : i ≡ length ns = omega arith in next p t (subst (Acting p t) d s)
  arities-taken z (m ∷ ms) p t ls i s e h g next =
      let few : m ≤ 3 = leb→le m 3 (and_l (leb m 3) (all_of (λ m. leb m 3) ms) h) in
      take-low p t (3 ∷ m ∷ []) (map (λ v. 3 ∷ v ∷ []) ms ++ ls)
      (low2 3 m (omega arith) (omega arith))
      (λ w. accepts p 2 f refl s.from1 s.to3
      (rw (le-leb p.constants p.ids (omega (arith, s.known.same2, s.ids_all)), lt-ltb p.acts p.actions (omega (arith, s.known.same4, s.acted))))
      refl w (le-leb m 3 few) refl)
      (arities-taken z ms (further p f t) (placed p f t) ls (suc i)
      (record {
        known = s.known;
        none = s.none;
        ids_all = s.ids_all;
        from1 = omega arith;
        to3 = omega arith;
        begun = λ k. refl;
        acted = omega (arith, s.acted);
        stored = record { size = length-put t (action_rows + p.acts) f ∙ s.stored.size; each = λ j k. by_cases (ℕ_discrete j i) (new j) (old j k) };
      })
      (omega arith) (and_r (leb m 3) (all_of (λ m. leb m 3) ms) h)
      (λ j. let d : i + suc j ≡ suc i + j = omega arith in g (suc j) ∙ ap (λ x. get_or ns x 0) d) next)
    where
      f : List ℕ
      f = padded 6 (3 ∷ m ∷ [])

      new : (j : ℕ) → j ≡ i → cell (put t (action_rows + p.acts) f) (action_rows + j) 1 ≡ get_or ns j 0
      new j y =
          let w : 6 * (action_rows + p.acts) + 5 < length t = omega (arith, s.stored.size, s.acted, z.actions) in
          let d : i + 0 ≡ j = omega arith in
          let o : action_rows + p.acts ≡ action_rows + j = omega (arith, s.acted) in
          subst (λ x. cell (put t (action_rows + p.acts) f) x 1 ≡ get_or ns j 0) o (written t (action_rows + p.acts) f w (λ x. at x 1 ≡ get_or ns j 0) (g 0 ∙ ap (λ x. get_or ns x 0) d))

      old : (j : ℕ) → j < suc i → j ≢ i → cell (put t (action_rows + p.acts) f) (action_rows + j) 1 ≡ get_or ns j 0
      old j k y = kept (λ x. at x 1 ≡ get_or ns j 0) t (action_rows + p.acts) f (action_rows + j) (omega (arith, s.acted)) (s.stored.each j (omega arith))

  -- Conditions

  -- after tr lines 6, where the action has q parameters
  record Amid (q tr : ℕ) (p : Progress) (t : List ℕ) : Type 0 where
    known : KnownBy p
    stored : Stored (length ns) t
    params : p.params ≡ q
    here : p.transition ≡ tr

  -- lines of kind k at stage s: the lines 5 after line 4, and the lines 7 after a line 6
  module _ (z : Small) (k s : ℕ) (row : Progress → ℕ → ℕ) (is : kind_of k ≡ line condition_fields s s s always true false row) (behind : (p : Progress) (x : ℕ) → starting_rows ≤ row p x)
      (low : k ≤ 99) (one : eqb k 1 ≡ false) (six : eqb k 6 ≡ false) where
    condition-judged : (p : Progress) (g : Condition) → all_of (λ v. leb v largest) (condition_line k g) ≡ true → p.stage ≡ s → p.conds < 8 → T (fits_condition p.constants p.registers p.params g) → judge_line p 6 (condition_line k g) ≡ 0
    unfolding kind_at
    condition-judged p g w e d h =
        accepts p 6 (condition_line k g) (rw is refl) (rw is (omega arith)) (rw is (omega arith)) (rw is refl) (rw is (lt-leb 8 p.conds d)) w
        (condition_range p k g (ap (λ x. x.fields) is) h) (rw is refl)

    conditions-taken : (gs : List Condition) (p : Progress) (t : List ℕ) (ls : List (List ℕ)) (q tr : ℕ) → q ≤ 3 → Amid q tr p t → p.stage ≡ s → p.conds + length gs ≤ 8 → T (all_of (fits_condition c r q) gs)
        → ((p' : Progress) (v : List ℕ) → Amid q tr p' v → p'.stage ≡ s → Takes p' v ls) → Takes p t (map (condition_line k) gs ++ ls)
    unfolding advance kind_at padded
    conditions-taken [] p t ls q tr w a e d h next = next p t a e
    conditions-taken (g ∷ gs) p t ls q tr w a e d h next =
        let fits : T (fits_condition c r q g) = and_l (fits_condition c r q g) (all_of (fits_condition c r q) gs) h in
        take-low p t (condition_line k g) (map (condition_line k) gs ++ ls)
        (condition-low c r q (omega (arith, z.constants)) (omega (arith, z.registers)) (omega arith) k g low fits)
        (λ w. condition-judged p g w e (omega arith) (rw (a.known.same2, a.known.same1, a.params) fits))
        (conditions-taken gs (further p (condition_line k g) t) (placed p (condition_line k g) t) ls q tr w
        (record {
          known = rw one a.known;
          stored = stored-kept (length ns) t ((kind_of k).row p (at (condition_line k g) 1)) (condition_line k g) (λ j i. rw is (omega (arith, behind p (at (condition_line k g) 1), z.actions))) a.stored;
          params = rw six a.params;
          here = rw six a.here;
        })
        (rw is refl) (rw (six, is) (omega arith)) (and_r (fits_condition c r q g) (all_of (fits_condition c r q) gs) h) next)

  -- a line 4, its lines 5, and what follows
  start-taken : Small → (x : ℕ) (gs : List Condition) (p : Progress) (t : List ℕ) (ls : List (List ℕ)) → KnownBy p → Stored (length ns) t → Untouched p → p.stage ≡ 3 → p.acts ≡ length ns
      → T (inside l x) → length gs ≤ 8 → T (all_of (fits_condition c r 0) gs)
      → ((q : Progress) (v : List ℕ) → Amid 0 0 q v → q.stage ≡ 4 → Takes q v ls) → Takes p t ((4 ∷ x ∷ []) ∷ (map (condition_line 5) gs ++ ls))
  unfolding advance kind_at padded
  start-taken z x gs p t ls k s o a b h m d next =
      let f : List ℕ = padded 6 (4 ∷ x ∷ []) in
      take-low p t (4 ∷ x ∷ []) (map (condition_line 5) gs ++ ls)
      (low2 4 x (omega arith) (omega (arith, inside→ l x h, z.locations)))
      (λ w. accepts p 2 f refl (omega arith) (omega arith) (le-leb p.actions p.acts (omega (arith, k.same4))) refl w (rw k.same3 (T_true (inside l x) h)) refl)
      (conditions-taken z 5 4 (kind_of 5).row refl (λ p x. omega arith) (omega arith) refl refl gs (further p f t) (placed p f t) ls 0 0 (omega arith)
      (record { known = k; stored = stored-kept (length ns) t start_row f (λ j i. omega (arith, z.actions)) s; params = o.1; here = o.2 })
      refl (omega (arith, o.0)) d next)

  -- Assignments

  assigns-taken : Small → (ss : List Assignment) (p : Progress) (t : List ℕ) (ls : List (List ℕ)) (q tr : ℕ) → q ≤ 3 → Amid q tr p t → 5 ≤ p.stage → p.stage ≤ 6 → T (rising (map (λ s. s.register) ss))
      → (p.stage ≡ 6 → T (rising (p.newest ∷ map (λ s. s.register) ss))) → T (all_of (fits_assignment c r q) ss)
      → ((p' : Progress) (v : List ℕ) → Amid q tr p' v → 5 ≤ p'.stage → p'.stage ≤ 6 → Takes p' v ls) → Takes p t (map assignment_line ss ++ ls)
  unfolding advance kind_at padded
  assigns-taken z [] p t ls q tr w a d e b o h next = next p t a d e
  assigns-taken z (x ∷ xs) p t ls q tr w a d e b o h next =
      let f : List ℕ = padded 6 (assignment_line x) in
      let regs : List ℕ = map (λ s. s.register) xs in
      let fits : T (fits_assignment c r q x) = and_l (fits_assignment c r q x) (all_of (fits_assignment c r q) xs) h in
      take-low p t (assignment_line x) (map assignment_line xs ++ ls)
      (assignment_low c r q (omega (arith, z.constants)) (omega (arith, z.registers)) (omega arith) x fits)
      (λ y. accepts p 4 f refl d e refl refl y (assignment_range p x (rw (a.known.same2, a.known.same1, a.params) fits))
      (in_order_lem p.stage 6 p.newest x.register (λ i. ltb→lt p.newest x.register (and_l (ltb p.newest x.register) (rising (x.register ∷ regs)) (o i)))))
      (assigns-taken z xs (further p f t) (placed p f t) ls q tr w
      (record {
        known = a.known;
        stored = stored-kept (length ns) t (assignment_rows p.place + x.register - 1) f (λ j i. omega (arith, z.actions)) a.stored;
        params = a.params;
        here = a.here;
      })
      (omega arith) (omega arith) (rising-rest x.register regs b) (λ i. b) (and_r (fits_assignment c r q x) (all_of (fits_assignment c r q) xs) h) next)

-- Tables

module _ (a : Automaton) (lim : T (limited a)) where
  counts : Limits a
  counts = limits a lim

  small : Small a.registers (constant_count a) a.locations (length a.transitions) a.arities
  small = record { registers = counts.registers; constants = counts.constants; locations = counts.locations.1; actions = counts.actions.1 }

  transitions-taken : (ts : List Transition) (p : Progress) (t : List ℕ) → KnownBy a.registers (constant_count a) a.locations (length a.transitions) a.arities p
      → Stored a.registers (constant_count a) a.locations (length a.transitions) a.arities (length a.arities) t → 4 ≤ p.stage → p.stage ≤ 6
      → p.transition + length ts ≡ length a.transitions → T (all_of (fits_transition a) ts) → T (all_of (λ x. leb (length x.guard) 8) ts) → Takes p t (transitions_lines ts)
  unfolding advance kind_at padded
  transitions-taken [] p t k s d e g h few = take-end p t d (omega (arith, k.same5))
  transitions-taken (x ∷ xs) p t k s d e g h few =
      let r : ℕ = a.registers in
      let c : ℕ = constant_count a in
      let l : ℕ = a.locations in
      let n : ℕ = length a.transitions in
      let ns : List ℕ = a.arities in
      let f : List ℕ = padded 6 (6 ∷ x.from ∷ x.action ∷ x.to ∷ []) in
      let fits : T (fits_transition a x) = and_l (fits_transition a x) (all_of (fits_transition a) xs) h in
      let from : T (inside a.locations x.from) = search (and_l, and_r) in
      let action : T (inside (length a.arities) x.action) = search (and_l, and_r) in
      let to : T (inside a.locations x.to) = search (and_l, and_r) in
      let guard : T (all_of (fits_condition (constant_count a) a.registers (arity a x)) x.guard) = search (and_l, and_r) in
      let assigns : T (all_of (fits_assignment (constant_count a) a.registers (arity a x)) x.assigns) = search (and_l, and_r) in
      let rise : T (rising (map (λ s. s.register) x.assigns)) = search (and_l, and_r) in
      let w = inside→ (length a.arities) x.action action in
      let row : action_rows + pred x.action ≡ arity_row x.action = omega arith in
      take-low p t (6 ∷ x.from ∷ x.action ∷ x.to ∷ []) (map (condition_line 7) x.guard ++ (map assignment_line x.assigns ++ transitions_lines xs))
      (low4 6 x.from x.action x.to (omega arith) (omega (arith, inside→ a.locations x.from from, counts.locations)) (omega (arith, counts.actions)) (omega (arith, inside→ a.locations x.to to, counts.locations)))
      (λ y. accepts p 4 f refl d e (lt-ltb p.transition p.transitions (omega (arith, k.same5))) refl y
      (rw (k.same3, k.same4, T_true (inside a.locations x.from) from, T_true (inside (length a.arities) x.action) action, T_true (inside a.locations x.to) to)) refl)
      (conditions-taken r c l n ns small 7 5 (kind_of 7).row refl (λ p x. omega arith) (omega arith) refl refl x.guard (further p f t) (placed p f t) (map assignment_line x.assigns ++ transitions_lines xs) (arity a x) (p.transition + 1) (counts.parameters x)
      (record {
        known = k;
        stored = stored-kept r c l n ns (length ns) t (transition_row p.transition) f (λ j i. omega (arith, counts.actions)) s;
        params = subst (λ y. cell t y 1 ≡ arity a x) row (s.each (pred x.action) (omega arith));
        here = refl;
      })
      refl (omega (arith, leb→le (length x.guard) 8 (and_l (leb (length x.guard) 8) (all_of (λ x. leb (length x.guard) 8) xs) few))) guard
      (λ p' v i z. assigns-taken r c l n ns small x.assigns p' v (transitions_lines xs) (arity a x) (p.transition + 1) (counts.parameters x) i (omega arith) (omega arith)
      rise (λ y. absurd (omega arith)) assigns
      (λ p'' v' i' y y'. transitions-taken xs p'' v' i'.known i'.stored (omega arith) y' (omega (arith, i'.here))
      (and_r (fits_transition a x) (all_of (fits_transition a) xs) h) (and_r (leb (length x.guard) 8) (all_of (λ x. leb (length x.guard) 8) xs) few))))

  -- the lines of a well-formed automaton within the limits, with constants that are identifiers
  pub table_taken : T (well_formed a) → T (issued a) → Takes at_start blank_form (table_lines a)
  unfolding advance kind_at padded
  table_taken wf six =
      let r : ℕ = a.registers in
      let c : ℕ = constant_count a in
      let l : ℕ = a.locations in
      let n : ℕ = length a.transitions in
      let ns : List ℕ = a.arities in
      let f : List ℕ = padded 6 (head_line a) in
      let rise : T (rising a.constants) = search (and_l, and_r) in
      let start : T (inside a.locations a.start) = search (and_l, and_r) in
      let starting : T (fits_conditions a a.starting) = search (and_l, and_r) in
      let transitions : T (all_of (fits_transition a) a.transitions) = search (and_l, and_r) in
      let locations : T (inside 16 a.locations) = search (and_l, and_r) depth 9 in
      let actions : T (inside 16 (length a.arities)) = search (and_l, and_r) depth 9 in
      let arities : T (all_of (λ m. leb m 3) a.arities) = search (and_l, and_r) depth 9 in
      let guards : T (all_of (λ x. leb (length x.guard) 8) a.transitions) = search (and_l, and_r) depth 9 in
      let four : List (List ℕ) = (4 ∷ a.start ∷ []) ∷ (map (condition_line 5) a.starting ++ transitions_lines a.transitions) in
      let three : List (List ℕ) = map (λ v. 3 ∷ v ∷ []) a.arities ++ four in
      take-low at_start blank_form (head_line a) (map (λ v. 2 ∷ v ∷ []) a.constants ++ three)
      (low6 1 a.registers (length a.constants) a.locations (length a.arities) (length a.transitions)
      (omega arith) (omega (arith, counts.registers)) (omega (arith, counts.constants)) (omega (arith, counts.locations)) (omega (arith, counts.actions)) (omega (arith, counts.transitions)))
      (λ y. accepts at_start 6 f refl (omega arith) (omega arith) refl refl y
      (rw (le-leb a.registers 5 counts.registers, le-leb (length a.constants) 2 counts.constants, T_true (inside 16 a.locations) locations, T_true (inside 16 (length a.arities)) actions, le-leb (length a.transitions) 64 counts.transitions))
      refl)
      (constants-taken r c l n ns a.constants (further at_start f blank_form) (placed at_start f blank_form) three
      (record {
        known = record { same1 = refl; same2 = refl; same3 = refl; same4 = refl; same5 = refl };
        none = (refl, refl, refl);
        acts0 = refl;
        from1 = omega arith;
        to2 = omega arith;
        size = length-put blank_form 0 f ∙ length_without row_count;
      })
      (omega arith) rise (λ h. absurd (omega arith)) six
      (λ q v s e. arities-taken r c l n ns small a.arities q v four 0
      (record {
        known = s.known;
        none = s.none;
        ids_all = e;
        from1 = s.from1;
        to3 = omega (arith, s.to2);
        begun = λ h. absurd (omega arith);
        acted = s.acts0;
        stored = record { size = s.size; each = λ j k. absurd (omega arith) };
      })
      (omega arith) arities (λ j. let d : j ≡ 0 + j = omega arith in ap (λ x. get_or a.arities x 0) d)
      (λ q v s. start-taken r c l n ns small a.start a.starting q v (transitions_lines a.transitions) s.known s.stored s.none (s.begun counts.actions.0) s.acted start counts.starting starting
      (λ q v s e. transitions-taken a.transitions q v s.known s.stored (omega arith) (omega arith) (omega (arith, s.here)) transitions guards))))

-- Targets

-- the lines of a target that fits a table of these counts
pub target-taken : (r c l : ℕ) (g : Target) → r ≤ 5 → c ≤ 2 → l ≤ 16 → T (inside l g.location) → T (all_of (fits_condition c r 0) g.conditions) → length g.conditions ≤ 8
    → Takes (before_target r c l) blank_form (target_lines g)
unfolding padded
target-taken r c l g x y z h k m =
    subst (λ (v : List (List ℕ)). Takes (before_target r c l) blank_form ((4 ∷ g.location ∷ []) ∷ v)) (append-nil (map (condition_line 5) g.conditions))
    (start-taken r c l 0 [] (record { registers = x; constants = y; locations = z; actions = omega arith }) g.location g.conditions (before_target r c l) blank_form []
    (record { same1 = refl; same2 = refl; same3 = refl; same4 = refl; same5 = refl })
    (record { size = length-replicate {A = ℕ} form_length 0; each = λ j i. absurd (omega arith) })
    (refl, refl, refl) refl refl h m k
    (λ q v s e. take-end q v (omega arith) (omega (arith, s.known.same5))))

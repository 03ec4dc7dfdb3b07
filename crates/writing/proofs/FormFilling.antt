-- The lines of a file that is read stand in its form, one below the other, each in a row of its kind (`lines-filled`).
-- Assumes nothing.
use Prim.Native.Nat.{ℕ, suc, ◌+◌, ◌*◌, ◌-◌, ◌%◌, ◌≤◌, ◌<◌}
use mathlib.Core.Bool.{Bool, true, not}
use mathlib.Core.List.{List, [], ◌∷◌, ◌++◌, map, append-nil}
use mathlib.Core.Logic.{◌≢◌, by_cases}
use mathlib.Core.Path.{◌≡◌, refl, sym, ◌∙◌, ap, ap₂, subst}
use borrow.Author.Tests.{eqb-false, ne_eqb, not-true}
use native.Mathlib.Decide.{ℕ_discrete}
use native.Mathlib.Omega.{arith}
use lib.Dec.{eqb}
use lib.ListN.{length, take}
use Rattle.lists.specs.Arrays.{padded}
use Rattle.forms.specs.TableForm.{row_count, form_length, cell, put, counts_row, constant_rows, action_rows, arity_row, start_row, starting_rows, transition_row, guard_rows, assignment_rows, register_row, transition_size}
use Rattle.forms.specs.FormAutomaton.{present}
use Rattle.reader.specs.declared.Progress.{Progress}
use Rattle.reader.specs.TableRules.{at, kind_of, numbers_in, kind_at, judge_line, advance, further, placed, complete}
use Rattle.reader.specs.Table.{Read, table_rules, blank_form}
use Rattle.reader.proofs.Accepted.{Stands, stands, line1, line2, line3, line4, line5, line6, line7, line8, Passed, line-passed}
use Rattle.forms.proofs.FormRows.{InForm, row_at, six, cell-without, kept, written}
use Rattle.reader.proofs.Keeping.{line-held, Counted, Sound, sound-step}
use Rattle.columns.specs.declared.Sheet.TheVariants.{Table}
use Rattle.reader.proofs.Present.{holds-none}
use Rattle.writing.proofs.Selected.{gather_split, gather_none, gather_agree, gather_one}
use Rattle.writing.proofs.Reading.{Written, Taken, taken-keeps}

-- Lines in rows

-- how many numbers a line of kind k has
abbrev pub kind_width : ℕ → ℕ
kind_width k = 1 + numbers_in (kind_of k).fields

-- the line of a row
abbrev pub line_of : List ℕ → List ℕ
line_of r = take (kind_width (at r 0)) r

abbrev pub line_at : List ℕ → ℕ → List ℕ
line_at t x = line_of (row_at t x)

-- the lines in the n rows from row b
abbrev pub lines_in : List ℕ → ℕ → ℕ → List (List ℕ)
lines_in t b n = map (line_at t) (present t b n)

-- the row x holds a line
abbrev pub holds : List ℕ → ℕ → Bool
holds t x = not (eqb (cell t x 0) 0)

pub holds-line : (t : List ℕ) (x : ℕ) → 1 ≤ cell t x 0 → holds t x ≡ true
holds-line t x h = ap not (ne_eqb (cell t x 0) 0 (λ e. omega arith))

pub holds-some : (t : List ℕ) (x : ℕ) → holds t x ≡ true → 1 ≤ cell t x 0
holds-some t x e = omega (arith, eqb-false (cell t x 0) 0 (not-true (eqb (cell t x 0) 0) e))

-- more rows, which hold no line
pub lines_rest : (t : List ℕ) (n m : ℕ) → n ≤ m → ((x : ℕ) → n ≤ x → x < m → cell t x 0 ≡ 0) → lines_in t 0 n ≡ lines_in t 0 m
lines_rest t n m h fresh =
    let e : n + (m - n) ≡ m = omega arith in
    let none : lines_in t (0 + n) (m - n) ≡ [] = gather_none (holds t) (line_at t) (0 + n) (m - n) (λ x v w. holds-none t x (fresh x (omega arith) (omega arith))) in
    sym (append-nil (lines_in t 0 n)) ∙ ap (λ (v : List (List ℕ)). lines_in t 0 n ++ v) (sym none) ∙ sym (gather_split (holds t) (line_at t) 0 n (m - n)) ∙ ap (lines_in t 0) e

-- What is kept while lines are read

-- every row that is used stands before row n: by the stage, where the next line goes
pub record Used (p : Progress) (n : ℕ) : Type 0 where
  pub nothing : p.stage ≡ 0 → n ≡ 0
  pub constants : p.stage ≤ 2 → n ≤ constant_rows + p.ids
  pub actions : p.stage ≤ 3 → n ≤ action_rows + p.acts
  pub starting : p.stage ≤ 4 → n ≤ starting_rows + p.conds
  pub transitions : n ≤ transition_row p.transition
  pub guard : p.stage ≡ 5 → n ≤ guard_rows p.place + p.conds
  pub assigns : p.stage ≡ 6 → n ≤ assignment_rows p.place + p.newest

-- the kind v in row x, after so many lines 2, 3 and 6, where line 1 says so many actions; each transition has its rows one after the other
pub record Marked (stage ids acts actions transition x v : ℕ) : Type 0 where
  pub mark1 : x ≡ counts_row → 1 ≤ actions → v ≡ 1
  pub none1 : x ≡ counts_row → actions ≡ 0 → v ≡ 0
  pub mark2 : constant_rows ≤ x → x < constant_rows + ids → v ≡ 2
  pub none2 : constant_rows + ids ≤ x → x < action_rows → v ≡ 0
  pub mark3 : action_rows ≤ x → x < action_rows + acts → v ≡ 3
  pub none3 : action_rows + acts ≤ x → x < start_row → v ≡ 0
  pub mark4 : x ≡ start_row → 4 ≤ stage → v ≡ 4
  pub mark5 : starting_rows ≤ x → x < transition_row 0 → 1 ≤ v → v ≡ 5
  pub mark6 : transition_row 0 ≤ x → (x - transition_row 0) % transition_size ≡ 0 → x < transition_row transition → v ≡ 6
  pub mark7 : transition_row 0 ≤ x → 1 ≤ (x - transition_row 0) % transition_size → (x - transition_row 0) % transition_size ≤ 8 → 1 ≤ v → v ≡ 7
  pub mark8 : transition_row 0 ≤ x → 9 ≤ (x - transition_row 0) % transition_size → 1 ≤ v → v ≡ 8

abbrev pub MarkedBy : Progress → ℕ → ℕ → Type 0
MarkedBy p x v = Marked p.stage p.ids p.acts p.actions p.transition x v

-- a line 8 after another of its transition
rises : (p : Progress) (n : ℕ) (f : List ℕ) → Passed p (kind_at p (at f 0) (at f 1)) n (at f 1) → at f 0 ≡ 8 → (p.stage ≤ 6) × (p.stage ≡ 6 → p.newest < at f 1)
unfolding kind_at
rises p n f h e = let g : Passed p (kind_at p 8 (at f 1)) n (at f 1) = subst (λ k. Passed p (kind_at p k (at f 1)) n (at f 1)) e h in (g.to, g.rise refl)

used_step : (p : Progress) (f : List ℕ) (a n : ℕ) → Counted p → (at f 0 ≡ 8 → (p.stage ≤ 6) × (p.stage ≡ 6 → p.newest < at f 1)) → Used p n → Stands p f
    → (n ≤ (kind_at p (at f 0) (at f 1)).row) × Used (advance p (kind_at p (at f 0) (at f 1)) f a) (suc (kind_at p (at f 0) (at f 1)).row)
unfolding advance kind_at
used_step p f a n c o u (line1 k l b d e g h) = let z = c.none_yet (omega arith) in let y = c.early (omega arith) in let x = c.unread (omega arith) in let w = u.nothing l in rw k (omega arith, omega arith)
used_step p f a n c o u (line2 k g h i j) = let y = c.early (omega arith) in let x = c.unread (omega arith) in let w = u.constants h in rw k (omega arith, omega arith)
used_step p f a n c o u (line3 k g h i j m) = let y = c.early (omega arith) in let x = c.unread (omega arith) in let w = u.actions h in rw k (omega arith, omega arith)
used_step p f a n c o u (line4 k h i j) = let y = c.early (omega arith) in let x = c.unread (omega arith) in let w = u.actions (omega arith) in rw k (omega arith, omega arith)
used_step p f a n c o u (line5 k h j b d e) = let y = c.early (omega arith) in let w = u.starting (omega arith) in rw k (omega arith, omega arith)
used_step p f a n c o u (line6 k h i b d e) = rw k (omega arith, omega arith)
used_step p f a n c o u (line7 k h j b d e) = let y = c.late (omega arith) in let w = u.guard h in rw k (omega arith, omega arith)
used_step p f a n c o u (line8 k h b d) =
    let y = c.late h in
    let z = (o k).0 in
    let past : n ≤ register_row p.place (at f 1) = by_cases (ℕ_discrete p.stage 6) (λ e. let w = u.assigns e in let v = (o k).1 e in omega arith) (λ e. let w = u.guard (omega arith) in omega arith) in
    rw k (omega arith, omega arith)

-- the kind of the line that is written, and of the rows that stay
marked_new : (p : Progress) (f : List ℕ) (a : ℕ) → Counted p → Stands p f → MarkedBy (advance p (kind_at p (at f 0) (at f 1)) f a) (kind_at p (at f 0) (at f 1)).row (at f 0)
unfolding advance kind_at
marked_new p f a c (line1 k l b d e g h) = let z = c.none_yet (omega arith) in let y = c.early (omega arith) in rw k (omega arith)
marked_new p f a c (line2 k g h i j) = let y = c.early (omega arith) in rw k (omega arith)
marked_new p f a c (line3 k g h i j m) = let y = c.early (omega arith) in rw k (omega arith)
marked_new p f a c (line4 k h i j) = let y = c.early (omega arith) in rw k (omega arith)
marked_new p f a c (line5 k h j b d e) = let y = c.early (omega arith) in let x = c.acted (omega arith) in rw k (omega arith)
marked_new p f a c (line6 k h i b d e) = let x = c.acted h in rw k (omega arith)
marked_new p f a c (line7 k h j b d e) = let y = c.late (omega arith) in let x = c.acted (omega arith) in rw k (omega arith)
marked_new p f a c (line8 k h b d) = let y = c.late h in let x = c.acted (omega arith) in rw k (omega arith)

marked-kept : (stage ids acts actions tr stage' ids' acts' actions' tr' x v : ℕ) → (x ≡ 0 → actions' ≡ actions) → ids ≤ ids' → (constant_rows ≤ x → x < constant_rows + ids' → x < constant_rows + ids)
    → acts ≤ acts' → (action_rows ≤ x → x < action_rows + acts' → x < action_rows + acts) → (x ≡ start_row → 4 ≤ stage' → 4 ≤ stage)
    → (transition_row 0 ≤ x → (x - transition_row 0) % transition_size ≡ 0 → x < transition_row tr' → x < transition_row tr) → Marked stage ids acts actions tr x v → Marked stage' ids' acts' actions' tr' x v
marked-kept stage ids acts actions tr stage' ids' acts' actions' tr' x v h1 l2 h2 l3 h3 h4 h6 m =
    record {
      mark1 = λ a b. let e = h1 a in m.mark1 a (omega arith);
      none1 = λ a b. let e = h1 a in m.none1 a (omega arith);
      mark2 = λ a b. m.mark2 a (h2 a b);
      none2 = λ a b. m.none2 (omega arith) b;
      mark3 = λ a b. m.mark3 a (h3 a b);
      none3 = λ a b. m.none3 (omega arith) b;
      mark4 = λ a b. m.mark4 a (h4 a b);
      mark5 = m.mark5;
      mark6 = λ a b c. m.mark6 a b (h6 a b c);
      mark7 = m.mark7;
      mark8 = m.mark8;
    }

marked_old : (p : Progress) (f : List ℕ) (a x v : ℕ) → x ≢ (kind_at p (at f 0) (at f 1)).row → Stands p f → MarkedBy p x v → MarkedBy (advance p (kind_at p (at f 0) (at f 1)) f a) x v
unfolding advance kind_at
marked_old p f a x v w (line1 k l b d e g h) m =
    let u : x ≢ counts_row = rw k at w in
    rw k (marked-kept _ _ _ _ _ 1 _ _ _ _ x v (λ y. absurd (u y)) (omega arith) (λ y z. z) (omega arith) (λ y z. z) (λ y z. absurd (omega arith)) (λ y z o. o) m)
marked_old p f a x v w (line2 k g h i j) m =
    let u : x ≢ constant_rows + p.ids = rw k at w in
    rw k (marked-kept _ _ _ _ _ 2 _ _ _ _ x v (λ y. refl) (omega arith) (λ y z. omega arith) (omega arith) (λ y z. z) (λ y z. absurd (omega arith)) (λ y z o. o) m)
marked_old p f a x v w (line3 k g h i j n) m =
    let u : x ≢ action_rows + p.acts = rw k at w in
    rw k (marked-kept _ _ _ _ _ 3 _ _ _ _ x v (λ y. refl) (omega arith) (λ y z. z) (omega arith) (λ y z. omega arith) (λ y z. absurd (omega arith)) (λ y z o. o) m)
marked_old p f a x v w (line4 k h i j) m =
    let u : x ≢ start_row = rw k at w in
    rw k (marked-kept _ _ _ _ _ 4 _ _ _ _ x v (λ y. refl) (omega arith) (λ y z. z) (omega arith) (λ y z. z) (λ y z. absurd (u y)) (λ y z o. o) m)
marked_old p f a x v w (line5 k h j b d e) m =
    rw k (marked-kept _ _ _ _ _ 4 _ _ _ _ x v (λ y. refl) (omega arith) (λ y z. z) (omega arith) (λ y z. z) (λ y z. omega arith) (λ y z o. o) m)
marked_old p f a x v w (line6 k h i b d e) m =
    let u : x ≢ transition_row p.transition = rw k at w in
    rw k (marked-kept _ _ _ _ _ 5 _ _ _ _ x v (λ y. refl) (omega arith) (λ y z. z) (omega arith) (λ y z. z) (λ y z. h) (λ y z o. omega arith) m)
marked_old p f a x v w (line7 k h j b d e) m =
    rw k (marked-kept _ _ _ _ _ 5 _ _ _ _ x v (λ y. refl) (omega arith) (λ y z. z) (omega arith) (λ y z. z) (λ y z. omega arith) (λ y z o. o) m)
marked_old p f a x v w (line8 k h b d) m =
    rw k (marked-kept _ _ _ _ _ 6 _ _ _ _ x v (λ y. refl) (omega arith) (λ y z. z) (omega arith) (λ y z. z) (λ y z. omega arith) (λ y z o. o) m)

-- the lines so far stand in the first rows
pub record Filled (p : Progress) (t : List ℕ) (done : List (List ℕ)) : Type 0 where
  pub used : ℕ
  pub lines : done ≡ lines_in t 0 used
  pub fresh : (x : ℕ) → used ≤ x → cell t x 0 ≡ 0
  pub bounds : Used p used
  pub marks : (x : ℕ) → MarkedBy p x (cell t x 0)

pub blank_filled : (p : Progress) → Used p 0 → ((x : ℕ) → MarkedBy p x 0) → Filled p blank_form []
blank_filled p u m =
    record {
      used = 0;
      lines = refl;
      fresh = λ x k. cell-without row_count x 0;
      bounds = u;
      marks = λ x. subst (MarkedBy p x) (sym (cell-without row_count x 0)) (m x);
    }

take_six : (vs : List ℕ) → length vs ≤ 6 → take (length vs) (six (padded 6 vs)) ≡ vs
unfolding padded
take_six [] h = refl
take_six (a ∷ []) h = refl
take_six (a ∷ b ∷ []) h = refl
take_six (a ∷ b ∷ c ∷ []) h = refl
take_six (a ∷ b ∷ c ∷ d ∷ []) h = refl
take_six (a ∷ b ∷ c ∷ d ∷ e ∷ []) h = refl
take_six (a ∷ b ∷ c ∷ d ∷ e ∷ f ∷ []) h = refl
take_six (a ∷ b ∷ c ∷ d ∷ e ∷ f ∷ g ∷ l) h = absurd (omega arith)

some-kind : (p : Progress) (f : List ℕ) → Stands p f → 1 ≤ at f 0
some-kind p f (line1 k l b d e g h) = omega arith
some-kind p f (line2 k g h i j) = omega arith
some-kind p f (line3 k g h i j m) = omega arith
some-kind p f (line4 k h i j) = omega arith
some-kind p f (line5 k h j b d e) = omega arith
some-kind p f (line6 k h i b d e) = omega arith
some-kind p f (line7 k h j b d e) = omega arith
some-kind p f (line8 k h b d) = omega arith

-- one line more, below the others
module _ (t : List ℕ) (h : ℕ) (f : List ℕ) where
  other_row : (x : ℕ) → x ≢ h → row_at (put t h f) x ≡ row_at t x
  other_row x k = kept (λ r. r ≡ row_at t x) t h f x k refl

  module _ (room : InForm t h) where
    new_row : row_at (put t h f) h ≡ six f
    new_row = written t h f room (λ r. r ≡ six f) refl

    lines_more : (n : ℕ) → n ≤ h → ((x : ℕ) → n ≤ x → cell t x 0 ≡ 0) → 1 ≤ at f 0 → lines_in t 0 n ++ (line_of (six f) ∷ []) ≡ lines_in (put t h f) 0 (suc h)
    lines_more n k fresh o =
        let u : List ℕ = put t h f in
        let old : lines_in t 0 n ≡ lines_in u 0 n =
        gather_agree (holds t) (holds u) (line_at t) (line_at u) 0 n
        (λ x a b. ap (λ r. not (eqb (at r 0) 0)) (sym (other_row x (omega arith)))) (λ x a b c. ap line_of (sym (other_row x (omega arith)))) in
        let between : lines_in u 0 n ≡ lines_in u 0 h = lines_rest u n h k (λ x a b. ap (λ r. at r 0) (other_row x (omega arith)) ∙ fresh x a) in
        let here : lines_in u h 1 ≡ line_of (six f) ∷ [] =
        gather_one (holds u) (line_at u) h (holds-line u h (subst (λ r. 1 ≤ at r 0) (sym new_row) o)) ∙ ap (λ r. line_of r ∷ []) new_row in
        let e : h ≡ 0 + h = omega arith in
        let e' : h + 1 ≡ suc h = omega arith in
        ap₂ (λ (x y : List (List ℕ)). x ++ y) (old ∙ between) (sym here ∙ ap (λ v. lines_in u v 1) e) ∙ sym (gather_split (holds u) (line_at u) 0 h 1) ∙ ap (lines_in u 0) e'

-- the row of a line
abbrev home : Progress → List ℕ → ℕ
home p f = (kind_at p (at f 0) (at f 1)).row

-- the marks after a line
marks-step : (p : Progress) (t f : List ℕ) → 6 * home p f + 5 < length t → Stands p f → Counted p → (x : ℕ) → MarkedBy p x (cell t x 0) → MarkedBy (further p f t) x (cell (placed p f t) x 0)
marks-step p t f w st c x m = by_cases (ℕ_discrete x (home p f)) here other
  where
    a : ℕ
    a = cell t (arity_row (at f 2)) 1

    here : x ≡ home p f → MarkedBy (further p f t) x (cell (placed p f t) x 0)
    here y = subst (λ v. MarkedBy (further p f t) v (cell (placed p f t) v 0)) (sym y)
        (subst (λ r. MarkedBy (further p f t) (home p f) (at r 0)) (sym (new_row t (home p f) f w)) (marked_new p f a c st))

    other : x ≢ home p f → MarkedBy (further p f t) x (cell (placed p f t) x 0)
    other y = subst (λ r. MarkedBy (further p f t) x (at r 0)) (sym (other_row t (home p f) f x y)) (marked_old p f a x (cell t x 0) y st m)

filled-step : (p : Progress) (t : List ℕ) (done : List (List ℕ)) (vs : List ℕ) → Written Table vs → judge_line p (length vs) (padded 6 vs) ≡ 0 → Sound p t → Filled p t done
    → Filled (further p (padded 6 vs) t) (placed p (padded 6 vs) t) (done ++ (vs ∷ []))
unfolding kind_at
filled-step p t done vs l z s g =
    let f : List ℕ = padded 6 vs in
    let st : Stands p f = stands p (length vs) f z in
    let pass = (line-passed p (length vs) f z).0 in
    let b = used_step p f (cell t (arity_row (at f 2)) 1) g.used s.counted (rises p (length vs) f pass) g.bounds st in
    let s' = (sound-step p f t s (line-held p (length vs) f z) st).counted in
    let room : 6 * home p f + 5 < length t = omega (arith, s.size, b.1.transitions, s'.transition-low, s'.transitions-low) in
    record {
      used = suc (home p f);
      lines = ap₂ (λ (x : List (List ℕ)) (y : List ℕ). x ++ (y ∷ [])) g.lines (sym (ap (λ n. take n (six f)) (sym pass.wide) ∙ take_six vs l.few))
          ∙ lines_more t (home p f) f room g.used b.0 g.fresh (some-kind p f st);
      fresh = λ x k. ap (λ r. at r 0) (other_row t (home p f) f x (omega arith)) ∙ g.fresh x (omega (arith, b.0));
      bounds = b.1;
      marks = λ x. marks-step p t f room st s.counted x (g.marks x);
    }

-- what every accepted line keeps, with the lines in the form, holds at the end of a file that is read
module _ (Q : Progress → List ℕ → Type 0) (step : (p : Progress) (f t : List ℕ) → length t ≡ form_length → Stands p f → Q p t → Q (further p f t) (placed p f t)) where
  -- how far, and the form of the lines so far
  abbrev pub Standing : List (List ℕ) → Read → Type 0
  Standing done x = Sound x.progress x.form × Q x.progress x.form × Filled x.progress x.form done

  pub lines-filled : (rs : List (List ℕ)) (x u : Read) → Taken table_rules rs x u → Standing [] x → Standing rs u × (complete u.progress ≡ true)
  lines-filled rs x u taken h =
      taken-keeps table_rules Standing
      (λ done y vs l z q.
      let st : Stands y.progress (padded 6 vs) = stands y.progress (length vs) (padded 6 vs) z in (
        sound-step y.progress (padded 6 vs) y.form q.0 (line-held y.progress (length vs) (padded 6 vs) z) st,
        step y.progress (padded 6 vs) y.form q.0.size st q.1,
        filled-step y.progress y.form done vs l z q.0 q.2,
      ))
      rs [] x u taken h

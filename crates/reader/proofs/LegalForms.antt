-- The form of every table that is read has its shape (`legal`), and so has the form of every target (`legal-target`).
-- Assumes nothing.
use Prim.Native.Nat.{ℕ, ◌+◌, ◌≤◌, ◌<◌}
use mathlib.Core.Bool.{Bool, true, false, and-eq-true_iff}
use mathlib.Core.List.{List}
use mathlib.Core.Path.{◌≡◌, refl, subst}
use borrow.Author.Tests.{leb-true, eqb-true, eqb-false}
use native.Mathlib.Omega.{arith}
use lib.Dec.{leb, eqb}
use lib.ListN.{length}
use Rattle.refusals.specs.Judged.{Judged, ◌then◌}
use Rattle.refusals.specs.Judged.Judged.{accepted, refused}
use Rattle.lists.specs.Arrays.{padded}
use Rattle.fields.specs.LineFiles.{read_file}
use Rattle.fields.proofs.LineFiles.{file_keeps}
use Rattle.forms.specs.TableForm.{row_count, form_length, counts_row, starting_rows, cell}
use Rattle.forms.proofs.FormRows.{length_without, cell-without}
use Rattle.reader.specs.declared.Progress.{Progress}
use Rattle.reader.specs.TableRules.{kind_at, advance, further, placed, at_start, before_target, complete}
use Rattle.reader.specs.Table.{Read, table_rules, blank_form, read_form, read_table, read_target}
use Rattle.reader.proofs.Accepted.{Stands, stands, line1, line2, line3, line4, line5, line6, line7, line8}
use Rattle.reader.proofs.Shape.{TransitionRows, Legal, LegalTarget}
use Rattle.reader.proofs.Keeping.{Issued, zeros_issued, line-held, Counted, Sound, sound-step, HeadedBy, headed_step}

-- what every line that is accepted keeps holds at the end of a file that is read
module _ (Q : Progress → List ℕ → Type 0) (step : (p : Progress) (f t : List ℕ) → Issued f → Stands p f → Q p t → Q (further p f t) (placed p f t)) where
  form-keeps : (file limit : ℕ) (p : Progress) (s u : List ℕ) → Q p blank_form → read_form file limit p s ≡ accepted u → (q : Progress) × Q q u × (complete q ≡ true)
  form-keeps file limit p s u h e = by (read_file table_rules file limit begun s) refl e
    where
      begun : Read
      begun = record { progress = p; form = blank_form }

      by : (o : Judged Read) → read_file table_rules file limit begun s ≡ o → (◌then◌ o (λ x. accepted x.form)) ≡ accepted u → (q : Progress) × Q q u × (complete q ≡ true)
      by (refused r) y e = let z : ◌≡◌ {A = ℕ} 0 1 = cc in absurd (omega arith)
      by (accepted x) z e =
          let same : x.form ≡ u = cc in
          let k = file_keeps table_rules file limit (λ m y. Q y.progress y.form)
          (λ m k y fs j w v q. step y.progress (padded 6 fs) y.form (line-held y.progress (length fs) (padded 6 fs) j) (stands y.progress (length fs) (padded 6 fs) j) q) x begun s h z in
          (x.progress, subst (Q x.progress) same k.1, k.2)

pub completed : (p : Progress) → complete p ≡ true → (4 ≤ p.stage) × (p.transitions ≤ p.transition)
unfolding complete
completed p c =
    let h = (and-eq-true_iff (leb 4 p.stage) (leb p.transitions p.transition)).0 c in
    (leb-true 4 p.stage h.0, leb-true p.transitions p.transition h.1)

-- a form with no lines
pub blank_sound : (p : Progress) → Counted p → p.ids ≡ 0 → p.acts ≡ 0 → p.stage ≤ 3 → Sound p blank_form
blank_sound p n a b h =
    let x = n.unread (omega arith) in
    let y = n.early (omega arith) in
    record {
      counted = n;
      size = length_without row_count;
      issued = zeros_issued form_length;
      constants = record { second = λ e g. absurd (omega arith); rise = λ e. absurd (omega arith) };
      arities = λ i k. absurd (omega arith);
      start = λ k. absurd (omega arith);
      starting = record {
        starts = 0;
        counts = λ k. omega arith;
        starting = record { few = omega arith; each = λ j k. absurd (omega arith); rest = λ j k l. cell-without row_count (starting_rows + j) 0 };
      };
      moves = record {
        fresh = λ x k. cell-without row_count x 0;
        done = λ i k. absurd (omega arith);
        current = λ i k. absurd (omega arith);
      };
    }

-- each transition of a complete table
transition-rows : (p : Progress) (t : List ℕ) → Sound p t → (i : ℕ) → i < p.transition
    → (n q : ℕ) × TransitionRows p.registers p.constants p.locations p.actions t i n q
transition-rows p t s i h = by (eqb (i + 1) p.transition) refl
  where
    by : (b : Bool) → eqb (i + 1) p.transition ≡ b → (n q : ℕ) × TransitionRows p.registers p.constants p.locations p.actions t i n q
    by true z = let u = s.moves.current i (eqb-true _ _ z) in (u.0, p.params, u.1)
    by false z = s.moves.done i (omega (arith, eqb-false (i + 1) p.transition z))

-- the form of a complete table
pub legal-end : (p : Progress) (t : List ℕ) → Sound p t → HeadedBy p t → complete p ≡ true → Legal t
legal-end p t s h c =
    let n = s.counted in
    let d = completed p c in
    let b = s.start d.0 in
    record {
      size = s.size;
      issued = s.issued;
      registers = omega (arith, h.head1, n.registers-low);
      constants = omega (arith, h.head2, n.constants-low);
      locations = rw h.head3 (omega (arith, n.locations-low));
      actions = rw h.head4 (omega (arith, n.actions_low, h.passed (omega arith)));
      transitions = omega (arith, h.head5, n.transitions-low);
      rise = λ e. s.constants.rise (omega (arith, h.head2, n.ids_low, h.passed (omega arith)));
      arities = λ i k. s.arities i (omega (arith, h.head4, n.acted d.0));
      start = rw h.head3 b;
      starts = s.starting.starts;
      starting = rw (h.head1, h.head2) s.starting.starting;
      moves = λ i k. rw (h.head1, h.head2, h.head3, h.head4) (transition-rows p t s i (omega (arith, h.head5)));
    }

-- what holds of every table that is read
pub legal : (s t : List ℕ) → read_table s ≡ accepted t → Legal t
legal s t e =
    let h = form-keeps (λ p u. Sound p u × HeadedBy p u) (λ p f u l k g. (sound-step p f u g.0 l k, headed_step p f u g.0.size g.1 k)) 1 40000 at_start s t
    (blank_sound at_start (omega arith) refl refl (omega arith), record { head1 = refl; head2 = refl; head3 = refl; head4 = refl; head5 = refl; passed = λ z. absurd (omega arith) }) e in
    legal-end h.0 t h.1.0 h.1.1 h.2

-- a target keeps the counts of its table
record Aimed (r c l : ℕ) (p : Progress) (t : List ℕ) : Type 0 where
  sound : Sound p t
  same1 : p.registers ≡ r
  same2 : p.constants ≡ c
  same3 : p.locations ≡ l
  beyond : 3 ≤ p.stage

aimed_step : (r c l : ℕ) (p : Progress) (f t : List ℕ) → Issued f → Stands p f → Aimed r c l p t → Aimed r c l (further p f t) (placed p f t)
unfolding advance kind_at
aimed_step r c l p f t x h s =
    let g = same h in
    record { sound = sound-step p f t s.sound x h; same1 = g.0; same2 = g.1; same3 = g.2; beyond = g.3 }
  where
    same : Stands p f → ((further p f t).registers ≡ r) × ((further p f t).constants ≡ c) × ((further p f t).locations ≡ l) × (3 ≤ (further p f t).stage)
    same (line1 k h b c d e g) = absurd (omega (arith, s.beyond))
    same (line2 k g h i j) = absurd (omega (arith, s.beyond))
    same (line3 k g h i j m) = rw k (s.same1, s.same2, s.same3, omega arith)
    same (line4 k h i j) = rw k (s.same1, s.same2, s.same3, omega arith)
    same (line5 k h j b c d) = rw k (s.same1, s.same2, s.same3, omega arith)
    same (line6 k h i b c d) = rw k (s.same1, s.same2, s.same3, omega arith)
    same (line7 k h j b c d) = rw k (s.same1, s.same2, s.same3, omega arith)
    same (line8 k h b c) = rw k (s.same1, s.same2, s.same3, omega arith)

target-end : (r c l : ℕ) (p : Progress) (t : List ℕ) → Sound p t → p.registers ≡ r → p.constants ≡ c → p.locations ≡ l → complete p ≡ true → LegalTarget r c l t
target-end r c l p t s x y z e =
    record {
      size = s.size;
      issued = s.issued;
      location = rw (← z) (s.start (completed p e).0);
      conditions = s.starting.starts;
      guard = rw (← x, ← y) s.starting.starting;
    }

-- what holds of every target that is read, for a table of these counts
pub target-legal : (r c l : ℕ) (s u : List ℕ) → r ≤ 5 → c ≤ 2 → l ≤ 16 → read_form 2 309 (before_target r c l) s ≡ accepted u → LegalTarget r c l u
target-legal r c l s u x y z e =
    let h = form-keeps (Aimed r c l) (aimed_step r c l) 2 309 (before_target r c l) s u
    (record { sound = blank_sound (before_target r c l) (omega arith) refl refl (omega arith); same1 = refl; same2 = refl; same3 = refl; beyond = omega arith }) e in
    let a = h.1 in
    target-end r c l h.0 u a.sound a.same1 a.same2 a.same3 h.2

-- what holds of every target that is read for the table with the form t
pub legal-target : (t s u : List ℕ) → Legal t → read_target t s ≡ accepted u → LegalTarget (cell t counts_row 1) (cell t counts_row 2) (cell t counts_row 3) u
legal-target t s u n e = target-legal (cell t counts_row 1) (cell t counts_row 2) (cell t counts_row 3) s u n.registers n.constants n.locations.1 e

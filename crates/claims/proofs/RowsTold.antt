-- The words of a question's rows are right of formulas over steps with real identifiers and stays.
-- Assumes nothing.
use Prim.Native.Nat.{ℕ, pred, ◌+◌, ◌*◌, ◌/◌, ◌%◌, ◌≤◌, ◌<◌, ◌^◌}
use mathlib.Core.Bool.{Bool, false}
use mathlib.Core.List.{List, [], map}
use mathlib.Core.Logic.{◌⊎◌, inl, inr, ⊎_map, by_cases}
use mathlib.Core.Path.{◌≡◌, sym, refl, ap, ap₂, ◌∙◌, subst, subst⁻¹}
use native.Mathlib.Decide.{dec_lt}
use native.Mathlib.Omega.{arith}
use lib.Dec.{T}
use lib.Ieee.Fits.{and_l}
use lib.ListN.{length, get_or, take, drop, length-map, length-drop, get_or-eq_default}
use lib.Seq.{get_or-take, get_or-drop, ext_get_or}
use Rattle.sets.specs.Members.{bit, member}
use Rattle.graphs.specs.Formulas.{Formula}
use Rattle.automata.specs.Automaton.{Automaton}
use Rattle.automata.specs.Questions.{Atom, Row, row_of, row_formulas}
use Rattle.automata.specs.WellFormed.{well_formed, limited, inside, fits_rows, fits_question}
use Rattle.automata.specs.Configurations.{conf, number}
use Rattle.automata.specs.ConfigurationGraph.{rows}
use Rattle.automata.specs.Answers.{holding}
use Rattle.automata.proofs.Equivariance.{inside→}
use Rattle.automata.proofs.Numbering.{configurations-length, rows-length}
use Rattle.automata.proofs.ClassBisimulation.{node_below}
use Rattle.automata.proofs.Questions.{holds-number}
use Rattle.automata.proofs.RowFormulas.{formulas_length, question-fits}
use Rattle.lists.specs.Arrays.{Kept}
use Rattle.lists.specs.Filling.{filled}
use Rattle.lists.proofs.Arrays.{length-filled, filled_at, filled_out}
use Rattle.sets.proofs.Laws.{packed-low}
use Rattle.predecessors.specs.NodeWords.{words}
use Rattle.answers.specs.Rows.{shown_to, shown}
use Rattle.searching.proofs.HeldSets.{member-words}
use Rattle.formulas.proofs.RowSets.{holding-length}
use Rattle.answers.proofs.Buffer.{shown-row, held-formula}
use Rattle.reach.proofs.StepGraph.{graph_fits}
use Rattle.claims.specs.Truth.{RowsClaim}

-- bit c of the row that begins at word 337 j
row-member : (vs : List ℕ) (j c : ℕ) → c < 10784 → member vs (10784 * j + c) ≡ member (take 337 (drop (337 * j) vs)) c
unfolding member
row-member vs j c h =
    let p : (10784 * j + c) / 32 ≡ 337 * j + c / 32 = omega arith in
    let q : (10784 * j + c) % 32 ≡ c % 32 = omega arith in
    let e : get_or (take 337 (drop (337 * j) vs)) (c / 32) 0 ≡ get_or vs (337 * j + c / 32) 0 = get_or-take 337 (drop (337 * j) vs) (c / 32) 0 (omega arith) ∙ get_or-drop (337 * j) vs (c / 32) 0 in
    ap₂ (λ (x y : ℕ). bit (get_or vs x 0) y) p q ∙ ap (λ (w : ℕ). bit w (c % 32)) (sym e)

filled-kept : (ws : List ℕ) (f : ℕ → ℕ) (n : ℕ) → Kept n ws (filled ws 0 f n)
filled-kept ws f n = (
  length-filled ws 0 f n,
  ext_get_or 0 (drop n (filled ws 0 f n)) (drop n ws) (omega (arith, length-drop n (filled ws 0 f n), length-drop n ws, length-filled ws 0 f n)) (λ i h.
      get_or-drop n (filled ws 0 f n) i 0 ∙ filled_out ws 0 f n (n + i) (inr (omega arith)) ∙ sym (get_or-drop n ws i 0)),
)

module _ (a : Automaton) (rs : List Row) (ws : List ℕ) (long : 10784 ≤ length ws) where
  -- bit c of row j, counted from 0
  bit-shown : (j c : ℕ) → j < 32 → c < 10784 → member (shown a (row_formulas rs) ws) (10784 * j + c) ≡ get_or (get_or (map (holding a) (row_formulas rs)) j []) c false
  bit-shown j c h k =
      let s : List Bool = get_or (map (holding a) (row_formulas rs)) j [] in
      row-member (shown a (row_formulas rs) ws) j c k ∙ ap (λ (l : List ℕ). member l c) (shown-row 32 a ws long (row_formulas rs) (shown a (row_formulas rs) ws) j h refl)
      ∙ member-words s c k

  -- bit c of row i of the question, counted from 1
  bit-row : (i c : ℕ) → 1 ≤ i → i ≤ length rs → i ≤ 32 → c < 10784
      → member (shown a (row_formulas rs) ws) (10784 * pred i + c) ≡ get_or (holding a (row_of (row_formulas rs) i)) c false
  bit-row i c low high h k =
      bit-shown (pred i) c (omega arith) k
      ∙ ap (λ (s : List Bool). get_or s c false) (held-formula a (row_formulas rs) i low (omega (arith, formulas_length [] rs)))

  -- a row past the question's
  bit_past : (i c : ℕ) → 1 ≤ i → i ≤ 32 → length rs < i → c < 10784 → member (shown a (row_formulas rs) ws) (10784 * pred i + c) ≡ false
  bit_past i c low h past k =
      bit-shown (pred i) c (omega arith) k
      ∙ ap (λ (s : List Bool). get_or s c false)
      (get_or-eq_default (map (holding a) (row_formulas rs)) [] {n = pred i} (omega (arith, length-map (row_formulas rs) (holding a), formulas_length [] rs)))

  -- a bit past the configurations
  bit-none : (i c : ℕ) → 1 ≤ i → i ≤ length rs → i ≤ 32 → length (rows a) ≤ c → c < 10784 → member (shown a (row_formulas rs) ws) (10784 * pred i + c) ≡ false
  bit-none i c low high h past k =
      let f : Formula Atom = row_of (row_formulas rs) i in
      bit-row i c low high h k ∙ get_or-eq_default (holding a f) false {n = c} (omega (arith, holding-length a f))

  -- words of 32 bits, and what stands behind them
  shown-low : (i : ℕ) → i < 10784 → get_or (shown a (row_formulas rs) ws) i 0 < 2 ^ 32
  unfolding shown_to words
  shown-low i h =
      let s : List Bool = get_or (map (holding a) (row_formulas rs)) (i / 337) [] in
      let f : ℕ → ℕ = λ j. get_or (words (get_or (map (holding a) (row_formulas rs)) (j / 337) [])) (j % 337) 0 in
      let e : 0 + i ≡ i = omega arith in
      subst (λ k. get_or (filled ws 0 f 10784) k 0 < 2 ^ 32) e (subst⁻¹ (λ x. x < 2 ^ 32) (filled_at ws 0 f 10784 i long h) (packed-low (λ c. get_or s c false) 337 (i % 337) (omega arith)))

  shown-kept : Kept 10784 ws (shown a (row_formulas rs) ws)
  unfolding shown_to
  shown-kept = filled-kept ws (λ j. get_or (words (get_or (map (holding a) (row_formulas rs)) (j / 337) [])) (j % 337) 0) 10784

-- what the words of a question's rows say of steps with real identifiers is so
pub rows_right : (a : Automaton) → T (well_formed a) → T (limited a) → (rs : List Row) → T (fits_question a rs) → (ws : List ℕ) → 10784 ≤ length ws → RowsClaim a rs ws (shown a (row_formulas rs) ws)
rows_right a wf lim rs fits ws long = record {
  holds = λ i low high s p.
      let below : number a (conf a s) < length (rows a) = node_below a wf s (number a (conf a s)) (record { proper = p; named = refl }) in
      let e = bit-row a rs ws long i (number a (conf a s)) low high (omega (arith, most)) (omega (arith, graph_fits a lim)) in
      let h = holds-number a wf (row_of (row_formulas rs) i) (question-fits a rs fits i) s p in
      (λ t. h.1 (subst T e t), λ t. subst⁻¹ T e (h.0 t));
  unused = λ i c low high k past. subst T (zero_bit i c low high k (⊎_map (λ h. h) (λ h. omega (arith, rows-length a, configurations-length a)) past));
  words = shown-low a rs ws long;
  kept = shown-kept a rs ws long;
}
  where
    most : length rs ≤ 32
    most = (inside→ 32 (length rs) (and_l (inside 32 (length rs)) (fits_rows a 0 rs) fits)).1

    zero_bit : (i c : ℕ) → 1 ≤ i → i ≤ 32 → c < 10784 → (length rs < i) ⊎ (length (rows a) ≤ c) → member (shown a (row_formulas rs) ws) (10784 * pred i + c) ≡ false
    zero_bit i c low high k (inl past) = bit_past a rs ws long i c low high past k
    zero_bit i c low high k (inr past) =
        by_cases (dec_lt (length rs) i) (λ above. bit_past a rs ws long i c low high above k) (λ used. bit-none a rs ws long i c low (omega arith) high past k)

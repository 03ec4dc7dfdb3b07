-- The rows of a text's question are that question: automata's formula of them is its own.
-- Assumes nothing.
use Prim.Native.Nat.{ℕ, suc, pred, ◌+◌, ◌<◌}
use mathlib.Core.List.{List, [], ◌∷◌, ◌++◌}
use mathlib.Core.Path.{◌≡◌, refl, sym, ap, ap₂, ◌∙◌}
use native.Mathlib.Omega.{arith}
use lib.ListN.{length, get_or, length-append, get_or-append}
use lib.Seq.{get_or_at}
use Rattle.graphs.specs.Formulas.{Formula, or, implies, AX, EF, AG, AF}
use Rattle.graphs.specs.Formulas.Formula.{truth, neg, both, EX, EU, EG}
use Rattle.automata.specs.Questions.{Atom, Row, row_of, row_formula, formulas_from}
use Rattle.automata.specs.Questions as meaning
use Rattle.automata.specs.Questions.Atom.{at, equal, is}
use Rattle.automata.proofs.RowFormulas.{formulas_length}
use Rattle.grammar.specs.Grammar.{Question, formula_of, size, atom_row, rows_from}
use Rattle.grammar.specs.Grammar.Temporal.{X, G, F}
use Rattle.grammar.specs.Grammar.Join.{conjunction, disjunction, implication}
use Rattle.grammar.specs.Grammar.Question.{basic, negated, E, A, joined, until}

formulas_append : (fs : List (Formula Atom)) (xs ys : List Row) → formulas_from fs (xs ++ ys) ≡ formulas_from (formulas_from fs xs) ys
formulas_append fs [] ys = refl
formulas_append fs (x ∷ xs) ys = formulas_append (fs ++ (row_formula fs x ∷ [])) xs ys

-- rows that follow leave a formula as it is
formulas_kept : (fs : List (Formula Atom)) (rs : List Row) (i : ℕ) → i < length fs → get_or (formulas_from fs rs) i truth ≡ get_or fs i truth
formulas_kept fs [] i h = refl
formulas_kept fs (r ∷ rs) i h =
    let f : List (Formula Atom) = row_formula fs r ∷ [] in
    formulas_kept (fs ++ f) rs i (omega (arith, length-append fs f)) ∙ get_or-append fs f truth i h

one_more : (xs : List Row) (r : Row) → length (xs ++ (r ∷ [])) ≡ suc (length xs)
one_more xs r = omega (arith, length-append xs (r ∷ []))

two_lists : (xs ys : List Row) (r : Row) → length (xs ++ (ys ++ (r ∷ []))) ≡ suc (length xs + length ys)
two_lists xs ys r = omega (arith, length-append xs (ys ++ (r ∷ [])), one_more ys r)

-- there are as many rows as operators and atoms
pub rows-size : (n : ℕ) (q : Question) → length (rows_from n q) ≡ size q
rows-size n (basic a) = refl
rows-size n (negated q) = one_more (rows_from n q) _ ∙ ap suc (rows-size n q)
rows-size n (E o q) = one_more (rows_from n q) _ ∙ ap suc (rows-size n q)
rows-size n (A o q) = one_more (rows_from n q) _ ∙ ap suc (rows-size n q)
rows-size n (joined o p q) = two_lists (rows_from n p) (rows_from (n + size p) q) _ ∙ cc (rows-size n p, rows-size (n + size p) q)
rows-size n (until p q) = two_lists (rows_from n p) (rows_from (n + size p) q) _ ∙ cc (rows-size n p, rows-size (n + size p) q)

-- the formula of a last row
last_row : (fs : List (Formula Atom)) (r : Row) (n : ℕ) → length fs ≡ n → get_or (formulas_from fs (r ∷ [])) n truth ≡ row_formula fs r
last_row fs r n e = get_or_at fs (row_formula fs r) [] truth n e

module _ (fs : List (Formula Atom)) where
  -- the formulas up to the rows of q
  after : Question → List (Formula Atom)
  after q = formulas_from fs (rows_from (length fs) q)

  after-length : (q : Question) → length (after q) ≡ length fs + size q
  unfolding after
  after-length q = formulas_length fs (rows_from (length fs) q) ∙ ap (λ n. length fs + n) (rows-size (length fs) q)

-- one more row that names the last
unary_row : (fs : List (Formula Atom)) (q : Question) (r : Row) (m : ℕ) → m ≡ length fs + size q
    → get_or (formulas_from fs (rows_from (length fs) q ++ (r ∷ []))) m truth ≡ row_formula (after fs q) r
unfolding after
unary_row fs q r m e = rw (formulas_append fs (rows_from (length fs) q) (r ∷ [])) (last_row (after fs q) r m (after-length fs q ∙ sym e))

binary_row : (fs : List (Formula Atom)) (p q : Question) (r : Row) (m : ℕ) → m ≡ length fs + size p + size q
    → get_or (formulas_from fs (rows_from (length fs) p ++ (rows_from (length fs + size p) q ++ (r ∷ [])))) m truth ≡ row_formula (after (after fs p) q) r
unfolding after
binary_row fs p q r m e =
    rw (formulas_append fs (rows_from (length fs) p) (rows_from (length fs + size p) q ++ (r ∷ [])))
    (rw (sym (after-length fs p)) (unary_row (after fs p) q r m (omega (arith, after-length fs p))))

pub size_positive : (q : Question) → (n : ℕ) × (size q ≡ suc n)
size_positive (basic a) = (0, refl)
size_positive (negated q) = (size q, refl)
size_positive (E o q) = (size q, refl)
size_positive (A o q) = (size q, refl)
size_positive (joined o p q) = (size p + size q, refl)
size_positive (until p q) = (size p + size q, refl)

-- what the rows of q make is q's formula
Makes : List (Formula Atom) → Question → Type 0
Makes fs q = row_of (after fs q) (length fs + size q) ≡ formula_of q

module _ (fs : List (Formula Atom)) (p q : Question) (h : Makes fs p) (k : Makes (after fs p) q) where
  left_made : row_of (after (after fs p) q) (length fs + size p) ≡ formula_of p
  unfolding Makes after
  left_made =
      let (n, e) = size_positive p in
      formulas_kept (after fs p) (rows_from (length (after fs p)) q) (pred (length fs + size p)) (omega (arith, after-length fs p)) ∙ h

  right_made : row_of (after (after fs p) q) (length fs + size p + size q) ≡ formula_of q
  unfolding Makes
  right_made = rw (sym (after-length fs p)) k

makes : (fs : List (Formula Atom)) (q : Question) → Makes fs q
unfolding Makes after
makes fs (basic (at l)) = last_row fs (atom_row (at l)) (pred (length fs + 1)) (omega arith)
makes fs (basic (equal i j)) = last_row fs (atom_row (equal i j)) (pred (length fs + 1)) (omega arith)
makes fs (basic (is i j)) = last_row fs (atom_row (is i j)) (pred (length fs + 1)) (omega arith)
makes fs (negated q) = unary_row fs q _ (pred (length fs + suc (size q))) (omega arith) ∙ ap neg (makes fs q)
makes fs (E X q) = unary_row fs q _ (pred (length fs + suc (size q))) (omega arith) ∙ ap EX (makes fs q)
makes fs (E G q) = unary_row fs q _ (pred (length fs + suc (size q))) (omega arith) ∙ ap EG (makes fs q)
makes fs (E F q) = unary_row fs q _ (pred (length fs + suc (size q))) (omega arith) ∙ ap EF (makes fs q)
makes fs (A X q) = unary_row fs q _ (pred (length fs + suc (size q))) (omega arith) ∙ ap AX (makes fs q)
makes fs (A G q) = unary_row fs q _ (pred (length fs + suc (size q))) (omega arith) ∙ ap AG (makes fs q)
makes fs (A F q) = unary_row fs q _ (pred (length fs + suc (size q))) (omega arith) ∙ ap AF (makes fs q)
makes fs (joined conjunction p q) =
    binary_row fs p q _ (pred (length fs + suc (size p + size q))) (omega arith)
    ∙ ap₂ both (left_made fs p q (makes fs p) (makes (after fs p) q)) (right_made fs p q (makes fs p) (makes (after fs p) q))
makes fs (joined disjunction p q) =
    binary_row fs p q _ (pred (length fs + suc (size p + size q))) (omega arith)
    ∙ ap₂ or (left_made fs p q (makes fs p) (makes (after fs p) q)) (right_made fs p q (makes fs p) (makes (after fs p) q))
makes fs (joined implication p q) =
    binary_row fs p q _ (pred (length fs + suc (size p + size q))) (omega arith)
    ∙ ap₂ implies (left_made fs p q (makes fs p) (makes (after fs p) q)) (right_made fs p q (makes fs p) (makes (after fs p) q))
makes fs (until p q) =
    binary_row fs p q _ (pred (length fs + suc (size p + size q))) (omega arith)
    ∙ ap₂ EU (left_made fs p q (makes fs p) (makes (after fs p) q)) (right_made fs p q (makes fs p) (makes (after fs p) q))

-- the question that its rows ask is its formula
pub rows-question : (q : Question) → meaning.question (rows_from 0 q) ≡ formula_of q
unfolding Makes after
rows-question q = let e : length (rows_from 0 q) ≡ 0 + size q = omega (arith, rows-size 0 q) in rw e (makes [] q)

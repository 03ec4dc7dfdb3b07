-- Parsers that read a grammar: what is read is written so, all that is written is read, and where a parser stops no continuation is possible.
-- Stated for one parser after another, a table of bytes and a renaming; the parsers of questions are made of these.
-- Assumes nothing.
use Prim.Native.Nat.{ℕ, ◌≤◌}
use mathlib.Core.Bool.{Bool, true, false, cond}
use mathlib.Core.List.{List, [], ◌∷◌, ◌++◌, append_assoc}
use mathlib.Core.Option.{Option, none, some}
use mathlib.Core.Path.{◌≡◌, refl, sym, ap, subst, ◌∙◌}
use native.Mathlib.Omega.{arith}
use lib.Dec.{eqb}
use lib.ListN.{length}
use borrow.Author.Tests.{eqb-true}
use Rattle.grammar.specs.Parser.{Read, Parser, paired, chain, seq, each, value_of, took, token}
use Rattle.grammar.specs.Parser.Read.{got, stop}

-- values with their bytes, those that the grammar has, and what may follow each
pub record Grammar (C : Type 0) : Type 1 where
  pub bytes : C → List ℕ
  pub legal : C → Type 0
  pub before : C → List ℕ → Type 0

module _ {C : Type 0} (g : Grammar C) where
  -- some value of the grammar begins with d
  abbrev pub Begun : List ℕ → Type 0
  Begun d = (c : C) × (rest : List ℕ) × (g.legal c) × (g.bytes c ≡ d ++ rest)

  -- what the parser p makes of s: a value, or it stops after d, which begins a value, and at the next byte whatever follows that
  abbrev pub Outcome : ℕ → Parser C → List ℕ → Read C → Type 0
  Outcome n p s (got c r) = (g.legal c) × (s ≡ g.bytes c ++ r) × (g.before c r)
  Outcome n p s (stop r) =
      (d : List ℕ) × (s ≡ d ++ r) × Begun d × ((b : ℕ) (t x : List ℕ) → r ≡ b ∷ t → length (d ++ (b ∷ x)) ≤ n → p (d ++ (b ∷ x)) ≡ stop (b ∷ x))

  -- p reads the grammar, on at most n bytes
  pub record Reads (n : ℕ) (p : Parser C) : Type 0 where
    pub outcome : (s : List ℕ) → length s ≤ n → Outcome n p s (p s)
    pub complete : (c : C) (t : List ℕ) → length (g.bytes c ++ t) ≤ n → g.legal c → g.before c t → p (g.bytes c ++ t) ≡ got c t
    pub example : (c : C) × (g.legal c)
    pub ahead : (c : C) (d : List ℕ) (b : ℕ) (x y : List ℕ) → g.before c (d ++ (b ∷ x)) → g.before c (d ++ (b ∷ y))

-- One after the other

abbrev pub Seq : {C : Type 0} {D : C → Type 0} → Grammar C → ((c : C) → Grammar (D c)) → Grammar ((c : C) × D c)
Seq g h = record {
  bytes = λ v. g.bytes v.0 ++ (h v.0).bytes v.1;
  legal = λ v. (g.legal v.0) × ((h v.0).legal v.1);
  before = λ v t. (h v.0).before v.1 t;
}

module _ {C : Type 0} {D : C → Type 0} (g : Grammar C) (h : (c : C) → Grammar (D c)) (p : Parser C) (q : (c : C) → Parser (D c)) (n m : ℕ)
    (P : Reads g n p) (Q : (c : C) → Reads (h c) m (q c))
    (shorter : (c : C) (s : List ℕ) → length (g.bytes c ++ s) ≤ n → length s ≤ m)
    (between : (c : C) (d : D c) (t : List ℕ) → (h c).legal d → (h c).before d t → g.before c ((h c).bytes d ++ t)) where
  seq-complete : (v : (c : C) × D c) (t : List ℕ) → length ((Seq g h).bytes v ++ t) ≤ n → (Seq g h).legal v → (Seq g h).before v t → seq p q ((Seq g h).bytes v ++ t) ≡ got v t
  seq-complete (c, d) t l (lc, ld) b =
      let e : (g.bytes c ++ (h c).bytes d) ++ t ≡ g.bytes c ++ ((h c).bytes d ++ t) = append_assoc (g.bytes c) ((h c).bytes d) t in
      let l' : length (g.bytes c ++ ((h c).bytes d ++ t)) ≤ n = rw (sym e) l in
      let first : p (g.bytes c ++ ((h c).bytes d ++ t)) ≡ got c ((h c).bytes d ++ t) = P.complete c ((h c).bytes d ++ t) l' lc (between c d t ld b) in
      let then : q c ((h c).bytes d ++ t) ≡ got d t = (Q c).complete d t (shorter c ((h c).bytes d ++ t) l') ld b in
      rw e (rw first (rw then refl))

  -- the second part, after c
  seq-second : (s : List ℕ) → length s ≤ n → (c : C) (r : List ℕ) → Outcome g n p s (got c r) → (o : Read (D c)) → Outcome (h c) m (q c) r o → Outcome (Seq g h) n (seq p q) s (paired c o)
  seq-second s l c r (lc, e, b) (got d t) (ld, e', b') = ((lc, ld), e ∙ (rw e' (sym (append_assoc (g.bytes c) ((h c).bytes d) t))), b')
  seq-second s l c r (lc, e, b) (stop t) (d, e', (v, rest, lv, ev), local) = (
    g.bytes c ++ d,
    e ∙ (rw e' (sym (append_assoc (g.bytes c) d t))),
    ((c, v), rest, (lc, lv), rw ev (sym (append_assoc (g.bytes c) d rest))),
    λ x u y ex ly.
        let a : (g.bytes c ++ d) ++ (x ∷ y) ≡ g.bytes c ++ (d ++ (x ∷ y)) = append_assoc (g.bytes c) d (x ∷ y) in
        let ly' : length (g.bytes c ++ (d ++ (x ∷ y))) ≤ n = rw (sym a) ly in
        let er : r ≡ d ++ (x ∷ u) = e' ∙ ap (λ z. d ++ z) ex in
        let first : p (g.bytes c ++ (d ++ (x ∷ y))) ≡ got c (d ++ (x ∷ y)) = P.complete c (d ++ (x ∷ y)) ly' lc (P.ahead c d x u y (subst (λ z. g.before c z) er b)) in
        let then : q c (d ++ (x ∷ y)) ≡ stop (x ∷ y) = local x u y ex (shorter c (d ++ (x ∷ y)) ly') in
        rw a (rw first (rw then refl)),
  )

  seq-first : (s : List ℕ) → length s ≤ n → (o : Read C) → Outcome g n p s o → Outcome (Seq g h) n (seq p q) s (chain o q)
  seq-first s l (got c r) k = seq-second s l c r k (q c r) ((Q c).outcome r (shorter c r (rw (sym k.1) l)))
  seq-first s l (stop r) (d, e, (c, rest, lc, ec), local) =
      let (v, lv) = (Q c).example in
      (d, e, ((c, v), rest ++ (h c).bytes v, (lc, lv), rw ec (append_assoc d rest ((h c).bytes v))), λ x u y ex ly. rw (local x u y ex ly) refl)

  pub reads_seq : Reads (Seq g h) n (seq p q)
  reads_seq = record {
    outcome = λ s l. seq-first s l (p s) (P.outcome s l);
    complete = seq-complete;
    example = let (c, lc) = P.example in let (d, ld) = (Q c).example in ((c, d), (lc, ld));
    ahead = λ v. (Q v.0).ahead v.1;
  }

-- One byte of a table

module _ {C : Type 0} (byte_of : C → ℕ) where
  abbrev pub Byte : Grammar C
  Byte = record { bytes = λ c. byte_of c ∷ []; legal = λ c. Unit {0}; before = λ c t. Unit {0} }

  -- every entry of the table stands beside its own byte
  abbrev pub Named : List (ℕ × C) → Type 0
  Named [] = Unit {0}
  Named ((b, c) ∷ t) = (byte_of c ≡ b) × Named t

  value_of-named : (t : List (ℕ × C)) → Named t → (b : ℕ) (c : C) → value_of t b ≡ some c → byte_of c ≡ b
  value_of-named [] k b c e = let z : ◌≡◌ {A = ℕ} 0 1 = cc in absurd (omega arith)
  value_of-named ((x, y) ∷ t) (ky, k) b c e = step (eqb b x) refl e (value_of-named t k b c)
    where
      step : (o : Bool) → eqb b x ≡ o → cond o (some y) (value_of t b) ≡ some c → (value_of t b ≡ some c → byte_of c ≡ b) → byte_of c ≡ b
      step true i e rest = let j : b ≡ x = eqb-true b x i in let z : y ≡ c = cc in cc
      step false i e rest = rest e

  module _ (t : List (ℕ × C)) (k : Named t) (all : (c : C) → value_of t (byte_of c) ≡ some c) (c₀ : C) (n : ℕ) where
    took_outcome : (b : ℕ) (s : List ℕ) (o : Option C) → value_of t b ≡ o → Outcome Byte n (token t) (b ∷ s) (took o b s)
    took_outcome b s (some c) e = (tt, ap (λ x. x ∷ s) (sym (value_of-named t k b c e)), tt)
    took_outcome b s none e = ([], refl, (c₀, byte_of c₀ ∷ [], tt, refl), λ x u y ex l. let i : b ≡ x = cc in rw (sym i) (rw e refl))

    token_outcome : (s : List ℕ) → length s ≤ n → Outcome Byte n (token t) s (token t s)
    token_outcome [] l = ([], refl, (c₀, byte_of c₀ ∷ [], tt, refl), λ x u y ex ly. let z : ◌≡◌ {A = ℕ} 0 1 = cc in absurd (omega arith))
    token_outcome (b ∷ s) l = took_outcome b s (value_of t b) refl

    pub reads_token : Reads Byte n (token t)
    reads_token = record { outcome = token_outcome; complete = λ c s l lc b. rw (all c) refl; example = (c₀, tt); ahead = λ c d b x y h. tt }

-- Another name for what is read

module _ {C D : Type 0} (g : Grammar C) (h : Grammar D) (f : C → D) (p : Parser C) (n : ℕ) (P : Reads g n p)
    (same : (c : C) → h.bytes (f c) ≡ g.bytes c)
    (legal : (c : C) → g.legal c → h.legal (f c))
    (before : (c : C) (t : List ℕ) → g.before c t → h.before (f c) t)
    (back : (d : D) → (c : C) × (f c ≡ d) × (h.legal d → g.legal c) × ((t : List ℕ) → h.before d t → g.before c t))
    (ahead : (d : D) (e : List ℕ) (b : ℕ) (x y : List ℕ) → h.before d (e ++ (b ∷ x)) → h.before d (e ++ (b ∷ y))) where
  each_outcome : (s : List ℕ) (o : Read C) → Outcome g n p s o → Outcome h n (λ s. each f (p s)) s (each f o)
  each_outcome s (got c r) (lc, e, b) = (legal c lc, e ∙ ap (λ z. z ++ r) (sym (same c)), before c r b)
  each_outcome s (stop r) (d, e, (c, rest, lc, ec), local) = (d, e, (f c, rest, legal c lc, same c ∙ ec), λ x u y ex l. rw (local x u y ex l) refl)

  each-complete : (d : D) (t : List ℕ) → length (h.bytes d ++ t) ≤ n → h.legal d → h.before d t → each f (p (h.bytes d ++ t)) ≡ got d t
  each-complete d t l ld b =
      let (c, e, lc, bc) = back d in
      let w : h.bytes d ≡ g.bytes c = ap (λ z. h.bytes z) (sym e) ∙ same c in
      let r : p (g.bytes c ++ t) ≡ got c t = P.complete c t (rw (sym w) l) (lc ld) (bc t b) in
      rw w (rw r (rw e refl))

  pub reads_each : Reads h n (λ s. each f (p s))
  reads_each = record {
    outcome = λ s l. each_outcome s (p s) (P.outcome s l);
    complete = each-complete;
    example = let (c, lc) = P.example in (f c, legal c lc);
    ahead = ahead;
  }

-- Different automata, targets and questions have different lines (`table_injective`, `target_injective`, `question-injective`).
-- Assumes nothing.
use Prim.Native.Nat.{ℕ}
use mathlib.Core.Bool.{Bool, true, false, cond}
use mathlib.Core.List.{List, [], ◌∷◌, ◌++◌, map}
use mathlib.Core.Path.{◌≡◌, refl, sym, ◌∙◌, ap, ap₂}
use native.Mathlib.Omega.{arith}
use Rattle.automata.specs.Automaton.{Term, Condition, Assignment, Transition, Automaton}
use Rattle.automata.specs.Automaton.Term.{register, parameter, constant}
use Rattle.automata.specs.Runs.{Target}
use lib.ListN.{get_or}
use Rattle.writing.specs.Lines.{term_kind, term_number, condition_line, assignment_line, transitions_lines, head_line, table_lines, target_lines}

-- Lists

no_list : {A B : Type 0} {x : B} {l : List B} → [] ≡ x ∷ l → A
no_list e = let z : ◌≡◌ {A = ℕ} 0 1 = cc in absurd (omega arith)

no_list' : {A B : Type 0} {x : B} {l : List B} → x ∷ l ≡ [] → A
no_list' e = let z : ◌≡◌ {A = ℕ} 0 1 = cc in absurd (omega arith)

map_injective : {A B : Type 0} (f : A → B) → ((x y : A) → f x ≡ f y → x ≡ y) → (xs ys : List A) → map f xs ≡ map f ys → xs ≡ ys
map_injective f i [] [] e = refl
map_injective f i [] (y ∷ ys) e = no_list e
map_injective f i (x ∷ xs) [] e = no_list' e
map_injective {A = A} {B = B} f i (x ∷ xs) (y ∷ ys) e =
    let a : f x ≡ f y = cc in
    let b : map f xs ≡ map f ys = cc in
    ap₂ (λ (v : A) (l : List A). v ∷ l) (i x y a) (map_injective f i xs ys b)

-- no line, or one of another kind
abbrev Off : ℕ → List (List ℕ) → Type 0
Off k [] = Unit {0}
Off k (l ∷ ls) = get_or l 0 0 ≡ k → ⊥

-- lines of kind k, before others
split : {A : Type 0} (k : ℕ) (f : A → List ℕ) → ((x : A) → get_or (f x) 0 0 ≡ k) → ((x y : A) → f x ≡ f y → x ≡ y) → (xs ys : List A) (r q : List (List ℕ)) → Off k r → Off k q
    → map f xs ++ r ≡ map f ys ++ q → (xs ≡ ys) × (r ≡ q)
split k f h i [] [] r q a b e = (refl, e)
split k f h i [] (y ∷ ys) [] q a b e = no_list e
split k f h i [] (y ∷ ys) (l ∷ r) q a b e = let z : l ≡ f y = cc in absurd (a (ap (λ v. get_or v 0 0) z ∙ h y))
split k f h i (x ∷ xs) [] r [] a b e = no_list' e
split k f h i (x ∷ xs) [] r (l ∷ q) a b e = let z : f x ≡ l = cc in absurd (b (ap (λ v. get_or v 0 0) (sym z) ∙ h x))
split {A = A} k f h i (x ∷ xs) (y ∷ ys) r q a b e =
    let z : f x ≡ f y = cc in
    let w : map f xs ++ r ≡ map f ys ++ q = cc in
    let (u, v) = split k f h i xs ys r q a b w in
    (ap₂ (λ (v : A) (l : List A). v ∷ l) (i x y z) u, v)

-- Terms, conditions, assignments

term_injective : (s t : Term) → term_kind s ≡ term_kind t → term_number s ≡ term_number t → s ≡ t
term_injective (register i) (register j) e f = ap register f
term_injective (register i) (parameter j) e f = absurd (omega arith)
term_injective (register i) (constant j) e f = absurd (omega arith)
term_injective (parameter i) (register j) e f = absurd (omega arith)
term_injective (parameter i) (parameter j) e f = ap parameter f
term_injective (parameter i) (constant j) e f = absurd (omega arith)
term_injective (constant i) (register j) e f = absurd (omega arith)
term_injective (constant i) (parameter j) e f = absurd (omega arith)
term_injective (constant i) (constant j) e f = ap constant f

relation_injective : (a b : Bool) → ◌≡◌ {A = ℕ} (cond a 1 2) (cond b 1 2) → a ≡ b
relation_injective true true e = refl
relation_injective true false e = absurd (omega arith)
relation_injective false true e = absurd (omega arith)
relation_injective false false e = refl

condition_injective : (k : ℕ) (c d : Condition) → condition_line k c ≡ condition_line k d → c ≡ d
condition_injective k c d e =
    let l = term_injective c.left d.left (ap (λ v. get_or v 1 0) e) (ap (λ v. get_or v 2 0) e) in
    let o = relation_injective c.equal d.equal (ap (λ v. get_or v 3 0) e) in
    let r = term_injective c.right d.right (ap (λ v. get_or v 4 0) e) (ap (λ v. get_or v 5 0) e) in
    λ i. record { left = l i; equal = o i; right = r i }

assignment_injective : (s t : Assignment) → assignment_line s ≡ assignment_line t → s ≡ t
assignment_injective s t e =
    let r : s.register ≡ t.register = ap (λ v. get_or v 1 0) e in
    let o = term_injective s.source t.source (ap (λ v. get_or v 2 0) e) (ap (λ v. get_or v 3 0) e) in
    λ i. record { register = r i; source = o i }

-- Transitions

off-transitions : (k : ℕ) → (6 ≡ k → ⊥) → (ts : List Transition) → Off k (transitions_lines ts)
off-transitions k h [] = tt
off-transitions k h (t ∷ ts) = h

off-assigns : (ss : List Assignment) (ls : List (List ℕ)) → Off 7 ls → Off 7 (map assignment_line ss ++ ls)
off-assigns [] ls h = h
off-assigns (s ∷ ss) ls h = λ e. absurd (omega arith)

transitions_injective : (ts us : List Transition) → transitions_lines ts ≡ transitions_lines us → ts ≡ us
transitions_injective [] [] e = refl
transitions_injective [] (u ∷ us) e = no_list e
transitions_injective (t ∷ ts) [] e = no_list' e
transitions_injective (t ∷ ts) (u ∷ us) e =
    let head : ◌≡◌ {A = List ℕ} (6 ∷ t.from ∷ t.action ∷ t.to ∷ []) (6 ∷ u.from ∷ u.action ∷ u.to ∷ []) = cc in
    let tail : map (condition_line 7) t.guard ++ (map assignment_line t.assigns ++ transitions_lines ts) ≡ map (condition_line 7) u.guard ++ (map assignment_line u.assigns ++ transitions_lines us) = cc in
    let f : t.from ≡ u.from = ap (λ v. get_or v 1 0) head in
    let a : t.action ≡ u.action = ap (λ v. get_or v 2 0) head in
    let o : t.to ≡ u.to = ap (λ v. get_or v 3 0) head in
    let (g, rest) = split 7 (condition_line 7) (λ x. refl) (condition_injective 7) t.guard u.guard _ _
    (off-assigns t.assigns (transitions_lines ts) (off-transitions 7 (λ z. absurd (omega arith)) ts)) (off-assigns u.assigns (transitions_lines us) (off-transitions 7 (λ z. absurd (omega arith)) us)) tail in
    let (s, more) = split 8 assignment_line (λ x. refl) assignment_injective t.assigns u.assigns (transitions_lines ts) (transitions_lines us)
    (off-transitions 8 (λ z. absurd (omega arith)) ts) (off-transitions 8 (λ z. absurd (omega arith)) us) rest in
    let same : t ≡ u = λ i. record { from = f i; action = a i; to = o i; guard = g i; assigns = s i } in
    ap₂ (λ (v : Transition) (l : List Transition). v ∷ l) same (transitions_injective ts us more)

-- Tables, targets, questions

number_injective : (k x y : ℕ) → ◌≡◌ {A = List ℕ} (k ∷ x ∷ []) (k ∷ y ∷ []) → x ≡ y
number_injective k x y e = ap (λ v. get_or v 1 0) e

off_numbers : (k n : ℕ) → (k ≡ n → ⊥) → (vs : List ℕ) (ls : List (List ℕ)) → Off n ls → Off n (map (λ v. k ∷ v ∷ []) vs ++ ls)
off_numbers k n h [] ls o = o
off_numbers k n h (v ∷ vs) ls o = h

pub table_injective : (a b : Automaton) → table_lines a ≡ table_lines b → a ≡ b
table_injective a b e =
    let head : head_line a ≡ head_line b = cc in
    let four : Automaton → List (List ℕ) = λ x. (4 ∷ x.start ∷ []) ∷ (map (condition_line 5) x.starting ++ transitions_lines x.transitions) in
    let tail : map (λ v. 2 ∷ v ∷ []) a.constants ++ (map (λ n. 3 ∷ n ∷ []) a.arities ++ four a) ≡ map (λ v. 2 ∷ v ∷ []) b.constants ++ (map (λ n. 3 ∷ n ∷ []) b.arities ++ four b) = cc in
    let r : a.registers ≡ b.registers = ap (λ v. get_or v 1 0) head in
    let l : a.locations ≡ b.locations = ap (λ v. get_or v 3 0) head in
    let (c, rest) = split 2 (λ v. 2 ∷ v ∷ []) (λ x. refl) (number_injective 2) a.constants b.constants _ _
    (off_numbers 3 2 (λ z. absurd (omega arith)) a.arities (four a) (λ z. absurd (omega arith))) (off_numbers 3 2 (λ z. absurd (omega arith)) b.arities (four b) (λ z. absurd (omega arith))) tail in
    let (n, more) = split 3 (λ v. 3 ∷ v ∷ []) (λ x. refl) (number_injective 3) a.arities b.arities (four a) (four b) (λ z. absurd (omega arith)) (λ z. absurd (omega arith)) rest in
    let first : ◌≡◌ {A = List ℕ} (4 ∷ a.start ∷ []) (4 ∷ b.start ∷ []) = cc in
    let last : map (condition_line 5) a.starting ++ transitions_lines a.transitions ≡ map (condition_line 5) b.starting ++ transitions_lines b.transitions = cc in
    let o : a.start ≡ b.start = ap (λ v. get_or v 1 0) first in
    let (g, end) = split 5 (condition_line 5) (λ x. refl) (condition_injective 5) a.starting b.starting _ _
    (off-transitions 5 (λ z. absurd (omega arith)) a.transitions) (off-transitions 5 (λ z. absurd (omega arith)) b.transitions) last in
    let t = transitions_injective a.transitions b.transitions end in
    λ i. record { registers = r i; constants = c i; locations = l i; arities = n i; start = o i; starting = g i; transitions = t i }

pub target_injective : (g h : Target) → target_lines g ≡ target_lines h → g ≡ h
target_injective g h e =
    let first : ◌≡◌ {A = List ℕ} (4 ∷ g.location ∷ []) (4 ∷ h.location ∷ []) = cc in
    let rest : map (condition_line 5) g.conditions ≡ map (condition_line 5) h.conditions = cc in
    let l : g.location ≡ h.location = ap (λ v. get_or v 1 0) first in
    let c = map_injective (condition_line 5) (condition_injective 5) g.conditions h.conditions rest in
    λ i. record { location = l i; conditions = c i }

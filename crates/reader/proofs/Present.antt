-- The rows that hold lines, and tests of what they stand for.
-- Assumes nothing.
use Prim.Native.Nat.{ℕ, zero, suc, ◌+◌, ◌≤◌, ◌<◌}
use mathlib.Core.Bool.{Bool, true, false, cond, not}
use mathlib.Core.List.{List, ◌∷◌, map}
use mathlib.Core.Path.{◌≡◌, refl, ap}
use borrow.Author.Tests.{eq-eqb}
use native.Mathlib.Omega.{arith}
use lib.Dec.{T, eqb, ltb, lt→ltb}
use lib.Ieee.Fits.{and_i}
use Rattle.graphs.specs.Lists.{up_from, select, all_of}
use Rattle.graphs.proofs.Lists.{all_map, select-mem, up_from-mem, T_true}
use Rattle.classes.specs.Renaming.{rising}
use Rattle.forms.specs.TableForm.{cell}

module _ (s : ℕ → Bool) where
  -- a test of what the selected numbers stand for
  pub select-all : {A : Type 0} (p : A → Bool) (f : ℕ → A) (b m : ℕ) → ((x : ℕ) → b ≤ x → x < b + m → s x ≡ true → T (p (f x)))
      → T (all_of p (map f (select s (up_from b m))))
  select-all p f b m h =
      all_map p f (select s (up_from b m))
      (λ x n. let (k, t) = select-mem s (up_from b m) n in let (l, u) = up_from-mem b m k in h x l u (T_true (s x) t))

  -- numbers that stand for their place after the number base rise
  module _ (g : ℕ → ℕ) (base : ℕ) where
    rising-after : (v b m : ℕ) → v + base < b → ((x : ℕ) → b ≤ x → x < b + m → s x ≡ true → g x + base ≡ x) → T (rising (v ∷ map g (select s (up_from b m))))
    rising-after v b zero k h = tt
    rising-after v b (suc m) k h = by (s b) refl (λ w l. rising-after w (suc b) m l (λ x y z. h x (omega arith) (omega arith)))
      where
        by : (c : Bool) → s b ≡ c → ((w : ℕ) → w + base < suc b → T (rising (w ∷ map g (select s (up_from (suc b) m)))))
            → T (rising (v ∷ map g (cond c (b ∷ select s (up_from (suc b) m)) (select s (up_from (suc b) m)))))
        by true e r =
            let z : g b + base ≡ b = h b (omega arith) (omega arith) e in
            and_i (ltb v (g b)) (rising (g b ∷ map g (select s (up_from (suc b) m)))) (lt→ltb v (g b) (omega arith)) (r (g b) (omega arith))
        by false e r = r v (omega arith)

    pub select-rising : (b m : ℕ) → ((x : ℕ) → b ≤ x → x < b + m → s x ≡ true → g x + base ≡ x) → T (rising (map g (select s (up_from b m))))
    select-rising b zero h = tt
    select-rising b (suc m) h = by (s b) refl (select-rising (suc b) m (λ x y z. h x (omega arith) (omega arith)))
      where
        by : (c : Bool) → s b ≡ c → T (rising (map g (select s (up_from (suc b) m)))) → T (rising (map g (cond c (b ∷ select s (up_from (suc b) m)) (select s (up_from (suc b) m)))))
        by true e r =
            let z : g b + base ≡ b = h b (omega arith) (omega arith) e in
            rising-after (g b) (suc b) m (omega arith) (λ x y u. h x (omega arith) (omega arith))
        by false e r = r

pub up_from-all : {A : Type 0} (p : A → Bool) (f : ℕ → A) (b m : ℕ) → ((x : ℕ) → b ≤ x → x < b + m → T (p (f x))) → T (all_of p (map f (up_from b m)))
up_from-all p f b m h = all_map p f (up_from b m) (λ x n. let (l, u) = up_from-mem b m n in h x l u)

-- the test of a row that holds no line
pub holds-none : (t : List ℕ) (x : ℕ) → cell t x 0 ≡ 0 → not (eqb (cell t x 0) 0) ≡ false
holds-none t x h = ap not (eq-eqb (cell t x 0) 0 h)

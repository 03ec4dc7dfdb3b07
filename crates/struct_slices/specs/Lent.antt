-- A local array whose first elements are lent as a `&[T]`, in a walk by hand, and which is free again once the loan has ended. It says nothing of any crate.
--     array_in     the array's cell gives the elements in memory, of which `lends_shr_slice` makes the slice reference. What the elements own is had for nothing, from the array's relation
--     array_out    the elements in memory, once `lent_back` has them back, are room for the array again
--     first_out, first_in      the elements in memory are the first k of them and the others (`later_ones`), and back: so that the first k alone are lent
-- Assumes `Logic`.
use Rattle.std.specs.Prelude.{◌≡◌, ℕ, zero, suc, ◌+◌, List, [], ◌∷◌, length, take}
use Rattle.std.proofs.Math.Path.{refl}
use Rattle.std.proofs.Common.{sym}
use seplogic.Ra.Ura.{Ura}
use mir.Syntax.{ty_array}
use mir.Val.{Val}
use base.Logic.{ent, sep}
use base.Fraction.{full_share}
use base.Fml.{Share, Fml, ftrue, fsep, fat, froom}
use types.Logic.{Logic, sem}
use types.Kit.{‵, ◌$◌, ◌∵◌, !, ◌⊛◌, qed, move, drop, use1, use2, split, rewrite, fsplit, fjoin, fpick, fpack, feq_i, done}
use types.Share.{parts, arr_parts}
use Rattle.std.specs.Borrow.{RattleType}
use denote.Laws.{Is, Tells, Makes, shows}
use denote.Memory.{cell_at, lone, part_at, part_of, mem, shares}
use denote.Array.{Array, array_vals, Array-Tells, Array-Makes}
use denote.ArrayMemory.{Single, Array-apart, Array-whole}
use denote.Steps.{only, owned, nothing}
use denote.Struct.Steps.{spelt}

module _ {M : Type 1} {𝓤 : Ura M} (𝓛 : Logic 𝓤) (R : RattleType) (n : ℕ) (xs : List R.Denot) (b o : ℕ) where
  open 𝓛 use {H}

  pub array_in : Single R.mir → Makes 𝓛 R (Is R) → (v : Val) → Is (Array R n) xs (v ∷ []) → ent 𝓤 (H.at full_share (ty_array (lone R.mir) n) b o v) (sem 𝓛 ((arr_parts (shares R) (length xs)).part full_share xs b o))
  unfolding part_of
  array_in single mk v is =
      qed 𝓛 (‵ (fat full_share (ty_array (lone R.mir) n) b o v) ∷ []) ∵ use1 𝓛 (‵ (cell_at full_share (ty_array (lone R.mir) n ∷ []) (v ∷ []) b o)) (𝓛.laws.at_raw full_share (ty_array (lone R.mir) n) b o v) $
      owned ! (Array R n) (Is (Array R n)) (Array-Makes 𝓛 R mk n) xs (v ∷ []) is $ move ! (1 ∷ 0 ∷ []) $ fjoin ! $
      fpack ! (List Val) (λ vs. fsep (cell_at full_share (Array R n).mir vs b o) ((Array R n).own_val xs vs)) (v ∷ []) $
      use1 𝓛 (‵ ((arr_parts (shares R) n).part full_share xs b o)) (Array-apart 𝓛 R full_share single n xs b o) $
      rewrite ! 0 (λ (m : ℕ). ‵ ((arr_parts (shares R) m).part full_share xs b o)) (sym is.1.0.1) refl $ done !

  pub array_out : (vals : R.Denot → List Val) → Tells R (Is R) vals → length xs ≡ n → ent 𝓤 (sem 𝓛 ((arr_parts (shares R) (length xs)).part full_share xs b o)) (H.room (ty_array (lone R.mir) n) b o)
  unfolding part_of
  array_out vals tells e =
      qed 𝓛 (‵ ((arr_parts (shares R) (length xs)).part full_share xs b o) ∷ []) ∵ rewrite ! 0 (λ (m : ℕ). ‵ ((arr_parts (shares R) m).part full_share xs b o)) e refl $
      use1 𝓛 (‵ (part_at (Array R n) full_share xs b o)) (Array-whole 𝓛 R full_share n xs b o) $ fpick ! (λ vs. fsplit ! $
      spelt ! (Array R n) (Is (Array R n)) (shows 𝓛 (Array R n)) (array_vals vals) (Array-Tells R vals tells n) full_share xs vs b o $ move ! (1 ∷ []) $ drop ! $
      use1 𝓛 (‵ (fat full_share (ty_array (lone R.mir) n) b o (only (array_vals vals xs)))) (𝓛.laws.raw_at full_share (ty_array (lone R.mir) n) b o (only (array_vals vals xs))) $
      use1 𝓛 (‵ (froom (ty_array (lone R.mir) n) b o)) (𝓛.laws.at_room (ty_array (lone R.mir) n) b o (only (array_vals vals xs))) $ done !)

-- the elements after the first k, in memory
module _ (R : RattleType) (q : Share) where
  abbrev pub later_ones : ℕ → List R.Denot → ℕ → ℕ → Fml
  later_ones zero xs b o = parts (mem R) (shares R) q xs b o
  later_ones (suc k) [] b o = ftrue
  later_ones (suc k) (x ∷ xs) b o = later_ones k xs b (o + (mem R).size)

  module _ {M : Type 1} {𝓤 : Ura M} (𝓛 : Logic 𝓤) where
    cut : (k : ℕ) (xs : List R.Denot) (b o : ℕ) → ent 𝓤 (sem 𝓛 (parts (mem R) (shares R) q xs b o)) (sep 𝓤 (sem 𝓛 (parts (mem R) (shares R) q (take k xs) b o)) (sem 𝓛 (later_ones k xs b o)))
    cut zero xs b o = qed 𝓛 (‵ (parts (mem R) (shares R) q xs b o) ∷ []) ∵ nothing ! $ done !
    cut (suc k) [] b o = qed 𝓛 (‵ ftrue ∷ []) ∵ nothing ! $ done !
    cut (suc k) (x ∷ xs) b o =
        qed 𝓛 (‵ (parts (mem R) (shares R) q (x ∷ xs) b o) ∷ []) ∵ fsplit ! $ move ! (1 ∷ []) $
        use1 𝓛 (‵ (parts (mem R) (shares R) q (take k xs) b (o + (mem R).size)) ⊛ ‵ (later_ones k xs b (o + (mem R).size))) (cut k xs b (o + (mem R).size)) $ split ! $ move ! (2 ∷ 0 ∷ []) $ fjoin ! $ done !

    glue : (k : ℕ) (xs : List R.Denot) (b o : ℕ) → ent 𝓤 (sep 𝓤 (sem 𝓛 (parts (mem R) (shares R) q (take k xs) b o)) (sem 𝓛 (later_ones k xs b o))) (sem 𝓛 (parts (mem R) (shares R) q xs b o))
    glue zero xs b o = qed 𝓛 (‵ ftrue ∷ ‵ (parts (mem R) (shares R) q xs b o) ∷ []) ∵ drop ! $ done !
    glue (suc k) [] b o = qed 𝓛 (‵ ftrue ∷ ‵ ftrue ∷ []) ∵ drop ! $ done !
    glue (suc k) (x ∷ xs) b o =
        qed 𝓛 (‵ (parts (mem R) (shares R) q (x ∷ take k xs) b o) ∷ ‵ (later_ones k xs b (o + (mem R).size)) ∷ []) ∵ fsplit ! $ move ! (1 ∷ 2 ∷ []) $
        use2 𝓛 (‵ (parts (mem R) (shares R) q xs b (o + (mem R).size))) (glue k xs b (o + (mem R).size)) $ move ! (1 ∷ 0 ∷ []) $ fjoin ! $ done !

    pub first_out : (k : ℕ) (xs : List R.Denot) (b o : ℕ)
        → ent 𝓤 (sem 𝓛 ((arr_parts (shares R) (length xs)).part q xs b o)) (sep 𝓤 (sem 𝓛 ((arr_parts (shares R) (length (take k xs))).part q (take k xs) b o)) (sem 𝓛 (later_ones k xs b o)))
    first_out k xs b o =
        qed 𝓛 (‵ ((arr_parts (shares R) (length xs)).part q xs b o) ∷ []) ∵ fsplit ! $ drop ! $ use1 𝓛 (‵ (parts (mem R) (shares R) q (take k xs) b o) ⊛ ‵ (later_ones k xs b o)) (cut k xs b o) $ split ! $
        feq_i ! ℕ (length (take k xs)) (length (take k xs)) refl $ fjoin ! $ done !

    pub first_in : (k : ℕ) (xs : List R.Denot) (b o : ℕ)
        → ent 𝓤 (sep 𝓤 (sem 𝓛 ((arr_parts (shares R) (length (take k xs))).part q (take k xs) b o)) (sem 𝓛 (later_ones k xs b o))) (sem 𝓛 ((arr_parts (shares R) (length xs)).part q xs b o))
    first_in k xs b o =
        qed 𝓛 (‵ ((arr_parts (shares R) (length (take k xs))).part q (take k xs) b o) ∷ ‵ (later_ones k xs b o) ∷ []) ∵ fsplit ! $ drop ! $ use2 𝓛 (‵ (parts (mem R) (shares R) q xs b o)) (glue k xs b o) $
        feq_i ! ℕ (length xs) (length xs) refl $ fjoin ! $ done !

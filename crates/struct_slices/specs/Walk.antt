-- Steps for a walk by hand: the test of a `while`, and a call of a function whose theorem is cited. They say nothing of any crate.
--     drops        nothing is had of any parameter at exit, for parameters that are plain data, a `&T` or a `&[T]`.        drops_go     its law, with a `refl` for each
--     tests        the test of a `while`, with a premise for each outcome: the turn goes on, or the loop is left
--     asks         what a callee asks whose parameters are plain data and which has neither lifetimes nor a `requires`: it is had for nothing, from the parameters' relations
--     asks-lent    the same where the first parameter is a `&[T]`, at the callee's one lifetime, and the `requires` is a fact: the token goes to the callee, and what the slice owns is had twice and kept
--     answers      what a callee has returned: the result's value r, that its machine value is r's, and what the `ensures` says of r. The tokens are back at the head
-- Assumes `Logic`.
use Rattle.std.specs.Prelude.{ℕ, Bool, not, List, [], ◌∷◌, T as Holds}
use seplogic.Ra.Ura.{Ura}
use mir.Syntax.{Opd as Operand, Body, seq, cond, skip, exit, named}
use mir.Val.{Val, vbool}
use base.Logic.{ent, sep, emp, via, emp∗, mono∗, id⊢, mono_r, snd∗, ex_e}
use base.Fml.{Lft, Share, flft}
use prog.Wp.{Env, Calls, Loops, exits}
use types.Logic.{Logic, sem}
use contract.Monad.{fact, fact_i}
use types.Kit.{Item, Goal, Soaks, Seq, Post, post, prop, runs, ‵, raw, ◌⊛◌, some, later, ◌$◌, ◌∵◌, !, qed, use0, use1, move, split, join, fjoin, pick, await, done}
use types.Run.{Opd, first, branches, skips, jumps}
use denote.RattleType.{RattleType, RowLaws, Denots, Valss, owns}
use denote.Laws.{Is, Ises, Are, Makess, shows, owns_make}
use denote.Signature.{Slot, type_at}
use Rattle.std.specs.Borrow.{Bor}
use denote.Slice.{ShrSlice, shr_slice_copy}
use denote.Steps.{heard, facts, nothing}
use denote.Triple.Entry.{Res, alive}
use denote.Triple.Clauses.{Ended, Clauses, Lasts, lasts, at_exit, closing, ensured}
use denote.Triple.End.{Kepts}
use denote.Triple.Spec.{triple_of}
use denote.Triple.Walked.{Stays, stay_dropped, Silent, AllGo, Goes-dropped}

module _ {n : ℕ} where
  abbrev pub drops : (ss : List (Slot n)) (ks : Kepts ss) → Stays ss ks
  drops [] ks = tt
  drops (s ∷ ss) ks = (stay_dropped s ks.0, drops ss ks.1)

module _ {M : Type 1} {𝓤 : Ura M} (𝓛 : Logic 𝓤) (n : ℕ) where
  abbrev pub Silents : (ss : List (Slot n)) → Kepts ss → Type 1
  Silents [] ks = Unit {1}
  Silents (s ∷ ss) ks = Silent 𝓛 n s ks.0 × Silents ss ks.1

  pub drops_go : (ss : List (Slot n)) (ks : Kepts ss) → Silents ss ks → AllGo 𝓛 n ss ks (drops ss ks)
  drops_go [] ks h = tt
  drops_go (s ∷ ss) ks h = (Goes-dropped 𝓛 n s ks.0 h.0, drops_go ss ks.1 h.1)

pub tests : {M : Type 1} {𝓤 : Ura M} {𝓛 : Logic 𝓤} {K : Type 0} {Γ : List (Item 𝓤)} {E : Env 𝓤 𝓛.H} {C : Calls 𝓤 𝓛.H} {Λ : Loops 𝓤 𝓛.H} {q : Post 𝓤 𝓛.H}
    → K → {c : Operand} {n : ℕ} {b : Body} {y : Bool} → Opd K 𝓛 Γ E c (vbool y) → (Holds y → Seq K 𝓛 Γ (runs C Λ E b q)) → (Holds (not y) → Seq K 𝓛 Γ (prop (post 𝓤 𝓛.H q (exits n))))
    → Seq K 𝓛 Γ (runs C Λ E (seq (cond c skip (exit n)) b) q)
tests t o held failed = first t $ branches t o (λ h. skips t $ record { prf = (held h).prf }) (λ h. jumps t $ record { prf = (failed h).prf })

pub asks : {M : Type 1} {𝓤 : Ura M} (𝓛 : Logic 𝓤) (Rs : List RattleType) → Makess 𝓛 Rs (Ises Rs) → (a : Denots Rs) (vss : Valss Rs) → Are Rs (Ises Rs) a vss
    → ent 𝓤 (emp 𝓤) (sep 𝓤 (sep 𝓤 (emp 𝓤) (sem 𝓛 (owns Rs a vss))) (emp 𝓤))
asks {𝓤 = 𝓤} 𝓛 Rs mk a vss are = via 𝓤 (sep 𝓤 (emp 𝓤) (emp 𝓤)) (emp∗ 𝓤 (emp 𝓤)) (mono∗ 𝓤 (via 𝓤 (sep 𝓤 (emp 𝓤) (emp 𝓤)) (emp∗ 𝓤 (emp 𝓤)) (mono_r 𝓤 (emp 𝓤) (owns_make 𝓛 Rs (Ises Rs) mk a vss are))) (id⊢ 𝓤 (emp 𝓤)))

pub asks-lent : {M : Type 1} {𝓤 : Ura M} (𝓛 : Logic 𝓤) (κ : Lft) (q : Share) (R : RattleType) → RowLaws R → (x : Bor (List R.Denot)) (vs : List Val)
    (Rs : List RattleType) → Makess 𝓛 Rs (Ises Rs) → (a : Denots Rs) (vss : Valss Rs) → Are Rs (Ises Rs) a vss → {φ : Type 0} → φ
    → ent 𝓤 (sep 𝓤 (𝓛.A.lft κ q) (sem 𝓛 ((ShrSlice (named 0) κ R).own_val x vs)))
    (sep 𝓤 (sep 𝓤 (sep 𝓤 (sep 𝓤 (𝓛.A.lft κ q) (emp 𝓤)) (sem 𝓛 (owns (ShrSlice (named 0) κ R ∷ Rs) (x, a) (vs, vss)))) (fact 𝓤 φ)) (sem 𝓛 ((ShrSlice (named 0) κ R).own_val x vs)))
asks-lent {𝓤 = 𝓤} 𝓛 κ q R laws x vs Rs mk a vss are {φ} holds =
    qed 𝓛 (‵ (flft κ q) ∷ ‵ ((ShrSlice (named 0) κ R).own_val x vs) ∷ []) ∵ move ! (1 ∷ []) $
    use1 𝓛 (‵ ((ShrSlice (named 0) κ R).own_val x vs) ⊛ ‵ ((ShrSlice (named 0) κ R).own_val x vs)) ((shr_slice_copy 𝓛 (named 0) κ R laws).twice x vs) $ split ! $
    use0 𝓛 (‵ (owns Rs a vss)) (owns_make 𝓛 Rs (Ises Rs) mk a vss are) $ move ! (1 ∷ 0 ∷ []) $ fjoin ! $ nothing ! $ move ! (3 ∷ 0 ∷ []) $ join ! $ join ! $ use0 𝓛 (raw (fact 𝓤 φ)) (fact_i 𝓤 φ (emp 𝓤) holds) $ move ! (1 ∷ 0 ∷ []) $ join ! $ done !

module _ {M : Type 1} {𝓤 : Ura M} {𝓛 : Logic 𝓤} {K : Type 0} {Γ : List (Item 𝓤)} {G : Goal 𝓤 𝓛.H} where
  pub answers : K → Soaks G → (T : Ended) (c : Clauses 𝓤 T) (y : (triple_of 𝓛 T.signature (closing 𝓛 T c)).Ghost) (u : Val) (φ : Res T.signature y.0.0 → Type 0)
      → ((r : Res T.signature y.0.0) (ws : Lasts T y.0.0 y.0.3) → ent 𝓤 ((c y.0.0 y.0.3).ensures y.1 r (at_exit T y.0.0 y.0.3 ws)) (fact 𝓤 (φ r)))
      → ((r : Res T.signature y.0.0) → Is (type_at T.signature.result y.0.0) r (u ∷ []) → φ r → Seq K 𝓛 (raw (alive 𝓛 T.signature y.0.0 y.0.1) ∷ Γ) G)
      → Seq K 𝓛 (raw ((triple_of 𝓛 T.signature (closing 𝓛 T c)).post y u) ∷ Γ) G
  answers t z T c y u φ says k =
      use1 𝓛 (later (some (λ (r : Res T.signature y.0.0). (raw (alive 𝓛 T.signature y.0.0 y.0.1) ⊛ ‵ ((type_at T.signature.result y.0.0).own_val r (u ∷ []))) ⊛ raw (ensured 𝓛 T c y.0.0 y.0.3 y.1 r)))) (id⊢ 𝓤 _) $
      await t z $ pick t (λ r. split t $ move t (1 ∷ []) $
      use1 𝓛 (raw (fact 𝓤 (φ r))) (ex_e 𝓤 _ (λ ws. via 𝓤 _ (snd∗ 𝓤 (sem 𝓛 (lasts T y.0.0 y.0.3 ws)) _) (says r ws))) $ heard t (φ r) (λ e. split t $ move t (1 ∷ []) $
      facts t (type_at T.signature.result y.0.0) (Is (type_at T.signature.result y.0.0)) (shows 𝓛 (type_at T.signature.result y.0.0)) r (u ∷ []) (λ is. k r is e)))

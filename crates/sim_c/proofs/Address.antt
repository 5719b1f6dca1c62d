-- A handle by value: an address in the machine, and what is owned there. Assumes `Logic`.
--     word                      how a handle lies in the machine
--     handle_in, handle_out     what a handle owns is what is owned at its address, and the other way
--     either                    an address that holds nothing is null, and one that holds a value is not, and may be compared with null
use Rattle.std.specs.contracts.alloc.Global as heap
use Rattle.std.proofs.alloc.Global.TheLaws as heap_laws
use Rattle.sim_c.proofs.Parts as parts
use Rattle.sim_c.specs.{Owned.Value, Owned.handle_owns, contracts.handle.Handle.the_row as H, contracts.handle.Handle.the_type}
use Rattle.std.proofs.{Common.List, Common.[], Common.refl, Common.subst, Common.ℕ, Common.◌++◌, Common.◌∷◌, Common.◌≡◌, GlobalToken.dealloc_token-Testable}
use Rattle.std.specs.declared.option.Option.TheVariants.{None, Some}
use Rattle.std.specs.{Ptr.points_to, contracts.impls.GlobalAllocator.TheImpl.ghosts, declared.alloc.Global.Global, declared.option.Option.Option}
use base.{Fml.Fml, Logic.ent, Logic.fst∗, Logic.guard_i, Logic.never, Logic.snd∗, Logic.via}
use contract.Monad.{fact, fact_use}
use denote.{Builtin.RawPtr, Memory.lone, Param.Laws.Laws, RattleType.RattleType, RattleType.Valss, RawPtr.Ptr, RawPtr.Testable, RawPtr.block_ptr}
use denote.{RawPtr.in_a_block, RawPtr.null_ptr, RawPtr.ptr_val, Steps.nothing, Struct.Owning.shape, Struct.Struct.within}
use mir.{Raw.raw as bare, Val.Val, Val.of_list, Val.vcons, Val.vnil, Val.vstruct}
use seplogic.Ra.Ura.{Ura}
use types.Kit.{drop, feq_i, feq_l, fjoin, fpack, fpick, fsplit, given, Goal, Item, learn, Seq, Step, step, use1, ‵, ◌$◌}
use types.Logic.{Logic, sem}
pub use Rattle.sim_held.specs.contracts.held.Held.{the_row as R}

abbrev pub Z : RattleType
Z = heap.the_row

abbrev pub LZ : Laws Z
LZ = heap_laws.the_row_laws

abbrev pub K : RattleType
K = parts.Parts R Z LZ ghosts

abbrev pub boxed : Global → Ptr → Value → Fml
boxed = parts.boxed R Z LZ ghosts

abbrev pub word : Ptr → Val
word p = vstruct (vcons (ptr_val p) vnil)

testable : {M : Type 1} {𝓤 : Ura M} (𝓛 : Logic 𝓤) (a : Global) (p : Ptr) (x : Value) → ent 𝓤 (sem 𝓛 (boxed a p x)) (fact 𝓤 (Testable p))
testable {𝓤 = 𝓤} 𝓛 a p x =
    let τ = bare (lone R.mir) in let token = sem 𝓛 (ghosts.dealloc_token a τ p) in
    via 𝓤 token (snd∗ 𝓤 (sem 𝓛 (points_to R p x)) token) (dealloc_token-Testable 𝓛 a τ p)

module _ {M : Type 1} {𝓤 : Ura M} {𝓛 : Logic 𝓤} {X : Type 0} {Γ : List (Item 𝓤)} {G : Goal 𝓤 𝓛.H} where
  pub handle_in : X → (p : Ptr) (h : Option Value)
      → Step X 𝓛 (‵ (H.own_val (record { at = p; held = h }) (word p ∷ [])) ∷ Γ) G (‵ (handle_owns p h) ∷ Γ) G
  handle_in t p h = step (λ s.
      nothing t $ feq_i t (List Val) (ptr_val p ∷ []) (ptr_val p ∷ []) refl $ fjoin t $ feq_i t (List Val) (word p ∷ []) (word p ∷ []) refl $ fjoin t $
      fpack t (Valss (RawPtr ∷ [])) (within (shape the_type) (p, tt) (word p ∷ [])) (ptr_val p ∷ [], tt) $ fjoin t $ s)

  pub handle_out : X → (d : H.Denot) (vs : List Val)
      → (vs ≡ word d.at ∷ [] → Seq X 𝓛 (‵ (handle_owns d.at d.held) ∷ Γ) G) → Seq X 𝓛 (‵ (H.own_val d vs) ∷ Γ) G
  handle_out t d vs next =
      fsplit t $ fpick t (λ fields. fsplit t $ feq_l t (λ whole. fsplit t $ feq_l t (λ first. drop t $
      next (subst (λ (us : List Val). vs ≡ vstruct (of_list (us ++ [])) ∷ []) first whole))))

  pub either : X → (p : Ptr) (h : Option Value)
      → (p ≡ null_ptr → h ≡ None → Seq X 𝓛 Γ G)
      → ((b o : ℕ) (a : Global) (x : Value) → p ≡ block_ptr b o → h ≡ Some x → Testable (block_ptr b o) → Seq X 𝓛 (‵ (boxed a (block_ptr b o) x) ∷ Γ) G)
      → Seq X 𝓛 (‵ (handle_owns p h) ∷ Γ) G
  either t p None none some = feq_l t (λ e. none e refl)
  either t p (Some x) none some = fpick t (λ a.
      in_a_block t p (λ q. boxed a q x) (fst∗ 𝓤 (never 𝓤) (sem 𝓛 (ghosts.dealloc_token a (bare (lone R.mir)) null_ptr))) (λ b o e.
      let q = block_ptr b o in
      use1 𝓛 (given (Testable q) (‵ (boxed a q x))) (fact_use 𝓤 (Testable q) (testable 𝓛 a q x) (λ may. guard_i 𝓤 (Testable q) (sem 𝓛 (boxed a q x)) may)) $
      learn t (λ may. some b o a x e refl may)))

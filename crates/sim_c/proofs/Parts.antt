-- A `Kept` by value: an address and the bits of what frees it, in the machine, and the box that it owns. Assumes `Logic`.
--     pair, pair_fits        how the two lie in the machine, and that they fit there
--     parts_out, parts_in    what is owned is [the box; what frees it], and the other way
use Rattle.sim_c.specs.contracts.kept.Kept as kept
use Rattle.std.proofs.{alloc.Calls.{Al, handle_tells}, cell.Inside.Good, Common.{List, refl, subst, ℕ, [], ◌++◌, ◌∷◌, ◌≡◌}}
use Rattle.{std.specs.declared.alloc.Allocator.Ghosts, std_alloc.{proofs.ResultValues.and_tt, specs.Box.Ownership.box_owns}}
use base.Logic.{fst∗, never}
use denote.{Builtin.RawPtr, Memory.lone, Param.Laws.Laws, Param.layout, RattleType.RattleType, RattleType.Valss, RawPtr.Ptr, RawPtr.block_ptr}
use denote.{RawPtr.in_a_block, RawPtr.null_ptr, RawPtr.ptr_val, Steps.nothing, Struct.Owning.shape, Struct.Struct.within}
use lib.Dec.{T}
use mathlib.Core.Bool.{true, ◌&&◌}
use mir.{Raw.raw as bare, Syntax.dnil, Syntax.impl, Syntax.tnil, Val.Val, Val.WT, Val.has_ty, Val.of_list, Val.vcons, Val.vnil, Val.vstruct}
use seplogic.Ra.Ura.{Ura}
use types.Kit.{drop, feq_i, feq_l, fjoin, fpack, fpick, fsplit, Goal, Item, move, Seq, Step, step, ‵, ◌$◌}
use types.Logic.{Logic, sem}

abbrev pub pair : Ptr → Val → Val
pair p h = vstruct (vcons (ptr_val p) (vcons h vnil))

module _ (R Z : RattleType) (L : Laws Z) (g : Ghosts Z.Denot) where
  abbrev pub Parts : RattleType
  Parts = kept.the_row R Z g

  abbrev pub boxed : Z.Denot → Ptr → R.Denot → base.Fml.Fml
  boxed a = box_owns (g.dealloc_token a) R

  -- the rows of what frees it, as the steps on an allocator take them
  abbrev pub frees : Al
  frees = record { row = Z; laws = L; g = g; d = impl [] tnil dnil; drops = impl [] tnil dnil }

  pub pair_fits : (b o : ℕ) (h : Val) → Good (layout Z) h → T (has_ty (layout Z) h && true) × WT (pair (block_ptr b o) h)
  pair_fits b o h good = (and_tt (has_ty (layout Z) h) good.0, (tt, (good.1, tt)))

  module _ {M : Type 1} {𝓤 : Ura M} {𝓛 : Logic 𝓤} {K : Type 0} {Γ : List (Item 𝓤)} {G : Goal 𝓤 𝓛.H} where
    pub parts_out : K → (k : Parts.Denot) (vs : List Val)
        → ((b o : ℕ) (h : Val) → k.at ≡ block_ptr b o → vs ≡ pair (block_ptr b o) h ∷ [] → Good (layout Z) h
        → Seq K 𝓛 (‵ (boxed k.alloc (block_ptr b o) k.value) ∷ ‵ (Z.own_val k.alloc (h ∷ [])) ∷ Γ) G)
        → Seq K 𝓛 (‵ (Parts.own_val k vs) ∷ Γ) G
    parts_out t k vs next =
        fsplit t $ fpick t (λ fields. fsplit t $ feq_l t (λ whole. fsplit t $ feq_l t (λ first. fsplit t $
        handle_tells frees t k.alloc fields.1.0 (λ h second good. move t (2 ∷ 0 ∷ []) $
        in_a_block t k.at (λ p. boxed k.alloc p k.value) (fst∗ 𝓤 (never 𝓤) (sem 𝓛 (g.dealloc_token k.alloc (bare (lone R.mir)) null_ptr))) (λ b o lies.
        let at_first : vs ≡ vstruct (of_list (ptr_val k.at ∷ (fields.1.0 ++ []))) ∷ [] =
        subst (λ (us : List Val). vs ≡ vstruct (of_list (us ++ (fields.1.0 ++ []))) ∷ []) first whole in
        let at_second : vs ≡ pair k.at h ∷ [] = subst (λ (us : List Val). vs ≡ vstruct (of_list (ptr_val k.at ∷ (us ++ []))) ∷ []) second at_first in
        move t (2 ∷ []) $ drop t $ next b o h lies (subst (λ (p : Ptr). vs ≡ pair p h ∷ []) lies at_second) good)))))

    pub parts_in : K → (p : Ptr) (h : Val) (a : Z.Denot) (x : R.Denot)
        → Step K 𝓛 (‵ (Parts.own_val (record { at = p; alloc = a; value = x }) (pair p h ∷ [])) ∷ Γ) G (‵ (boxed a p x) ∷ ‵ (Z.own_val a (h ∷ [])) ∷ Γ) G
    parts_in t p h a x = step (λ s. let lies : Val = pair p h in
        nothing t $ move t (2 ∷ 0 ∷ []) $ fjoin t $ feq_i t (List Val) (ptr_val p ∷ []) (ptr_val p ∷ []) refl $ fjoin t $
        feq_i t (List Val) (lies ∷ []) (lies ∷ []) refl $ fjoin t $
        fpack t (Valss (RawPtr ∷ Z ∷ [])) (within (shape (kept.the_type R Z g)) (p, (a, tt)) (lies ∷ [])) (ptr_val p ∷ [], (h ∷ [], tt)) $ fjoin t $ s)

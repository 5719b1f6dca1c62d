-- `of` moves the address of the box into the handle.
use Rattle.sim_c.specs.contracts.handle.Handle.of as f
use Rattle.sim_c.proofs.handle.Handle.of.Code as code
use Rattle.sim_c.proofs.{Address.{boxed, handle_in, K, LZ, R, word, Z}, handle.Handle.of.Statement.statement, Parts.{pair, pair_fits, parts_out}}
use Rattle.std.proofs.{Common.{List, refl, subst, sym, [], ◌++◌, ◌∷◌}, raw_atomic.Walks.proved_at}
use Rattle.std.specs.{contracts.impls.GlobalAllocator.TheImpl.ghosts, declared.{alloc.Global.Global, option.Option.TheVariants.Some}}
use base.{Fml.ftrue, Logic.SProp, Logic.ent, Logic.id⊢}
use contract.Running.{tables}
use denote.Triple.Walked.{ends_at, says, stay_dropped, walk_of}
use denote.{Exit.yes, RattleType.owns, RawPtr.block_ptr, Signature.plain, Signature.types_at, Steps.nothing, Triple.Walked.Goes-dropped, Triple.Walked.Stays}
use mir.Val.{Val}
use prog.Wp.{WpFn}
use types.{ByLocal.alloc_all, ByLocal.free_all, ByLocal.get, ByLocal.get_in, ByLocal.look_at, ByLocal.pass_all, ByLocal.sets, Kit.!, Kit.done, Kit.drop}
use types.{Kit.fpack, Kit.fsplit, Kit.group, Kit.join, Kit.keep, Kit.qed, Kit.raw, Kit.split, Kit.suffices, Kit.‵, Kit.◌$◌, Kit.◌∵◌, Kit.◌⊛◌, Part.agg}
use types.{Part.sub, Part.whole, Run.and_then, Run.enter, Run.fld, Run.no_more, Run.of_opd, Run.returns, Run.stop}

abbrev stayed : Stays f.ended.signature.params f.ended.kept
stayed = (stay_dropped (plain (λ _. K)) yes, tt)

pub of_spec : {M : Type 1} → statement M
of_spec 𝓤 𝓛 𝓜 𝓡 wired =
    let 𝓣 = tables 𝓤 𝓛.H 𝓜 𝓡 𝓡.env in let c = f.clauses 𝓛 𝓜.mem 𝓡.returns in
    proved_at 𝓛 f.ended stayed c 𝓜 𝓡 (Goes-dropped 𝓛 0 (plain (λ _. K)) yes (λ κs x w. refl), tt)
    f.Key.name code.function (code.unfolded 𝓤 𝓛.H 𝓜 𝓡 wired) (λ z are.
    let k = z.0.3.0 in let runs : List Val → SProp 𝓤 = λ vs. WpFn 𝓤 𝓛.H 𝓣.C 𝓣.Λ code.function vs ((walk_of 𝓛 f.ended stayed c).post z) in
    qed 𝓛 ((‵ ftrue ⊛ ‵ (owns (types_at f.ended.signature.params z.0.0) z.0.3 z.0.4)) ∷ raw ((c z.0.0 z.0.3).requires z.1) ∷ []) ∵
    split ! $ drop ! $ fsplit ! $ parts_out R Z LZ ghosts ! k z.0.4.0 (λ b o h lies vs good.
    let p = block_ptr b o in let given : Val = pair p h in
    -- [the box]
    keep ! (0 ∷ []) $ suffices ! (runs (given ∷ [])) (subst (λ (us : List Val). ent 𝓤 (runs (given ∷ [])) (runs us)) (sym (λ i. vs i ++ [])) (id⊢ 𝓤 _)) $
    enter ! _ _ _ _ _ $ alloc_all ! (λ l. pass_all ! refl (pair_fits R Z LZ ghosts b o h good, tt) $
    sets ! (of_opd ! (get_in ! (fld ! refl (stop !)) (sub ! 0 refl (whole !)))) refl (tt, tt) $ sets ! (of_opd ! (get ! refl)) refl (tt, tt) $
    sets ! (agg ! (and_then ! (get ! refl) (no_more !))) refl (tt, (tt, tt)) $
    returns ! (look_at ! 0 refl) $ free_all ! refl $ fpack ! Global (λ a. boxed a p k.value) k.alloc $ handle_in ! p (Some k.value) $
    suffices ! _ (ends_at 𝓛 f.ended stayed c z (word p) (record { at = p; held = Some k.value }) (tt, tt) (tt, tt)) $ says ! refl $
    nothing ! $ nothing ! $ join ! $ nothing ! $ group ! 3 $ done !)))

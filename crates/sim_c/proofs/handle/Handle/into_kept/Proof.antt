-- `into_kept` compares the address with null: the box that is owned at any other address tells that this may be done.
use Rattle.sim_c.specs.contracts.handle.Handle.into_kept as f
use Rattle.sim_c.proofs.handle.Handle.into_kept.Code as code
use Rattle.sim_c.proofs.{Address.{either, handle_out, K, LZ, R, word, Z}, Parts.{frees, pair}}
use Rattle.std.proofs.{alloc.{Calls.handle_tells, Shapes.after}, cell.Inside.Good, Common.{ap, List, lit<, refl, subst, sym, [], ◌++◌, ◌∙◌, ◌∷◌, ◌≡◌}}
use Rattle.std.proofs.{option.Made.{none_of, Some-of}, raw_atomic.Walks.proved_at}
use Rattle.{std.specs.{contracts.impls.GlobalAllocator.TheImpl.ghosts, declared.option.Option.TheVariants.{None, Some}}, std_alloc.proofs.ResultValues.and_tt}
use Rattle.sim_c.{proofs.Parts.pair_fits, proofs.Parts.parts_in, proofs.handle.Handle.into_kept.Statement.statement, specs.contracts.handle.Handle.the_row as H}
use base.{Fml.ftrue, Logic.SProp, Logic.ent, Logic.id⊢}
use contract.Running.{tables}
use denote.Triple.Walked.{stay_dropped, walk_of}
use denote.{Exit.yes, Param.layout, RattleType.RattleType, RattleType.owns, RawPtr.Ptr, RawPtr.block_ptr, RawPtr.null_ptr, RawPtr.tests_null, Signature.plain}
use denote.{Signature.type_at, Signature.types_at, Steps.nothing, Triple.Walked.Goes-dropped, Triple.Walked.Stays, Triple.Walked.ends_at, Triple.Walked.says}
use mir.Val.{Val, vcons, vnil}
use prog.Wp.{WpFn}
use types.ByLocal.{alloc_all, env, free_all, get, get_in, look_at, pass_all, sets, sets_last}
use types.Kit.{ !, at_ret, done, drop, fsplit, group, join, keep, move, qed, raw, split, suffices, use0, use1, ‵, ◌$◌, ◌∵◌, ◌⊛◌}
use types.Run.{of_opd, returns, stop}
use types.{Match.live, Part.agg, Part.sub, Part.whole, Run.and_then, Run.bin, Run.branches, Run.enter, Run.exec, Run.first, Run.fld, Run.lit, Run.no_more}

abbrev stayed : Stays f.ended.signature.params f.ended.kept
stayed = (stay_dropped (plain (λ _. H)) yes, (stay_dropped (plain (λ _. Z)) yes, tt))

pub into_kept_spec : {M : Type 1} → statement M
into_kept_spec 𝓤 𝓛 𝓜 𝓡 wired =
    let 𝓣 = tables 𝓤 𝓛.H 𝓜 𝓡 𝓡.env in let c = f.clauses 𝓛 𝓜.mem 𝓡.returns in let fn = code.function in
    proved_at 𝓛 f.ended stayed c 𝓜 𝓡 (Goes-dropped 𝓛 0 (plain (λ _. H)) yes (λ κs x w. refl), (Goes-dropped 𝓛 0 (plain (λ _. Z)) yes (λ κs x w. refl), tt))
    f.Key.name fn (code.unfolded 𝓤 𝓛.H 𝓜 𝓡 wired) (λ z are.
    let d = z.0.3.0 in let a = z.0.3.1.0 in let post : Val → SProp 𝓤 = (walk_of 𝓛 f.ended stayed c).post z in
    let runs : List Val → SProp 𝓤 = λ vs. WpFn 𝓤 𝓛.H 𝓣.C 𝓣.Λ fn vs post in let Out : RattleType = type_at f.ended.signature.result z.0.0 in
    qed 𝓛 ((‵ ftrue ⊛ ‵ (owns (types_at f.ended.signature.params z.0.0) z.0.3 z.0.4)) ∷ raw ((c z.0.0 z.0.3).requires z.1) ∷ []) ∵
    split ! $ drop ! $ fsplit ! $ handle_out ! d z.0.4.0 (λ at_d. move ! (1 ∷ []) $ fsplit ! $ handle_tells (frees R Z LZ ghosts) ! a z.0.4.1.0 (λ h at_a good.
    let lies : (p : Ptr) → d.at ≡ p → ent 𝓤 (runs (word p ∷ h ∷ [])) (runs (z.0.4.0 ++ (z.0.4.1.0 ++ []))) =
    λ p e. subst (λ (us : List Val). ent 𝓤 (runs (word p ∷ h ∷ [])) (runs us))
    (sym (λ i. (at_d ∙ ap (λ (q : Ptr). word q ∷ []) e) i ++ (at_a i ++ []))) (id⊢ 𝓤 _) in
    -- [what is owned at the address; what frees it]
    keep ! (2 ∷ 0 ∷ []) $ either ! d.at d.held
    (λ e none. suffices ! _ (lies null_ptr e) $
    enter ! _ _ _ _ _ $ alloc_all ! (λ l. pass_all ! refl ((tt, (record { fits = lit< tt }, tt)), (good, tt)) $ let locals = env fn.locals l in
    sets ! (of_opd ! (get_in ! (fld ! refl (stop !)) (sub ! 0 refl (whole !)))) refl (tt, record { fits = lit< tt }) $
    sets ! (bin ! (get ! refl) (lit ! tt) tt) refl (tt, tt) $ first ! $ branches ! (get ! refl)
    (λ _. sets_last ! (agg ! (and_then ! (lit ! tt) (no_more !))) refl (tt, (record { fits = lit< tt }, tt)) $
    exec ! 𝓣.C 𝓣.Λ locals (after 3 fn.body) (at_ret locals post) $ sets ! (of_opd ! (get ! refl)) refl (tt, (record { fits = lit< tt }, tt)) $
    returns ! (look_at ! 0 refl) $ free_all ! refl $ drop ! $ use0 𝓛 (‵ (Out.own_val None (live 0 vnil ∷ []))) (none_of 𝓛 K) $
    suffices ! _ (ends_at 𝓛 f.ended stayed c z (live 0 vnil) None (tt, (tt, tt)) (tt, (tt, tt))) $ says ! none $
    nothing ! $ nothing ! $ join ! $ nothing ! $ join ! $ nothing ! $ group ! 3 $ done !)
    (λ wrong. absurd wrong)))
    (λ b o _ x e some may. suffices ! _ (lies (block_ptr b o) e) $
    let p = block_ptr b o in let k : K.Denot = record { at = p; alloc = a; value = x } in let made : Val = pair p h in let v : Val = live 1 (vcons made vnil) in
    let fits = pair_fits R Z LZ ghosts b o h good in let out : Good (layout Out) v = (and_tt _ fits.0, (record { fits = lit< tt }, (fits.1, tt))) in
    enter ! _ _ _ _ _ $ alloc_all ! (λ l. pass_all ! refl ((tt, (tt, tt)), (good, tt)) $ let locals = env fn.locals l in
    sets ! (of_opd ! (get_in ! (fld ! refl (stop !)) (sub ! 0 refl (whole !)))) refl (tt, tt) $
    sets ! (bin ! (get ! refl) (lit ! tt) (tests_null p may)) refl (tt, tt) $ first ! $ branches ! (get ! refl)
    (λ wrong. absurd wrong)
    (λ _. sets ! (of_opd ! (get ! refl)) refl (tt, tt) $ sets ! (agg ! (and_then ! (get ! refl) (and_then ! (get ! refl) (no_more !)))) refl fits $
    sets_last ! (agg ! (and_then ! (lit ! tt) (and_then ! (get ! refl) (no_more !)))) refl out $
    exec ! 𝓣.C 𝓣.Λ locals (after 3 fn.body) (at_ret locals post) $ sets ! (of_opd ! (get ! refl)) refl out $
    returns ! (look_at ! 0 refl) $ free_all ! refl $ parts_in R Z LZ ghosts ! p h a x $ use1 𝓛 (‵ (Out.own_val (Some k) (v ∷ []))) (Some-of 𝓛 K k made) $
    suffices ! _ (ends_at 𝓛 f.ended stayed c z v (Some k) (tt, (tt, tt)) (tt, (tt, tt))) $ says ! some $
    nothing ! $ nothing ! $ join ! $ nothing ! $ join ! $ nothing ! $ group ! 3 $ done !))))))

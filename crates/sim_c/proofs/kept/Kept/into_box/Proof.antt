-- `into_box` takes the struct apart, and calls what makes a box of the two parts.
use Rattle.std_alloc.proofs.BoxSteps.Form as box
use Rattle.std_alloc.specs.contracts.boxed.Box.from_raw as made
use Rattle.sim_c.proofs.kept.Kept.into_box.Code as code
use Rattle.sim_c.proofs.{kept.Kept.into_box.Statement.statement, Parts.{pair, pair_fits, Parts, parts_out}}
use Rattle.{sim_c.specs.contracts.kept.Kept.into_box.{clauses, ended, Key.name}, std.proofs.alloc.{Calls.Goes-blank, Shapes.after}}
use Rattle.std.proofs.{cell.Inside.Good, Common.{ap, List, refl, subst, sym, [], ◌++◌, ◌∷◌, ◌≡◌}, raw_atomic.Walks.{leaves, proved_at}}
use Rattle.std_alloc.proofs.{boxed.Box.from_raw.Met.met, BoxSteps.Steps.{box_in, box_out}}
use base.{Fml.flft, Fml.ftrue, Logic.SProp, Logic.ent, Logic.id⊢}
use contract.{BorrowLft.◌⊑◌, Monad.fact, Running.tables}
use denote.Triple.{Table.framed, Walked.Stays, Walked.stay_dropped, Walked.walk_of}
use denote.{Exit.no, Param.Laws.param_laws, Param.bounded, Param.layout, Param.param, RattleType.RattleType, RattleType.owns, RawPtr.block_ptr, Signature.plain}
use denote.{Signature.types_at, Steps.nothing, Steps.only, Triple.Call.calls_at_last, Triple.Clauses.Lasts, Triple.Clauses.lasts, Triple.Spec.triple_of}
use mir.{MapTy.inst_fn, Syntax.Args, Syntax.a_type, Syntax.dcons, Syntax.dnil, Val.Val, Val.vptr}
use prog.Wp.{WpFn}
use types.ByLocal.{alloc_all, env, free_all, get, get_in, lands_last, look_at, pass_all, sets}
use types.Kit.{ !, at_ret, await, by, drop, feq_i, fjoin, fsplit, join, keep, later, move, pick, qed, raw, rewrite, some, split, split3, suffices, use1, ‵, ◌$◌}
use types.Run.{stop}
use types.{Kit.◌∵◌, Kit.◌⊛◌, Part.sub, Part.whole, Run.and_then, Run.blocks, Run.enter, Run.exec, Run.first, Run.fld, Run.no_more, Run.of_opd, Run.returns}

pub into_box_spec : {M : Type 1} → statement M
into_box_spec 𝓤 𝓛 𝓜 𝓡 wired T A L LA g d drops_T drops_A allocator glue_T glue_A =
    let 𝓣 = tables 𝓤 𝓛.H 𝓜 𝓡 𝓡.env in
    let R : RattleType = param 0 T in let Z : RattleType = param 1 A in let LZ = param_laws 1 A LA in
    let B : box.Bx = record { row = T; laws = L; al = record { row = A; laws = LA; g = g; d = d; drops = drops_A } } in
    let at_types : Args = bounded (a_type ∷ a_type ∷ []) (T, (A, tt)) (dcons d (dcons drops_T (dcons drops_A dnil))) in
    let fn = inst_fn at_types code.function in
    let E = ended T A g d drops_T drops_A in let c = clauses T A g d drops_T drops_A 𝓛 𝓜.mem 𝓡.returns in
    let stays : Stays E.signature.params E.kept = (stay_dropped (plain (λ _. Parts R Z LZ g)) no, tt) in
    let callee = triple_of 𝓛 (made.signature T A g d drops_A) (made.spec T A g d drops_A 𝓛 𝓜.mem 𝓡.returns) in
    proved_at 𝓛 E stays c 𝓜 𝓡 (Goes-blank 𝓛 2 (plain (λ _. Parts R Z LZ g)) no (λ κs x f. tt), tt)
    (name at_types) fn (code.unfolded 𝓤 𝓛.H 𝓜 𝓡 wired (T, (A, tt)) d drops_T drops_A) (λ z are.
    let κs = z.0.0 in let qs = z.0.1 in let k = z.0.3.0 in let a = k.alloc in
    let post : Val → SProp 𝓤 = (walk_of 𝓛 E stays c).post z in
    let runs : List Val → SProp 𝓤 = λ vs. WpFn 𝓤 𝓛.H 𝓣.C 𝓣.Λ fn vs post in
    let tokens = ‵ (flft κs.0 qs.0) ⊛ ‵ (flft κs.1.0 qs.1.0) ⊛ ‵ ftrue in let Boxed : RattleType = box.B B in
    qed 𝓛 ((tokens ⊛ ‵ (owns (types_at E.signature.params κs) z.0.3 z.0.4)) ∷ raw ((c κs z.0.3).requires z.1) ∷ []) ∵
    split ! $ move ! (1 ∷ []) $ fsplit ! $ parts_out R Z LZ g ! k z.0.4.0 (λ b o h lies vs good.
    let p = block_ptr b o in let word : Val = pair p h in
    let y : callee.Ghost = ((κs, qs, tt, (a, (p, tt)), (h ∷ [], (vptr b o ∷ [], tt))), k.value) in
    -- [the box; what frees it; nothing; the tokens; the bounds]
    move ! (4 ∷ []) $ use1 𝓛 (raw (fact 𝓤 (κs.0 ⊑ T.lives)) ⊛ raw (fact 𝓤 (κs.1.0 ⊑ A.lives)) ⊛ ‵ ftrue) (id⊢ 𝓤 _) $
    split3 ! $ move ! (2 ∷ []) $ drop ! $ move ! (1 ∷ 2 ∷ []) $ join ! $ move ! (1 ∷ 0 ∷ []) $ join ! $
    move ! (2 ∷ []) $ feq_i ! (List Val) (vptr b o ∷ []) (vptr b o ∷ []) refl $ fjoin ! $ move ! (2 ∷ 0 ∷ []) $ fjoin ! $
    move ! (2 ∷ 0 ∷ []) $ join ! $ join ! $ use1 𝓛 (raw (callee.pre y)) (id⊢ 𝓤 _) $
    suffices ! (runs (word ∷ [])) (subst (λ (us : List Val). ent 𝓤 (runs (word ∷ [])) (runs us)) (sym (λ i. vs i ++ [])) (id⊢ 𝓤 (runs (word ∷ [])))) $
    enter ! 𝓣.C 𝓣.Λ fn (word ∷ []) post $ alloc_all ! (λ l. pass_all ! refl (pair_fits R Z LZ g b o h good, tt) $ let locals = env fn.locals l in
    sets ! (of_opd ! (get_in ! (fld ! refl (stop !)) (sub ! 0 refl (whole !)))) refl (tt, tt) $
    sets ! (of_opd ! (get_in ! (fld ! refl (stop !)) (sub ! 1 refl (whole !)))) refl good $
    first ! $ blocks ! $ sets ! (of_opd ! (get ! refl)) refl good $
    calls_at_last ! (framed 𝓤 𝓛.H 𝓜 𝓣) callee
    (met 𝓤 𝓛 𝓜 𝓡 (code.calls-std_alloc::boxed::Box::from_raw 𝓡.env wired) T A L LA g d drops_A allocator glue_A)
    y (and_then ! (get ! refl) (and_then ! (get ! refl) (no_more !))) (λ v.
    use1 𝓛 (later (some (λ (r : Boxed.Denot). (tokens ⊛ ‵ (Boxed.own_val r (v ∷ []))) ⊛
    some (λ (ls : Lasts (made.ended T A g d drops_A) κs y.0.3). ‵ (lasts (made.ended T A g d drops_A) κs y.0.3 ls) ⊛
    (raw (fact 𝓤 (r.value ≡ k.value)) ⊛ raw (fact 𝓤 (r.alloc ≡ a))))))) (id⊢ 𝓤 (callee.post y v)) $
    await ! tt $ pick ! (λ r. split ! $ move ! (1 ∷ []) $ pick ! (λ _. split3 ! $ drop ! $ move ! (2 ∷ []) $ split ! $ move ! (1 ∷ []) $
    -- [the new box; its tokens; its value; the locals]
    box_out B ! r (v ∷ []) (λ b' o' h' lies' vs' good'.
    box_in B ! r b' o' r.value lies' refl $ rewrite ! 0 (λ (us : List Val). ‵ (Boxed.own_val r us)) (sym vs') refl $
    let fits : Good (layout Boxed) v = subst (Good (layout Boxed)) (sym (ap only vs')) (pair_fits R Z LZ g b' o' h' good') in
    lands_last ! refl fits $ exec ! 𝓣.C 𝓣.Λ locals (after 3 fn.body) (at_ret locals post) $
    sets ! (of_opd ! (get ! refl)) refl fits $ nothing ! $ nothing ! $ fjoin ! $
    returns ! (look_at ! 0 refl) $ free_all ! refl $ keep ! (2 ∷ 0 ∷ 1 ∷ 3 ∷ []) $
    by ! (leaves 𝓛 E stays c z v r ((tt, (tt, tt)), tt) (tt, tt)))))))))

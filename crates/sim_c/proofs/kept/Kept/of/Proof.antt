-- `of` calls what takes the box apart, and puts the two parts that come back into the struct.
use Rattle.std_alloc.proofs.BoxSteps.Form as box
use Rattle.std_alloc.specs.contracts.boxed.Box.into_raw_with_allocator as apart
use Rattle.sim_c.proofs.kept.Kept.of.Code as code
use Rattle.sim_c.proofs.{kept.Kept.of.Statement.statement, Parts.{boxed, frees, pair, pair_fits, parts_in}}
use Rattle.{sim_c.specs.contracts.kept.Kept.of.{clauses, ended, Key.name}, std.proofs.alloc.Calls.{Goes-blank, handle_tells}}
use Rattle.std.proofs.{Common.{ap, List, refl, subst, sym, [], ◌++◌, ◌∙◌, ◌∷◌, ◌≡◌}, raw_atomic.Walks.{leaves, proved_at}}
use Rattle.std_alloc.proofs.{boxed.Box.into_raw_with_allocator.Met.met, BoxSteps.Steps.{box_in, box_out}}
use base.{Fml.flft, Fml.fsep, Fml.ftrue, Logic.SProp, Logic.emp, Logic.ent, Logic.fst∗, Logic.id⊢, Logic.never}
use contract.{Monad.fact, Monad.fact_i, Running.tables}
use denote.Triple.Walked.{walk_of}
use denote.{Builtin.RawPtr, Exit.no, Param.Laws.param_laws, Param.bounded, Param.layout, Param.param, RattleType.RattleType, RattleType.owns, RawPtr.Ptr}
use denote.{RawPtr.block_ptr, RawPtr.in_a_block, RawPtr.null_ptr, RawPtr.ptr_val, Signature.plain, Signature.types_at, Steps.heard, Steps.nothing, Steps.only}
use denote.{Struct.Tuple.Tuple, Triple.Call.calls_at, Triple.Spec.triple_of, Triple.Table.framed, Triple.Walked.Stays, Triple.Walked.stay_dropped}
use mir.{MapTy.inst_fn, Raw.raw as bare, Syntax.Args, Syntax.a_type, Syntax.dcons, Syntax.dnil, Val.Val, Val.of_list, Val.vstruct}
use prog.Wp.{WpFn}
use types.Kit.{ !, await, by, drop, feq_l, fjoin, fpick, fsplit, join, keep, later, move, pick, qed, raw, rewrite, some, split, split3, suffices, use0, use1, ‵}
use types.{ByLocal.alloc_all, ByLocal.free_all, ByLocal.get, ByLocal.get_in, ByLocal.lands_as, ByLocal.look_at, ByLocal.pass_all, ByLocal.sets, Kit.◌$◌}
use types.{Kit.◌∵◌, Kit.◌⊛◌, Logic.sem, Part.agg, Part.sub, Part.whole, Run.and_then, Run.enter, Run.fld, Run.no_more, Run.of_opd, Run.returns, Run.stop}

pub of_spec : {M : Type 1} → statement M
of_spec 𝓤 𝓛 𝓜 𝓡 wired T A L LA g d drops_T drops_A allocator glue_T glue_A =
    let 𝓣 = tables 𝓤 𝓛.H 𝓜 𝓡 𝓡.env in
    let R : RattleType = param 0 T in let Z : RattleType = param 1 A in let LZ = param_laws 1 A LA in
    let B : box.Bx = record { row = T; laws = L; al = record { row = A; laws = LA; g = g; d = d; drops = drops_A } } in
    let at_types : Args = bounded (a_type ∷ a_type ∷ []) (T, (A, tt)) (dcons d (dcons drops_T (dcons drops_A dnil))) in
    let fn = inst_fn at_types code.function in
    let E = ended T A g d drops_T drops_A in let c = clauses T A g d drops_T drops_A 𝓛 𝓜.mem 𝓡.returns in
    let stays : Stays E.signature.params E.kept = (stay_dropped (plain (λ _. box.B B)) no, tt) in
    let callee = triple_of 𝓛 (apart.signature T A g d drops_A drops_T) (apart.spec T A g d drops_A drops_T 𝓛 𝓜.mem 𝓡.returns) in
    proved_at 𝓛 E stays c 𝓜 𝓡 (Goes-blank 𝓛 2 (plain (λ _. box.B B)) no (λ κs x f. tt), tt)
    (name at_types) fn (code.unfolded 𝓤 𝓛.H 𝓜 𝓡 wired (T, (A, tt)) d drops_T drops_A) (λ z are.
    let κs = z.0.0 in let qs = z.0.1 in let given = z.0.3.0 in let a = given.alloc in
    let post : Val → SProp 𝓤 = (walk_of 𝓛 E stays c).post z in
    let runs : List Val → SProp 𝓤 = λ vs. WpFn 𝓤 𝓛.H 𝓣.C 𝓣.Λ fn vs post in
    let tokens = ‵ (flft κs.0 qs.0) ⊛ ‵ (flft κs.1.0 qs.1.0) ⊛ ‵ ftrue in
    let Two = Tuple (RawPtr ∷ Z ∷ []) in let token = g.dealloc_token a in
    qed 𝓛 ((tokens ⊛ ‵ (owns (types_at E.signature.params κs) z.0.3 z.0.4)) ∷ raw ((c κs z.0.3).requires z.1) ∷ []) ∵
    split ! $ move ! (1 ∷ []) $ fsplit ! $ box_out B ! given z.0.4.0 (λ b o h lies vs good. box_in B ! given b o given.value lies refl $
    let word : Val = box.word B h b o in let fits = pair_fits R Z LZ g b o h good in
    let y : callee.Ghost = ((κs, qs, tt, (given, tt), (word ∷ [], tt)), tt) in
    -- [the tokens and the box, and the bounds: what is required]
    fjoin ! $ move ! (1 ∷ 0 ∷ []) $ join ! $ join ! $ use1 𝓛 (raw (callee.pre y)) (id⊢ 𝓤 _) $
    suffices ! (runs (word ∷ [])) (subst (λ (us : List Val). ent 𝓤 (runs (word ∷ [])) (runs us)) (sym (λ i. vs i ++ [])) (id⊢ 𝓤 (runs (word ∷ [])))) $
    enter ! 𝓣.C 𝓣.Λ fn (word ∷ []) post $ alloc_all ! (λ l. pass_all ! refl (fits, tt) $ sets ! (of_opd ! (get ! refl)) refl fits $
    calls_at ! (framed 𝓤 𝓛.H 𝓜 𝓣) callee
    (met 𝓤 𝓛 𝓜 𝓡 (code.calls-std_alloc::boxed::Box::into_raw_with_allocator 𝓡.env wired) T A L LA g d drops_A drops_T allocator glue_A glue_T)
    y (and_then ! (get ! refl) (no_more !)) (λ v.
    use1 𝓛 (later (some (λ (two : Ptr × A.Denot). (tokens ⊛ ‵ (Two.own_val two (v ∷ []))) ⊛
    some (λ (_ : (Unit {0} × (Unit {0} × Unit {0})) × Unit {0}). ‵ (fsep (fsep ftrue (fsep ftrue ftrue)) ftrue) ⊛
    (raw (fact 𝓤 (two.1 ≡ a)) ⊛ ‵ (boxed R Z LZ g a two.0 given.value)))))) (id⊢ 𝓤 _) $
    await ! tt $ pick ! (λ two. split ! $ move ! (1 ∷ []) $ pick ! (λ _. split3 ! $ drop ! $ heard ! (two.1 ≡ a) (λ same.
    in_a_block ! two.0 (λ p. boxed R Z LZ g a p given.value) (fst∗ 𝓤 (never 𝓤) (sem 𝓛 (token (bare (layout T)) null_ptr))) (λ b' o' lies'.
    let p = block_ptr b' o' in
    -- [the tuple; the box; the tokens; the locals]
    move ! (1 ∷ []) $ split ! $ move ! (1 ∷ []) $ fpick ! (λ parts. fsplit ! $ feq_l ! (λ is. fsplit ! $ feq_l ! (λ first. fsplit ! $
    rewrite ! 0 (λ (r : A.Denot). ‵ (A.own_val r parts.1.0)) same refl $ handle_tells (frees R Z LZ g) ! a parts.1.0 (λ h' second good'.
    let fits' = pair_fits R Z LZ g b' o' h' good' in
    let first' : parts.0 ≡ ptr_val p ∷ [] = first ∙ ap (λ (q : Ptr). ptr_val q ∷ []) lies' in
    lands_as ! (ap only (is ∙ (λ i. vstruct (of_list (first' i ++ (second i ++ []))) ∷ []))) refl fits' $
    sets ! (of_opd ! (get_in ! (fld ! refl (stop !)) (sub ! 0 refl (whole !)))) refl (tt, tt) $
    sets ! (of_opd ! (get_in ! (fld ! refl (stop !)) (sub ! 1 refl (whole !)))) refl good' $
    sets ! (of_opd ! (get ! refl)) refl good' $ sets ! (agg ! (and_then ! (get ! refl) (and_then ! (get ! refl) (no_more !)))) refl fits' $
    move ! (3 ∷ 0 ∷ []) $ parts_in R Z LZ g ! p h' a given.value $
    use0 𝓛 (raw (fact 𝓤 (given.value ≡ given.value))) (fact_i 𝓤 (given.value ≡ given.value) (emp 𝓤) refl) $ nothing ! $ nothing ! $ fjoin ! $
    returns ! (look_at ! 0 refl) $ free_all ! refl $ keep ! (4 ∷ 0 ∷ 2 ∷ 1 ∷ []) $
    by ! (leaves 𝓛 E stays c z (pair p h') (record { at = p; alloc = a; value = given.value }) ((tt, (tt, tt)), tt) (tt, tt))))))))))))))

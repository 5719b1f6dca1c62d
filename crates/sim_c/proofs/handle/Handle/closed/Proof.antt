-- `closed` makes the handle at null, which owns nothing.
use Rattle.sim_c.specs.contracts.handle.Handle.closed as f
use Rattle.sim_c.proofs.handle.Handle.closed.Code as code
use Rattle.sim_c.proofs.{Address.{handle_in, word}, handle.Handle.closed.Statement.statement}
use Rattle.std.{proofs.{Common.{lit<, refl, [], ◌∷◌}, raw_atomic.Walks.proved}, specs.declared.option.Option.TheVariants.None}
use base.Fml.{ftrue}
use denote.{RawPtr.Ptr, RawPtr.null_ptr, Steps.nothing, Triple.Entry.on_entry, Triple.Walked.ends_at, Triple.Walked.says, Triple.Walked.walk_of}
use types.{ByLocal.alloc_all, ByLocal.free_all, ByLocal.look_at, ByLocal.pass_all, ByLocal.sets, Kit.!, Kit.done, Kit.drop, Kit.feq_i, Kit.group, Kit.qed}
use types.{Kit.raw, Kit.suffices, Kit.‵, Kit.◌$◌, Kit.◌∵◌, Part.agg, Run.and_then, Run.enter, Run.lit, Run.no_more, Run.returns}

pub closed_spec : {M : Type 1} → statement M
closed_spec 𝓤 𝓛 𝓜 𝓡 wired =
    let c = f.clauses 𝓛 𝓜.mem 𝓡.returns in let W = walk_of 𝓛 f.ended tt c in
    proved 𝓛 f.ended tt c 𝓜 𝓡 tt
    f.Key.name code.function (code.unfolded 𝓤 𝓛.H 𝓜 𝓡 wired)
    (λ κs. tt) (λ κs. tt) (λ κs qs bounds a _ are.
    let y : W.Ghost = ((κs, qs, bounds, a, tt), tt) in
    qed 𝓛 (raw (on_entry 𝓛 f.signature κs qs a y.0.4) ∷ ‵ ftrue ∷ []) ∵
    enter ! _ _ _ _ _ $ alloc_all ! (λ l. pass_all ! refl tt $
    sets ! (agg ! (and_then ! (lit ! tt) (no_more !))) refl (tt, (record { fits = lit< tt }, tt)) $
    returns ! (look_at ! 0 refl) $ free_all ! refl $ drop ! $ drop ! $ feq_i ! Ptr null_ptr null_ptr refl $ handle_in ! null_ptr None $
    suffices ! _ (ends_at 𝓛 f.ended tt c y (word null_ptr) (record { at = null_ptr; held = None }) tt tt) $ says ! refl $
    nothing ! $ nothing ! $ group ! 3 $ done !))

-- Each state is one of the match, and the sight after all of them is that of the last, and of all that was seen.
use Rattle.sim_vision.proofs.{After.counts_last, After.explored_all, After.setup_stays, Common.vision_after, Common.◌∙◌, Joining.kept_long}
use Rattle.sim_vision.proofs.Common.{◌≡◌, ◌*◌, length, get_or, take, All-get_or, ap, arith, cells_in, IsValid, Setup, subst, sym, take_all, Vision}
use Rattle.sim_vision.proofs.sight.Sight.follow_each.Goals as goal

pub follow-requires : goal.follow-requires
follow-requires c =
    let start = c.args.self.now in
    let states = c.args.states.now in
    let at = c.loop-state.state-index in
    let same = ap (λ (v : Vision). v.setup) c.loop-state.invariant ∙ setup_stays start (take at states) in
    let valid : IsValid start.setup (get_or states at c.state-item.result) =
    All-get_or (IsValid start.setup) states at c.state-item.result (omega arith) c.requires in
    subst (λ (setup : Setup). IsValid setup c.state-item.result) (sym same) (subst (IsValid start.setup) (sym c.state-item.is) valid)

pub returns-clause-counts : goal.returns-clause-counts
returns-clause-counts c =
    let start = c.args.self.now in
    let states = c.args.states.now in
    let all : c.loop-state.self ≡ vision_after start states = c.loop-state.invariant
    ∙ ap (vision_after start) (take_all c.loop-state.state-index states (omega arith)) in
    λ first later e. ap (λ (v : Vision). v.counts) (all ∙ ap (vision_after start) e) ∙ counts_last start first later

pub returns-clause-explored : goal.returns-clause-explored
returns-clause-explored c =
    let s = c.self.inside in
    let start = c.args.self.now in
    let states = c.args.states.now in
    let all : c.loop-state.self ≡ vision_after start states = c.loop-state.invariant
    ∙ ap (vision_after start) (take_all c.loop-state.state-index states (omega arith)) in
    let full = ap (λ (v : Vision). length v.explored) (sym c.self.view_is) ∙ kept_long s.setup.now s.trail s.discs.items s.fog c.self.invariant
    ∙ ap (λ (v : Vision). v.setup.players * cells_in v.setup) c.self.view_is in
    ap (λ (v : Vision). v.explored) all ∙ explored_all start states full

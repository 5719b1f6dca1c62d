-- The fog follows what the trail tells.
use Rattle.sim_vision.proofs.Common.{extent_of, Fog, HasFollowed, IsKnownShift, IsValid, Keeps, Mark, reaches_of, Setup, Shift, subst, sym, Vision, ◌∙◌}
use Rattle.sim_vision.proofs.Common.{◌≡◌, ℕ, ◌*◌, List, length, All, all_counts, all_visible, ap, AreLit, arith, CanFollow, explored_with, Extent, extent_in}
use Rattle.sim_vision.proofs.Seeing.{can, counts_are, explored_are, keeps_on, known}
use Rattle.sim_vision.proofs.sight.Sight.follow.Goals as goal

pub follow-requires-2-clause-known : goal.follow-requires-2-clause-known
follow-requires-2-clause-known c =
    let s = c.self.inside in
    let valid = subst (λ (setup : Setup). IsValid setup c.args.state.now) (sym (ap (λ (v : Vision). v.setup) c.self.view_is)) c.requires in
    let is = known s.setup.now c.args.state.now s.trail s.discs.items s.fog c.self.invariant valid c.follow.ensures.ascending in
    let shifts = c.as_slice-2.ensures ∙ c.in_ok-shifts.ensures.shifts in
    let discs = c.as_slice.ensures.value ∙ c.self.invariant.reaches in
    subst (λ (e : Extent). All (IsKnownShift e c.as_slice.result.now) c.as_slice-2.result.now) (sym c.self.invariant.extent)
    (subst (λ (ds : List ℕ). All (IsKnownShift (extent_in s.setup.now) ds) c.as_slice-2.result.now) (sym discs)
    (subst (λ (xs : List Shift). All (IsKnownShift (extent_in s.setup.now) (reaches_of s.setup.now)) xs) (sym shifts) is))

pub follow-requires-2-clause-can : goal.follow-requires-2-clause-can
follow-requires-2-clause-can c =
    let s = c.self.inside in
    let valid = subst (λ (setup : Setup). IsValid setup c.args.state.now) (sym (ap (λ (v : Vision). v.setup) c.self.view_is)) c.requires in
    let is = can s.setup.now c.args.state.now s.trail s.discs.items s.fog c.self.invariant valid c.follow.ensures.ascending in
    let shifts = c.as_slice-2.ensures ∙ c.in_ok-shifts.ensures.shifts in
    let discs = c.as_slice.ensures.value ∙ c.self.invariant.reaches in
    subst (λ (e : Extent). CanFollow e c.as_slice.result.now c.as_slice-2.result.now s.fog.counts.items) (sym c.self.invariant.extent)
    (subst (λ (ds : List ℕ). CanFollow (extent_in s.setup.now) ds c.as_slice-2.result.now s.fog.counts.items) (sym discs)
    (subst (λ (xs : List Shift). CanFollow (extent_in s.setup.now) (reaches_of s.setup.now) xs s.fog.counts.items) (sym shifts) is))

pub invariant_of-self-2 : goal.invariant_of-self-2
invariant_of-self-2 c =
    let s = c.self.inside in
    let later = c.follow-2.new.self in
    let same = ap (λ (v : Vision). v.setup) c.self.view_is in
    let valid = subst (λ (setup : Setup). IsValid setup c.args.state.now) (sym same) c.requires in
    let shifts = c.as_slice-2.ensures ∙ c.in_ok-shifts.ensures.shifts in
    let discs = c.as_slice.ensures.value ∙ c.self.invariant.reaches in
    let extent = c.follow-2.ensures.extent ∙ c.self.invariant.extent in
    let followed =
    subst (λ (xs : List Shift). HasFollowed (extent_in s.setup.now) (reaches_of s.setup.now) xs s.fog.counts.items later.counts.items s.fog.flags.items
    later.flags.items) shifts
    (subst (λ (ds : List ℕ). HasFollowed (extent_in s.setup.now) ds c.as_slice-2.result.now s.fog.counts.items later.counts.items s.fog.flags.items
    later.flags.items) discs
    (subst (λ (e : Extent). HasFollowed e c.as_slice.result.now c.as_slice-2.result.now s.fog.counts.items later.counts.items s.fog.flags.items
    later.flags.items) c.self.invariant.extent c.follow-2.ensures.followed)) in
    let lit = subst (λ (e : Extent). AreLit e later.counts.items later.flags.items) c.self.invariant.extent c.follow-2.ensures.lit in
    subst (λ (marks : List Mark). Keeps s.setup.now marks s.discs.items later) (sym c.in_ok-shifts.ensures.marks)
    (keeps_on s.setup.now c.args.state.now s.trail s.discs.items s.fog c.self.invariant valid c.follow.ensures.ascending later extent followed lit)

counts_long : (fog : Fog) → length fog.counts.items ≡ fog.players * (fog.width * fog.depth)
counts_long fog = omega (arith, fog.counted, fog.counts.ok.0)

flags_long : (fog : Fog) → length fog.flags.items ≡ fog.players * (fog.width * fog.depth)
flags_long fog = omega (arith, fog.flagged, fog.flags.ok.0)

full : (fog : Fog) (setup : Setup) → extent_of fog ≡ extent_in setup → fog.players * (fog.width * fog.depth)
    ≡ setup.players * (setup.land.width * setup.land.depth)
full fog setup e = ap (λ (x : Extent). x.players * (x.size.width * x.size.depth)) e

pub returns-clause-next : goal.returns-clause-next
returns-clause-next c =
    let s = c.self.inside in
    let later = c.follow-2.new.self in
    let same = ap (λ (v : Vision). v.setup) c.self.view_is in
    let valid = subst (λ (setup : Setup). IsValid setup c.args.state.now) (sym same) c.requires in
    let shifts = c.as_slice-2.ensures ∙ c.in_ok-shifts.ensures.shifts in
    let discs = c.as_slice.ensures.value ∙ c.self.invariant.reaches in
    let extent = c.follow-2.ensures.extent ∙ c.self.invariant.extent in
    let followed =
    subst (λ (xs : List Shift). HasFollowed (extent_in s.setup.now) (reaches_of s.setup.now) xs s.fog.counts.items later.counts.items s.fog.flags.items
    later.flags.items) shifts
    (subst (λ (ds : List ℕ). HasFollowed (extent_in s.setup.now) ds c.as_slice-2.result.now s.fog.counts.items later.counts.items s.fog.flags.items
    later.flags.items) discs
    (subst (λ (e : Extent). HasFollowed e c.as_slice.result.now c.as_slice-2.result.now s.fog.counts.items later.counts.items s.fog.flags.items
    later.flags.items) c.self.invariant.extent c.follow-2.ensures.followed)) in
    let lit = subst (λ (e : Extent). AreLit e later.counts.items later.flags.items) c.self.invariant.extent c.follow-2.ensures.lit in
    let counts = counts_are s.setup.now c.args.state.now s.trail s.discs.items s.fog c.self.invariant valid c.follow.ensures.ascending later extent
    followed lit (counts_long later ∙ full later s.setup.now extent)
    ∙ ap (λ (setup : Setup). all_counts setup c.args.state.now.rows) same in
    let explored = explored_are s.setup.now c.args.state.now s.trail s.discs.items s.fog c.self.invariant valid c.follow.ensures.ascending later extent
    followed lit
    (counts_long later ∙ full later s.setup.now extent) (flags_long s.fog ∙ full s.fog s.setup.now c.self.invariant.extent)
    (flags_long later ∙ full later s.setup.now extent)
    ∙ (λ i. explored_with (ap (λ (v : Vision). v.explored) c.self.view_is i) (all_visible (same i) c.args.state.now.rows)) in
    λ i. record { setup = same i; counts = counts i; explored = explored i }

-- The realm of the next state.
use Rattle.sim_territory.proofs.Common.{List, AreInfluences, AreShifted, FitShifts, IsValid, Mark, RealmOf, Shift, subst, sym, ◌∙◌}
use Rattle.sim_territory.proofs.Keeping.{realm_fits, realm_follows}

pub follow-requires-2 : Rattle.sim_territory.proofs.realm.Realm.follow.Goals.follow-requires-2
follow-requires-2 c =
    let in_it = c.self.inside in
    let valid = subst (λ (r : RealmOf). IsValid r.setup c.args.state.now) (sym c.self.view_is) c.requires in
    subst (λ (xs : List Shift). FitShifts in_it.setup.now xs in_it.influences.sums) (sym (c.as_slice.ensures ∙ c.in_ok-shifts.ensures.shifts))
    (realm_fits in_it.setup.now in_it.trail c.args.state.now in_it.influences.sums c.in_ok-shifts.ensures.ascending valid c.self.invariant)

pub invariant_of-self-2 : Rattle.sim_territory.proofs.realm.Realm.follow.Goals.invariant_of-self-2
invariant_of-self-2 c =
    let in_it = c.self.inside in
    let valid = subst (λ (r : RealmOf). IsValid r.setup c.args.state.now) (sym c.self.view_is) c.requires in
    subst (λ (marks : List Mark). AreInfluences in_it.setup.now marks c.follow-2.new.self.sums) (sym c.in_ok-shifts.ensures.marks)
    (realm_follows in_it.setup.now in_it.trail c.args.state.now in_it.influences.sums c.in_ok-shifts.ensures.ascending valid c.self.invariant
    c.follow-2.new.self.sums
    (subst (λ (xs : List Shift). AreShifted in_it.setup.now xs in_it.influences.sums c.follow-2.new.self.sums)
    (c.as_slice.ensures ∙ c.in_ok-shifts.ensures.shifts) c.follow-2.ensures))

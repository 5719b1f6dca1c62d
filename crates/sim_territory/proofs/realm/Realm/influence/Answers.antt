use Rattle.sim_territory.proofs.{Common.{ap, arith, influences_in, length, RealmOf, subst, sym, ◌*◌, ◌∙◌, ◌≡◌, ◌≤◌}, Keeping.layer_listed}

pub returns : Rattle.sim_territory.proofs.realm.Realm.influence.Goals.returns
returns c =
    let in_it = c.self.inside in
    let sums = in_it.influences.sums in
    let player = c.args.player in
    let most : player ≤ in_it.setup.now.players = subst (λ (r : RealmOf). player ≤ r.setup.players) (sym c.self.view_is) c.requires.most in
    let full : length sums.items.items ≡ sums.players * (sums.width * sums.depth) = omega (arith, sums.full, sums.items.ok.0) in
    c.layer.ensures ∙ layer_listed in_it.setup.now in_it.trail sums c.self.invariant player c.requires.least (omega (arith, most, c.self.invariant.players))
    full ∙ ap (λ (r : RealmOf). influences_in r player) c.self.view_is

use Rattle.sim_territory.proofs.{Common.ap, Common.holders_in, Common.◌∙◌, Keeping.holders_listed}

pub returns : Rattle.sim_territory.proofs.realm.Realm.holders.Goals.returns
returns c =
    let in_it = c.self.inside in
    c.as_slice.ensures.value ∙ holders_listed in_it.setup.now in_it.trail in_it.influences.sums c.self.invariant in_it.influences.holders.items
    in_it.influences.agree ∙ ap holders_in c.self.view_is

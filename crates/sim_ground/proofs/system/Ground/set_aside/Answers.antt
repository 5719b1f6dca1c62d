-- What goes into the rooms was drawn of the land and the facts that go with it.
use Rattle.sim_ground.proofs.Common.{◌≡◌, Fact, IsOpened, List, refl, subst, sym, ◌∙◌}

pub new-requires-in-Some-Some : Rattle.sim_ground.proofs.system.Ground.set_aside.Goals.new-requires-in-Some-Some
new-requires-in-Some-Some c =
    let s = c.args.self.now in
    let same : c.replace-facts.result.items ≡ s.kept.facts.items = rw c.replace-facts.ensures.value refl in
    subst (λ (fs : List Fact). IsOpened c.in-Some-Some.land fs c.in-Some-Some.opened) (sym same)
    (s.over.each c.in-Some-Some.land c.in-Some-Some.opened (sym c.take-land.ensures.value ∙ c.in-Some-Some.is-0)
    (sym c.take-opened.ensures.value ∙ c.in-Some-Some.is-1))

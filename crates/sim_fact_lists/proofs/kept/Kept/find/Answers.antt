-- What is held ascends, so that a fact is found where it stands.
use Rattle.sim_fact_lists.proofs.{Common.{ap, Ascend, Fact, fact_with, List, subst, sym, ◌∙◌}, Holding.held_ascend, Standing.{found_read, not_there}}
use Rattle.sim_fact_lists.proofs.kept.Kept.find.Goals as goal

pub place_near-requires : goal.place_near-requires
place_near-requires c = subst Ascend (sym c.as_slice-facts.ensures.value) (held_ascend _ _ c.args.self.now.held c.requires)

pub returns-in-Ok : goal.returns-in-Ok
returns-in-Ok c =
    found_read c.as_slice-facts.result.now c.args.id c.in-Ok.at _
    (subst Ascend (sym c.as_slice-facts.ensures.value) (held_ascend _ _ c.args.self.now.held c.requires)) c.in-Ok.ensures c.index-facts-at.is
    ∙ ap (λ (facts : List Fact). fact_with facts c.args.id) c.as_slice-facts.ensures.value

pub returns-in-Err : goal.returns-in-Err
returns-in-Err c = not_there c.as_slice-facts.result.now c.args.id c.in-Err.field-0 c.in-Err.ensures ∙ ap (λ (facts : List Fact). fact_with facts c.args.id)
    c.as_slice-facts.ensures.value

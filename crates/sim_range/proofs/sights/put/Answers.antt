-- Each of the four edits leaves the sights in step with the facts.
use Rattle.sim_range.proofs.Common.{map, set, is_some, insert, ap, ids_of, Sight, sight, with_only, ◌∙◌}
use Rattle.sim_range.proofs.Watching.{ok_sights, sight_in, sight_none, sight_out, sight_over}
use Rattle.sim_range.proofs.sights.put.Goals as goal

pub returns-in-Ok-Some : goal.returns-in-Ok-Some
returns-in-Ok-Some c =
    ap (λ (o : Sight). map ids_of (set c.args.sights.now.items c.in-Ok-Some.at o)) c.swap.ensures.x_after
    ∙ sight_over (sight c.args.held.now.land.now (with_only c.args.id c.args.part.now c.args.held.now.facts.now)) c.args.held.now.facts.now
    c.args.sights.now.items c.requires.sights
    c.args.held.now.holds.held.ascending c.args.id c.in-Ok-Some.at c.args.part.now c.requires.named _ c.args.own.now c.requires.own
    c.in-Ok-Some.ensures c.in-Ok-Some.is-1

pub returns-in-Ok-None : goal.returns-in-Ok-None
returns-in-Ok-None c =
    ap (map ids_of) c.remove.ensures.items
    ∙ sight_out (sight c.args.held.now.land.now (with_only c.args.id c.args.part.now c.args.held.now.facts.now)) c.args.held.now.facts.now
    c.args.sights.now.items c.requires.sights
    c.args.held.now.holds.held.ascending c.args.id c.in-Ok-None.at c.args.part.now c.requires.named c.in-Ok-None.ensures c.in-Ok-None.is-1

pub returns-in-Err-Some : goal.returns-in-Err-Some
returns-in-Err-Some c =
    ap (map ids_of) (ok_sights _ c.args.sights.now.items _ _ (c.insert.ensures.succeeds (c.requires.room (ap is_some c.in-Err-Some.is-1)))
    c.insert.ensures.items ∙ ap (insert c.args.sights.now.items c.in-Err-Some.at) c.replace.ensures.value)
    ∙ sight_in (sight c.args.held.now.land.now (with_only c.args.id c.args.part.now c.args.held.now.facts.now)) c.args.held.now.facts.now
    c.args.sights.now.items c.requires.sights
    c.args.held.now.holds.held.ascending c.args.id c.in-Err-Some.at c.args.part.now c.requires.named _ c.args.own.now c.requires.own
    c.in-Err-Some.ensures c.in-Err-Some.is-1

pub returns-in-Err-None : goal.returns-in-Err-None
returns-in-Err-None c =
    sight_none (sight c.args.held.now.land.now (with_only c.args.id c.args.part.now c.args.held.now.facts.now)) c.args.held.now.facts.now
    c.args.sights.now.items c.requires.sights
    c.args.held.now.holds.held.ascending c.args.id c.in-Err-None.field-0-0 c.args.part.now c.requires.named c.in-Err-None.ensures c.in-Err-None.is-1

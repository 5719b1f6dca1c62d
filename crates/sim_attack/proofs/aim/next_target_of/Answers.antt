-- The nearest that the row sees is its target where it may take it; else it has none.
use Rattle.sim_attack.{proofs.Sharing.{seen_is_nearest, target_from}, specs.Finds.nearest_of}
use Rattle.{sim_base.specs.{Commands.seen, Turn.may_take}, sim_plans.specs.Plans.next_target, std.proofs.Common.{ap, false, rules, sym, true, ◌∙◌, ◌≡◌}}

pub returns-then-may_take-clause-target : Rattle.sim_attack.proofs.aim.next_target_of.Goals.returns-then-may_take-clause-target
returns-then-may_take-clause-target g c =
    let setup = c.args.scene.now.setup.now in
    let state = c.args.scene.now.state.now in
    let row = c.args.row.now in
    let arms = c.in-Some.arms in
    let target = c.in_ok-target.target in
    let nearest : target ≡ nearest_of state row (seen setup state row arms) = c.in_ok-target.ensures.target ∙
    sym (seen_is_nearest setup state row c.requires.can.stands.limits c.requires.can.stands.valid c.requires.can.row_is c.requires.can.found arms) in
    let takes : may_take state row arms target ≡ true = search rules in
    target_from setup state row arms target true nearest takes ∙ ap (next_target setup state row) c.in-Some.ensures

pub returns-else-may_take-clause-target : Rattle.sim_attack.proofs.aim.next_target_of.Goals.returns-else-may_take-clause-target
returns-else-may_take-clause-target g c =
    let setup = c.args.scene.now.setup.now in
    let state = c.args.scene.now.state.now in
    let row = c.args.row.now in
    let arms = c.in-Some.arms in
    let target = c.in_ok-target.target in
    let nearest : target ≡ nearest_of state row (seen setup state row arms) = c.in_ok-target.ensures.target ∙
    sym (seen_is_nearest setup state row c.requires.can.stands.limits c.requires.can.stands.valid c.requires.can.row_is c.requires.can.found arms) in
    let leaves : may_take state row arms target ≡ false = search rules in
    target_from setup state row arms target false nearest leaves ∙ ap (next_target setup state row) c.in-Some.ensures

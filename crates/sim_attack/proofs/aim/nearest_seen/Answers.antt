-- What is taken from a find is what the row finds, and what the row finds is kept as what its owner finds from there.
use Rattle.sim_attack.proofs.aim.nearest_seen.Goals as goal
use Rattle.sim_attack.proofs.Sharing.{filled_found, found_at, seen_is_nearest, shared_is_nearest}
use Rattle.{sim_attack.specs.{declared.finds.Find.Find, Finds.{filled, nearest_from, nearest_of, place_for}}, sim_base.specs.{Commands.seen, Rows.row_of}}
use Rattle.sim_system.specs.Meanings.{seen_from, seen_with}
use Rattle.std.{proofs.{Common.{ap, get_or, None, rules, Some, sym, ◌∙◌, ◌≡◌}, lemmas.List.Elements.{All-same, All-set}}, specs.Prelude.{IfSome, Option}}

pub returns-in-Some-clause-target : goal.returns-in-Some-clause-target
returns-in-Some-clause-target g c =
    let setup = c.args.scene.now.setup.now in
    let state = c.args.scene.now.state.now in
    let row = c.args.row.now in
    let finds = c.args.finds.now.kept.items in
    let place = place_for row.owner row.at in
    shared_is_nearest setup state row c.args.arms.now.vision (get_or finds place None) c.in-Some.target (found_at setup state finds place c.requires.can.finds)
    (sym c.in-Some.ensures)

nearest_is : goal.returns-clause-target
nearest_is g c =
    let setup = c.args.scene.now.setup.now in
    let state = c.args.scene.now.state.now in
    let row = c.args.row.now in
    let arms = c.args.arms.now in
    let seen_is : seen_from setup state (row_of state row.id) ≡ seen setup state row arms = ap (seen_from setup state) c.requires.can.found ∙
    ap (seen_with setup state row) c.requires.arms in
    let ids_are : c.as_slice.result.now ≡ seen_from setup state (row_of state row.id) = search rules in
    c.nearest-target.ensures ∙ ap (nearest_of state row) (ids_are ∙ seen_is) ∙
    seen_is_nearest setup state row c.requires.can.stands.limits c.requires.can.stands.valid c.requires.can.row_is c.requires.can.found arms

pub returns-clause-target : goal.returns-clause-target
returns-clause-target g c = nearest_is g c

pub returns-clause-finds : goal.returns-clause-finds
returns-clause-finds g c =
    let setup = c.args.scene.now.setup.now in
    let state = c.args.scene.now.state.now in
    let row = c.args.row.now in
    let P : Option Find → Type 0 = λ o. IfSome o (λ (find : Find). find.target ≡ nearest_from setup state find.owner find.at find.vision) in
    All-same P c.keep.new.self.kept.items _ c.in_ok-keep.ensures.ok
    (All-set P (filled c.args.finds.now.kept.items) (place_for row.owner row.at)
    (Some (record { owner = row.owner; at = row.at; vision = c.args.arms.now.vision; target = c.nearest-target.result })) (nearest_is g c)
    (filled_found setup state c.args.finds.now.kept.items c.requires.can.finds))

pub nearest-target-requires : goal.nearest-target-requires
nearest-target-requires g c = record { limits = c.requires.can.stands.limits; valid = c.requires.can.stands.valid; row_is = c.requires.can.row_is }

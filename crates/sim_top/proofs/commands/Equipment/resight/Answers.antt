-- The match, the state and the explored cells were read and the match played on, or one of them could not be read.
use Rattle.sim_top.proofs.{Answering.{both_given, both_told, match_ends, stored_ends}, Common.{Answer, bytes_in, end_from, Err, File, IsAnswerTo, IsSeenFrom}}
use Rattle.sim_top.proofs.Common.{IsState, List, match_in, Ok, refl, Result, RigsCameBackBy, rules, Setup, shelved, Some, StandForStored, status_made, Stop}
use Rattle.sim_top.proofs.{Common.{subst, sym, systems_by, to_resight, ◌∙◌, ◌≡◌}, Playing.played_if, Returning.{kind_of_first, one_played, rigs_left, room_for}}
use Rattle.sim_top.proofs.{Returning.{stands_read, stored_stands, was_played_as}, Sighting.{loads, map_ends, map_goes_on, seen_ended, sight_made, with_map}}
use Rattle.sim_top.proofs.commands.Equipment.resight.Goals as goal

pub returns-in_err-setup-clause-answer : goal.returns-in_err-setup-clause-answer
returns-in_err-setup-clause-answer g c =
    let is : c.from_residual.result ≡ Err c.in_err-setup.field-0.0 = search rules in
    let game = c.args.game.now in
    let before = shelved (g.S.Shelf.held c.args.shelf.now) (g.S.Shelf.counts c.args.shelf.now) in
    let now = shelved (g.S.Shelf.held c.read_match.new.shelf) (g.S.Shelf.counts c.read_match.new.shelf) in
    subst (λ (r : Result Answer Stop). IsAnswerTo (to_resight game c.args.name.now c.args.map.now) r before now) (sym is)
    (match_ends (to_resight game c.args.name.now c.args.map.now) game (λ files. match_in files game) c.in_err-setup.field-0.0 before now
    ((loads game c.args.name.now c.args.map.now).opens) c.in_err-setup.ensures.read.stops c.in_err-setup.ensures.tells c.in_err-setup.ensures.read.reading)

pub returns-in_err-setup-clause-back : goal.returns-in_err-setup-clause-back
returns-in_err-setup-clause-back g c =
    let is : c.from_residual.result ≡ Err c.in_err-setup.field-0.0 = search rules in
    let held = g.S.Shelf.held c.args.shelf.now in
    subst (λ (r : Result Answer Stop). RigsCameBackBy (λ i v. (goal.System-dyn g (i, v)).meaning v)
    (Some (to_resight c.args.game.now c.args.name.now c.args.map.now)) held (status_made r) c.args.self.now.rigs c.args.self.now.rigs) (sym is)
    (rigs_left (λ i v. (goal.System-dyn g (i, v)).meaning v) (Some (to_resight c.args.game.now c.args.name.now c.args.map.now)) held
    c.in_err-setup.field-0.0 c.args.self.now.rigs c.requires)

pub returns-in_err-state-clause-answer : goal.returns-in_err-state-clause-answer
returns-in_err-state-clause-answer g c =
    let is : c.from_residual-in_err-state.result ≡ Err c.in_err-state.field-0.0 = search rules in
    let before = shelved (g.S.Shelf.held c.args.shelf.now) (g.S.Shelf.counts c.args.shelf.now) in
    let middle = shelved (g.S.Shelf.held c.read_match.new.shelf) (g.S.Shelf.counts c.read_match.new.shelf) in
    let now = shelved (g.S.Shelf.held c.read_state.new.shelf) (g.S.Shelf.counts c.read_state.new.shelf) in
    subst (λ (r : Result Answer Stop). IsAnswerTo (to_resight c.args.game.now c.args.name.now c.args.map.now) r before now) (sym is)
    (stored_ends (to_resight c.args.game.now c.args.name.now c.args.map.now) c.args.game.now c.args.name.now (with_map c.args.map.now)
    (loads c.args.game.now c.args.name.now c.args.map.now) c.in_ok-setup.setup before middle now c.in_ok-setup.ensures.read.reading
    c.in_ok-setup.ensures.tells c.in_err-state.field-0.0 c.in_err-state.ensures.read.stops c.in_err-state.ensures.read.reading c.in_err-state.ensures.tells
    (λ files e refused. both_given c.args.game.now c.args.name.now c.in_ok-setup.setup
    (Err c.in_err-state.field-0.0) before middle now c.in_ok-setup.ensures.read.reading c.in_err-state.ensures.read.reading files e refused))

pub returns-in_err-state-clause-back : goal.returns-in_err-state-clause-back
returns-in_err-state-clause-back g c =
    let is : c.from_residual-in_err-state.result ≡ Err c.in_err-state.field-0.0 = search rules in
    let held = g.S.Shelf.held c.args.shelf.now in
    subst (λ (r : Result Answer Stop). RigsCameBackBy (λ i v. (goal.System-dyn g (i, v)).meaning v)
    (Some (to_resight c.args.game.now c.args.name.now c.args.map.now)) held (status_made r) c.args.self.now.rigs c.args.self.now.rigs) (sym is)
    (rigs_left (λ i v. (goal.System-dyn g (i, v)).meaning v) (Some (to_resight c.args.game.now c.args.name.now c.args.map.now)) held
    c.in_err-state.field-0.0 c.args.self.now.rigs c.requires)

pub returns-in_err-sight-clause-answer : goal.returns-in_err-sight-clause-answer
returns-in_err-sight-clause-answer g c =
    let is : c.from_residual-in_err-sight.result ≡ Err c.in_err-sight.field-0.0 = search rules in
    let before = shelved (g.S.Shelf.held c.args.shelf.now) (g.S.Shelf.counts c.args.shelf.now) in
    let now = shelved (g.S.Shelf.held c.read_sight.new.shelf) (g.S.Shelf.counts c.read_sight.new.shelf) in
    subst (λ (r : Result Answer Stop). IsAnswerTo (to_resight c.args.game.now c.args.name.now c.args.map.now) r before now) (sym is)
    (map_ends c.args.game.now c.args.name.now c.args.map.now c.in_ok-setup.setup c.in_ok-state.state before _ _ now c.in_ok-setup.ensures.read.reading
    c.in_ok-state.ensures.read.reading
    c.in_ok-setup.ensures.tells c.in_ok-state.ensures.tells c.in_err-sight.field-0.0 c.in_err-sight.ensures.read.stops c.in_err-sight.ensures.read.reading
    c.in_err-sight.ensures.tells)

pub returns-in_err-sight-clause-back : goal.returns-in_err-sight-clause-back
returns-in_err-sight-clause-back g c =
    let is : c.from_residual-in_err-sight.result ≡ Err c.in_err-sight.field-0.0 = search rules in
    let held = g.S.Shelf.held c.args.shelf.now in
    subst (λ (r : Result Answer Stop). RigsCameBackBy (λ i v. (goal.System-dyn g (i, v)).meaning v)
    (Some (to_resight c.args.game.now c.args.name.now c.args.map.now)) held (status_made r) c.args.self.now.rigs c.args.self.now.rigs) (sym is)
    (rigs_left (λ i v. (goal.System-dyn g (i, v)).meaning v) (Some (to_resight c.args.game.now c.args.name.now c.args.map.now)) held
    c.in_err-sight.field-0.0 c.args.self.now.rigs c.requires)

pub resight_text-text-requires-clause-resumes : goal.resight_text-text-requires-clause-resumes
resight_text-text-requires-clause-resumes g c = record {
  limits = c.in_ok-setup.ensures.read.good;
  valid = c.in_ok-state.ensures.read.good;
  kinds = kind_of_first (λ i v. (goal.System-dyn g (i, v)).meaning v) c.args.self.now.rigs.items c.take_first-rig.new.rigs.items c.take_first-rig.result
      c.take_first-rig.ensures.items c.requires.kinds;
}

pub put_first-requires : goal.put_first-requires
put_first-requires g c =
    room_for (λ i v. (goal.System-dyn g (i, v)).meaning v) c.args.self.now.rigs c.take_first-rig.new.rigs c.take_first-rig.result c.take_first-rig.ensures.items
    c.take_first-rig.ensures.room

pub returns-clause-answer : goal.returns-clause-answer
returns-clause-answer g c =
    let made_so = sight_made c.in_ok-setup.setup c.in_ok-state.state c.in_ok-sight.sight c.shown.result c.resight_text-text.result.0 c.shown.ensures.stops
    c.shown.ensures.refused c.shown.ensures.made c.resight_text-text.ensures.text in
    map_goes_on c.args.game.now c.args.name.now c.args.map.now c.in_ok-setup.setup c.in_ok-state.state _ _ _ _ c.in_ok-setup.ensures.read.reading
    c.in_ok-state.ensures.read.reading
    c.in_ok-setup.ensures.tells c.in_ok-state.ensures.tells c.in_ok-sight.sight c.shown.result c.in_ok-sight.ensures.read.reading
    c.in_ok-sight.ensures.tells made_so

pub returns-clause-back : goal.returns-clause-back
returns-clause-back g c =
    let game = c.args.game.now in
    let name = c.args.name.now in
    let map = c.args.map.now in
    let setup = c.in_ok-setup.setup in
    let state = c.in_ok-state.state in
    let held = g.S.Shelf.held c.args.shelf.now in
    let made = c.shown.result in
    let last = c.resight_text-text.result.1 in
    let Seen = IsSeenFrom setup state c.in_ok-sight.sight in
    let made_so = sight_made c.in_ok-setup.setup c.in_ok-state.state c.in_ok-sight.sight c.shown.result c.resight_text-text.result.0 c.shown.ensures.stops
    c.shown.ensures.refused c.shown.ensures.made c.resight_text-text.ensures.text in
    let played_so = played_if c.shown.result c.resight_text-text.result.0 c.shown.ensures.stops c.shown.ensures.refused
    (λ i v. (goal.System-dyn g (i, v)).meaning v) setup (end_from setup state)
    c.take_first-rig.result c.resight_text-text.result.1 c.resight_text-text.ensures.played in
    one_played (λ i v. (goal.System-dyn g (i, v)).meaning v) (to_resight game name map) held setup (end_from setup state) made c.take_first-rig.result last
    c.take_first-rig.new.rigs.items c.args.self.now.rigs c.put_first.new.rigs c.requires c.take_first-rig.ensures.items c.put_first.ensures.items
    (c.put_first.ensures.room ∙ c.take_first-rig.ensures.room) refl
    (was_played_as Seen made made_so (seen_ended setup state c.in_ok-sight.sight)) played_so
    (stands_read held (λ files. match_in files game) setup made (λ (files : List File) (setup : Setup). StandForStored setup (bytes_in files name)
    (systems_by last (λ i v. (goal.System-dyn g (i, v)).meaning v))) c.in_ok-setup.ensures.tells
    (stored_stands held made setup state name (systems_by last (λ i v. (goal.System-dyn g (i, v)).meaning v))
    (both_told game name setup (Ok state) _ _ _ c.in_ok-setup.ensures.read.reading c.in_ok-state.ensures.read.reading
    (λ files. IsState setup (bytes_in files name) state) c.in_ok-state.ensures.tells)
    played_so.fed))

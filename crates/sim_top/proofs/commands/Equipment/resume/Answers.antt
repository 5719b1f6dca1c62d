-- The match and the state were read and played on, or one could not be read.
use Rattle.sim_top.proofs.{Answering.{both_given, both_told, Loads, match_ends, stored_ends, stored_goes_on}, Common.{Answer, bytes_in, Done, end_from, Err}}
use Rattle.sim_top.proofs.Common.{File, IsAnswerTo, IsState, List, match_in, Ok, Outcome, printed, refl, Result, resume_text, RigsCameBackBy, rules, Setup}
use Rattle.sim_top.proofs.{Common.{shelved, Some, StandForStored, State, status_made, Stop, subst, sym, systems_by, to_resume, ℕ, ◌∙◌, ◌≡◌}, Playing.played_if}
use Rattle.sim_top.proofs.{Playing.text_made, Returning.{first_played, kind_of_first, rigs_left, room_for, stands_read, stored_stands}, Stopping.Then-ended}
use Rattle.sim_top.proofs.commands.Equipment.resume.Goals as goal

-- what comes of the state
abbrev resumed : List File → Setup → State → Outcome → Type 0
resumed files setup state wanted = wanted ≡ printed Done (resume_text setup state)

loads : (game name : List ℕ) → Loads (to_resume game name) game name resumed
loads game name =
    record {
      opens = record { fails = λ files o e. Then-ended (match_in files game) _ o e; first = λ files. refl; lacks = λ files h. h; reads = refl; has = refl };
      is = λ files wanted h. h;
      loads = refl;
    }

pub returns-in_err-setup-clause-answer : goal.returns-in_err-setup-clause-answer
returns-in_err-setup-clause-answer g c =
    let is : c.from_residual.result ≡ Err c.in_err-setup.field-0.0 = search rules in
    let game = c.args.game.now in
    let before = shelved (g.S.Shelf.held c.args.shelf.now) (g.S.Shelf.counts c.args.shelf.now) in
    let now = shelved (g.S.Shelf.held c.read_match.new.shelf) (g.S.Shelf.counts c.read_match.new.shelf) in
    subst (λ (r : Result Answer Stop). IsAnswerTo (to_resume game c.args.name.now) r before now) (sym is)
    (match_ends (to_resume game c.args.name.now) game (λ files. match_in files game) c.in_err-setup.field-0.0 before now ((loads game c.args.name.now).opens)
    c.in_err-setup.ensures.read.stops c.in_err-setup.ensures.tells c.in_err-setup.ensures.read.reading)

pub returns-in_err-setup-clause-back : goal.returns-in_err-setup-clause-back
returns-in_err-setup-clause-back g c =
    let is : c.from_residual.result ≡ Err c.in_err-setup.field-0.0 = search rules in
    let held = g.S.Shelf.held c.args.shelf.now in
    subst (λ (r : Result Answer Stop). RigsCameBackBy (λ i v. (goal.System-dyn g (i, v)).meaning v) (Some (to_resume c.args.game.now c.args.name.now)) held
    (status_made r) c.args.self.now.rigs c.args.self.now.rigs) (sym is)
    (rigs_left (λ i v. (goal.System-dyn g (i, v)).meaning v) (Some (to_resume c.args.game.now c.args.name.now)) held c.in_err-setup.field-0.0
    c.args.self.now.rigs
    c.requires)

pub returns-in_err-state-clause-answer : goal.returns-in_err-state-clause-answer
returns-in_err-state-clause-answer g c =
    let is : c.from_residual-in_err-state.result ≡ Err c.in_err-state.field-0.0 = search rules in
    let before = shelved (g.S.Shelf.held c.args.shelf.now) (g.S.Shelf.counts c.args.shelf.now) in
    let middle = shelved (g.S.Shelf.held c.read_match.new.shelf) (g.S.Shelf.counts c.read_match.new.shelf) in
    let now = shelved (g.S.Shelf.held c.read_state.new.shelf) (g.S.Shelf.counts c.read_state.new.shelf) in
    subst (λ (r : Result Answer Stop). IsAnswerTo (to_resume c.args.game.now c.args.name.now) r before now) (sym is)
    (stored_ends (to_resume c.args.game.now c.args.name.now) c.args.game.now c.args.name.now resumed (loads c.args.game.now c.args.name.now) c.in_ok-setup.setup
    before middle now c.in_ok-setup.ensures.read.reading
    c.in_ok-setup.ensures.tells c.in_err-state.field-0.0 c.in_err-state.ensures.read.stops c.in_err-state.ensures.read.reading c.in_err-state.ensures.tells
    (λ files e refused. both_given c.args.game.now c.args.name.now c.in_ok-setup.setup (Err c.in_err-state.field-0.0) before middle now
    c.in_ok-setup.ensures.read.reading c.in_err-state.ensures.read.reading files e refused))

pub returns-in_err-state-clause-back : goal.returns-in_err-state-clause-back
returns-in_err-state-clause-back g c =
    let is : c.from_residual-in_err-state.result ≡ Err c.in_err-state.field-0.0 = search rules in
    let held = g.S.Shelf.held c.args.shelf.now in
    subst (λ (r : Result Answer Stop). RigsCameBackBy (λ i v. (goal.System-dyn g (i, v)).meaning v) (Some (to_resume c.args.game.now c.args.name.now)) held
    (status_made r) c.args.self.now.rigs c.args.self.now.rigs) (sym is)
    (rigs_left (λ i v. (goal.System-dyn g (i, v)).meaning v) (Some (to_resume c.args.game.now c.args.name.now)) held c.in_err-state.field-0.0
    c.args.self.now.rigs
    c.requires)

pub resume_text-text-requires : goal.resume_text-text-requires
resume_text-text-requires g c = record {
  limits = c.in_ok-setup.ensures.read.good;
  valid = c.in_ok-state.ensures.read.good;
  kinds = kind_of_first (λ i v. (goal.System-dyn g (i, v)).meaning v) c.args.self.now.rigs.items c.take_first-rig.new.rigs.items c.take_first-rig.result
      c.take_first-rig.ensures.items c.requires.kinds;
}

pub put_first-requires : goal.put_first-requires
put_first-requires g c =
    room_for (λ i v. (goal.System-dyn g (i, v)).meaning v) c.args.self.now.rigs c.take_first-rig.new.rigs c.take_first-rig.result c.take_first-rig.ensures.items
    c.take_first-rig.ensures.room

pub returns-clause-answer : goal.returns-clause-answer
returns-clause-answer g c =
    let game = c.args.game.now in
    let name = c.args.name.now in
    let setup = c.in_ok-setup.setup in
    let state = c.in_ok-state.state in
    let made_so = text_made c.shown.result c.resume_text-text.result.0 (resume_text setup state) c.shown.ensures.stops c.shown.ensures.refused
    c.shown.ensures.made c.resume_text-text.ensures.text in
    stored_goes_on (to_resume game name) game name resumed (loads game name) setup _ _ _ c.in_ok-setup.ensures.read.reading c.in_ok-setup.ensures.tells state
    (printed Done (resume_text setup state))
    c.shown.result c.in_ok-state.ensures.read.reading c.in_ok-state.ensures.tells (λ files. refl) (λ files. refl)
    made_so
    (record { status = tt; done = tt; file = tt })

pub returns-clause-back : goal.returns-clause-back
returns-clause-back g c =
    let game = c.args.game.now in
    let name = c.args.name.now in
    let setup = c.in_ok-setup.setup in
    let state = c.in_ok-state.state in
    let held = g.S.Shelf.held c.args.shelf.now in
    let made = c.shown.result in
    let last = c.resume_text-text.result.1 in
    let made_so = text_made c.shown.result c.resume_text-text.result.0 (resume_text setup state) c.shown.ensures.stops c.shown.ensures.refused
    c.shown.ensures.made c.resume_text-text.ensures.text in
    let played_so = played_if c.shown.result c.resume_text-text.result.0 c.shown.ensures.stops c.shown.ensures.refused
    (λ i v. (goal.System-dyn g (i, v)).meaning v) setup (end_from setup state)
    c.take_first-rig.result c.resume_text-text.result.1 c.resume_text-text.ensures.played in
    first_played (λ i v. (goal.System-dyn g (i, v)).meaning v) (to_resume game name) held setup (end_from setup state) (printed Done (resume_text setup state))
    made c.take_first-rig.result last
    c.take_first-rig.new.rigs.items c.args.self.now.rigs c.put_first.new.rigs c.requires c.take_first-rig.ensures.items c.put_first.ensures.items
    (c.put_first.ensures.room ∙ c.take_first-rig.ensures.room) refl
    made_so tt played_so
    (stands_read held (λ files. match_in files game) setup made (λ (files : List File) (setup : Setup). StandForStored setup (bytes_in files name)
    (systems_by last (λ i v. (goal.System-dyn g (i, v)).meaning v))) c.in_ok-setup.ensures.tells
    (stored_stands held made setup state name (systems_by last (λ i v. (goal.System-dyn g (i, v)).meaning v))
    (both_told game name setup (Ok state) _ _ _ c.in_ok-setup.ensures.read.reading c.in_ok-state.ensures.read.reading
    (λ files. IsState setup (bytes_in files name) state)
    c.in_ok-state.ensures.tells)
    played_so.fed))

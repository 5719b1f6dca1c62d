-- The match was read and played, or it could not be read.
use Rattle.{sim_base.specs.Turn.first_state, sim_top.proofs.{Answering.{match_ends, match_goes_on, Opens}, Common.{Answer, AreFed, Done, end_from, Err, File}}}
use Rattle.sim_top.proofs.Common.{IsAnswerTo, List, match_in, Outcome, play_text, printed, refl, Result, RigsCameBackBy, rules, Setup, shelved, Some}
use Rattle.sim_top.proofs.{Common.{status_made, Stop, subst, sym, systems_by, to_play, ℕ, ◌∙◌, ◌≡◌}, Playing.{played_if, text_made}}
use Rattle.sim_top.proofs.{Returning.{first_played, kind_of_first, rigs_left, room_for, stands_read, whatever_held}, Stopping.{Then-ended, Then-read}}
use Rattle.sim_top.proofs.commands.Equipment.play.Goals as goal

-- what comes of the match
abbrev played : Setup → Outcome → Type 0
played setup wanted = wanted ≡ printed Done (play_text setup)

opens : (game : List ℕ) → Opens (to_play game) game (λ files. match_in files game)
opens game = record { fails = λ files o e. Then-ended (match_in files game) played o e; first = λ files. refl; lacks = λ files h. h; reads = refl; has = refl }

pub returns-in_err-setup-clause-answer : goal.returns-in_err-setup-clause-answer
returns-in_err-setup-clause-answer g c =
    let is : c.from_residual.result ≡ Err c.in_err-setup.field-0.0 = search rules in
    let game = c.args.game.now in
    let before = shelved (g.S.Shelf.held c.args.shelf.now) (g.S.Shelf.counts c.args.shelf.now) in
    let now = shelved (g.S.Shelf.held c.read_match.new.shelf) (g.S.Shelf.counts c.read_match.new.shelf) in
    subst (λ (r : Result Answer Stop). IsAnswerTo (to_play c.args.game.now) r before now) (sym is)
    (match_ends (to_play c.args.game.now) game (λ files. match_in files game) c.in_err-setup.field-0.0 before now (opens game) c.in_err-setup.ensures.read.stops
    c.in_err-setup.ensures.tells c.in_err-setup.ensures.read.reading)

pub returns-in_err-setup-clause-back : goal.returns-in_err-setup-clause-back
returns-in_err-setup-clause-back g c =
    let is : c.from_residual.result ≡ Err c.in_err-setup.field-0.0 = search rules in
    let held = g.S.Shelf.held c.args.shelf.now in
    subst (λ (r : Result Answer Stop). RigsCameBackBy (λ i v. (goal.System-dyn g (i, v)).meaning v) (Some (to_play c.args.game.now)) held (status_made r)
    c.args.self.now.rigs c.args.self.now.rigs) (sym is)
    (rigs_left (λ i v. (goal.System-dyn g (i, v)).meaning v) (Some (to_play c.args.game.now)) held c.in_err-setup.field-0.0 c.args.self.now.rigs c.requires)

pub play_text-text-requires : goal.play_text-text-requires
play_text-text-requires g c = record {
  limits = c.in_ok-setup.ensures.read.good;
  kinds = kind_of_first (λ i v. (goal.System-dyn g (i, v)).meaning v) c.args.self.now.rigs.items c.take_first-rig.new.rigs.items c.take_first-rig.result
      c.take_first-rig.ensures.items c.requires.kinds;
}

pub put_first-requires : goal.put_first-requires
put_first-requires g c =
    room_for (λ i v. (goal.System-dyn g (i, v)).meaning v) c.args.self.now.rigs c.take_first-rig.new.rigs c.take_first-rig.result c.take_first-rig.ensures.items
    c.take_first-rig.ensures.room

pub returns-clause-answer : goal.returns-clause-answer
returns-clause-answer g c =
    let game = c.args.game.now in
    let setup = c.in_ok-setup.setup in
    let made_so = text_made c.shown.result c.play_text-text.result.0 (play_text setup) c.shown.ensures.stops c.shown.ensures.refused c.shown.ensures.made
    c.play_text-text.ensures.text in
    match_goes_on (to_play game) game (λ files. match_in files game) setup (printed Done (play_text setup)) c.shown.result _ _ (opens game)
    c.in_ok-setup.ensures.read.reading c.in_ok-setup.ensures.tells
    (λ files e. Then-read (match_in files game) setup played (printed Done (play_text setup)) e refl) (λ files. refl) made_so
    (record { status = tt; done = tt; file = tt })

pub returns-clause-back : goal.returns-clause-back
returns-clause-back g c =
    let game = c.args.game.now in
    let setup = c.in_ok-setup.setup in
    let held = g.S.Shelf.held c.args.shelf.now in
    let last = c.play_text-text.result.1 in
    let made_so = text_made c.shown.result c.play_text-text.result.0 (play_text setup) c.shown.ensures.stops c.shown.ensures.refused c.shown.ensures.made
    c.play_text-text.ensures.text in
    let played_so = played_if c.shown.result c.play_text-text.result.0 c.shown.ensures.stops c.shown.ensures.refused
    (λ i v. (goal.System-dyn g (i, v)).meaning v) setup (end_from setup (first_state setup))
    c.take_first-rig.result c.play_text-text.result.1 c.play_text-text.ensures.played in
    first_played (λ i v. (goal.System-dyn g (i, v)).meaning v) (to_play game) held setup (end_from setup (first_state setup)) (printed Done (play_text setup))
    c.shown.result c.take_first-rig.result last
    c.take_first-rig.new.rigs.items c.args.self.now.rigs c.put_first.new.rigs c.requires c.take_first-rig.ensures.items c.put_first.ensures.items
    (c.put_first.ensures.room ∙ c.take_first-rig.ensures.room) refl
    made_so tt played_so
    (stands_read held (λ files. match_in files game) setup c.shown.result
    (λ (files : List File) (setup : Setup). AreFed setup (end_from setup (first_state setup))
    (systems_by last (λ i v. (goal.System-dyn g (i, v)).meaning v)))
    c.in_ok-setup.ensures.tells (whatever_held held _ played_so.fed))

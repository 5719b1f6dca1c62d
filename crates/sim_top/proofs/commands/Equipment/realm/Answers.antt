-- The match was read and played to the turn, or it could not be read, or has not the turn.
use Rattle.sim_top.proofs.{Answering.{match_ends, match_goes_on_as, match_there, Opens, turn_ends_at}, Common.{after, Answer, ap, AreFed, Err, File, HasEnded}}
use Rattle.sim_top.proofs.Common.{IsAnswerTo, IsOutcomeOf, IsRealmOutcome, List, match_in, MayFinish, NoSuchTurn, Ok, Outcome, own_turns, printed, RealmAt}
use Rattle.sim_top.proofs.Common.{refl, refusal_text, Result, RigsCameBackBy, rules, Setup, shelved, Some, status_made, Stop, subst, sym, systems_by, to_realm}
use Rattle.sim_top.proofs.{Common.{Turn, ℕ, ◌∙◌, ◌≡◌}, Playing.{played_if, realm_done, realm_made, realm_past}, Returning.kind_of_first}
use Rattle.sim_top.proofs.{Returning.{one_played, rigs_left, room_for, stands_read, was_played_as, whatever_held}, Stopping.{Then-ended, Then-read, Told}}
use Rattle.sim_top.proofs.commands.Equipment.realm.Goals as goal

opens : (game : List ℕ) (turn : ℕ) → Opens (to_realm game turn) game (λ files. match_in files game)
opens game turn = record {
  fails = λ files o e. Then-ended (match_in files game) (RealmAt turn) o e;
  first = λ files. refl;
  lacks = λ files h. h;
  reads = refl;
  has = refl;
}

pub returns-in_err-setup-clause-answer : goal.returns-in_err-setup-clause-answer
returns-in_err-setup-clause-answer g c =
    let is : c.from_residual.result ≡ Err c.in_err-setup.field-0.0 = search rules in
    let game = c.args.game.now in
    let before = shelved (g.S.Shelf.held c.args.shelf.now) (g.S.Shelf.counts c.args.shelf.now) in
    let now = shelved (g.S.Shelf.held c.read_match.new.shelf) (g.S.Shelf.counts c.read_match.new.shelf) in
    subst (λ (r : Result Answer Stop). IsAnswerTo (to_realm game c.args.turn) r before now) (sym is)
    (match_ends (to_realm game c.args.turn) game (λ files. match_in files game) c.in_err-setup.field-0.0 before now (opens game c.args.turn)
    c.in_err-setup.ensures.read.stops c.in_err-setup.ensures.tells c.in_err-setup.ensures.read.reading)

pub returns-in_err-setup-clause-back : goal.returns-in_err-setup-clause-back
returns-in_err-setup-clause-back g c =
    let is : c.from_residual.result ≡ Err c.in_err-setup.field-0.0 = search rules in
    let held = g.S.Shelf.held c.args.shelf.now in
    subst (λ (r : Result Answer Stop). RigsCameBackBy (λ i v. (goal.System-dyn g (i, v)).meaning v) (Some (to_realm c.args.game.now c.args.turn)) held
    (status_made r) c.args.self.now.rigs c.args.self.now.rigs) (sym is)
    (rigs_left (λ i v. (goal.System-dyn g (i, v)).meaning v) (Some (to_realm c.args.game.now c.args.turn)) held c.in_err-setup.field-0.0 c.args.self.now.rigs
    c.requires)

pub returns-in_err-reached-clause-answer : goal.returns-in_err-reached-clause-answer
returns-in_err-reached-clause-answer g c =
    let is : c.from_residual-in_err-reached.result ≡ Err c.in_err-reached.field-0.0 = search rules in
    let ends_so : Stop → Result Answer Stop = λ s. Err s in
    let stop = c.in_err-reached.ensures.past.1 in
    let game = c.args.game.now in
    let setup = c.in_ok-setup.setup in
    let before = shelved (g.S.Shelf.held c.args.shelf.now) (g.S.Shelf.counts c.args.shelf.now) in
    let now = shelved (g.S.Shelf.held c.read_match.new.shelf) (g.S.Shelf.counts c.read_match.new.shelf) in
    let reading = c.in_ok-setup.ensures.read.reading in
    subst (λ (r : Result Answer Stop). IsAnswerTo (to_realm game c.args.turn) r before now) (sym (is ∙ ap ends_so stop))
    (turn_ends_at (to_realm game c.args.turn) c.args.turn setup.turns before now refl
    (Told (λ files. match_in files game ≡ Ok setup)
    (λ files. IsOutcomeOf files (Some (to_realm game c.args.turn)) (printed NoSuchTurn (refusal_text (Turn c.args.turn setup.turns)))) before.held
    (λ files e. Then-read (match_in files game) setup (RealmAt c.args.turn) (printed NoSuchTurn (refusal_text (Turn c.args.turn setup.turns))) e
    (realm_past setup c.args.turn c.in_err-reached.ensures.past.0)) c.in_ok-setup.ensures.tells)
    reading.causes (match_there (to_realm game c.args.turn) game (λ files. match_in files game) setup before now (opens game c.args.turn) reading) reading.given
    reading.same)

pub returns-in_err-reached-clause-back : goal.returns-in_err-reached-clause-back
returns-in_err-reached-clause-back g c =
    let is : c.from_residual-in_err-reached.result ≡ Err c.in_err-reached.field-0.0 = search rules in
    let held = g.S.Shelf.held c.args.shelf.now in
    subst (λ (r : Result Answer Stop). RigsCameBackBy (λ i v. (goal.System-dyn g (i, v)).meaning v) (Some (to_realm c.args.game.now c.args.turn)) held
    (status_made r) c.args.self.now.rigs c.args.self.now.rigs) (sym is)
    (rigs_left (λ i v. (goal.System-dyn g (i, v)).meaning v) (Some (to_realm c.args.game.now c.args.turn)) held c.in_err-reached.field-0.0 c.args.self.now.rigs
    c.requires)

pub realm_text-text-requires : goal.realm_text-text-requires
realm_text-text-requires g c = record {
  limits = c.in_ok-setup.ensures.read.good;
  within = c.in_ok-reached.ensures.within;
  kinds = kind_of_first (λ i v. (goal.System-dyn g (i, v)).meaning v) c.args.self.now.rigs.items c.take_first-rig.new.rigs.items c.take_first-rig.result
      c.take_first-rig.ensures.items c.requires.kinds;
}

pub put_first-requires : goal.put_first-requires
put_first-requires g c =
    room_for (λ i v. (goal.System-dyn g (i, v)).meaning v) c.args.self.now.rigs c.take_first-rig.new.rigs c.take_first-rig.result c.take_first-rig.ensures.items
    c.take_first-rig.ensures.room

pub returns-clause-answer : goal.returns-clause-answer
returns-clause-answer g c =
    let game = c.args.game.now in
    let turn = c.args.turn in
    let setup = c.in_ok-setup.setup in
    let Told = IsRealmOutcome setup (after setup (own_turns setup 0 turn)) in
    let made_so = realm_made setup (after setup (own_turns setup 0 turn)) c.shown.result c.realm_text-text.result.0 c.shown.ensures.stops
    c.shown.ensures.refused c.shown.ensures.made c.realm_text-text.ensures.text in
    match_goes_on_as (to_realm game turn) game (λ files. match_in files game) setup Told c.shown.result _ _ (opens game turn)
    c.in_ok-setup.ensures.read.reading c.in_ok-setup.ensures.tells
    (λ files o e is. Then-read (match_in files game) setup (RealmAt turn) o e (realm_done setup turn o c.in_ok-reached.ensures.within is)) (λ files. refl)
    made_so
    (λ o is. subst (MayFinish (to_realm game turn)) (sym is.printed) (record { status = tt; done = tt; file = tt }))

pub returns-clause-back : goal.returns-clause-back
returns-clause-back g c =
    let game = c.args.game.now in
    let turn = c.args.turn in
    let setup = c.in_ok-setup.setup in
    let held = g.S.Shelf.held c.args.shelf.now in
    let state = after setup (own_turns setup 0 turn) in
    let made = c.shown.result in
    let last = c.realm_text-text.result.1 in
    let made_so = realm_made setup (after setup (own_turns setup 0 turn)) c.shown.result c.realm_text-text.result.0 c.shown.ensures.stops
    c.shown.ensures.refused c.shown.ensures.made c.realm_text-text.ensures.text in
    let played_so = played_if c.shown.result c.realm_text-text.result.0 c.shown.ensures.stops c.shown.ensures.refused
    (λ i v. (goal.System-dyn g (i, v)).meaning v) setup (after setup (own_turns setup 0 turn))
    c.take_first-rig.result c.realm_text-text.result.1 c.realm_text-text.ensures.played in
    one_played (λ i v. (goal.System-dyn g (i, v)).meaning v) (to_realm game turn) held setup state made c.take_first-rig.result last
    c.take_first-rig.new.rigs.items c.args.self.now.rigs c.put_first.new.rigs c.requires c.take_first-rig.ensures.items c.put_first.ensures.items
    (c.put_first.ensures.room ∙ c.take_first-rig.ensures.room) refl
    (was_played_as (IsRealmOutcome setup state) made made_so (λ o is. subst (λ (o : Outcome). HasEnded o.status) (sym is.printed) tt))
    played_so
    (stands_read held (λ files. match_in files game) setup made (λ (files : List File) (setup : Setup). AreFed setup (after setup (own_turns setup 0 turn))
    (systems_by last (λ i v. (goal.System-dyn g (i, v)).meaning v)))
    c.in_ok-setup.ensures.tells (whatever_held held _ played_so.fed))

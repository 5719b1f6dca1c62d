-- The match was read and its state stored, or it could not be read, or has not the turn.
use Rattle.sim_top.proofs.{Answering.{match_ends, match_goes_on, match_there, Opens, turn_ends_at}, Common.{after, Answer, ap, AreFed, Err, File, HasEnded}}
use Rattle.sim_top.proofs.Common.{IsAnswerTo, IsOutcomeOf, List, match_in, MayFinish, NoSuchTurn, Ok, Outcome, own_turns, printed, refl, refusal_text, Result}
use Rattle.sim_top.proofs.Common.{RigsCameBackBy, rules, Setup, shelved, Some, State, status_made, Stop, store_outcome, stored_at, subst, sym, systems_by}
use Rattle.sim_top.proofs.{Common.{to_store, Turn, ℕ, ◌∙◌, ◌≡◌}, Playing.{is_made, played_if, store_done, store_past, stored_is}}
use Rattle.sim_top.proofs.{Returning.{first_played, kind_of_first, rigs_left, room_for, stands_read, whatever_held}, Stopping.{Then-ended, Then-read, Told}}
use Rattle.sim_top.proofs.commands.Equipment.store.Goals as goal

-- what comes of the match
abbrev kept : ℕ → List ℕ → Setup → Outcome → Type 0
kept turn out setup wanted = wanted ≡ store_outcome setup turn out

opens : (game : List ℕ) (turn : ℕ) (out : List ℕ) → Opens (to_store game turn out) game (λ files. match_in files game)
opens game turn out = record {
  fails = λ files o e. Then-ended (match_in files game) (kept turn out) o e;
  first = λ files. refl;
  lacks = λ files h. h;
  reads = refl;
  has = refl;
}

pub returns-in_err-setup-clause-answer : goal.returns-in_err-setup-clause-answer
returns-in_err-setup-clause-answer g c =
    let is : c.from_residual.result ≡ Err c.in_err-setup.field-0.0 = search rules in
    let game = c.args.game.now in
    let before = shelved (g.S.Shelf.held c.args.shelf.now) (g.S.Shelf.counts c.args.shelf.now) in
    let now = shelved (g.S.Shelf.held c.read_match.new.shelf) (g.S.Shelf.counts c.read_match.new.shelf) in
    subst (λ (r : Result Answer Stop). IsAnswerTo (to_store game c.args.turn c.args.out.now) r before now) (sym is)
    (match_ends (to_store game c.args.turn c.args.out.now) game (λ files. match_in files game) c.in_err-setup.field-0.0 before now
    (opens game c.args.turn c.args.out.now) c.in_err-setup.ensures.read.stops c.in_err-setup.ensures.tells c.in_err-setup.ensures.read.reading)

pub returns-in_err-setup-clause-back : goal.returns-in_err-setup-clause-back
returns-in_err-setup-clause-back g c =
    let is : c.from_residual.result ≡ Err c.in_err-setup.field-0.0 = search rules in
    let held = g.S.Shelf.held c.args.shelf.now in
    subst (λ (r : Result Answer Stop). RigsCameBackBy (λ i v. (goal.System-dyn g (i, v)).meaning v) (Some (to_store c.args.game.now c.args.turn c.args.out.now))
    held (status_made r) c.args.self.now.rigs c.args.self.now.rigs) (sym is)
    (rigs_left (λ i v. (goal.System-dyn g (i, v)).meaning v) (Some (to_store c.args.game.now c.args.turn c.args.out.now)) held c.in_err-setup.field-0.0
    c.args.self.now.rigs c.requires)

pub returns-in_err-reached-clause-answer : goal.returns-in_err-reached-clause-answer
returns-in_err-reached-clause-answer g c =
    let is : c.from_residual-in_err-reached.result ≡ Err c.in_err-reached.field-0.0 = search rules in
    let ends_so : Stop → Result Answer Stop = λ s. Err s in
    let stop = c.in_err-reached.ensures.past.1 in
    let game = c.args.game.now in
    let setup = c.in_ok-setup.setup in
    let before = shelved (g.S.Shelf.held c.args.shelf.now) (g.S.Shelf.counts c.args.shelf.now) in
    let now = shelved (g.S.Shelf.held c.read_match.new.shelf) (g.S.Shelf.counts c.read_match.new.shelf) in
    let reading = c.in_ok-setup.ensures.read.reading in
    subst (λ (r : Result Answer Stop). IsAnswerTo (to_store game c.args.turn c.args.out.now) r before now) (sym (is ∙ ap ends_so stop))
    (turn_ends_at (to_store game c.args.turn c.args.out.now) c.args.turn setup.turns before now refl
    (Told (λ files. match_in files game ≡ Ok setup) (λ files. IsOutcomeOf files (Some (to_store game c.args.turn c.args.out.now))
    (printed NoSuchTurn (refusal_text (Turn c.args.turn setup.turns)))) before.held
    (λ files e. Then-read (match_in files game) setup (kept c.args.turn c.args.out.now) (printed NoSuchTurn (refusal_text (Turn c.args.turn setup.turns))) e
    (store_past setup c.args.turn c.args.out.now c.in_err-reached.ensures.past.0)) c.in_ok-setup.ensures.tells)
    reading.causes (match_there (to_store game c.args.turn c.args.out.now) game (λ files. match_in files game) setup before now
    (opens game c.args.turn c.args.out.now) reading) reading.given reading.same)

pub returns-in_err-reached-clause-back : goal.returns-in_err-reached-clause-back
returns-in_err-reached-clause-back g c =
    let is : c.from_residual-in_err-reached.result ≡ Err c.in_err-reached.field-0.0 = search rules in
    let held = g.S.Shelf.held c.args.shelf.now in
    subst (λ (r : Result Answer Stop). RigsCameBackBy (λ i v. (goal.System-dyn g (i, v)).meaning v) (Some (to_store c.args.game.now c.args.turn c.args.out.now))
    held (status_made r) c.args.self.now.rigs c.args.self.now.rigs) (sym is)
    (rigs_left (λ i v. (goal.System-dyn g (i, v)).meaning v) (Some (to_store c.args.game.now c.args.turn c.args.out.now)) held c.in_err-reached.field-0.0
    c.args.self.now.rigs c.requires)

pub state_at-state-requires : goal.state_at-state-requires
state_at-state-requires g c = record {
  limits = c.in_ok-setup.ensures.read.good;
  within = c.in_ok-reached.ensures.within;
  kinds = kind_of_first (λ i v. (goal.System-dyn g (i, v)).meaning v) c.args.self.now.rigs.items c.take_first-rig.new.rigs.items c.take_first-rig.result
      c.take_first-rig.ensures.items c.requires.kinds;
}

pub put_first-requires : goal.put_first-requires
put_first-requires g c =
    room_for (λ i v. (goal.System-dyn g (i, v)).meaning v) c.args.self.now.rigs c.take_first-rig.new.rigs c.take_first-rig.result c.take_first-rig.ensures.items
    c.take_first-rig.ensures.room

pub returns-clause-answer : goal.returns-clause-answer
returns-clause-answer g c =
    let game = c.args.game.now in
    let turn = c.args.turn in
    let out = c.args.out.now in
    let setup = c.in_ok-setup.setup in
    let made_so = is_made c.kept_state.result c.state_at-state.result.0 c.kept_state.ensures.stops c.kept_state.ensures.refused
    (λ (s : State). stored_at setup s.turn out s) (store_outcome setup turn out)
    (stored_is setup turn out c.state_at-state.result.0 c.in_ok-reached.ensures.within c.state_at-state.ensures.state) c.kept_state.ensures.made in
    match_goes_on (to_store game turn out) game (λ files. match_in files game) setup (store_outcome setup turn out) c.kept_state.result _ _
    (opens game turn out) c.in_ok-setup.ensures.read.reading c.in_ok-setup.ensures.tells
    (λ files e. Then-read (match_in files game) setup (kept turn out) (store_outcome setup turn out) e refl) (λ files. refl) made_so
    (subst (MayFinish (to_store game turn out)) (store_done setup turn out c.in_ok-reached.ensures.within) (record { status = tt; done = tt; file = refl }))

pub returns-clause-back : goal.returns-clause-back
returns-clause-back g c =
    let game = c.args.game.now in
    let turn = c.args.turn in
    let out = c.args.out.now in
    let setup = c.in_ok-setup.setup in
    let held = g.S.Shelf.held c.args.shelf.now in
    let last = c.state_at-state.result.1 in
    let made_so = is_made c.kept_state.result c.state_at-state.result.0 c.kept_state.ensures.stops c.kept_state.ensures.refused
    (λ (s : State). stored_at setup s.turn out s) (store_outcome setup turn out)
    (stored_is setup turn out c.state_at-state.result.0 c.in_ok-reached.ensures.within c.state_at-state.ensures.state) c.kept_state.ensures.made in
    let played_so = played_if c.kept_state.result c.state_at-state.result.0 c.kept_state.ensures.stops c.kept_state.ensures.refused
    (λ i v. (goal.System-dyn g (i, v)).meaning v) setup (after setup (own_turns setup 0 turn))
    c.take_first-rig.result c.state_at-state.result.1 c.state_at-state.ensures.played in
    first_played (λ i v. (goal.System-dyn g (i, v)).meaning v) (to_store game turn out) held setup (after setup (own_turns setup 0 turn))
    (store_outcome setup turn out) c.kept_state.result c.take_first-rig.result last
    c.take_first-rig.new.rigs.items c.args.self.now.rigs c.put_first.new.rigs c.requires c.take_first-rig.ensures.items c.put_first.ensures.items
    (c.put_first.ensures.room ∙ c.take_first-rig.ensures.room) refl
    made_so (subst (λ (o : Outcome). HasEnded o.status) (store_done setup turn out c.in_ok-reached.ensures.within) tt)
    played_so
    (stands_read held (λ files. match_in files game) setup c.kept_state.result
    (λ (files : List File) (setup : Setup). AreFed setup (after setup (own_turns setup 0 turn))
    (systems_by last (λ i v. (goal.System-dyn g (i, v)).meaning v)))
    c.in_ok-setup.ensures.tells (whatever_held held _ played_so.fed))

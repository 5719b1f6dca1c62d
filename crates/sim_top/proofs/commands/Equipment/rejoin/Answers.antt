-- The match was read and played by both clients, or it could not be read, or has not the turn.
use Rattle.sim_top.proofs.Common.{NoSuchTurn, Ok, Outcome, own_turns, printed, refl, refusal_text, rejoin_outcome, Result, RigsCameBackBy, rules, Setup}
use Rattle.sim_top.proofs.Common.{after, Answer, ap, AreFed, arith, Done, Err, File, Global, HasEnded, IsAnswerTo, IsOutcomeOf, List, match_in, MayFinish}
use Rattle.sim_top.proofs.Common.{shelved, Some, status_made, Stop, String, string_bytes, subst, sym, systems_by, to_rejoin, Turn, ℕ, ◌∙◌, ◌∷◌, ◌≡◌}
use Rattle.sim_top.proofs.Returning.{both_played, kind_of_first, kinds_of_rest, one_less, rigs_left, room_again, room_for, stands_read, whatever_held}
use Rattle.sim_top.proofs.{Answering.Opens, Playing.is_made, Playing.rejoin_past, Playing.rejoined_is, Stopping.Then-ended, Stopping.Then-read, Stopping.Told}
use Rattle.sim_top.proofs.{Answering.match_ends, Answering.match_goes_on, Answering.match_there, Answering.turn_ends_at, Playing.played_if, Playing.rejoin_done}
use Rattle.sim_top.proofs.commands.Equipment.rejoin.Goals as goal

-- what comes of the match
abbrev joined : ℕ → Setup → Outcome → Type 0
joined turn setup wanted = wanted ≡ rejoin_outcome setup turn

opens : (game : List ℕ) (turn : ℕ) → Opens (to_rejoin game turn) game (λ files. match_in files game)
opens game turn = record {
  fails = λ files o e. Then-ended (match_in files game) (joined turn) o e;
  first = λ files. refl;
  lacks = λ files h. h;
  reads = refl;
  has = refl;
}

pub returns-in_err-setup-clause-answer : goal.returns-in_err-setup-clause-answer
returns-in_err-setup-clause-answer g c =
    let is : c.from_residual.result ≡ Err c.in_err-setup.field-0.0 = search rules in
    let game = c.args.game.now in
    let before = shelved (g.S.Shelf.held c.args.shelf.now) (g.S.Shelf.counts c.args.shelf.now) in
    let now = shelved (g.S.Shelf.held c.read_match.new.shelf) (g.S.Shelf.counts c.read_match.new.shelf) in
    subst (λ (r : Result Answer Stop). IsAnswerTo (to_rejoin game c.args.turn) r before now) (sym is)
    (match_ends (to_rejoin game c.args.turn) game (λ files. match_in files game) c.in_err-setup.field-0.0 before now (opens game c.args.turn)
    c.in_err-setup.ensures.read.stops c.in_err-setup.ensures.tells c.in_err-setup.ensures.read.reading)

pub returns-in_err-setup-clause-back : goal.returns-in_err-setup-clause-back
returns-in_err-setup-clause-back g c =
    let is : c.from_residual.result ≡ Err c.in_err-setup.field-0.0 = search rules in
    let held = g.S.Shelf.held c.args.shelf.now in
    subst (λ (r : Result Answer Stop). RigsCameBackBy (λ i v. (goal.System-dyn g (i, v)).meaning v) (Some (to_rejoin c.args.game.now c.args.turn)) held
    (status_made r) c.args.self.now.rigs c.args.self.now.rigs) (sym is)
    (rigs_left (λ i v. (goal.System-dyn g (i, v)).meaning v) (Some (to_rejoin c.args.game.now c.args.turn)) held c.in_err-setup.field-0.0 c.args.self.now.rigs
    c.requires)

pub returns-in_err-reached-clause-answer : goal.returns-in_err-reached-clause-answer
returns-in_err-reached-clause-answer g c =
    let is : c.from_residual-in_err-reached.result ≡ Err c.in_err-reached.field-0.0 = search rules in
    let ends_so : Stop → Result Answer Stop = λ s. Err s in
    let stop = c.in_err-reached.ensures.past.1 in
    let game = c.args.game.now in
    let setup = c.in_ok-setup.setup in
    let before = shelved (g.S.Shelf.held c.args.shelf.now) (g.S.Shelf.counts c.args.shelf.now) in
    let now = shelved (g.S.Shelf.held c.read_match.new.shelf) (g.S.Shelf.counts c.read_match.new.shelf) in
    let reading = c.in_ok-setup.ensures.read.reading in
    subst (λ (r : Result Answer Stop). IsAnswerTo (to_rejoin game c.args.turn) r before now) (sym (is ∙ ap ends_so stop))
    (turn_ends_at (to_rejoin game c.args.turn) c.args.turn setup.turns before now refl
    (Told (λ files. match_in files game ≡ Ok setup) (λ files. IsOutcomeOf files (Some (to_rejoin game c.args.turn))
    (printed NoSuchTurn (refusal_text (Turn c.args.turn setup.turns)))) before.held
    (λ files e. Then-read (match_in files game) setup (joined c.args.turn) (printed NoSuchTurn (refusal_text (Turn c.args.turn setup.turns))) e
    (rejoin_past setup c.args.turn c.in_err-reached.ensures.past.0)) c.in_ok-setup.ensures.tells)
    reading.causes (match_there (to_rejoin game c.args.turn) game (λ files. match_in files game) setup before now (opens game c.args.turn) reading)
    reading.given reading.same)

pub returns-in_err-reached-clause-back : goal.returns-in_err-reached-clause-back
returns-in_err-reached-clause-back g c =
    let is : c.from_residual-in_err-reached.result ≡ Err c.in_err-reached.field-0.0 = search rules in
    let held = g.S.Shelf.held c.args.shelf.now in
    subst (λ (r : Result Answer Stop). RigsCameBackBy (λ i v. (goal.System-dyn g (i, v)).meaning v) (Some (to_rejoin c.args.game.now c.args.turn)) held
    (status_made r) c.args.self.now.rigs c.args.self.now.rigs) (sym is)
    (rigs_left (λ i v. (goal.System-dyn g (i, v)).meaning v) (Some (to_rejoin c.args.game.now c.args.turn)) held c.in_err-reached.field-0.0 c.args.self.now.rigs
    c.requires)

pub take_first-second-requires : goal.take_first-second-requires
take_first-second-requires g c =
    omega (
      arith,
      one_less (λ i v. (goal.System-dyn g (i, v)).meaning v) c.args.self.now.rigs.items c.take_first-first.result c.take_first-first.new.rigs.items 7
          c.take_first-first.ensures.items c.requires.count,
    )

pub rejoin_text-text-requires-clause-first : goal.rejoin_text-text-requires-clause-first
rejoin_text-text-requires-clause-first g c = record {
  limits = c.in_ok-setup.ensures.read.good;
  within = c.in_ok-reached.ensures.within;
  kinds = kind_of_first (λ i v. (goal.System-dyn g (i, v)).meaning v) c.args.self.now.rigs.items c.take_first-first.new.rigs.items c.take_first-first.result
      c.take_first-first.ensures.items c.requires.kinds;
}

pub rejoin_text-text-requires-clause-second : goal.rejoin_text-text-requires-clause-second
rejoin_text-text-requires-clause-second g c =
    kind_of_first (λ i v. (goal.System-dyn g (i, v)).meaning v) c.take_first-first.new.rigs.items c.take_first-second.new.rigs.items c.take_first-second.result
    c.take_first-second.ensures.items
    (kinds_of_rest (λ i v. (goal.System-dyn g (i, v)).meaning v) c.args.self.now.rigs.items c.take_first-first.new.rigs.items c.take_first-first.result
    c.take_first-first.ensures.items c.requires.kinds)

pub put_first-requires : goal.put_first-requires
put_first-requires g c =
    room_for (λ i v. (goal.System-dyn g (i, v)).meaning v) c.take_first-first.new.rigs c.take_first-second.new.rigs c.take_first-second.result
    c.take_first-second.ensures.items c.take_first-second.ensures.room

pub put_first-requires-2 : goal.put_first-requires-2
put_first-requires-2 g c =
    room_again (λ i v. (goal.System-dyn g (i, v)).meaning v) c.args.self.now.rigs c.put_first.new.rigs c.take_first-first.result c.take_first-second.result
    c.rejoin_text-text.result.2 c.take_first-second.new.rigs.items
    (c.take_first-first.ensures.items ∙ ap (λ (l : List _). c.take_first-first.result ∷ l) c.take_first-second.ensures.items) c.put_first.ensures.items
    (c.put_first.ensures.room ∙ c.take_first-second.ensures.room ∙ c.take_first-first.ensures.room)

pub returns-clause-answer : goal.returns-clause-answer
returns-clause-answer g c =
    let game = c.args.game.now in
    let turn = c.args.turn in
    let setup = c.in_ok-setup.setup in
    let made_so = is_made c.shown.result c.rejoin_text-text.result.0 c.shown.ensures.stops c.shown.ensures.refused
    (λ (t : String Global). printed Done (string_bytes t)) (rejoin_outcome setup turn)
    (rejoined_is setup turn c.rejoin_text-text.result.0 c.in_ok-reached.ensures.within c.rejoin_text-text.ensures.text) c.shown.ensures.made in
    match_goes_on (to_rejoin game turn) game (λ files. match_in files game) setup (rejoin_outcome setup turn) c.shown.result _ _
    (opens game turn) c.in_ok-setup.ensures.read.reading c.in_ok-setup.ensures.tells
    (λ files e. Then-read (match_in files game) setup (joined turn) (rejoin_outcome setup turn) e refl) (λ files. refl) made_so
    (subst (MayFinish (to_rejoin game turn)) (rejoin_done setup turn c.in_ok-reached.ensures.within) (record { status = tt; done = tt; file = tt }))

pub returns-clause-back : goal.returns-clause-back
returns-clause-back g c =
    let game = c.args.game.now in
    let turn = c.args.turn in
    let setup = c.in_ok-setup.setup in
    let held = g.S.Shelf.held c.args.shelf.now in
    let made = c.shown.result in
    let first = c.rejoin_text-text.result.1 in
    let second = c.rejoin_text-text.result.2 in
    let found = c.in_ok-setup.ensures.tells in
    let made_so = is_made c.shown.result c.rejoin_text-text.result.0 c.shown.ensures.stops c.shown.ensures.refused
    (λ (t : String Global). printed Done (string_bytes t)) (rejoin_outcome setup turn)
    (rejoined_is setup turn c.rejoin_text-text.result.0 c.in_ok-reached.ensures.within c.rejoin_text-text.ensures.text) c.shown.ensures.made in
    let played_so = played_if c.shown.result c.rejoin_text-text.result.0 c.shown.ensures.stops c.shown.ensures.refused
    (λ i v. (goal.System-dyn g (i, v)).meaning v) setup (after setup (own_turns setup 0 setup.turns))
    c.take_first-first.result first c.rejoin_text-text.ensures.played in
    let joined_so = played_if c.shown.result c.rejoin_text-text.result.0 c.shown.ensures.stops c.shown.ensures.refused
    (λ i v. (goal.System-dyn g (i, v)).meaning v) setup (after setup (own_turns setup 0 setup.turns))
    c.take_first-second.result second c.rejoin_text-text.ensures.joined in
    both_played (λ i v. (goal.System-dyn g (i, v)).meaning v) (to_rejoin game turn) held setup (after setup (own_turns setup 0 setup.turns))
    (rejoin_outcome setup turn) made c.take_first-first.result c.take_first-second.result first second
    c.take_first-second.new.rigs.items c.args.self.now.rigs c.put_first-2.new.rigs c.requires
    (c.take_first-first.ensures.items ∙ ap (λ (l : List _). c.take_first-first.result ∷ l) c.take_first-second.ensures.items)
    (c.put_first-2.ensures.items ∙ ap (λ (l : List _). first ∷ l) c.put_first.ensures.items)
    (c.put_first-2.ensures.room ∙ c.put_first.ensures.room ∙ c.take_first-second.ensures.room ∙ c.take_first-first.ensures.room) refl
    made_so (subst (λ (o : Outcome). HasEnded o.status) (rejoin_done setup turn c.in_ok-reached.ensures.within) tt)
    played_so joined_so
    (stands_read held (λ files. match_in files game) setup made
    (λ (files : List File) (setup : Setup). AreFed setup (after setup (own_turns setup 0 setup.turns))
    (systems_by first (λ i v. (goal.System-dyn g (i, v)).meaning v))) found
    (whatever_held held _ played_so.fed))
    (stands_read held (λ files. match_in files game) setup made
    (λ (files : List File) (setup : Setup). AreFed setup (after setup (own_turns setup 0 setup.turns))
    (systems_by second (λ i v. (goal.System-dyn g (i, v)).meaning v))) found
    (whatever_held held _ joined_so.fed))

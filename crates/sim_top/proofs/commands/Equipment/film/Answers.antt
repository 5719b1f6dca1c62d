-- The match was read and its states were told, or it could not be read.
use Rattle.sim_top.proofs.{Answering.{match_ends, match_goes_on, Opens}, Common.{after, Answer, AreFed, Done, Err, File, film_text, IsAnswerTo, List, match_in}}
use Rattle.sim_top.proofs.Common.{Outcome, own_turns, printed, refl, Result, RigsCameBackBy, rules, Setup, shelved, Some, status_made, Stop, subst, sym}
use Rattle.sim_top.proofs.{Common.{systems_by, to_film, ℕ, ◌∙◌, ◌≡◌}, Playing.{played_if, text_made}}
use Rattle.sim_top.proofs.{Returning.{first_played, kind_of_first, rigs_left, room_for, stands_read, whatever_held}, Stopping.{Then-ended, Then-read}}
use Rattle.sim_top.proofs.commands.Equipment.film.Goals as goal

-- what comes of the match
abbrev told : ℕ → Setup → Outcome → Type 0
told every setup wanted = wanted ≡ printed Done (film_text setup every)

opens : (game : List ℕ) (every : ℕ) → Opens (to_film game every) game (λ files. match_in files game)
opens game every = record {
  fails = λ files o e. Then-ended (match_in files game) (told every) o e;
  first = λ files. refl;
  lacks = λ files h. h;
  reads = refl;
  has = refl;
}

pub returns-in_err-setup-clause-answer : goal.returns-in_err-setup-clause-answer
returns-in_err-setup-clause-answer g c =
    let is : c.from_residual.result ≡ Err c.in_err-setup.field-0.0 = search rules in
    let game = c.args.game.now in
    let every = c.args.every in
    let before = shelved (g.S.Shelf.held c.args.shelf.now) (g.S.Shelf.counts c.args.shelf.now) in
    let now = shelved (g.S.Shelf.held c.read_match.new.shelf) (g.S.Shelf.counts c.read_match.new.shelf) in
    subst (λ (r : Result Answer Stop). IsAnswerTo (to_film c.args.game.now c.args.every) r before now) (sym is)
    (match_ends (to_film c.args.game.now c.args.every) game (λ files. match_in files game) c.in_err-setup.field-0.0 before now (opens game every)
    c.in_err-setup.ensures.read.stops c.in_err-setup.ensures.tells c.in_err-setup.ensures.read.reading)

pub returns-in_err-setup-clause-back : goal.returns-in_err-setup-clause-back
returns-in_err-setup-clause-back g c =
    let is : c.from_residual.result ≡ Err c.in_err-setup.field-0.0 = search rules in
    let held = g.S.Shelf.held c.args.shelf.now in
    subst (λ (r : Result Answer Stop). RigsCameBackBy (λ i v. (goal.System-dyn g (i, v)).meaning v) (Some (to_film c.args.game.now c.args.every)) held
    (status_made r) c.args.self.now.rigs c.args.self.now.rigs) (sym is)
    (rigs_left (λ i v. (goal.System-dyn g (i, v)).meaning v) (Some (to_film c.args.game.now c.args.every)) held c.in_err-setup.field-0.0 c.args.self.now.rigs
    c.requires.eight)

pub film_text-text-requires-clause-begins : goal.film_text-text-requires-clause-begins
film_text-text-requires-clause-begins g c = record {
  limits = c.in_ok-setup.ensures.read.good;
  kinds = kind_of_first (λ i v. (goal.System-dyn g (i, v)).meaning v) c.args.self.now.rigs.items c.take_first-rig.new.rigs.items c.take_first-rig.result
      c.take_first-rig.ensures.items c.requires.eight.kinds;
}

pub put_first-requires : goal.put_first-requires
put_first-requires g c =
    room_for (λ i v. (goal.System-dyn g (i, v)).meaning v) c.args.self.now.rigs c.take_first-rig.new.rigs c.take_first-rig.result c.take_first-rig.ensures.items
    c.take_first-rig.ensures.room

pub returns-clause-answer : goal.returns-clause-answer
returns-clause-answer g c =
    let game = c.args.game.now in
    let every = c.args.every in
    let setup = c.in_ok-setup.setup in
    let made_so = text_made c.shown.result c.film_text-text.result.0 (film_text setup every) c.shown.ensures.stops c.shown.ensures.refused c.shown.ensures.made
    c.film_text-text.ensures.text in
    match_goes_on (to_film game every) game (λ files. match_in files game) setup (printed Done (film_text setup every)) c.shown.result _ _
    (opens game every) c.in_ok-setup.ensures.read.reading c.in_ok-setup.ensures.tells
    (λ files e. Then-read (match_in files game) setup (told every) (printed Done (film_text setup every)) e refl) (λ files. refl)
    made_so (record { status = tt; done = tt; file = tt })

pub returns-clause-back : goal.returns-clause-back
returns-clause-back g c =
    let game = c.args.game.now in
    let every = c.args.every in
    let setup = c.in_ok-setup.setup in
    let held = g.S.Shelf.held c.args.shelf.now in
    let last = c.film_text-text.result.1 in
    let made_so = text_made c.shown.result c.film_text-text.result.0 (film_text setup every) c.shown.ensures.stops c.shown.ensures.refused c.shown.ensures.made
    c.film_text-text.ensures.text in
    let played_so = played_if c.shown.result c.film_text-text.result.0 c.shown.ensures.stops c.shown.ensures.refused
    (λ i v. (goal.System-dyn g (i, v)).meaning v) setup (after setup (own_turns setup 0 setup.turns))
    c.take_first-rig.result c.film_text-text.result.1 c.film_text-text.ensures.played in
    first_played (λ i v. (goal.System-dyn g (i, v)).meaning v) (to_film game every) held setup (after setup (own_turns setup 0 setup.turns))
    (printed Done (film_text setup every)) c.shown.result c.take_first-rig.result last
    c.take_first-rig.new.rigs.items c.args.self.now.rigs c.put_first.new.rigs c.requires.eight c.take_first-rig.ensures.items c.put_first.ensures.items
    (c.put_first.ensures.room ∙ c.take_first-rig.ensures.room) refl
    made_so tt played_so
    (stands_read held (λ files. match_in files game) setup c.shown.result
    (λ (files : List File) (setup : Setup). AreFed setup (after setup (own_turns setup 0 setup.turns))
    (systems_by last (λ i v. (goal.System-dyn g (i, v)).meaning v)))
    c.in_ok-setup.ensures.tells (whatever_held held _ played_so.fed))

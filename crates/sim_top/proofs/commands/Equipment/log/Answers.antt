-- The match was read and its log stored, or it could not be read.
use Rattle.sim_top.proofs.Common.{Outcome, own_turns, refl, Result, RigsCameBackBy, rules, Setup, shelved, Some, status_made, Stop, subst, sym, systems_by}
use Rattle.sim_top.proofs.Common.{after, Answer, ap, AreFed, codes, Err, File, IfOk, IsAnswerTo, List, Log, log_after, logged_as, match_in, match_turns, Ok}
use Rattle.sim_top.proofs.{Answering.Opens, Answering.match_ends, Answering.match_goes_on, Common.to_log, Common.ℕ, Common.◌∙◌, Common.◌≡◌, Playing.is_made}
use Rattle.sim_top.proofs.{Playing.played_if, Returning.first_played, Returning.kind_of_first, Returning.rigs_left, Returning.room_for, Returning.stands_read}
use Rattle.{sim_base.specs.declared.memory.OutOfMemory.OutOfMemory, sim_play.proofs.LogTurns.log_of_match, sim_play.specs.Films.last_state}
use Rattle.{sim_replay.specs.Logs.IsOfTurns, sim_top.proofs.Returning.whatever_held, sim_top.proofs.Stopping.Then-ended, sim_top.proofs.Stopping.Then-read}
use Rattle.sim_top.proofs.commands.Equipment.log.Goals as goal

-- what comes of the match
abbrev kept : List ℕ → Setup → Outcome → Type 0
kept out setup wanted = wanted ≡ logged_as (codes "log") setup out (log_after setup (match_turns setup))

-- what is made of a log, and what it is of
same_outcome : (r : Result Log OutOfMemory) (of : Log → Outcome) (log : Log) → IfOk r (λ found. found ≡ log) → IfOk r (λ found. of found ≡ of log)
same_outcome (Ok found) of log is = ap of is
same_outcome (Err none) of log is = tt

of_turns : (r : Result Log OutOfMemory) (setup : Setup) → IfOk r (λ log. log ≡ log_after setup (match_turns setup)) → IfOk r (IsOfTurns setup)
of_turns (Ok log) setup is = log_of_match setup log is
of_turns (Err none) setup is = tt

opens : (game out : List ℕ) → Opens (to_log game out) game (λ files. match_in files game)
opens game out = record {
  fails = λ files o e. Then-ended (match_in files game) (kept out) o e;
  first = λ files. refl;
  lacks = λ files h. h;
  reads = refl;
  has = refl;
}

pub returns-in_err-setup-clause-answer : goal.returns-in_err-setup-clause-answer
returns-in_err-setup-clause-answer g c =
    let is : c.from_residual.result ≡ Err c.in_err-setup.field-0.0 = search rules in
    let game = c.args.game.now in
    let before = shelved (g.S.Shelf.held c.args.shelf.now) (g.S.Shelf.counts c.args.shelf.now) in
    let now = shelved (g.S.Shelf.held c.read_match.new.shelf) (g.S.Shelf.counts c.read_match.new.shelf) in
    subst (λ (r : Result Answer Stop). IsAnswerTo (to_log game c.args.out.now) r before now) (sym is)
    (match_ends (to_log game c.args.out.now) game (λ files. match_in files game) c.in_err-setup.field-0.0 before now (opens game c.args.out.now)
    c.in_err-setup.ensures.read.stops c.in_err-setup.ensures.tells c.in_err-setup.ensures.read.reading)

pub returns-in_err-setup-clause-back : goal.returns-in_err-setup-clause-back
returns-in_err-setup-clause-back g c =
    let is : c.from_residual.result ≡ Err c.in_err-setup.field-0.0 = search rules in
    let held = g.S.Shelf.held c.args.shelf.now in
    subst (λ (r : Result Answer Stop). RigsCameBackBy (λ i v. (goal.System-dyn g (i, v)).meaning v) (Some (to_log c.args.game.now c.args.out.now)) held
    (status_made r) c.args.self.now.rigs c.args.self.now.rigs) (sym is)
    (rigs_left (λ i v. (goal.System-dyn g (i, v)).meaning v) (Some (to_log c.args.game.now c.args.out.now)) held c.in_err-setup.field-0.0 c.args.self.now.rigs
    c.requires)

pub match_log-log-requires : goal.match_log-log-requires
match_log-log-requires g c = record {
  limits = c.in_ok-setup.ensures.read.good;
  kinds = kind_of_first (λ i v. (goal.System-dyn g (i, v)).meaning v) c.args.self.now.rigs.items c.take_first-rig.new.rigs.items c.take_first-rig.result
      c.take_first-rig.ensures.items c.requires.kinds;
}

pub stored_log-requires : goal.stored_log-requires
stored_log-requires g c = of_turns c.match_log-log.result.0 c.in_ok-setup.setup c.match_log-log.ensures.log

pub put_first-requires : goal.put_first-requires
put_first-requires g c =
    room_for (λ i v. (goal.System-dyn g (i, v)).meaning v) c.args.self.now.rigs c.take_first-rig.new.rigs c.take_first-rig.result c.take_first-rig.ensures.items
    c.take_first-rig.ensures.room

pub returns-clause-answer : goal.returns-clause-answer
returns-clause-answer g c =
    let game = c.args.game.now in
    let out = c.args.out.now in
    let setup = c.in_ok-setup.setup in
    let made_so = is_made c.stored_log.result c.match_log-log.result.0 c.stored_log.ensures.stops c.stored_log.ensures.refused
    (logged_as (codes "log") setup out) (logged_as (codes "log") setup out (log_after setup (match_turns setup)))
    (same_outcome c.match_log-log.result.0 (logged_as (codes "log") setup out) (log_after setup (match_turns setup)) c.match_log-log.ensures.log)
    c.stored_log.ensures.made in
    match_goes_on (to_log game out) game (λ files. match_in files game) setup (logged_as (codes "log") setup out (log_after setup (match_turns setup)))
    c.stored_log.result _ _ (opens game out) c.in_ok-setup.ensures.read.reading c.in_ok-setup.ensures.tells
    (λ files e. Then-read (match_in files game) setup (kept out) (logged_as (codes "log") setup out (log_after setup (match_turns setup))) e refl)
    (λ files. refl) made_so
    (record { status = tt; done = tt; file = refl })

pub returns-clause-back : goal.returns-clause-back
returns-clause-back g c =
    let game = c.args.game.now in
    let out = c.args.out.now in
    let setup = c.in_ok-setup.setup in
    let held = g.S.Shelf.held c.args.shelf.now in
    let last = c.match_log-log.result.1 in
    let made_so = is_made c.stored_log.result c.match_log-log.result.0 c.stored_log.ensures.stops c.stored_log.ensures.refused
    (logged_as (codes "log") setup out) (logged_as (codes "log") setup out (log_after setup (match_turns setup)))
    (same_outcome c.match_log-log.result.0 (logged_as (codes "log") setup out) (log_after setup (match_turns setup)) c.match_log-log.ensures.log)
    c.stored_log.ensures.made in
    let played_so = played_if c.stored_log.result c.match_log-log.result.0 c.stored_log.ensures.stops c.stored_log.ensures.refused
    (λ i v. (goal.System-dyn g (i, v)).meaning v) setup (last_state setup) c.take_first-rig.result c.match_log-log.result.1 c.match_log-log.ensures.played in
    first_played (λ i v. (goal.System-dyn g (i, v)).meaning v) (to_log game out) held setup (last_state setup)
    (logged_as (codes "log") setup out (log_after setup (match_turns setup))) c.stored_log.result c.take_first-rig.result last
    c.take_first-rig.new.rigs.items c.args.self.now.rigs c.put_first.new.rigs c.requires c.take_first-rig.ensures.items c.put_first.ensures.items
    (c.put_first.ensures.room ∙ c.take_first-rig.ensures.room) refl
    made_so tt played_so
    (stands_read held (λ files. match_in files game) setup c.stored_log.result
    (λ (files : List File) (setup : Setup). AreFed setup (after setup (own_turns setup 0 setup.turns))
    (systems_by last (λ i v. (goal.System-dyn g (i, v)).meaning v)))
    c.in_ok-setup.ensures.tells (whatever_held held _ played_so.fed))

-- The match and a log of it were read and the one was played by the other, or one could not be read.
use Rattle.sim_top.proofs.commands.Equipment.check.Goals as goal
use Rattle.{sim_base.specs.declared.{command.PlayerCommand.PlayerCommand, memory.OutOfMemory.OutOfMemory}, sim_laws.specs.TurnLaws.IsOrderOf}
use Rattle.sim_top.proofs.{Answering.match_ends, Checking.{check_ends, check_opens, log_ends, log_goes_on, log_stands}, Common.{All, Answer, ap, AreFed, arith}}
use Rattle.sim_top.proofs.Common.{bytes_in, check_outcome, digests_after, Err, File, IfOk, IsAnswerTo, List, Log, match_in, Ok, OnOk, refl, Result}
use Rattle.sim_top.proofs.Common.{RigsCameBackBy, rules, Setup, shelved, Some, StandForLog, state_after, status_made, Stop, subst, sym, systems_by, to_check, ℕ}
use Rattle.sim_top.proofs.{Common.{◌∙◌, ◌≡◌}, Playing.{is_made, made_if}, Returning.{first_played, kind_of_first, rigs_left, room_for, stands_read}}
use Rattle.sim_top.specs.{Outcome.check_by, Stops.HasPlayedBy}

-- the digests that were played, beside those of the log
same_outcome : (r : Result (List (List ℕ)) OutOfMemory) (setup : Setup) (log : Log) (turns : List (List PlayerCommand)) → turns ≡ log.turns
    → IfOk r (λ played. played ≡ digests_after setup turns) → IfOk r (λ played. check_by log played ≡ check_outcome setup log)
same_outcome (Ok played) setup log turns same is = ap (check_by log) (is ∙ ap (digests_after setup) same)
same_outcome (Err none) setup log turns same is = tt

pub returns-in_err-setup-clause-answer : goal.returns-in_err-setup-clause-answer
returns-in_err-setup-clause-answer g c =
    let is : c.from_residual.result ≡ Err c.in_err-setup.field-0.0 = search rules in
    let game = c.args.game.now in
    let name = c.args.name.now in
    let before = shelved (g.S.Shelf.held c.args.shelf.now) (g.S.Shelf.counts c.args.shelf.now) in
    let now = shelved (g.S.Shelf.held c.read_match.new.shelf) (g.S.Shelf.counts c.read_match.new.shelf) in
    subst (λ (r : Result Answer Stop). IsAnswerTo (to_check game name) r before now) (sym is)
    (match_ends (to_check game name) game (λ files. match_in files game) c.in_err-setup.field-0.0 before now (check_opens game name)
    c.in_err-setup.ensures.read.stops c.in_err-setup.ensures.tells
    c.in_err-setup.ensures.read.reading)

pub returns-in_err-setup-clause-back : goal.returns-in_err-setup-clause-back
returns-in_err-setup-clause-back g c =
    let is : c.from_residual.result ≡ Err c.in_err-setup.field-0.0 = search rules in
    let held = g.S.Shelf.held c.args.shelf.now in
    subst (λ (r : Result Answer Stop). RigsCameBackBy (λ i v. (goal.System-dyn g (i, v)).meaning v) (Some (to_check c.args.game.now c.args.name.now)) held
    (status_made r) c.args.self.now.rigs c.args.self.now.rigs) (sym is)
    (rigs_left (λ i v. (goal.System-dyn g (i, v)).meaning v) (Some (to_check c.args.game.now c.args.name.now)) held c.in_err-setup.field-0.0
    c.args.self.now.rigs
    c.requires)

pub returns-in_err-log-clause-answer : goal.returns-in_err-log-clause-answer
returns-in_err-log-clause-answer g c =
    let is : c.from_residual-in_err-log.result ≡ Err c.in_err-log.field-0.0 = search rules in
    let before = shelved (g.S.Shelf.held c.args.shelf.now) (g.S.Shelf.counts c.args.shelf.now) in
    let now = shelved (g.S.Shelf.held c.read_log.new.shelf) (g.S.Shelf.counts c.read_log.new.shelf) in
    subst (λ (r : Result Answer Stop). IsAnswerTo (to_check c.args.game.now c.args.name.now) r before now) (sym is)
    (log_ends c.args.game.now c.args.name.now c.in_ok-setup.setup before _ now c.in_ok-setup.ensures.read.reading c.in_ok-setup.ensures.tells
    c.in_err-log.field-0.0
    c.in_err-log.ensures.read.stops
    c.in_err-log.ensures.read.reading c.in_err-log.ensures.tells)

pub returns-in_err-log-clause-back : goal.returns-in_err-log-clause-back
returns-in_err-log-clause-back g c =
    let is : c.from_residual-in_err-log.result ≡ Err c.in_err-log.field-0.0 = search rules in
    let held = g.S.Shelf.held c.args.shelf.now in
    subst (λ (r : Result Answer Stop). RigsCameBackBy (λ i v. (goal.System-dyn g (i, v)).meaning v) (Some (to_check c.args.game.now c.args.name.now)) held
    (status_made r) c.args.self.now.rigs c.args.self.now.rigs) (sym is)
    (rigs_left (λ i v. (goal.System-dyn g (i, v)).meaning v) (Some (to_check c.args.game.now c.args.name.now)) held c.in_err-log.field-0.0 c.args.self.now.rigs
    c.requires)

pub digests_after-played-requires-clause-begins : goal.digests_after-played-requires-clause-begins
digests_after-played-requires-clause-begins g c = record {
  limits = c.in_ok-setup.ensures.read.good;
  kinds = kind_of_first (λ i v. (goal.System-dyn g (i, v)).meaning v) c.args.self.now.rigs.items c.take_first-rig.new.rigs.items c.take_first-rig.result
      c.take_first-rig.ensures.items c.requires.kinds;
}

pub digests_after-played-requires-clause-players : goal.digests_after-played-requires-clause-players
digests_after-played-requires-clause-players g c =
    subst (All (All (IsOrderOf c.in_ok-setup.setup))) (sym c.as_slice.ensures)
    (λ k d within j e less. ((c.in_ok-log.ensures.read.good.turns k d within).each j e less).player)

pub compared-requires : goal.compared-requires
compared-requires g c =
    omega (arith, c.in_ok-log.ensures.read.good.few, c.in_ok-log.ensures.read.good.one_more, c.in_ok-setup.ensures.read.good.turns)

pub put_first-requires : goal.put_first-requires
put_first-requires g c =
    room_for (λ i v. (goal.System-dyn g (i, v)).meaning v) c.args.self.now.rigs c.take_first-rig.new.rigs c.take_first-rig.result c.take_first-rig.ensures.items
    c.take_first-rig.ensures.room

pub returns-clause-answer : goal.returns-clause-answer
returns-clause-answer g c =
    let setup = c.in_ok-setup.setup in
    let log = c.in_ok-log.log in
    let made_so = is_made c.compared.result c.digests_after-played.result.0 c.compared.ensures.stops c.compared.ensures.refused (check_by log)
    (check_outcome setup log) (same_outcome c.digests_after-played.result.0 setup log c.as_slice.result.now c.as_slice.ensures
    c.digests_after-played.ensures.digests) c.compared.ensures.made in
    log_goes_on c.args.game.now c.args.name.now c.in_ok-setup.setup _ _ _ c.in_ok-setup.ensures.read.reading c.in_ok-setup.ensures.tells c.in_ok-log.log
    c.compared.result
    c.in_ok-log.ensures.read.reading c.in_ok-log.ensures.tells made_so
    (check_ends c.args.game.now c.args.name.now c.in_ok-setup.setup c.in_ok-log.log).0

pub returns-clause-back : goal.returns-clause-back
returns-clause-back g c =
    let game = c.args.game.now in
    let name = c.args.name.now in
    let setup = c.in_ok-setup.setup in
    let log = c.in_ok-log.log in
    let held = g.S.Shelf.held c.args.shelf.now in
    let made = c.compared.result in
    let last = c.digests_after-played.result.1 in
    let made_so = is_made c.compared.result c.digests_after-played.result.0 c.compared.ensures.stops c.compared.ensures.refused (check_by log)
    (check_outcome setup log) (same_outcome c.digests_after-played.result.0 setup log c.as_slice.result.now c.as_slice.ensures
    c.digests_after-played.ensures.digests) c.compared.ensures.made in
    let played_so : HasPlayedBy (λ i v. (goal.System-dyn g (i, v)).meaning v) setup (state_after setup log.turns)
    c.compared.result c.take_first-rig.result last =
    record {
      fed = subst (λ (turns : List (List PlayerCommand)). OnOk c.compared.result
          (AreFed setup (state_after setup turns) (systems_by last (λ i v. (goal.System-dyn g (i, v)).meaning v)))) c.as_slice.ensures
          (made_if c.compared.result c.digests_after-played.result.0 c.compared.ensures.stops c.compared.ensures.refused _
          c.digests_after-played.ensures.played.fed);
      kinds = c.digests_after-played.ensures.played.kinds;
      most = c.digests_after-played.ensures.played.most;
    } in
    first_played (λ i v. (goal.System-dyn g (i, v)).meaning v) (to_check game name) held setup (state_after setup log.turns) (check_outcome setup log) made
    c.take_first-rig.result last
    c.take_first-rig.new.rigs.items c.args.self.now.rigs c.put_first.new.rigs c.requires c.take_first-rig.ensures.items c.put_first.ensures.items
    (c.put_first.ensures.room ∙ c.take_first-rig.ensures.room) refl
    made_so (check_ends game name setup log).1 played_so
    (stands_read held (λ files. match_in files game) setup made (λ (files : List File) (setup : Setup). StandForLog setup (bytes_in files name)
    (systems_by last (λ i v. (goal.System-dyn g (i, v)).meaning v)))
    c.in_ok-setup.ensures.tells
    (log_stands game name setup _ _ _ c.in_ok-setup.ensures.read.reading c.in_ok-setup.ensures.tells log made
    (systems_by last (λ i v. (goal.System-dyn g (i, v)).meaning v))
    c.in_ok-log.ensures.read.reading c.in_ok-log.ensures.tells played_so.fed))

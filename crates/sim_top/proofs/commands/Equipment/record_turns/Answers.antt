-- The first rig plays the log, which is written, or there was no memory.
use Rattle.sim_top.proofs.commands.Equipment.record_turns.Goals as goal
use Rattle.sim_top.proofs.Common.{ap, codes, Err, IfOk, length, List, Log, log_after, logged_as, Ok, Outcome, Result, Setup, state_after, sym, ◌∙◌, ◌≡◌, ◌≤◌}
use Rattle.sim_top.proofs.Returning.{behind, firsts_of, kind_of_first, kinds_of_rest, kinds_with, room_for}
use Rattle.{sim_base.specs.declared.command.PlayerCommand.PlayerCommand, sim_base.specs.declared.memory.OutOfMemory.OutOfMemory, sim_top.proofs.Playing.is_made}
use Rattle.{sim_play.proofs.LogTurns.log_of_turns, sim_replay.specs.Logs.IsOfTurns, sim_top.proofs.Playing.made_if, sim_top.specs.Stops.HasPlayedBy}

same_outcome : (r : Result Log OutOfMemory) (of : Log → Outcome) (log : Log) → IfOk r (λ found. found ≡ log) → IfOk r (λ found. of found ≡ of log)
same_outcome (Ok found) of log is = ap of is
same_outcome (Err none) of log is = tt

of_turns : (r : Result Log OutOfMemory) (setup : Setup) (turns : List (List PlayerCommand)) → length turns ≤ setup.turns
    → IfOk r (λ log. log ≡ log_after setup turns) → IfOk r (IsOfTurns setup)
of_turns (Ok log) setup turns few is = log_of_turns setup turns log few is
of_turns (Err none) setup turns few is = tt

pub log_after-log-requires-clause-begins : goal.log_after-log-requires-clause-begins
log_after-log-requires-clause-begins g c = record {
  limits = c.requires.limits;
  kinds = kind_of_first (λ i v. (goal.System-dyn g (i, v)).meaning v) c.args.self.now.rigs.items c.take_first-rig.new.rigs.items c.take_first-rig.result
      c.take_first-rig.ensures.items c.requires.eight.kinds;
}

pub put_first-requires : goal.put_first-requires
put_first-requires g c =
    room_for (λ i v. (goal.System-dyn g (i, v)).meaning v) c.args.self.now.rigs c.take_first-rig.new.rigs c.take_first-rig.result c.take_first-rig.ensures.items
    c.take_first-rig.ensures.room

pub stored_log-requires : goal.stored_log-requires
stored_log-requires g c = of_turns c.log_after-log.result.0 c.args.setup.now c.args.turns c.requires.few c.log_after-log.ensures.log

pub returns-clause-made : goal.returns-clause-made
returns-clause-made g c =
    let setup = c.args.setup.now in
    let out = c.args.out.now in
    let log = log_after setup c.args.turns in
    is_made c.stored_log.result c.log_after-log.result.0 c.stored_log.ensures.stops c.stored_log.ensures.refused (logged_as (codes "record") setup out)
    (logged_as (codes "record") setup out log)
    (same_outcome c.log_after-log.result.0 (logged_as (codes "record") setup out) log c.log_after-log.ensures.log) c.stored_log.ensures.made

pub returns-clause-played : goal.returns-clause-played
returns-clause-played g c =
    firsts_of (λ i v. (goal.System-dyn g (i, v)).meaning v) c.args.self.now.rigs.items c.put_first.new.rigs.items c.take_first-rig.new.rigs.items
    c.take_first-rig.new.rigs.items c.take_first-rig.result c.log_after-log.result.1
    (HasPlayedBy (λ i v. (goal.System-dyn g (i, v)).meaning v) c.args.setup.now (state_after c.args.setup.now c.args.turns) c.stored_log.result)
    c.take_first-rig.ensures.items c.put_first.ensures.items
    (record {
      fed = made_if c.stored_log.result c.log_after-log.result.0 c.stored_log.ensures.stops c.stored_log.ensures.refused _ c.log_after-log.ensures.played.fed;
      kinds = c.log_after-log.ensures.played.kinds;
      most = c.log_after-log.ensures.played.most;
    })

pub returns-clause-others : goal.returns-clause-others
returns-clause-others g c =
    behind (λ i v. (goal.System-dyn g (i, v)).meaning v) c.put_first.new.rigs.items c.take_first-rig.new.rigs.items c.log_after-log.result.1
    c.put_first.ensures.items
    ∙ sym (behind (λ i v. (goal.System-dyn g (i, v)).meaning v) c.args.self.now.rigs.items c.take_first-rig.new.rigs.items c.take_first-rig.result
    c.take_first-rig.ensures.items)

pub returns-clause-eight : goal.returns-clause-eight
returns-clause-eight g c =
    record {
      count = ap length c.put_first.ensures.items ∙ sym (ap length c.take_first-rig.ensures.items) ∙ c.requires.eight.count;
      kinds = kinds_with (λ i v. (goal.System-dyn g (i, v)).meaning v) c.put_first.new.rigs.items c.take_first-rig.new.rigs.items c.log_after-log.result.1
          c.put_first.ensures.items c.log_after-log.ensures.played.kinds
          (kinds_of_rest (λ i v. (goal.System-dyn g (i, v)).meaning v) c.args.self.now.rigs.items c.take_first-rig.new.rigs.items c.take_first-rig.result
          c.take_first-rig.ensures.items c.requires.eight.kinds);
    }

-- The turns are those of the match, each by its players.
use Rattle.sim_play.proofs.Common.{◌∙◌, All, ap, arith, IsOrderOf, length, State, state_after, subst, sym}
use Rattle.sim_play.{proofs.LogTurns.match_length, proofs.LogTurns.match_players, proofs.LogTurns.match_state, specs.Playing.HasPlayedBy}
use Rattle.sim_play.proofs.logs.match_log.Goals as goal

pub log_after-requires-clause-few : goal.log_after-requires-clause-few
log_after-requires-clause-few g c = omega (arith, ap length c.in-Ok.ensures, match_length c.args.setup.now)

pub log_after-requires-clause-players : goal.log_after-requires-clause-players
log_after-requires-clause-players g c =
    subst (All (All (IsOrderOf c.args.setup.now))) (sym c.in-Ok.ensures) (match_players c.args.setup.now c.requires.limits)

pub returns-in-Ok-clause-played : goal.returns-in-Ok-clause-played
returns-in-Ok-clause-played g c =
    let setup = c.args.setup.now in
    subst (λ (state : State). HasPlayedBy (λ i v. (goal.System-dyn g (i, v)).meaning v) setup state c.log_after.result.0 c.args.rig c.log_after.result.1)
    (ap (state_after setup) c.in-Ok.ensures ∙ match_state setup) c.log_after.ensures.played

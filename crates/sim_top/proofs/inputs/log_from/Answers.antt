-- Bytes that are no log are refused at a line.
use Rattle.sim_replay.specs.declared.fault.LogFault.TheVariants as logged
use Rattle.sim_top.proofs.Common.{ap, Err, List, Log, Ok, refl, Result, rules, Setup, Stop, subst, sym, ℕ, ◌≡◌}
use Rattle.{sim_replay.specs.Logs.IsRefusedAt, sim_replay.specs.declared.fault.LogFault.LogFault, sim_top.specs.Stops.ReadsLog, sim_top.specs.Stops.log_stop}

refused_so : (fault : LogFault) (setup : Setup) (bytes : List ℕ) → ((line : ℕ) → fault ≡ logged.Refused line → IsRefusedAt setup bytes line)
    → ReadsLog (Err (log_stop fault)) setup (Ok bytes)
refused_so (logged.Refused line) setup bytes refused = record { line = line; refused = refused line refl; ended = refl }
refused_so logged.OutOfMemory setup bytes refused = tt

pub returns-in_err-log_of-clause-tells : Rattle.sim_top.proofs.inputs.log_from.Goals.returns-in_err-log_of-clause-tells
returns-in_err-log_of-clause-tells c =
    let fault = c.in_err-log_of.field-0.0 in
    let is : c.from_residual.result ≡ Err (log_stop fault) = search rules in
    subst (λ (r : Result Log Stop). ReadsLog r c.args.setup.now (Ok c.args.bytes.now)) (sym is)
    (refused_so fault c.args.setup.now c.args.bytes.now (λ line e. c.in_err-log_of.ensures.refused line (ap Err e)))

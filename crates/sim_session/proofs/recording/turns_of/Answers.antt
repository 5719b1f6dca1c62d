-- The commands of one turn more are kept.
use Rattle.{sim_server.specs.Standing.server_of, sim_session.proofs.TextCommon.{arith, ◌+◌}, std.proofs.lemmas.List.FromFn.map-range_with_len_more}

pub loop-before-preserved : Rattle.sim_session.proofs.recording.turns_of.Goals.loop-before-preserved
loop-before-preserved c =
    let more = map-range_with_len_more (server_of c.args.server.now).kept 1 c.loop-before.before (c.loop-before.before + 1) (omega arith) in
    let was = c.loop-before.invariant in
    let copied = c.in_ok-copied.ensures in
    let kept = c.kept.ensures in
    let pushed = c.in_ok-push.ensures.ok in
    cc

-- The lines of one client more stand behind those so far.
use Rattle.sim_session.proofs.{Telling.told_more, TextCommon.{append_assoc, codes, List, pipe_in, pipe_line, string_bytes, ℕ, ◌++◌, ◌+◌, ◌≡◌}}

pub loop-before-preserved : Rattle.sim_session.proofs.closing.push_pipes.Goals.loop-before-preserved
loop-before-preserved c =
    let held = c.args.exchange.now in
    let old = string_bytes c.loop-before.out in
    let n = c.loop-before.before + 1 in
    let up : List ℕ = pipe_line n (codes "up") (pipe_in held.ups n) in
    let down : List ℕ = pipe_line n (codes "down") (pipe_in held.downs n) in
    let upward = c.pipe.ensures in
    let downward = c.pipe-in-loop-before.ensures in
    let first = c.in_ok-push_pipe.ensures.ok in
    let second = c.in_ok-push_pipe-2.ensures.ok in
    let split : (old ++ up) ++ down ≡ old ++ (up ++ down) = append_assoc old up down in
    let step : string_bytes c.push_pipe-in-loop-before.new.out ≡ old ++ (up ++ down) = cc in
    told_more (λ k. pipe_line k (codes "up") (pipe_in held.ups k) ++ pipe_line k (codes "down") (pipe_in held.downs k)) c.loop-before.before
    (string_bytes c.args.out.now) old (string_bytes c.push_pipe-in-loop-before.new.out) c.loop-before.invariant step

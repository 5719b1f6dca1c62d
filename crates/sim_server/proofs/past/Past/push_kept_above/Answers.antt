-- One turn more is told, up to the last of which there is a list.
use Rattle.sim_server.proofs.Common.{ap, arith, Command, DownOf, kept_above, kept_in, List, map, posted_to, sym, ℕ, ◌++◌, ◌+◌, ◌-◌, ◌∙◌, ◌≡◌}
use Rattle.sim_server.proofs.Made.{above_last, above_more, more_to}

pub loop-i-preserved : Rattle.sim_server.proofs.past.Past.push_kept_above.Goals.loop-i-preserved
loop-i-preserved c =
    more_to c.args.to c.args.posts.now c.loop-i.posts c.push_orders.new.posts (kept_above (kept_in c.args.self.now.kept.now) c.args.turn c.loop-i.i)
    (map (Command (c.args.turn + c.loop-i.i + 1)) c.kept_of.result.now) _
    c.loop-i.invariant c.in_ok-push_orders.ensures (above_more (kept_in c.args.self.now.kept.now) c.args.turn c.loop-i.i c.kept_of.result.now c.kept_of.ensures)

pub returns : Rattle.sim_server.proofs.past.Past.push_kept_above.Goals.returns
returns c =
    let reached : c.loop-i.i ≡ c.last_kept.result - c.args.turn = omega (arith, c.loop-i-test.false, c.loop-i.auto.i-end, c.saturating_sub-count.ensures) in
    c.loop-i.invariant
    ∙ ap (λ n. c.args.posts.now ++ posted_to c.args.to (kept_above (kept_in c.args.self.now.kept.now) c.args.turn n)) reached
    ∙ ap (λ (said : List (DownOf (List ℕ))). c.args.posts.now ++ posted_to c.args.to said)
    (sym (above_last c.args.self.now.kept.now c.args.turn c.args.self.now.turns c.last_kept.result c.last_kept.ensures))

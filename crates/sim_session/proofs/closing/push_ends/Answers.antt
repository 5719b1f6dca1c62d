-- The line of one client more stands behind those so far.
use Rattle.sim_session.proofs.{NextClients.at_place, NextClients.life_next, Telling.told_more}
use Rattle.sim_session.proofs.TextCommon.{◌≡◌, ◌+◌, ◌<◌, ◌++◌, length, string_bytes, end_line, end_seen, IsMember, life_at, rules}

pub end_of-requires : Rattle.sim_session.proofs.closing.push_ends.Goals.end_of-requires
end_of-requires g c =
    let lt : c.loop-index.index < length c.args.clients.now = search rules in
    (at_place (IsMember c.args.setup.now (λ i. (g.dyn-2.0.entry i).1)) c.args.clients.now c.loop-index.index c.index-clients-index.result c.requires.members lt
    c.index-clients-index.is).sound

pub loop-index-preserved : Rattle.sim_session.proofs.closing.push_ends.Goals.loop-index-preserved
loop-index-preserved g c =
    let l = c.loop-index in
    let setup = c.args.setup.now in
    let clients = c.args.clients.now in
    let client = c.index-clients-index.result in
    let lt : l.index < length clients = search rules in
    let member = at_place (IsMember setup (λ i. (g.dyn-2.0.entry i).1)) clients l.index client c.requires.members lt c.index-clients-index.is in
    let same = member.same in
    let lives = life_next clients l.index client lt c.index-clients-index.is in
    let seen = c.end_of.ensures in
    let pushed = c.in_ok-push_end.ensures.ok in
    let step : string_bytes c.push_end.new.out ≡ string_bytes l.out ++ end_line (l.index + 1) (end_seen setup (life_at clients (l.index + 1))) = cc in
    told_more (λ k. end_line k (end_seen setup (life_at clients k))) l.index (string_bytes c.args.out.now) (string_bytes l.out)
    (string_bytes c.push_end.new.out) l.invariant step

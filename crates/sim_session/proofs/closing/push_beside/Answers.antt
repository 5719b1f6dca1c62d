-- The line of one client more stands behind those so far.
use Rattle.sim_session.proofs.{NextClients.at_place, NextClients.life_next, Telling.told_more}
use Rattle.sim_session.proofs.TextCommon.{◌≡◌, ◌+◌, ◌<◌, ◌++◌, length, string_bytes, IsMember, life_at, pair_apart, rules, state_of}

pub push_pair-requires-clause-right : Rattle.sim_session.proofs.closing.push_beside.Goals.push_pair-requires-clause-right
push_pair-requires-clause-right g c =
    let lt : c.loop-index.index < length c.args.clients.now = search rules in
    (at_place (IsMember c.args.setup.now (λ i. (g.dyn-2.0.entry i).1)) c.args.clients.now c.loop-index.index c.index-clients-index.result
    c.requires.clients.members lt
    c.index-clients-index.is).sound

pub loop-index-preserved : Rattle.sim_session.proofs.closing.push_beside.Goals.loop-index-preserved
loop-index-preserved g c =
    let l = c.loop-index in
    let clients = c.args.clients.now in
    let number = c.args.number in
    let right = c.index-clients-index.result in
    let lt : l.index < length clients = search rules in
    let left_is = c.requires.is in
    let right_is = life_next clients l.index right lt c.index-clients-index.is in
    let pushed = c.in_ok-push_pair.ensures in
    let step : string_bytes c.push_pair.new.out ≡ string_bytes l.out ++ pair_apart number (l.index + 1) (state_of (life_at clients number))
    (state_of (life_at clients (l.index + 1))) = cc in
    told_more (λ b. pair_apart number b (state_of (life_at clients number)) (state_of (life_at clients b))) l.index (string_bytes c.args.out.now)
    (string_bytes l.out) (string_bytes c.push_pair.new.out) l.invariant step

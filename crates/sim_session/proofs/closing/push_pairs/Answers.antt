-- The lines of one client more beside each other one stand behind those so far.
use Rattle.sim_session.proofs.{NextClients.at_place, NextClients.life_next, Telling.told_more}
use Rattle.sim_session.proofs.TextCommon.{◌<◌, length, string_bytes, beside_seen, IsMember, life_at, rules}
use Rattle.sim_session.proofs.closing.push_pairs.Goals as goal

pub push_beside-requires-clause-left : goal.push_beside-requires-clause-left
push_beside-requires-clause-left g c =
    let lt : c.loop-index.index < length c.args.clients.now = search rules in
    at_place (IsMember c.args.setup.now (λ i. (g.dyn-2.0.entry i).1)) c.args.clients.now c.loop-index.index c.index-clients-index.result c.requires.members lt
    c.index-clients-index.is

pub push_beside-requires-clause-is : goal.push_beside-requires-clause-is
push_beside-requires-clause-is g c =
    let lt : c.loop-index.index < length c.args.clients.now = search rules in
    life_next c.args.clients.now c.loop-index.index c.index-clients-index.result lt c.index-clients-index.is

pub loop-index-preserved : goal.loop-index-preserved
loop-index-preserved g c =
    let l = c.loop-index in
    let clients = c.args.clients.now in
    told_more (beside_seen (life_at clients) (length clients)) l.index (string_bytes c.args.out.now) (string_bytes l.out) (string_bytes c.push_beside.new.out)
    l.invariant
    c.in_ok-push_beside.ensures

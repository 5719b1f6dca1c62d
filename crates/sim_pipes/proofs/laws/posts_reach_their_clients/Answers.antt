-- The clauses are the lemmas of these names.
use Rattle.sim_pipes.proofs.{Common.posts, Telling.clients_are_told, Telling.sender_is_noticed, Telling.told_each}

pub returns : Rattle.sim_pipes.proofs.laws.posts_reach_their_clients.Goals.returns
returns g c = record {
  each = λ rules s a c low high. told_each rules.clients c (posts rules s a) low high;
  clients = λ rules s a. clients_are_told rules.clients (posts rules s a);
  noticed = sender_is_noticed;
}

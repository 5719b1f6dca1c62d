-- A player of the match gave the command. A release leaves what is known.
use Rattle.sim_client.proofs.{Common.{All-nil, IsOrderOf, known_in, nat_lt, sym, [], ◌++◌, ◌∙◌, ◌∷◌}, Knowing.{player_of_test, players_put}}
use Rattle.std.proofs.lemmas.List.Elements.{All-append, All-cons}

pub returns-in_ok-learn-in-Command-clause-players : Rattle.sim_client.proofs.playing.heed.Goals.returns-in_ok-learn-in-Command-clause-players
returns-in_ok-learn-in-Command-clause-players c =
    let setup = c.args.setup.now in
    let old = c.args.seat.now.known in
    let t = c.in-Command.turn in
    let order = c.in-Command.order in
    let player = player_of_test (nat_lt c.args.state.now.turn t) setup order.player (sym c.may_learn.ensures ∙ c.if-may_learn.true) in
    players_put setup old c.learn.new.self t (known_in old t ++ order ∷ []) c.in_ok-learn-in-Command.ensures c.requires.players
    (All-append (IsOrderOf setup) (known_in old t) (order ∷ []) (c.requires.players t) (All-cons (IsOrderOf setup) order [] player (All-nil (IsOrderOf setup))))

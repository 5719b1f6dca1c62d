-- A command has a frame, and the seat knows what it knew.
use Rattle.sim_client.{proofs.Standing.anyway, specs.Lives.On, specs.StageWords.AreByPlayers, specs.StageWords.player_at}
use Rattle.sim_held.proofs.{Common.IsStage, Common.subst, Common.sym, Passing.order_small}

pub say-requires : Rattle.sim_held.proofs.acting.give.Goals.say-requires
say-requires c =
    let state = c.in-On.state in
    order_small c.args.setup.now c.args.command.now (On (player_at state c.in-On.seat)) c.in_ok-did.did (On (player_at state c.order.new.seat))
    c.requires.few (c.in_ok-did.ensures.answers state)

pub returns-clause-sound : Rattle.sim_held.proofs.acting.give.Goals.returns-clause-sound
returns-clause-sound c =
    let setup = c.args.setup.now in
    let was = subst (IsStage setup) c.in-On.is c.requires.sound.stage in
    anyway c.say.result (record { valid = was.valid; known = subst (AreByPlayers setup) (sym c.in_ok-did.ensures.known) was.known })

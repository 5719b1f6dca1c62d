-- What is seen is what the session shows.
use Rattle.sim_live.proofs.looking.push_look.Goals as goal
use Rattle.{sim_client.specs.ClientWords.life, sim_live.proofs.Seen.{digest_looked, kept_looked, pipes_looked, show_looked, state_looked}}
use Rattle.{sim_server.specs.Standing.server_of, sim_session.{proofs.Beside.then_on, specs.Going.seen_in}, std.proofs.Common.ap}

pub returns-in-Digest : goal.returns-in-Digest
returns-in-Digest g c =
    then_on c.push_end.result
    (λ told s stands.
    digest_looked c.args.session.now.setup.now c.client.result.now.setup.now (seen_in c.args.session.now) (life c.client.result.now) c.end_of.result
    c.in-Digest.client c.args.look _ _ c.in-Digest.is c.requires.look c.client.ensures.life c.client.ensures.setup c.end_of.ensures told s stands)
    c.push_end.ensures.ok

pub returns-in-Show : goal.returns-in-Show
returns-in-Show g c =
    then_on c.push_shown.result
    (λ told s stands.
    show_looked c.args.session.now.setup.now c.setup-setup.result.now (seen_in c.args.session.now) (life c.client-in-Show.result.now) c.in-Show.client
    c.args.look _ _
    c.in-Show.is c.requires.look c.client-in-Show.ensures.life c.setup-setup.ensures told s stands)
    c.push_shown.ensures

pub returns-in-State : goal.returns-in-State
returns-in-State g c =
    then_on c.push_told.result
    (λ told s stands.
    state_looked c.args.session.now.setup.now c.setup-setup.result.now (seen_in c.args.session.now) (life c.client-in-State.result.now) c.in-State.client
    c.args.look _ _
    c.in-State.is c.requires.look c.client-in-State.ensures.life c.setup-setup.ensures told s stands)
    c.push_told.ensures

pub returns-in-Pipes : goal.returns-in-Pipes
returns-in-Pipes g c =
    then_on c.push_pipes.result
    (λ told s stands.
    pipes_looked c.args.session.now.setup.now c.setup-setup.result.now (seen_in c.args.session.now) c.exchange.result.now c.args.look _ _ c.in-Pipes.is
    c.exchange.ensures c.setup-setup.ensures told s stands)
    c.push_pipes.ensures

pub returns-in-Kept : goal.returns-in-Kept
returns-in-Kept g c =
    then_on c.push_server.result
    (λ told s stands.
    kept_looked c.args.session.now.setup.now c.setup-setup.result.now (seen_in c.args.session.now) (server_of c.server.result.now) c.args.look _ _ c.in-Kept.is
    (ap server_of c.server.ensures) c.setup-setup.ensures told s stands)
    c.push_server.ensures

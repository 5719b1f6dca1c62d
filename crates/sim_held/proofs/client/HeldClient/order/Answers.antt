-- What was refused memory is cut off.
use Rattle.{sim_client.specs.Lives.orders, sim_held.proofs.Common.◌∙◌, sim_held.proofs.Common.life_at, sim_held.proofs.Common.refl}
use Rattle.{sim_held.proofs.Stepping.heeds_takes, sim_held.specs.Clients.command_in, std.specs.Prelude.option_map}

pub returns : Rattle.sim_held.proofs.client.HeldClient.order.Goals.returns
returns c =
    let before = c.self.inside in
    let came = c.order-came in
    let settled = c.settle in
    rw (← c.self.view_is) (record {
      takes =
          heeds_takes (option_map (λ given. orders before.setup given (life_at before.stage)) (command_in c.args.command.now)) (life_at before.stage)
          (life_at came.new.stage) (life_at settled.new.stage) before.outbox came.new.outbox settled.new.outbox came.result settled.result came.ensures.heeds
          settled.ensures.same settled.ensures.ok settled.ensures.err;
      no_text = λ no. settled.ensures.same ∙ came.ensures.no_text no;
      same = record { setup = refl; number = refl };
    })

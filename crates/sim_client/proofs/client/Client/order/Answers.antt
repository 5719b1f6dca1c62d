-- The seat knows what it knew.
use Rattle.sim_client.proofs.{Common.rules, Standing.anyway, Standing.seated, Standing.unordered}
use Rattle.sim_client.proofs.client.Client.order.Goals as goal

pub returns : goal.returns
returns g c =
    let self = c.args.self.now in
    record {
      answers = search rules;
      idle = λ none. c.order.ensures.idle (unordered self.setup.now (λ i v. (goal.System-dyn g (i, v)).meaning v) c.args.command.now self.stage self.board
          c.in-On.seat c.in-On.is c.requires.sound.ready none);
      sound = anyway c.order.result (seated self.setup.now (λ i v. (goal.System-dyn g (i, v)).meaning v) self.number self.stage self.board c.in-On.seat
          c.order.new.seat c.in-On.is c.order.ensures.known c.requires.sound);
      keeps = search rules;
    }

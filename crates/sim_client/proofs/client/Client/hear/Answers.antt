-- What is heard beside a board is heard by the client.
use Rattle.sim_client.proofs.{Common.hears, Common.Life, Common.rules, Standing.answered}
use Rattle.sim_client.proofs.client.Client.hear.Goals as goal

pub returns-in-Some : goal.returns-in-Some
returns-in-Some g c =
    let self = c.args.self.now in
    record {
      answers = λ loaded loads.
          answered self.setup.now (λ i v. (goal.System-dyn g (i, v)).meaning v) (λ (life : Life). hears self.setup.now loaded c.args.down life) c.heed.result
          self.stage self.board c.in-On.seat c.heed.new.seat c.in-Some.board
          c.scene.result.state.now c.in-On.is c.in-Some.is c.scene.ensures.state (c.heed.ensures.answers loaded);
      idle = search rules;
      sure = search rules;
      stateless = search rules;
      kept = search rules;
      unloaded = search rules;
      ends = search rules;
    }

-- The match stands, the stage is sound after the step, and what was refused memory is cut off.
use Rattle.{sim_client.{proofs.Standing.anyway, specs.Lives.joins}, sim_held.proofs.{Common.{life_at, refl, ◌∙◌}, Stepping.goes_steps}}

pub invariant_of-self : Rattle.sim_held.proofs.client.HeldClient.join.Goals.invariant_of-self
invariant_of-self c =
    let setup = c.self.inside.setup in
    let came = c.join-came in
    record {
      limits = c.self.invariant.limits;
      number_is = c.self.invariant.number_is;
      stage = c.settle.ensures.sound setup (anyway came.result (came.ensures.sound setup c.self.invariant.stage));
    }

pub returns : Rattle.sim_held.proofs.client.HeldClient.join.Goals.returns
returns c =
    let before = c.self.inside in
    let came = c.join-came in
    let settled = c.settle in
    rw (← c.self.view_is) (record {
      steps =
          goes_steps (joins (life_at before.stage)) (life_at before.stage) (life_at came.new.stage) (life_at settled.new.stage) before.outbox came.new.outbox
          settled.new.outbox came.result settled.result came.ensures.goes settled.ensures.same settled.ensures.ok settled.ensures.err;
      idle = λ no. settled.ensures.same ∙ came.ensures.idle no;
      same = record { setup = refl; number = refl };
    })

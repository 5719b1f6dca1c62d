-- What was refused memory is cut off, and what was refused as no frame is as it was.
use Rattle.{sim_client.specs.Lives.hears, sim_held.proofs.{Common.{life_at, OnOk, refl, subst, sym, ◌∙◌, ◌≡◌}, Stepping.goes_steps}, std.specs.Prelude.IsOk}

pub returns : Rattle.sim_held.proofs.client.HeldClient.hear.Goals.returns
returns c =
    let before = c.self.inside in
    let came = c.hear_frame-came in
    let settled = c.settle in
    rw (← c.self.view_is) (record {
      frame = λ down is loaded from.
          goes_steps (hears before.setup loaded down (life_at before.stage)) (life_at before.stage) (life_at came.new.stage) (life_at settled.new.stage)
          before.outbox came.new.outbox settled.new.outbox came.result settled.result (came.ensures.frame down is loaded from) settled.ensures.same
          settled.ensures.ok settled.ensures.err;
      other = λ no.
          let it = came.ensures.other no in
          let stays = subst (λ answer. OnOk answer ((life_at settled.new.stage ≡ life_at came.new.stage) × (settled.new.outbox ≡ came.new.outbox))) it.0
          settled.ensures.ok in
          (settled.ensures.same ∙ it.0, (stays.0 ∙ it.1.0, stays.1 ∙ it.1.1));
      sure = λ down is none. subst IsOk (sym settled.ensures.same) (came.ensures.sure down is none);
      idle = λ down is carries loads none. subst IsOk (sym settled.ensures.same) (came.ensures.idle down is carries loads none);
      same = record { setup = refl; number = refl };
    })

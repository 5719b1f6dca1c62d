-- One that may not play is as it was, and nothing is played.
use Rattle.sim_held.{proofs.{Common.{life_at, refl, subst, sym}, Running.{no_run, ran}}, specs.Clients.{RanOn, runs}}

pub returns-in_default : Rattle.sim_held.proofs.client.HeldClient.play.Goals.returns-in_default
returns-in_default c =
    let before = c.self.inside in
    let out = c.take_out-out.new in
    let none = c.in_default.ensures in
    let run = runs before.setup c.args.most (life_at before.stage) in
    rw (← c.self.view_is) (record {
      ran =
          ran run before.outbox 0 (life_at out.stage) out.outbox
          (subst (λ at. RanOn run before.outbox 0 (life_at at) out.outbox) (sym none.1)
          (subst (λ said. RanOn run before.outbox 0 (life_at before.stage) said) (sym none.2)
          (no_run before.setup (life_at before.stage) before.outbox c.args.most none.0)));
      none = λ may. refl;
      zero = λ none_is_asked_for. refl;
      same = record { setup = refl; number = refl };
    })

-- The client may be bent, and is then; or nothing happens.
use Rattle.sim_session.proofs.{Beside.{bend_makes, then_ok}, Common.{anyway, ap, bends, false, life_at, refl, rules, shows, subst, Tells, true, ◌∙◌}}
use Rattle.sim_base.specs.declared.step.Event.TheVariants as event

pub returns-then-not-bend-clause-acts : Rattle.sim_session.proofs.acting.bend.Goals.returns-then-not-bend-clause-acts
returns-then-not-bend-clause-acts g c =
    let client = c.args.client.now in
    let new = c.bend.new.self in
    let old_life = life_at client.stage client.board in
    let new_life = life_at new.stage new.board in
    record {
      made = bend_makes client.setup.now c.args.number c.args.entity c.args.health old_life new_life c.args.exchange.now false c.new.result
          (subst (λ b. Tells (bends client.setup.now c.args.entity c.args.health old_life) old_life b new_life) c.if-not-bend.true c.bend.ensures.tells)
          c.new.ensures;
      idle = search rules;
      sound = c.bend.ensures.sound;
      kept = c.bend.ensures.keeps.kept;
      setup = c.bend.ensures.keeps.setup;
      rules = refl;
    }

pub returns-clause-acts : Rattle.sim_session.proofs.acting.bend.Goals.returns-clause-acts
returns-clause-acts g c =
    let client = c.args.client.now in
    let new = c.bend.new.self in
    let old_life = life_at client.stage client.board in
    let new_life = life_at new.stage new.board in
    record {
      made = then_ok c.bent.result (λ events told. bend_makes client.setup.now c.args.number c.args.entity c.args.health old_life new_life
          c.args.exchange.now true events
          (subst (λ b. Tells (bends client.setup.now c.args.entity c.args.health old_life) old_life b new_life) c.if-not-bend.false c.bend.ensures.tells)
          (told ∙ ap (λ s. shows s (event.Bend c.args.number) new_life) c.bend.ensures.keeps.setup)) c.bent.ensures;
      idle = search rules;
      sound = anyway c.bent.result c.bend.ensures.sound;
      kept = c.bend.ensures.keeps.kept;
      setup = c.bend.ensures.keeps.setup;
      rules = refl;
    }

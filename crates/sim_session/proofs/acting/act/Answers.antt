-- The server hears what a client said; systems are built by loads alone; and a step that is not enabled comes to an end.
use Rattle.sim_session.proofs.acting.act.Goals as goal
use Rattle.sim_session.proofs.Common.{anyway, client_of, events_by, has_load, IfOk, IsClient, IsOk, life_at, LoadsBy, Makes, MayHearBy, refl, rules, Step}
use Rattle.sim_session.proofs.Idling.{down_idle, join_idle, order_idle, play_idle, up_idle}
use Rattle.sim_session.proofs.{Beside.acted, Beside.unbuilt, Beside.up_makes, Common.subst, Common.sym, Idling.WhereIdle, Idling.bend_idle, Idling.cut_idle}

-- ---- who may

pub order-requires-clause-may : goal.order-requires-clause-may
order-requires-clause-may g c =
    record {
      sound = c.requires.may.acts.sound;
      client = subst (λ (x : Step). IsClient c.args.exchange.now.server (client_of x)) c.in-Order.is c.requires.may.acts.client;
    }

pub play-requires : goal.play-requires
play-requires g c =
    record {
      sound = c.requires.may.acts.sound;
      client = subst (λ (x : Step). IsClient c.args.exchange.now.server (client_of x)) c.in-Play.is c.requires.may.acts.client;
    }

pub join-requires : goal.join-requires
join-requires g c =
    record {
      sound = c.requires.may.acts.sound;
      client = subst (λ (x : Step). IsClient c.args.exchange.now.server (client_of x)) c.in-Join.is c.requires.may.acts.client;
    }

pub cut-requires : goal.cut-requires
cut-requires g c =
    record {
      sound = c.requires.may.acts.sound;
      client = subst (λ (x : Step). IsClient c.args.exchange.now.server (client_of x)) c.in-Cut.is c.requires.may.acts.client;
    }

pub down-requires : goal.down-requires
down-requires g c =
    let client = c.args.client.now in
    subst (λ (x : Step). MayHearBy (λ i v. (goal.System-dyn g (i, v)).meaning v) (client_of x) client c.args.exchange.now) c.in-Down.is c.requires.may

-- ---- what is made, and what builds systems

pub returns-in-Order-clause-loads : goal.returns-in-Order-clause-loads
returns-in-Order-clause-loads g c =
    let old = c.args.client.now in
    let new = c.order.new.client in
    subst (λ (x : Step). LoadsBy (λ i v. (goal.System-dyn g (i, v)).meaning v) x c.order.result old c.args.exchange.now new c.order.new.exchange)
    (sym c.in-Order.is)
    (acted (λ i v. (goal.System-dyn g (i, v)).meaning v) _ _ c.order.result old c.args.exchange.now new _ c.order.ensures)

pub returns-in-Play-clause-loads : goal.returns-in-Play-clause-loads
returns-in-Play-clause-loads g c =
    let old = c.args.client.now in
    let new = c.play.new.client in
    subst (λ (x : Step). LoadsBy (λ i v. (goal.System-dyn g (i, v)).meaning v) x c.play.result old c.args.exchange.now new c.play.new.exchange)
    (sym c.in-Play.is)
    (acted (λ i v. (goal.System-dyn g (i, v)).meaning v) _ _ c.play.result old c.args.exchange.now new _ c.play.ensures)

pub returns-in-Join-clause-loads : goal.returns-in-Join-clause-loads
returns-in-Join-clause-loads g c =
    let old = c.args.client.now in
    let new = c.join.new.client in
    subst (λ (x : Step). LoadsBy (λ i v. (goal.System-dyn g (i, v)).meaning v) x c.join.result old c.args.exchange.now new c.join.new.exchange)
    (sym c.in-Join.is)
    (acted (λ i v. (goal.System-dyn g (i, v)).meaning v) _ _ c.join.result old c.args.exchange.now new _ c.join.ensures)

pub returns-in-Cut-clause-loads : goal.returns-in-Cut-clause-loads
returns-in-Cut-clause-loads g c =
    let old = c.args.client.now in
    let new = c.cut.new.client in
    subst (λ (x : Step). LoadsBy (λ i v. (goal.System-dyn g (i, v)).meaning v) x c.cut.result old c.args.exchange.now new c.cut.new.exchange) (sym c.in-Cut.is)
    (acted (λ i v. (goal.System-dyn g (i, v)).meaning v) _ _ c.cut.result old c.args.exchange.now new _ c.cut.ensures.acts)

pub returns-in-Bend-clause-loads : goal.returns-in-Bend-clause-loads
returns-in-Bend-clause-loads g c =
    let old = c.args.client.now in
    let new = c.bend.new.client in
    subst (λ (x : Step). LoadsBy (λ i v. (goal.System-dyn g (i, v)).meaning v) x c.bend.result old c.args.exchange.now new c.args.exchange.now)
    (sym c.in-Bend.is)
    (acted (λ i v. (goal.System-dyn g (i, v)).meaning v) _ _ c.bend.result old c.args.exchange.now new _ c.bend.ensures.acts)

pub returns-in-Down-clause-loads : goal.returns-in-Down-clause-loads
returns-in-Down-clause-loads g c =
    let old = c.args.client.now in
    let new = c.down.new.client in
    subst (λ (x : Step). LoadsBy (λ i v. (goal.System-dyn g (i, v)).meaning v) x c.down.result old c.args.exchange.now new c.down.new.exchange)
    (sym c.in-Down.is)
    c.down.ensures.loads

pub returns-in-Up-clause-loads : goal.returns-in-Up-clause-loads
returns-in-Up-clause-loads g c =
    let client = c.args.client.now in
    let setup = client.setup.now in
    let life = life_at client.stage client.board in
    record {
      made = subst (λ x. IfOk c.rise.result (λ events. Makes setup x life c.args.exchange.now life c.rise.new.self events)) (sym c.in-Up.is)
          (up_makes setup c.in-Up.number life c.args.exchange.now c.rise.new.self c.rise.result (c.rise.ensures.stands setup) (c.rise.ensures.events setup));
      sound = anyway c.rise.result c.requires.may.acts.sound;
      built = search rules;
      most = search rules;
      loads = λ s at. unbuilt (has_load (events_by setup s c.args.step.now)) _;
      setup = refl;
      rules = search rules;
    }

-- ---- what takes no memory

pub returns-in-Order-clause-idle : goal.returns-in-Order-clause-idle
returns-in-Order-clause-idle g c =
    let client = c.args.client.now in
    let life = life_at client.stage client.board in
    subst (λ (x : Step). WhereIdle client.setup.now x life c.args.exchange.now (IsOk c.order.result)) (sym c.in-Order.is)
    (order_idle client.setup.now c.in-Order.number c.in-Order.command life c.args.exchange.now (IsOk c.order.result) c.order.ensures.idle)

pub returns-in-Up-clause-idle : goal.returns-in-Up-clause-idle
returns-in-Up-clause-idle g c =
    let client = c.args.client.now in
    let life = life_at client.stage client.board in
    let is_client = subst (λ (x : Step). IsClient c.args.exchange.now.server (client_of x)) c.in-Up.is c.requires.may.acts.client in
    subst (λ (x : Step). WhereIdle client.setup.now x life c.args.exchange.now (IsOk c.rise.result)) (sym c.in-Up.is)
    (up_idle client.setup.now c.in-Up.number life c.args.exchange.now (IsOk c.rise.result) is_client (λ none. subst IsOk (sym (c.rise.ensures.none none)) refl))

pub returns-in-Down-clause-idle : goal.returns-in-Down-clause-idle
returns-in-Down-clause-idle g c =
    let client = c.args.client.now in
    let life = life_at client.stage client.board in
    let is_client = subst (λ (x : Step). IsClient c.args.exchange.now.server (client_of x)) c.in-Down.is c.requires.may.acts.client in
    subst (λ (x : Step). WhereIdle client.setup.now x life c.args.exchange.now (IsOk c.down.result)) (sym c.in-Down.is)
    (down_idle client.setup.now c.in-Down.number life c.args.exchange.now (IsOk c.down.result) is_client c.down.ensures.idle)

pub returns-in-Play-clause-idle : goal.returns-in-Play-clause-idle
returns-in-Play-clause-idle g c =
    let client = c.args.client.now in
    let life = life_at client.stage client.board in
    subst (λ (x : Step). WhereIdle client.setup.now x life c.args.exchange.now (IsOk c.play.result)) (sym c.in-Play.is)
    (play_idle client.setup.now c.in-Play.number life c.args.exchange.now (IsOk c.play.result) c.play.ensures.idle)

pub returns-in-Join-clause-idle : goal.returns-in-Join-clause-idle
returns-in-Join-clause-idle g c =
    let client = c.args.client.now in
    let life = life_at client.stage client.board in
    subst (λ (x : Step). WhereIdle client.setup.now x life c.args.exchange.now (IsOk c.join.result)) (sym c.in-Join.is)
    (join_idle client.setup.now c.in-Join.number life c.args.exchange.now (IsOk c.join.result) c.join.ensures.idle)

pub returns-in-Cut-clause-idle : goal.returns-in-Cut-clause-idle
returns-in-Cut-clause-idle g c =
    let client = c.args.client.now in
    let life = life_at client.stage client.board in
    subst (λ (x : Step). WhereIdle client.setup.now x life c.args.exchange.now (IsOk c.cut.result)) (sym c.in-Cut.is)
    (cut_idle client.setup.now c.in-Cut.number life c.args.exchange.now (IsOk c.cut.result) c.cut.ensures.acts.idle)

pub returns-in-Bend-clause-idle : goal.returns-in-Bend-clause-idle
returns-in-Bend-clause-idle g c =
    let client = c.args.client.now in
    let life = life_at client.stage client.board in
    subst (λ (x : Step). WhereIdle client.setup.now x life c.args.exchange.now (IsOk c.bend.result)) (sym c.in-Bend.is)
    (bend_idle client.setup.now c.in-Bend.number c.in-Bend.entity c.in-Bend.health life c.args.exchange.now (IsOk c.bend.result) c.bend.ensures.acts.idle)

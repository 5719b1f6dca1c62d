-- One client acts in its place in the list, and all others are as they were.
use Rattle.sim_session.proofs.session.Session.step.Goals as goal
use Rattle.sim_session.proofs.{Beside.{then_ok, then_on}, Common.{All-set, ap, AreBuilt, AreBuiltIf, arith, ChangeAt, client_of, Event, events_by, get_or}}
use Rattle.sim_session.proofs.Common.{has_load, IsMemberBy, length, length-set, life_at, List, lives_of, Makes, refl, rules, session, set, Setup, stepped_by}
use Rattle.sim_session.proofs.Common.{subst, sym, systems_by, systems_on, vec_capacity, ◌+◌, ◌-◌, ◌<◌, ◌∙◌, ◌≤◌}
use Rattle.sim_session.proofs.Stepping.{changed, events_are, goes_on_at, kinds_put, one_beside, some_beside, stepped_is, was_there}

pub act-requires-clause-may : goal.act-requires-clause-may
act-requires-clause-may g c =
    let self = c.args.self.now in
    let i = c.client_of-number.result - 1 in
    let is = c.client_of-number.ensures in
    let client = c.index_mut-client.result.now in
    let within : i < length self.clients.items = omega (arith, is, c.requires.on.session.count, c.requires.client.0, c.requires.client.1) in
    let member = subst (λ x. IsMemberBy self.setup.now x (λ i v. (goal.System-dyn g (i, v)).meaning v)) (sym c.index_mut-client.ensures.value)
    (c.requires.on.session.members i client within) in
    record {
      acts = record {
        sound = member.sound;
        client = search rules;
      };
      some = some_beside self.setup.now c.requires.on.session.limits c.args.step.now c.requires.client client.setup.now
          (record { lives = lives_of self.clients.items; held = self.exchange }) (life_at client.stage client.board)
          member.same (was_there (λ x. life_at x.stage x.board) self.clients.items (client_of c.args.step.now - 1) client _ (omega (arith, within, is))
          (c.index_mut-client.ensures.value ∙ ap (λ k. get_or self.clients.items (k - 1) client) is)) c.requires.on.some;
    }

pub returns-clause-steps : goal.returns-clause-steps
returns-clause-steps g c =
    let self = c.args.self.now in
    let i = c.client_of-number.result - 1 in
    let is = c.client_of-number.ensures in
    let client = c.index_mut-client.result.now in
    let within : i < length self.clients.items = omega (arith, is, c.requires.on.session.count, c.requires.client.0, c.requires.client.1) in
    let member = subst (λ x. IsMemberBy self.setup.now x (λ i v. (goal.System-dyn g (i, v)).meaning v)) (sym c.index_mut-client.ensures.value)
    (c.requires.on.session.members i client within) in
    let new = c.act.new.client in
    then_ok c.act.result (λ events makes. goes_on_at self.setup.now c.requires.on.session.limits c.args.step.now c.requires.client
    (λ x. life_at x.stage x.board)
    self.clients.items i client new self.exchange c.act.new.exchange events
    c.requires.on.session.count (ap (λ k. k - 1) is) c.index_mut-client.ensures.value
    (subst (λ m. Makes m c.args.step.now (life_at client.stage client.board) self.exchange (life_at new.stage new.board) c.act.new.exchange events) member.same
    makes)) c.act.ensures.loads.made

pub returns-clause-goes : goal.returns-clause-goes
returns-clause-goes g c =
    let self = c.args.self.now in
    let i = c.client_of-number.result - 1 in
    let is = c.client_of-number.ensures in
    let client = c.index_mut-client.result.now in
    let within : i < length self.clients.items = omega (arith, is, c.requires.on.session.count, c.requires.client.0, c.requires.client.1) in
    let member = subst (λ x. IsMemberBy self.setup.now x (λ i v. (goal.System-dyn g (i, v)).meaning v)) (sym c.index_mut-client.ensures.value)
    (c.requires.on.session.members i client within) in
    let new = c.act.new.client in
    let acted = c.act.ensures.loads in
    let kinds = kinds_put (λ x. systems_on x.board (λ i v. (goal.System-dyn g (i, v)).meaning v)) self.clients.items i new acted.most.kinds
    c.requires.on.session.finish.kinds in
    let many = length-set self.clients.items i new in
    let room : length (set self.clients.items i new) + length self.rigs.items ≤ vec_capacity self.rigs = omega
    (arith, many, c.requires.on.session.finish.room) in
    record {
      session = then_on c.act.result (λ sound. record {
        limits = c.requires.on.session.limits;
        members = All-set (λ x. IsMemberBy self.setup.now x (λ i v. (goal.System-dyn g (i, v)).meaning v)) self.clients.items i new
            (record { sound = sound; same = acted.setup ∙ member.same }) c.requires.on.session.members;
        count = many ∙ c.requires.on.session.count;
        served = ap (λ r. r.clients) acted.rules ∙ c.requires.on.session.served;
        finish = record { kinds = kinds; room = room };
      }) acted.sound;
      keeps = record {
        finish = record { kinds = kinds; room = room };
        setup = refl;
        spare = refl;
        room = refl;
        count = many;
      };
    }

pub returns-clause-takes : goal.returns-clause-takes
returns-clause-takes g c =
    let self = c.args.self.now in
    let i = c.client_of-number.result - 1 in
    let is = c.client_of-number.ensures in
    let client = c.index_mut-client.result.now in
    let within : i < length self.clients.items = omega (arith, is, c.requires.on.session.count, c.requires.client.0, c.requires.client.1) in
    let member = subst (λ x. IsMemberBy self.setup.now x (λ i v. (goal.System-dyn g (i, v)).meaning v)) (sym c.index_mut-client.ensures.value)
    (c.requires.on.session.members i client within) in
    let new = c.act.new.client in
    let own = life_at client.stage client.board in
    let x = c.args.step.now in
    let acted = c.act.ensures.loads in
    let old_systems = systems_by self.clients.items (λ i v. (goal.System-dyn g (i, v)).meaning v) in
    let new_systems = systems_by (set self.clients.items i new) (λ i v. (goal.System-dyn g (i, v)).meaning v) in
    let here = was_there (λ x. life_at x.stage x.board) self.clients.items (client_of x - 1) client _ (omega (arith, within, is))
    (c.index_mut-client.ensures.value ∙ ap (λ k. get_or self.clients.items (k - 1) client) is) in
    record {
      built = then_ok c.act.result (λ events built. subst (λ k. ChangeAt (AreBuiltIf (has_load events)) (k - 1) old_systems new_systems) is
          (changed (AreBuiltIf (has_load events)) (λ x. systems_on x.board (λ i v. (goal.System-dyn g (i, v)).meaning v)) self.clients.items i client new
          within
          c.index_mut-client.ensures.value built)) acted.built;
      most = subst (λ k. ChangeAt AreBuilt (k - 1) old_systems new_systems) is
          (changed AreBuilt (λ x. systems_on x.board (λ i v. (goal.System-dyn g (i, v)).meaning v)) self.clients.items i client new within
          c.index_mut-client.ensures.value acted.most);
      loads = λ active steps few stands.
          let s = session self.setup.now active steps in
          let at = one_beside self.setup.now c.requires.on.session.limits x c.requires.client client.setup.now
          (record { lives = lives_of self.clients.items; held = self.exchange }) own member.same here s stands in
          let events = events_are self.setup.now c.requires.on.session.limits x c.requires.client s in
          let there = sym (events ∙ ap (λ (m : Setup). events_by m s x) (sym member.same)) in
          subst (λ (es : List Event). ChangeAt (AreBuiltIf (has_load es)) (client_of x - 1) old_systems new_systems) there
          (subst (λ k. ChangeAt (AreBuiltIf (has_load (events_by client.setup.now s x))) (k - 1) old_systems new_systems) is
          (changed (AreBuiltIf (has_load (events_by client.setup.now s x))) (λ x. systems_on x.board (λ i v. (goal.System-dyn g (i, v)).meaning v))
          self.clients.items i client new within
          c.index_mut-client.ensures.value (acted.loads s at)));
      idle = λ active steps few stands idle.
          let s = session self.setup.now active steps in
          let at = one_beside self.setup.now c.requires.on.session.limits x c.requires.client client.setup.now
          (record { lives = lives_of self.clients.items; held = self.exchange }) own member.same here s stands in
          c.act.ensures.idle s at
          (ap (λ (m : Setup). events_by m s x) member.same ∙ sym (events_are self.setup.now c.requires.on.session.limits x c.requires.client s) ∙ idle.shown)
          (ap (λ (m : Setup). stepped_by m s x) member.same ∙ sym (stepped_is self.setup.now c.requires.on.session.limits x c.requires.client s) ∙ idle.same);
    }

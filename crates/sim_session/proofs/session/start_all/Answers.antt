-- One more client has begun.
use Rattle.sim_session.proofs.session.start_all.Goals as goal
use Rattle.sim_session.proofs.Common.{All-set, ap, AreBuilt, arith, IsMemberBy, length, length-set, life_at, set, starts, subst, sym, systems_by, systems_on}
use Rattle.sim_session.proofs.{Common.{◌+◌, ◌<◌, ◌∙◌}, Stepping.{begun_more, changed, kinds_put, next_was, others_more, starts_more, starts_on}}

pub start-requires-clause-sound : goal.start-requires-clause-sound
start-requires-clause-sound g c =
    let clients = c.loop-i.clients.items in
    let i = c.loop-i.i in
    let was = c.loop-i.invariant in
    let client = c.index_mut-client.result.now in
    let is = c.index_mut-client.ensures.value in
    let within : i < length clients = omega (arith, c.loop-i-test.true, was.count, c.requires.count) in
    let member = subst (λ x. IsMemberBy c.args.setup.now x (λ i v. (goal.System-dyn g (i, v)).meaning v)) (sym is) (was.members i client within) in
    member.sound

pub start-requires-clause-off : goal.start-requires-clause-off
start-requires-clause-off g c =
    let clients = c.loop-i.clients.items in
    let i = c.loop-i.i in
    let was = c.loop-i.invariant in
    let client = c.index_mut-client.result.now in
    let is = c.index_mut-client.ensures.value in
    let within : i < length clients = omega (arith, c.loop-i-test.true, was.count, c.requires.count) in
    sym (next_was (λ x. life_at x.stage x.board) c.args.clients.now.items clients i client within is was.others) ∙ c.requires.off (i + 1) (omega arith)
    (omega (arith, c.loop-i-test.true))

pub returns-in_err-start-clause-others : goal.returns-in_err-start-clause-others
returns-in_err-start-clause-others g c =
    others_more (λ x. life_at x.stage x.board) c.args.clients.now.items c.loop-i.clients.items c.loop-i.i c.args.count c.start.new.self c.loop-i-test.true
    c.loop-i.invariant.others

pub returns-in_err-start-clause-kinds : goal.returns-in_err-start-clause-kinds
returns-in_err-start-clause-kinds g c =
    kinds_put (λ x. systems_on x.board (λ i v. (goal.System-dyn g (i, v)).meaning v)) c.loop-i.clients.items c.loop-i.i c.start.new.self
    c.start.ensures.ends.kinds
    c.loop-i.invariant.kinds

pub returns-in_err-start-clause-built : goal.returns-in_err-start-clause-built
returns-in_err-start-clause-built g c =
    let clients = c.loop-i.clients.items in
    let i = c.loop-i.i in
    let was = c.loop-i.invariant in
    let client = c.index_mut-client.result.now in
    let is = c.index_mut-client.ensures.value in
    let within : i < length clients = omega (arith, c.loop-i-test.true, was.count, c.requires.count) in
    let new = c.start.new.self in
    starts_more (i + 1) c.args.count (systems_by c.args.clients.now.items (λ i v. (goal.System-dyn g (i, v)).meaning v))
    (systems_by (set clients i new) (λ i v. (goal.System-dyn g (i, v)).meaning v))
    (omega (arith, c.loop-i-test.true))
    (starts_on i (systems_by c.args.clients.now.items (λ i v. (goal.System-dyn g (i, v)).meaning v))
    (systems_by clients (λ i v. (goal.System-dyn g (i, v)).meaning v))
    (systems_by (set clients i new) (λ i v. (goal.System-dyn g (i, v)).meaning v)) was.built
    (changed AreBuilt (λ x. systems_on x.board (λ i v. (goal.System-dyn g (i, v)).meaning v)) clients i client new within is
    (record { kinds = c.start.ensures.ends.kinds; most = c.start.ensures.ends.most })))

pub loop-i-preserved : goal.loop-i-preserved
loop-i-preserved g c =
    let clients = c.loop-i.clients.items in
    let i = c.loop-i.i in
    let was = c.loop-i.invariant in
    let client = c.index_mut-client.result.now in
    let is = c.index_mut-client.ensures.value in
    let within : i < length clients = omega (arith, c.loop-i-test.true, was.count, c.requires.count) in
    let member = subst (λ x. IsMemberBy c.args.setup.now x (λ i v. (goal.System-dyn g (i, v)).meaning v)) (sym is) (was.members i client within) in
    let new = c.start.new.self in
    record {
      count = length-set clients i new ∙ was.count;
      members = All-set (λ x. IsMemberBy c.args.setup.now x (λ i v. (goal.System-dyn g (i, v)).meaning v)) clients i new
          (record { sound = c.in_ok-start.ensures.ends.sound; same = c.in_ok-start.ensures.ends.setup ∙ member.same }) was.members;
      kinds = kinds_put (λ x. systems_on x.board (λ i v. (goal.System-dyn g (i, v)).meaning v)) clients i new c.start.ensures.ends.kinds was.kinds;
      begun = begun_more (λ x. life_at x.stage x.board) clients i new (starts c.args.setup.now) within (c.in_ok-start.ensures.begins ∙ ap starts member.same)
          was.begun;
      others = others_more (λ x. life_at x.stage x.board) c.args.clients.now.items clients i (i + 1) new (omega arith) was.others;
      built = (starts_on i (systems_by c.args.clients.now.items (λ i v. (goal.System-dyn g (i, v)).meaning v))
          (systems_by clients (λ i v. (goal.System-dyn g (i, v)).meaning v))
          (systems_by (set clients i new) (λ i v. (goal.System-dyn g (i, v)).meaning v)) was.built
          (changed AreBuilt (λ x. systems_on x.board (λ i v. (goal.System-dyn g (i, v)).meaning v)) clients i client new within is
          (record { kinds = c.start.ensures.ends.kinds; most = c.start.ensures.ends.most })));
    }

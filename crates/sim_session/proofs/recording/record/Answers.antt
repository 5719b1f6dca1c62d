-- The commands of the released turns, after the beginning and all steps.
use Rattle.sim_session.proofs.recording.record.Goals as goal
use Rattle.sim_session.proofs.Builds.{built_at_start, built_with_steps, keeps_on}
use Rattle.sim_session.proofs.TextCommon.{AllBuiltAtMost, events_after, length-map, loads_in, opened, Setup, subst, systems_by, systems_on, ◌∙◌}

pub returns-in_err-start-clause-built : goal.returns-in_err-start-clause-built
returns-in_err-start-clause-built g c =
    let first = systems_by c.args.session.now.clients.items (λ i v. (goal.System-dyn g (i, v)).meaning v) in
    let next = systems_by c.start.new.self.clients.items (λ i v. (goal.System-dyn g (i, v)).meaning v) in
    let many = length-map c.args.session.now.clients.items (λ x. systems_on x.board (λ i v. (goal.System-dyn g (i, v)).meaning v)) ∙ c.requires.session.count in
    built_at_start c.args.session.now.setup.now c.args.list.now first next many c.start.ensures.built

pub returns-in_err-make_steps-clause-built : goal.returns-in_err-make_steps-clause-built
returns-in_err-make_steps-clause-built g c =
    let list = c.args.list.now in
    let first = systems_by c.args.session.now.clients.items (λ i v. (goal.System-dyn g (i, v)).meaning v) in
    let next = systems_by c.start.new.self.clients.items (λ i v. (goal.System-dyn g (i, v)).meaning v) in
    let many = length-map c.args.session.now.clients.items (λ x. systems_on x.board (λ i v. (goal.System-dyn g (i, v)).meaning v)) ∙ c.requires.session.count in
    let last = systems_by c.make_steps.new.session.clients.items (λ i v. (goal.System-dyn g (i, v)).meaning v) in
    let steps = subst (λ (s : Setup). AllBuiltAtMost (loads_in (events_after s (opened s list.clients) list.steps)) s.players next last)
    c.start.ensures.goes.keeps.setup
    c.make_steps.ensures.built in
    built_with_steps c.args.session.now.setup.now list first next last many c.start.ensures.built steps

pub returns-clause-built : goal.returns-clause-built
returns-clause-built g c =
    let list = c.args.list.now in
    let first = systems_by c.args.session.now.clients.items (λ i v. (goal.System-dyn g (i, v)).meaning v) in
    let next = systems_by c.start.new.self.clients.items (λ i v. (goal.System-dyn g (i, v)).meaning v) in
    let many = length-map c.args.session.now.clients.items (λ x. systems_on x.board (λ i v. (goal.System-dyn g (i, v)).meaning v)) ∙ c.requires.session.count in
    let last = systems_by c.make_steps.new.session.clients.items (λ i v. (goal.System-dyn g (i, v)).meaning v) in
    let steps = subst (λ (s : Setup). AllBuiltAtMost (loads_in (events_after s (opened s list.clients) list.steps)) s.players next last)
    c.start.ensures.goes.keeps.setup
    c.make_steps.ensures.built in
    built_with_steps c.args.session.now.setup.now list first next last many c.start.ensures.built steps

pub returns-in_err-make_steps-clause-keeps : goal.returns-in_err-make_steps-clause-keeps
returns-in_err-make_steps-clause-keeps g c =
    keeps_on (λ i v. (goal.System-dyn g (i, v)).meaning v) c.args.session.now c.start.new.self c.make_steps.new.session c.start.ensures.goes.keeps
    c.make_steps.ensures.goes.keeps

pub returns-clause-keeps : goal.returns-clause-keeps
returns-clause-keeps g c =
    keeps_on (λ i v. (goal.System-dyn g (i, v)).meaning v) c.args.session.now c.start.new.self c.make_steps.new.session c.start.ensures.goes.keeps
    c.make_steps.ensures.goes.keeps

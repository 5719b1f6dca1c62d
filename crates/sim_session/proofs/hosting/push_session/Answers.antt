-- What is printed of the whole session.
use Rattle.sim_session.proofs.hosting.push_session.Goals as goal
use Rattle.sim_session.proofs.TextCommon.{All, AllBuiltAtMost, ap, ending_seen, events_after, IsMember, length, length-map, life_at, loads_in, opened, rules}
use Rattle.sim_session.proofs.TextCommon.{Setup, StandsFor, seen_in, session_of, session_text, string_bytes, subst, sym, systems_by, systems_on, ◌++◌, ◌∙◌}
use Rattle.sim_session.proofs.{Beside.then_on, Builds.built_at_start, Builds.built_with_steps, Builds.keeps_on, Common.anyway, Seeing.told_whole}

pub push_ending-requires-clause-clients : goal.push_ending-requires-clause-clients
push_ending-requires-clause-clients g c =
    let members = c.in_ok-push_steps.ensures.passes.goes.session.members in
    record {
      members = subst (λ clients. All (IsMember c.setup.result.now (λ i. (g.dyn-2.0.entry i).1)) clients) (sym c.clients.ensures)
          (λ k d lt. record { sound = (members k d lt).sound; same = (members k d lt).same ∙ sym c.setup.ensures });
      few = search rules;
    }

pub returns-clause-text : goal.returns-clause-text
returns-clause-text g c =
    let begun = c.start.new.self.setup.now in
    let made = c.push_steps.new.session in
    let list = c.args.list.now in
    let old = string_bytes c.args.text.now in
    let after_starts = string_bytes c.push_starts.new.text in
    let after_steps = string_bytes c.push_steps.new.text in
    let new = string_bytes c.push_ending.new.out in
    let setup_is = c.setup.ensures ∙ c.in_ok-push_steps.ensures.passes.goes.keeps.setup in
    let clients_are = c.clients.ensures in
    let held_is = c.exchange.ensures in
    let count = c.in_ok-push_steps.ensures.passes.goes.session.count ∙ ap (λ (s : Setup). s.players) c.in_ok-push_steps.ensures.passes.goes.keeps.setup in
    then_on c.push_ending.result
    (λ told.
    told_whole begun list (seen_in made) (length made.clients.items) old after_starts after_steps new count c.in_ok-push_steps.ensures.passes.stands
    c.in_ok-push_starts.ensures c.in_ok-push_steps.ensures.text
    (told ∙ (λ i. after_steps ++ ending_seen (setup_is i) (life_at (clients_are i)) (held_is i) (length (clients_are i))))
    ∙ ap (λ (s : Setup). old ++ session_text s list) c.in_ok-start.ensures.goes.keeps.setup)
    c.push_ending.ensures

pub returns-in_err-start-clause-passes : goal.returns-in_err-start-clause-passes
returns-in_err-start-clause-passes g c =
    let first = systems_by c.args.session.now.clients.items (λ i v. (goal.System-dyn g (i, v)).meaning v) in
    let next = systems_by c.start.new.self.clients.items (λ i v. (goal.System-dyn g (i, v)).meaning v) in
    let many = length-map c.args.session.now.clients.items (λ x. systems_on x.board (λ i v. (goal.System-dyn g (i, v)).meaning v)) ∙ c.requires.session.count in
    record {
      stands = search rules;
      built = built_at_start c.args.session.now.setup.now c.args.list.now first next many c.start.ensures.built;
      goes = record { session = search rules; keeps = c.start.ensures.goes.keeps };
    }

pub returns-in_err-push_starts-clause-passes : goal.returns-in_err-push_starts-clause-passes
returns-in_err-push_starts-clause-passes g c =
    let first = systems_by c.args.session.now.clients.items (λ i v. (goal.System-dyn g (i, v)).meaning v) in
    let next = systems_by c.start.new.self.clients.items (λ i v. (goal.System-dyn g (i, v)).meaning v) in
    let many = length-map c.args.session.now.clients.items (λ x. systems_on x.board (λ i v. (goal.System-dyn g (i, v)).meaning v)) ∙ c.requires.session.count in
    record {
      stands = search rules;
      built = built_at_start c.args.session.now.setup.now c.args.list.now first next many c.start.ensures.built;
      goes = record { session = search rules; keeps = c.start.ensures.goes.keeps };
    }

pub returns-in_err-push_steps-clause-passes : goal.returns-in_err-push_steps-clause-passes
returns-in_err-push_steps-clause-passes g c =
    let list = c.args.list.now in
    let first = systems_by c.args.session.now.clients.items (λ i v. (goal.System-dyn g (i, v)).meaning v) in
    let next = systems_by c.start.new.self.clients.items (λ i v. (goal.System-dyn g (i, v)).meaning v) in
    let many = length-map c.args.session.now.clients.items (λ x. systems_on x.board (λ i v. (goal.System-dyn g (i, v)).meaning v)) ∙ c.requires.session.count in
    let last = systems_by c.push_steps.new.session.clients.items (λ i v. (goal.System-dyn g (i, v)).meaning v) in
    let steps = subst (λ (s : Setup). AllBuiltAtMost (loads_in (events_after s (opened s list.clients) list.steps)) s.players next last)
    c.start.ensures.goes.keeps.setup
    c.push_steps.ensures.passes.built in
    record {
      stands = search rules;
      built = built_with_steps c.args.session.now.setup.now list first next last many c.start.ensures.built steps;
      goes = record {
        session = search rules;
        keeps = keeps_on (λ i v. (goal.System-dyn g (i, v)).meaning v) c.args.session.now c.start.new.self c.push_steps.new.session c.start.ensures.goes.keeps
            c.push_steps.ensures.passes.goes.keeps;
      };
    }

pub returns-clause-passes : goal.returns-clause-passes
returns-clause-passes g c =
    let list = c.args.list.now in
    let first = systems_by c.args.session.now.clients.items (λ i v. (goal.System-dyn g (i, v)).meaning v) in
    let next = systems_by c.start.new.self.clients.items (λ i v. (goal.System-dyn g (i, v)).meaning v) in
    let many = length-map c.args.session.now.clients.items (λ x. systems_on x.board (λ i v. (goal.System-dyn g (i, v)).meaning v)) ∙ c.requires.session.count in
    let last = systems_by c.push_steps.new.session.clients.items (λ i v. (goal.System-dyn g (i, v)).meaning v) in
    let steps = subst (λ (s : Setup). AllBuiltAtMost (loads_in (events_after s (opened s list.clients) list.steps)) s.players next last)
    c.start.ensures.goes.keeps.setup
    c.push_steps.ensures.passes.built in
    record {
      stands = anyway c.push_ending.result
          (subst (λ (s : Setup). StandsFor s (seen_in c.push_steps.new.session) (session_of s list)) c.start.ensures.goes.keeps.setup
          c.in_ok-push_steps.ensures.passes.stands);
      built = built_with_steps c.args.session.now.setup.now list first next last many c.start.ensures.built steps;
      goes = record {
        session = anyway c.push_ending.result c.in_ok-push_steps.ensures.passes.goes.session;
        keeps = keeps_on (λ i v. (goal.System-dyn g (i, v)).meaning v) c.args.session.now c.start.new.self c.push_steps.new.session c.start.ensures.goes.keeps
            c.push_steps.ensures.passes.goes.keeps;
      };
    }

-- The groups after the change are those of the facts after it.
use Rattle.sim_watch.proofs.{Aiming.{aimed_groups, gone_groups}, Common.{aim_of, Aimer, ap, fact_with, facts_in, kept, List, sym, Watch, with_only, ℕ, ◌∙◌}}
use Rattle.sim_watch.proofs.watch.Watch.aim.Goals as goal

pub returns-then-to-eq0-clause-ok : goal.returns-then-to-eq0-clause-ok
returns-then-to-eq0-clause-ok c =
    let facts = facts_in c.args.self.now.aimers.aimers.items in
    c.let_go-from.ensures.aims.facts ∙ ap (λ (target : ℕ). with_only c.args.id (kept Watch (aim_of c.args.id target)) facts) (sym c.if-to-eq0.true)

pub invariant_of-self-2 : goal.invariant_of-self-2
invariant_of-self-2 c =
    let s = c.args.self.now in
    let same = c.in_ok-make_room.ensures.same in
    record {
      listed = aimed_groups s.aimers.aimers.items s.aimers.ascend c.args.id c.aim-from.result c.args.to c.aim-from.new.self.aimers.items s.groups.groups.items
          c.make_room-2.new.groups.groups.items c.leave-2.new.groups.groups.items c.join.new.groups.groups.items s.listed
          (ap (λ (aimers : List Aimer). fact_with (facts_in aimers) c.args.id) (sym same) ∙ c.aim-from.ensures.target)
          (c.aim-from.ensures.facts ∙ ap (λ (aimers : List Aimer). with_only c.args.id (kept Watch (aim_of c.args.id c.args.to)) (facts_in aimers)) same)
          c.in_ok-make_room-2.ensures.same c.leave-2.ensures.left c.join.ensures;
    }

pub invariant_of-self : goal.invariant_of-self
invariant_of-self c =
    let s = c.args.self.now in
    record {
      listed = gone_groups s.aimers.aimers.items s.aimers.ascend c.args.id c.let_go-from.result c.let_go-from.new.self.aimers.items s.groups.groups.items
          c.leave.new.groups.groups.items s.listed c.let_go-from.ensures.aims.target c.let_go-from.ensures.aims.facts c.leave.ensures.left;
    }

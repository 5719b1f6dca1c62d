-- What an entity sees itself does not depend on it.
use Rattle.sim_range.proofs.ready.Sights.take_up.Goals as goal
use Rattle.sim_range.proofs.{Common.{AreChanging, Fact, fact_with, Holds, List, SeesFrom, SeesWithin, subst, sym}, Lending.{all_only, taken_up}, Seeing.own_is}

pub invariant_of-held : goal.invariant_of-held
invariant_of-held c = record {
  holds = subst (Holds c.in-Some.land) (sym c.as_slice-facts.ensures.value) (c.args.kept.now.held c.in-Some.land c.in-Some.is);
}

pub put-requires-clause-own : goal.put-requires-clause-own
put-requires-clause-own c =
    own_is c.in-Some.land c.args.id c.args.after.now c.args.kept.now.facts.items c.as_slice-facts.result.now c.args.self.now.plan.own.ids.items
    c.as_slice-facts.ensures.value (c.args.kept.now.held c.in-Some.land c.in-Some.is).held.ascending c.requires.named
    ((c.requires.ready c.if-not-self.false).own c.in-Some.land c.in-Some.is)

pub put-requires-clause-sights : goal.put-requires-clause-sights
put-requires-clause-sights c =
    c.turn_all.ensures.changed
    (subst (AreChanging c.in-Some.land c.as_slice-facts.result.now (fact_with c.as_slice-facts.result.now c.args.id) c.args.after.now)
    (sym c.as_slice.ensures.value)
    (subst (λ (fs : List Fact). AreChanging c.in-Some.land fs (fact_with fs c.args.id) c.args.after.now c.args.self.now.plan.watchers.items)
    (sym c.as_slice-facts.ensures.value) ((c.requires.ready c.if-not-self.false).changing c.in-Some.land c.in-Some.is)))

pub returns-clause-kept : goal.returns-clause-kept
returns-clause-kept c keeps =
    let s = c.args.self.now in
    let kept = c.args.kept.now in
    let old = c.requires.kept keeps in
    let ready = c.requires.ready keeps in
    record {
      all = taken_up kept.land c.in-Some.land kept.facts.items c.as_slice-facts.result.now c.args.id c.args.after.now c.put.new.sights.items c.in-Some.is
          c.as_slice-facts.ensures.value c.put.ensures;
      near = all_only (SeesFrom s.visions.near) c.args.id c.args.after.now kept.facts.items old.near ready.near;
      far = all_only (SeesWithin s.visions.far) c.args.id c.args.after.now kept.facts.items old.far ready.far;
    }

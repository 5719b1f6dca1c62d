-- Where an entity stands among the facts, what it sees stands among the sights.
use Rattle.sim_range.proofs.Common.{List, arith, Ascend, Fact, Stands, subst, sym}
use Rattle.sim_range.proofs.Lending.{ascend_any, blind_there, lent_sight, none_there, sees_there, within_any}
use Rattle.sim_range.proofs.range.Range.kept.Goals as goal

pub place_of-requires : goal.place_of-requires
place_of-requires c = let s = c.args.self.now in subst Ascend (sym c.as_slice.ensures.value)
    (ascend_any s.kept.land s.kept.facts.items s.sights.all.items s.kept.held s.bare (s.seen c.if-not-self.false).all)

pub returns-in_default-clause-when : goal.returns-in_default-clause-when
returns-in_default-clause-when c keeps = none_there _ c.args.self.now.kept.facts.items c.args.id c.in_default.field-0 c.as_slice.ensures.value
    c.in_default.ensures

pub returns-then-is_none-clause-when : goal.returns-then-is_none-clause-when
returns-then-is_none-clause-when c keeps =
    let s = c.args.self.now in
    blind_there _ s.kept.facts.items c.args.id c.in-Ok.at c.as_slice.ensures.value c.index.result.now
    (ascend_any s.kept.land s.kept.facts.items s.sights.all.items s.kept.held s.bare (s.seen keeps).all) c.in-Ok.ensures c.index.ensures
    c.if-is_none.ensures

pub index-requires-2 : goal.index-requires-2
index-requires-2 c =
    let s = c.args.self.now in
    let there = subst (λ (fs : List Fact). Stands fs c.args.id c.in-Ok.at) c.as_slice.ensures.value c.in-Ok.ensures in
    let lt = within_any s.kept.land s.kept.facts.items s.sights.all.items s.kept.held s.bare (s.seen c.if-not-self.false).all c.in-Ok.at there.within in
    omega (arith, lt)

pub returns-clause-ids : goal.returns-clause-ids
returns-clause-ids c =
    let s = c.args.self.now in
    let there = subst (λ (fs : List Fact). Stands fs c.args.id c.in-Ok.at) c.as_slice.ensures.value c.in-Ok.ensures in
    lent_sight s.kept.land s.kept.facts.items s.sights.all.items s.kept.held s.bare (s.seen c.if-not-self.false).all c.args.id c.in-Ok.at c.index.result.now
    c.index-2.result.now c.as_slice-2.result.now there c.index-2.ensures c.as_slice-2.ensures.value

pub returns-clause-when : goal.returns-clause-when
returns-clause-when c keeps =
    let s = c.args.self.now in
    sees_there _ s.kept.facts.items c.args.id c.in-Ok.at c.as_slice.ensures.value c.index.result.now
    (ascend_any s.kept.land s.kept.facts.items s.sights.all.items s.kept.held s.bare (s.seen keeps).all) c.in-Ok.ensures c.index.ensures
    c.if-is_none.ensures

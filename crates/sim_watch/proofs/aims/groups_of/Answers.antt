-- One entity more aims, if it has a target.
use Rattle.{sim_fact_lists.proofs.Grouping.one_more_grouped, sim_watch.proofs.Common.{aim_key, ap, arith, joined_by, kept, Watch, ◌∙◌}}

pub loop-fact-preserved : Rattle.sim_watch.proofs.aims.groups_of.Goals.loop-fact-preserved
loop-fact-preserved c =
    one_more_grouped aim_key Watch c.args.facts.now c.loop-fact.fact-index c.fact-item.result c.loop-fact.groups.groups.items c.join.new.groups.groups.items
    c.requires c.loop-fact.invariant (grind arith) c.fact-item.is
    (λ t. c.join.ensures t ∙ ap (joined_by aim_key (kept Watch c.fact-item.result) t) (c.in_ok-make_room.ensures.same t))

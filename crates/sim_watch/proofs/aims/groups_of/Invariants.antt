use Rattle.sim_watch.proofs.Common.{take, aim_key, AreGroups, kept_of, Watch}

abbrev pub invariant-loop-fact : Rattle.sim_watch.proofs.aims.groups_of.Given.invariant-loop-fact
invariant-loop-fact l = AreGroups aim_key (kept_of Watch (take l.fact-index l.facts)) l.groups.groups.items

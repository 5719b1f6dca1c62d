-- The first id leaves; another is taken out behind those that left.
use Rattle.sim_fact_lists.proofs.{Common.{ap, arith, drop, length-drop, queued, refl, remove, sym, ◌+◌, ◌∙◌}, Queuing.{first_leaves, removed_behind}}

pub returns-then-at-eq0-clause-ids : Rattle.sim_fact_lists.proofs.queue.Queue.remove.Goals.returns-then-at-eq0-clause-ids
returns-then-at-eq0-clause-ids c =
    let s = c.args.self.now in
    first_leaves s.left s.ids.items ∙ ap (remove (queued s)) (sym c.if-at-eq0.true)

pub returns-clause-ids : Rattle.sim_fact_lists.proofs.queue.Queue.remove.Goals.returns-clause-ids
returns-clause-ids c =
    let s = c.args.self.now in
    ap (drop s.left) c.remove.ensures.items ∙ removed_behind s.left s.ids.items (s.left + c.args.at) c.args.at refl
    (omega (arith, length-drop s.left s.ids.items))

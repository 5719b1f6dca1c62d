-- The fact that is kept beside the function, which is called where the box leads.
use Rattle.sim_orders.proofs.Common.{subst}

pub returns : Rattle.sim_orders.proofs.table.Handler.plan.Goals.returns
returns g c =
    c.args.self.now.obeys c.args.alloc c.args.task c.call.result c.requires
    (subst (λ run. (g.dyn-1.0.entry run.0).1.post run.1 (c.args.alloc, (c.args.task, tt)) c.call.result) c.deref_box-1.ensures.1 c.call.ensures.0)

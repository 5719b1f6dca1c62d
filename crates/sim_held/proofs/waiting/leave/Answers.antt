-- What waits for others is as it was, and has frames.
use Rattle.sim_held.proofs.{Common.◌∙◌, Common.ap, Common.subst, Common.sym, Serving.own_left, Waits.full_small, Waits.full_waits, Waits.others_small}
use Rattle.sim_held.{proofs.Waits.others_wait, specs.Servers.AreSmall, specs.Servers.waiting}
use Rattle.sim_held.proofs.waiting.leave.Goals as goal

pub returns-clause-said : goal.returns-clause-said
returns-clause-said c = λ d.
    ap (λ l. waiting l d) c.drop_empty.ensures.said ∙ full_waits d c.keep_others.new.said.items ∙ ap (λ l. waiting l d) c.keep_others.ensures.said
    ∙ others_wait c.args.to d c.args.said.now.items

pub returns-clause-small : goal.returns-clause-small
returns-clause-small c = λ small.
    subst AreSmall (sym c.drop_empty.ensures.said)
    (full_small c.keep_others.new.said.items (subst AreSmall (sym c.keep_others.ensures.said) (others_small c.args.to c.args.said.now.items small)))

pub returns-clause-own : goal.returns-clause-own
returns-clause-own c = λ v own. own_left v c.args.to c.args.said.now.items c.drop_empty.new.said.items
    (λ d. ap (λ l. waiting l d) c.drop_empty.ensures.said ∙ full_waits d c.keep_others.new.said.items ∙ ap (λ l. waiting l d) c.keep_others.ensures.said
    ∙ others_wait c.args.to d c.args.said.now.items) own

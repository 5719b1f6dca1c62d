use Rattle.sim_tree.proofs.nodes.stands_alone.Goals as goal
use Rattle.sim_tree.proofs.{Ascends.bears_add, Ascends.bears_mul, Ascends.bears_tokens, Common.sym}

pub returns-in-len1-up-clause-add : goal.returns-in-len1-up-clause-add
returns-in-len1-up-clause-add c = sym (bears_add c.args.value.now c.args.children.now c.in-len1-up.len_at_least)

pub returns-in-len1-up-clause-mul : goal.returns-in-len1-up-clause-mul
returns-in-len1-up-clause-mul c = sym (bears_mul c.args.value.now c.args.children.now c.in-len1-up.len_at_least)

pub returns-in-len1-up-clause-tokens : goal.returns-in-len1-up-clause-tokens
returns-in-len1-up-clause-tokens c = sym (bears_tokens c.args.value.now c.args.children.now c.in-len1-up.len_at_least)

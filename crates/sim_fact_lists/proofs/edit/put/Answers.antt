-- Each of the four edits leaves what is kept of the id, and nothing else.
use Rattle.sim_fact_lists.proofs.{Common.◌∙◌, Standing.nothing_new, Standing.put_new, Standing.put_nothing, Standing.put_over}
use Rattle.sim_fact_lists.proofs.edit.put.Goals as goal

pub returns-in-Ok-Some-clause-ok : goal.returns-in-Ok-Some-clause-ok
returns-in-Ok-Some-clause-ok c = put_over _ c.args.facts.now.items c.args.id c.in-Ok-Some.at c.args.part.now _ c.as_slice.ensures.value c.requires.ascending
    c.in-Ok-Some.ensures c.in-Ok-Some.is-1 c.requires.named

pub returns-in-Ok-None-clause-ok : goal.returns-in-Ok-None-clause-ok
returns-in-Ok-None-clause-ok c = c.remove.ensures.items ∙ put_nothing _ c.args.facts.now.items c.args.id c.in-Ok-None.at c.args.part.now
    c.as_slice.ensures.value c.requires.ascending c.in-Ok-None.ensures c.in-Ok-None.is-1

pub returns-in_ok-insert-in-Err-Some-clause-ok : goal.returns-in_ok-insert-in-Err-Some-clause-ok
returns-in_ok-insert-in-Err-Some-clause-ok c = c.in_ok-insert-in-Err-Some.ensures.items ∙ put_new _ c.args.facts.now.items c.args.id c.in-Err-Some.at
    c.args.part.now _ c.as_slice.ensures.value c.in-Err-Some.ensures c.in-Err-Some.is-1 c.requires.named

pub returns-in-Err-None-clause-ok : goal.returns-in-Err-None-clause-ok
returns-in-Err-None-clause-ok c = nothing_new _ c.args.facts.now.items c.args.id c.in-Err-None.field-0-0 c.args.part.now c.as_slice.ensures.value
    c.in-Err-None.ensures c.in-Err-None.is-1

-- What is told of a state is in range.
use Rattle.sim_board.proofs.{Common.{ap, AreInRange, Meaning, state_in_range, subst, sym, ◌∙◌}, Counting.{built_once, not_built}}
use Rattle.sim_board.proofs.build.build.Goals as goal

pub rebuild-requires-clause-facts : goal.rebuild-requires-clause-facts
rebuild-requires-clause-facts g c = subst (AreInRange c.args.setup.now.land) (sym (c.as_slice-facts.ensures ∙ c.in_ok-facts.ensures))
    (state_in_range c.args.setup.now c.args.state.now c.requires.loose.limits c.requires.loose.valid)

pub rebuild-requires-2-clause-facts : goal.rebuild-requires-2-clause-facts
rebuild-requires-2-clause-facts g c = subst (AreInRange c.args.setup.now.land) (sym (c.as_slice-facts.ensures ∙ c.in_ok-facts.ensures))
    (state_in_range c.args.setup.now c.args.state.now c.requires.loose.limits c.requires.loose.valid)

pub rebuild-requires-3-clause-facts : goal.rebuild-requires-3-clause-facts
rebuild-requires-3-clause-facts g c = subst (AreInRange c.args.setup.now.land) (sym (c.as_slice-facts.ensures ∙ c.in_ok-facts.ensures))
    (state_in_range c.args.setup.now c.args.state.now c.requires.loose.limits c.requires.loose.valid)

pub rebuild-requires-4-clause-facts : goal.rebuild-requires-4-clause-facts
rebuild-requires-4-clause-facts g c = subst (AreInRange c.args.setup.now.land) (sym (c.as_slice-facts.ensures ∙ c.in_ok-facts.ensures))
    (state_in_range c.args.setup.now c.args.state.now c.requires.loose.limits c.requires.loose.valid)

pub returns-in_err-rebuild-clause-most : goal.returns-in_err-rebuild-clause-most
returns-in_err-rebuild-clause-most g c = record {
  ground = built_once _ _ (ap (λ (m : Meaning). m.rebuilds) c.in_err-rebuild.ensures.err);
  range = not_built _;
  watch = not_built _;
  census = not_built _;
}

pub returns-in_err-rebuild-2-clause-most : goal.returns-in_err-rebuild-2-clause-most
returns-in_err-rebuild-2-clause-most g c = record {
  ground = built_once _ _ (ap (λ (m : Meaning). m.rebuilds) c.in_ok-rebuild.ensures.ok);
  range = built_once _ _ (ap (λ (m : Meaning). m.rebuilds) c.in_err-rebuild-2.ensures.err);
  watch = not_built _;
  census = not_built _;
}

pub returns-in_err-rebuild-3-clause-most : goal.returns-in_err-rebuild-3-clause-most
returns-in_err-rebuild-3-clause-most g c = record {
  ground = built_once _ _ (ap (λ (m : Meaning). m.rebuilds) c.in_ok-rebuild.ensures.ok);
  range = built_once _ _ (ap (λ (m : Meaning). m.rebuilds) c.in_ok-rebuild-2.ensures.ok);
  watch = built_once _ _ (ap (λ (m : Meaning). m.rebuilds) c.in_err-rebuild-3.ensures.err);
  census = not_built _;
}

pub returns-in_err-rebuild-4-clause-most : goal.returns-in_err-rebuild-4-clause-most
returns-in_err-rebuild-4-clause-most g c = record {
  ground = built_once _ _ (ap (λ (m : Meaning). m.rebuilds) c.in_ok-rebuild.ensures.ok);
  range = built_once _ _ (ap (λ (m : Meaning). m.rebuilds) c.in_ok-rebuild-2.ensures.ok);
  watch = built_once _ _ (ap (λ (m : Meaning). m.rebuilds) c.in_ok-rebuild-3.ensures.ok);
  census = built_once _ _ (ap (λ (m : Meaning). m.rebuilds) c.in_err-rebuild-4.ensures.err);
}

pub returns-clause-most : goal.returns-clause-most
returns-clause-most g c = record {
  ground = built_once _ _ (ap (λ (m : Meaning). m.rebuilds) c.in_ok-rebuild.ensures.ok);
  range = built_once _ _ (ap (λ (m : Meaning). m.rebuilds) c.in_ok-rebuild-2.ensures.ok);
  watch = built_once _ _ (ap (λ (m : Meaning). m.rebuilds) c.in_ok-rebuild-3.ensures.ok);
  census = built_once _ _ (ap (λ (m : Meaning). m.rebuilds) c.in_ok-rebuild-4.ensures.ok);
}

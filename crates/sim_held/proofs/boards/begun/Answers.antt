-- The first state is valid.
use Rattle.{sim_base.specs.{Limits.IsValid, Turn.first_state}, sim_held.proofs.Common.{ap, subst, sym, ◌∙◌}, sim_laws.proofs.Validity.first_state_is_valid}

pub returns-clause-valid : Rattle.sim_held.proofs.boards.begun.Goals.returns-clause-valid
returns-clause-valid g c =
    subst (IsValid c.args.setup.now) (sym (c.finish-state.ensures.state ∙ c.in_ok-start.ensures.state ∙ ap first_state c.new-board.ensures.setup))
    (first_state_is_valid c.args.setup.now c.requires.limits)

-- The text of the trial is read as a match file is.
use Rattle.{sim_top.{proofs.Common.{ap, List, setup_by, setup_of, subst, trial_match, ℕ, ◌∙◌, ◌≡◌}, specs.Stops.Reads}, sim_trial.specs.Trial.text_of_trial}

pub returns-clause-tells : Rattle.sim_top.proofs.inputs.trial_match.Goals.returns-clause-tells
unfolding trial_match
returns-clause-tells c =
    let text : c.deref.result.now ≡ text_of_trial c.args.seed c.args.units c.args.turns =
    c.deref.ensures.value ∙ c.in_ok-text.ensures ∙ ap (λ (n : ℕ). text_of_trial n c.args.units c.args.turns) c.from.ensures in
    subst (λ (bytes : List ℕ). Reads c.match_of.result (setup_by (setup_of bytes))) text c.match_of.ensures.tells

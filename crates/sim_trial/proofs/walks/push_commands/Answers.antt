-- The commands of player 2 stand behind those of player 1, who has at least one.
use Rattle.sim_trial.proofs.{Common.{ap, arith, List, on_ok_weaker, string_bytes, ℕ, ◌++◌, ◌∙◌, ◌≢◌}, OwnedSoldiers.{appended, both_walk}}

pub returns : Rattle.sim_trial.proofs.walks.push_commands.Goals.returns
returns c =
    let played : c.args.turns ≢ 0 = omega arith in
    on_ok_weaker c.push_walks-2.result
    (λ second. appended _ _ _ _ _ c.in_ok-push_walks.ensures second ∙ ap (λ (xs : List ℕ). string_bytes c.args.text.now ++ xs)
    (both_walk c.args.units c.args.turns c.requires.some played))
    c.push_walks-2.ensures

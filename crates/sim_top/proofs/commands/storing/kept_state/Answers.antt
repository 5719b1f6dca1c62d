-- A valid state has few rows, and short ways.
use Rattle.sim_top.proofs.commands.storing.kept_state.Goals as goal
use Rattle.{sim_codec.proofs.ShortWays.few_rows, sim_codec.proofs.ShortWays.short_ways, sim_top.proofs.Common.rules, sim_top.specs.Common.IsValid}

pub spell-requires-clause-short : goal.spell-requires-clause-short
spell-requires-clause-short c =
    let valid : IsValid c.args.setup.now c.in_ok-state.state = search rules in short_ways 1 c.args.setup.now c.in_ok-state.state valid

pub spell-requires-clause-few : goal.spell-requires-clause-few
spell-requires-clause-few c =
    let valid : IsValid c.args.setup.now c.in_ok-state.state = search rules in few_rows 1 c.args.setup.now c.in_ok-state.state valid

pub digest-requires-clause-short : goal.digest-requires-clause-short
digest-requires-clause-short c =
    let valid : IsValid c.args.setup.now c.in_ok-state.state = search rules in short_ways 1 c.args.setup.now c.in_ok-state.state valid

pub digest-requires-clause-few : goal.digest-requires-clause-few
digest-requires-clause-few c =
    let valid : IsValid c.args.setup.now c.in_ok-state.state = search rules in few_rows 1 c.args.setup.now c.in_ok-state.state valid

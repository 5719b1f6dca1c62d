-- The commands are no turn, and the phases behind them give one.
use Rattle.{sim_base.proofs.Lists.on_ok, sim_board.proofs.Keeping.kept_on}
use Rattle.sim_turn.proofs.{Common.{ap, setup_in, State, state_in, ◌∙◌}, Counting.{joined, joined_valid, orders_keep_turn, still_below}}

pub run_phases-requires : Rattle.sim_turn.proofs.turns.turn.Goals.run_phases-requires
run_phases-requires g c =
    let setup = setup_in c.args.board.now in
    let state = state_in c.args.board.now in
    let obeyed = c.in_ok-obey_all.ensures in
    record {
      whole = obeyed.whole;
      below = still_below setup (setup_in c.obey_all.new.board) state (state_in c.obey_all.new.board) obeyed.setup
          (ap (λ (s : State). s.turn) obeyed.state ∙ orders_keep_turn setup state c.args.commands.now) c.requires.below;
    }

pub returns : Rattle.sim_turn.proofs.turns.turn.Goals.returns
returns g c =
    let setup = setup_in c.args.board.now in
    let state = state_in c.args.board.now in
    let obeyed = c.in_ok-obey_all.ensures in
    let ran = c.run_phases.ensures in
    let middle = state_in c.obey_all.new.board in
    let orders = c.args.commands.now in
    record {
      state = on_ok c.run_phases.result _ _
          (λ is. joined setup (setup_in c.obey_all.new.board) state middle (state_in c.run_phases.new.board) orders obeyed.setup obeyed.state is) ran.state;
      valid = joined_valid c.run_phases.result setup (setup_in c.obey_all.new.board) state middle (state_in c.run_phases.new.board) orders obeyed.setup
          obeyed.state c.requires.whole.standing.limits c.requires.players c.requires.valid c.requires.below ran.state;
      whole = ran.whole;
      kept = kept_on _ _ _ obeyed.kept ran.kept;
      setup = ran.setup ∙ obeyed.setup;
    }

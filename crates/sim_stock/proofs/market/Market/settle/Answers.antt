-- The income is that of the rows which the rest of the turn leaves.
use Rattle.sim_stock.proofs.{Common.{All, ap, arith, length, Row, setup_in, State, state_in, subst, sym, ◌∙◌, ◌≡◌, ◌≤◌}, Paying.{few_owners, settled_is}}
use Rattle.sim_stock.proofs.market.Market.settle.Goals as goal

pub collect-requires-clause-owners : goal.collect-requires-clause-owners
collect-requires-clause-owners g c =
    let standing = c.in_ok-run_phases.ensures.whole.standing in
    let rows : c.as_slice-rows.result.now ≡ (state_in c.run_phases.new.board).rows = c.as_slice-rows.ensures ∙
    ap (λ (s : State). s.rows) c.scene.ensures.state in
    subst (All (λ (row : Row). row.owner ≤ 8)) (sym rows) (few_owners (setup_in c.run_phases.new.board) 0 (state_in c.run_phases.new.board) standing.limits
    standing.valid)

pub collect-requires-clause-total : goal.collect-requires-clause-total
collect-requires-clause-total g c =
    let standing = c.in_ok-run_phases.ensures.whole.standing in
    let rows : c.as_slice-rows.result.now ≡ (state_in c.run_phases.new.board).rows = c.as_slice-rows.ensures ∙
    ap (λ (s : State). s.rows) c.scene.ensures.state in
    omega (arith, ap length rows, standing.valid.few, c.requires.total)

pub returns : goal.returns
returns g c =
    let ran = c.in_ok-run_phases.ensures in
    let rows : c.as_slice-rows.result.now ≡ (state_in c.run_phases.new.board).rows = c.as_slice-rows.ensures ∙
    ap (λ (s : State). s.rows) c.scene.ensures.state in
    record {
      books = settled_is (setup_in c.args.board.now) c.args.self.now.economy.now (state_in c.args.board.now) (state_in c.run_phases.new.board)
          c.args.stocks.now c.collect.new.stocks c.as_slice-income.result.now c.as_slice-rows.result.now ran.state c.as_slice-income.ensures rows
          c.collect.ensures.stocks;
      total = omega (arith, ap length rows, ran.whole.standing.valid.few, c.collect.ensures.total);
      whole = ran.whole;
      kept = ran.kept;
      setup = ran.setup;
    }

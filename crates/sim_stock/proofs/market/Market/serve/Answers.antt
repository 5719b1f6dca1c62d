-- The command is left out, or obeyed and paid for.
use Rattle.sim_stock.proofs.Common.{List, ap, arith, price_of, Rate, refl, setup_in, state_in, ◌∙◌}
use Rattle.{sim_board.proofs.Keeping.kept_fed, sim_stock.proofs.Paying.left_out, sim_stock.proofs.Paying.served}

pub returns-then-affords : Rattle.sim_stock.proofs.market.Market.serve.Goals.returns-then-affords
returns-then-affords g c =
    let sold = c.sell.ensures in
    let prices = c.args.self.now.economy.now.prices in
    let priced = c.price_of-price.ensures ∙ ap (λ (rates : List Rate). price_of rates c.args.order.now.command) c.as_slice-prices.ensures in
    record {
      books = served c.sell.result (setup_in c.args.board.now) prices (state_in c.args.board.now) (state_in c.sell.new.board) c.args.stocks.now
          c.sell.new.stocks c.args.order.now c.price_of-price.result c.affords.result priced c.affords.ensures c.if-affords.true sold.goes.state sold.stocks;
      total = sold.total;
      whole = sold.goes.whole;
      kept = sold.goes.kept;
      setup = sold.goes.setup;
    }

pub returns : Rattle.sim_stock.proofs.market.Market.serve.Goals.returns
returns g c =
    let prices = c.args.self.now.economy.now.prices in
    let priced = c.price_of-price.ensures ∙ ap (λ (rates : List Rate). price_of rates c.args.order.now.command) c.as_slice-prices.ensures in
    record {
      books = left_out (setup_in c.args.board.now) prices (state_in c.args.board.now) c.args.stocks.now c.args.order.now c.price_of-price.result
          c.affords.result priced c.affords.ensures c.if-affords.false;
      total = omega arith;
      whole = c.requires.whole;
      kept = kept_fed _ _ _ c.requires.whole.standing.fed;
      setup = refl;
    }

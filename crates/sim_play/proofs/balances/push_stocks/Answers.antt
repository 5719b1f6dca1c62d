-- The line of one player more.
use Rattle.sim_play.proofs.Common.{◌≡◌, ℕ, ◌+◌, ◌-◌, ◌++◌, string_bytes, flat_map, amount_of, ap, arith, player_line, range_with_len, stock_line, ◌∙◌}
use Rattle.sim_play.proofs.PlayerLines.{lines_more}

pub loop-player-preserved : Rattle.sim_play.proofs.balances.push_stocks.Goals.loop-player-preserved
loop-player-preserved c =
    let i = c.loop-player.invariant in
    let player = c.loop-player.player in
    let line = player_line c.args.stocks.now in
    let old = string_bytes c.args.out.now in
    let written : string_bytes c.push_stock.new.out ≡ string_bytes c.loop-player.out ++ line player =
    c.in_ok-push_stock.ensures.ok
    ∙ ap (λ (n : ℕ). string_bytes c.loop-player.out ++ stock_line player n c.amount-metal.result) c.amount-food.ensures
    ∙ ap (λ (n : ℕ). string_bytes c.loop-player.out ++ stock_line player (amount_of player 0 c.args.stocks.now) n) c.amount-metal.ensures in
    let place : 1 + (player - 1) ≡ player = omega (arith, i.begun) in
    let next : player - 1 + 1 ≡ player + 1 - 1 = omega (arith, i.begun) in
    record {
      begun = omega arith;
      text = lines_more line 1 (player - 1) player old (string_bytes c.loop-player.out) (string_bytes c.push_stock.new.out) place i.text written
          ∙ ap (λ (n : ℕ). old ++ flat_map line (range_with_len 1 n)) next;
    }

-- The line of one player more.
use Rattle.sim_play.{proofs.PlayerLines.lines_more, specs.Realms.player_line}
use Rattle.sim_play.proofs.Common.{◌≡◌, ℕ, ◌+◌, ◌-◌, ◌<◌, ◌++◌, get_or, string_bytes, flat_map, ap, arith, held, holding_line, range_with_len, ◌∙◌}

pub loop-player-preserved : Rattle.sim_play.proofs.holdings.push_holdings.Goals.loop-player-preserved
loop-player-preserved c =
    let i = c.loop-player.invariant in
    let player = c.loop-player.player in
    let line = player_line c.args.holders.now c.args.rooted.now in
    let old = string_bytes c.args.out.now in
    let all = c.held-all.result in
    let joined = c.held_rooted-joined.result in
    let few : player < 9 = omega (arith, c.requires) in
    let written : string_bytes c.push_holding.new.out ≡ string_bytes c.loop-player.out ++ line player =
    c.in_ok-push_holding.ensures.ok
    ∙ ap (λ (n : ℕ). string_bytes c.loop-player.out ++ holding_line player (get_or all n 0) (get_or joined n 0)) c.from-place.ensures
    ∙ ap (λ (n : ℕ). string_bytes c.loop-player.out ++ holding_line player n (get_or joined player 0)) (c.held-all.ensures player few)
    ∙ ap (λ (n : ℕ). string_bytes c.loop-player.out ++ holding_line player (held c.args.holders.now player) n) (c.held_rooted-joined.ensures player few) in
    let place : 1 + (player - 1) ≡ player = omega (arith, i.begun) in
    let next : player - 1 + 1 ≡ player + 1 - 1 = omega (arith, i.begun) in
    record {
      begun = omega arith;
      text = lines_more line 1 (player - 1) player old (string_bytes c.loop-player.out) (string_bytes c.push_holding.new.out) place i.text written
          ∙ ap (λ (n : ℕ). old ++ flat_map line (range_with_len 1 n)) next;
    }

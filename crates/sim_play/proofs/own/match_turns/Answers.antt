-- One turn more.
use Rattle.sim_play.proofs.Common.{◌≡◌, ℕ, ◌+◌, List, [], ◌∷◌, ◌++◌, ap, arith, map-range_with_len_more, orders_at, PlayerCommand, sym, ◌∙◌}

pub loop-before-preserved : Rattle.sim_play.proofs.own.match_turns.Goals.loop-before-preserved
loop-before-preserved c =
    let own : ℕ → List PlayerCommand = λ t. orders_at t c.args.setup.now.commands in
    let n = c.loop-before.before in
    let commands : c.in_ok-commands.commands.items ≡ own (n + 1) =
    c.in_ok-commands.ensures ∙ c.due_at-due.ensures ∙ ap (orders_at (n + 1)) c.as_slice.ensures in
    let orders : c.from_items.result ≡ own (n + 1) = c.from_items.ensures ∙ commands in
    c.in_ok-push.ensures.ok
    ∙ ap (λ (os : List PlayerCommand). c.loop-before.turns ++ os ∷ []) orders
    ∙ ap (λ (ts : List (List PlayerCommand)). ts ++ own (n + 1) ∷ []) c.loop-before.invariant
    ∙ sym (map-range_with_len_more own 1 n (n + 1) (omega arith))

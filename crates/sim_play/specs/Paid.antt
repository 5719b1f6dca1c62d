-- The lines of a match with an economy: one for each of its paid turns, and one for what each player has in the end.
use Rattle.std.specs.{List.flat_map, Prelude.ℕ, Prelude.zero, Prelude.suc, Prelude.List, Prelude.[], Prelude.◌++◌, Prelude.codes}
use Rattle.sim_play.specs.Common.{after, amount_of, books_after, digest, Economy, kept_past, range_with_len, Setup, State, stock_line, Stocks, turn_line}

-- the state after so many paid turns, which is that after their commands without those that were left out
abbrev pub paid_state : Setup → Economy → ℕ → State
paid_state setup economy n = after setup (kept_past setup economy n)

-- what the players have after so many paid turns
abbrev pub paid_stocks : Setup → Economy → ℕ → Stocks
paid_stocks setup economy n = (books_after setup economy n).stocks

-- the lines of so many turns from turn 0 on
abbrev pub paid_lines : Setup → Economy → ℕ → List ℕ
paid_lines setup economy zero = []
paid_lines setup economy (suc n) = paid_lines setup economy n ++ turn_line (codes "turn") n (digest setup (paid_state setup economy n))

-- the line of a player: his food and his metal
abbrev pub player_line : Stocks → ℕ → List ℕ
player_line stocks player = stock_line player (amount_of player 0 stocks) (amount_of player 1 stocks)

-- a line for each player
abbrev pub stock_lines : ℕ → Stocks → List ℕ
stock_lines players stocks = flat_map (player_line stocks) (range_with_len 1 players)

-- the lines of all turns, and of what each player has then
abbrev pub stock_text : Setup → Economy → List ℕ
stock_text setup economy = paid_lines setup economy (suc setup.turns) ++ stock_lines setup.players (paid_stocks setup economy setup.turns)

-- What the sink was told of a match that is played by an economy.
use Rattle.{sim_stock.proofs.Paying.states_are_after, sim_top.proofs.Common.to_stock}
use Rattle.sim_top.proofs.Common.{File, HasEnded, IsOutcomeOf, match_in, Meets, OfStock, Outcome, printed, Scene, Setup, Status, stock_text, subst, Then}
use Rattle.sim_top.proofs.Common.{◌≡◌, ℕ, List, IfOk, Some, Ok, Err, Option, Result, Appends, Asked, asked_by, Balances, Differs, Done, Economy, economy_in}

-- the text of an outcome
of_outcome : (files : List File) (asked : Option Asked) (wanted : Outcome) (told told' : Option (List ℕ)) → IsOutcomeOf files asked wanted
    → Appends told told' wanted.text
    → OfStock files asked (λ setup economy. Balances setup economy told told')
of_outcome files (Some (to_stock game name)) wanted told told' is text = by (match_in files game) is
  where
    paid : (setup : Setup) (r : Result Economy Outcome) → Then r (λ economy wanted. wanted ≡ printed Done (stock_text setup economy)) wanted
        → IfOk r (λ economy. Balances setup economy told told')
    paid setup (Ok economy) is = record { text = subst (λ (o : Outcome). Appends told told' o.text) is text; states = states_are_after setup economy }
    paid setup (Err ended) is = tt

    by : (r : Result Setup Outcome) → Then r (λ setup. Then (economy_in files name setup) (λ economy wanted. wanted ≡ printed Done (stock_text setup economy)))
        wanted
        → IfOk r (λ setup. IfOk (economy_in files name setup) (λ economy. Balances setup economy told told'))
    by (Ok setup) is = paid setup (economy_in files name setup) is
    by (Err ended) is = tt
of_outcome files other wanted told told' is text = tt

-- a run that came to its end told the text of an outcome
pub balances_told : (status : Status) (words : List (List ℕ)) (files : List File) (before now : Scene) → Meets status words files before now → HasEnded status
    → OfStock files (asked_by words) (λ setup economy. Balances setup economy before.told now.told)
balances_told Done words files before now (wanted, is, status, done) ended = of_outcome files (asked_by words) wanted before.told now.told is done.text
balances_told Differs words files before now (wanted, is, status, done) ended = of_outcome files (asked_by words) wanted before.told now.told is done.text
balances_told other words files before now h ended = absurd ended

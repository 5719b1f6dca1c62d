-- The economy of a match that bytes spell, or the number of what is refused.
use Rattle.{serde_json.specs.{Data.Data, Find.as_str}, sim_base.specs.{declared.{setup.Setup.Setup, template.Template.Template}, Limits.IsFrom}}
use Rattle.sim_json.specs.{Commands.{next_or, numbered, records}, Keys.other_key, Values.{front_two, list_at, list_of, natural_in, two, value_of}}
use Rattle.sim_stock.specs.declared.{amounts.NamedRate.NamedRate, deed.{DatedDeed.DatedDeed, Deed.{Deed, TheVariants.{Barter, Tribute}}}}
use Rattle.sim_stock.specs.declared.{economy.Economy.Economy, rate.Rate.Rate, stocks.Stocks.Stocks}
use Rattle.std.specs.{List.{list_any, range_with_len, Sorted.IsNonDecreasingBy}, Prelude.All}
use Rattle.std.specs.Prelude.{Bool, codes, Err, find, fold, if◌then◌else◌, length, List, map, nat_le, None, Ok, Option, option_and_then, option_map, position}
use Rattle.std.specs.{Prelude.{Result, slice_get, slice_index, slice_set, Some, sum, unwrap_or, ℕ, [], ◌+◌, ◌-◌, ◌<◌, ◌==◌, ◌∷◌, ◌≢◌, ◌≤◌}, Str.bytes_eq}

-- Food and metal that something costs or brings.

-- nothing of either good
abbrev pub no_rate : Rate
no_rate = record { food = 0; metal = 0 }

-- the rate in a place, or nothing behind the last
abbrev pub rate_at : List Rate → ℕ → Rate
rate_at rates place = unwrap_or (slice_get rates place) no_rate

-- neither amount is above a limit
pub record IsRate (limit : ℕ) (rate : Rate) : Type 0 where
  pub food : rate.food ≤ limit
  pub metal : rate.metal ≤ limit

-- The deeds of an economy, as JSON spells them: a turn, a player, a word, and what follows it.

-- a good, 0 for food or 1 for metal, and an amount of it
abbrev pub good_of : List Data → Option (ℕ × ℕ)
good_of ds = next_or (two ds) None (λ p. next_or (natural_in 0 1 p.0) None (λ good. next_or (natural_in 0 1000000000 p.1) None (λ amount. Some (good, amount))))

-- behind its word stand the other player of a tribute, the good and the amount
abbrev pub tribute_from : ℕ → ℕ → List Data → Option Deed
tribute_from players player [] = None
tribute_from players player (other ∷ rest) =
    next_or (natural_in 1 players other) None (λ other. if other == player then None else option_map (λ p. Tribute other p.0 p.1) (good_of rest))

-- behind its word stand the good and the amount of a barter
abbrev pub barter_from : List Data → Option Deed
barter_from rest = option_map (λ p. Barter p.0 p.1) (good_of rest)

-- a deed by its word
abbrev pub deed_by : ℕ → ℕ → List ℕ → List Data → Option Deed
deed_by players player word rest = if bytes_eq word (codes "tribute") then tribute_from players player rest else if bytes_eq word (codes "barter")
    then barter_from rest else None

-- the same where the word is the first item
abbrev pub deed_in : ℕ → ℕ → List Data → Option Deed
deed_in players player [] = None
deed_in players player (word ∷ rest) = next_or (as_str word) None (λ word. deed_by players player word rest)

-- a deed of a player in a turn from the earliest to the last
abbrev pub dated_from : ℕ → ℕ → ℕ → Data × Data × List Data → Option DatedDeed
dated_from players turns earliest p =
    next_or (natural_in earliest turns p.0) None (λ turn. next_or (natural_in 1 players p.1) None (λ player. next_or (deed_in players player p.2) None (λ deed.
    Some (record { turn = turn; player = player; deed = deed }))))

-- the same from its list
unfoldable pub dated_of : ℕ → ℕ → ℕ → Data → Option DatedDeed
dated_of players turns earliest d = option_and_then (dated_from players turns earliest) (option_and_then front_two (list_of d))

-- an amount of one of the two goods, up to a limit
pub record IsAmountUpTo (limit good amount : ℕ) : Type 0 where
  pub good_is : good ≤ 1
  pub amount_is : amount ≤ limit

-- the limits of a deed of one of so many players
abbrev pub IsDeedBy : ℕ → ℕ → Deed → Type 0
IsDeedBy players player (Tribute other good amount) = IsFrom 1 players other × (other ≢ player) × IsAmountUpTo 1000000000 good amount
IsDeedBy players player (Barter good amount) = IsAmountUpTo 1000000000 good amount

-- the same, and of its turn
pub record IsDated (players turns : ℕ) (dated : DatedDeed) : Type 0 where
  pub turn_is : dated.turn ≤ turns
  pub player_is : IsFrom 1 players dated.player
  pub deed_is : IsDeedBy players dated.player dated.deed

-- How much of each good the players have.

-- the amounts of a good, the first player's first
abbrev pub amounts : ℕ → Stocks → List ℕ
amounts good stocks = if good == 0 then stocks.food else stocks.metal

-- how much of a good a player has
abbrev pub amount_of : ℕ → ℕ → Stocks → ℕ
amount_of player good stocks = slice_index (amounts good stocks) (player - 1)

-- the stocks with another amount of a player's good
abbrev pub with_amount : ℕ → ℕ → ℕ → Stocks → Stocks
with_amount player good amount stocks =
    if good == 0 then record stocks { food = slice_set stocks.food (player - 1) amount }
    else record stocks { metal = slice_set stocks.metal (player - 1) amount }

-- a player has more of a good
abbrev pub gained : ℕ → ℕ → ℕ → Stocks → Stocks
gained player good amount stocks = with_amount player good (amount_of player good stocks + amount) stocks

-- a player has less of a good
abbrev pub spent : ℕ → ℕ → ℕ → Stocks → Stocks
spent player good amount stocks = with_amount player good (amount_of player good stocks - amount) stocks

-- all that there is, of both goods
abbrev pub total : Stocks → ℕ
total stocks = sum stocks.food + sum stocks.metal

-- each amount is below a limit
pub record AreBelow (limit : ℕ) (stocks : Stocks) : Type 0 where
  pub food : All (λ amount. amount < limit) stocks.food
  pub metal : All (λ amount. amount < limit) stocks.metal

-- what players begin with: each has a thousand million of each good at most, and so have all of them sixteen times as much at most
pub record IsStart (stocks : Stocks) : Type 0 where
  pub each : AreBelow 1000000001 stocks
  pub sum : total stocks ≤ 16000000000

-- What players begin with, and the prices and incomes of templates, as JSON spells them.

-- two amounts up to a limit
abbrev pub rate_of : ℕ → List Data → Option Rate
rate_of limit ds =
    next_or (two ds) None (λ p. next_or (natural_in 0 limit p.0) None (λ food. next_or (natural_in 0 limit p.1) None (λ metal.
    Some (record { food = food; metal = metal }))))

-- what a player begins with, from its list
abbrev pub pair_of : Data → Option Rate
pair_of d = option_and_then (rate_of 1000000000) (list_of d)

-- the same of all players
abbrev pub pairs_from : List Data → Option (List Rate)
pairs_from ds = records (λ done. pair_of) [] ds

-- the stocks of players who begin with these amounts; those who are none have nothing
abbrev pub opening : List Rate → Stocks
opening pairs =
    record { food = map (λ place. (rate_at pairs place).food) (range_with_len 0 8); metal = map (λ place. (rate_at pairs place).metal) (range_with_len 0 8) }

-- a list of one pair for each player
abbrev pub start_from : ℕ → List Data → Option Stocks
start_from players ds = if length ds == players then option_map opening (pairs_from ds) else None

-- the stocks at the start of an economy
abbrev pub start_in : ℕ → Data → Option Stocks
start_in players d = option_and_then (start_from players) (list_at (codes "start") d)

-- the number of the template with this name
abbrev pub number_of : List Template → List ℕ → Option ℕ
number_of templates name = position (λ (template : Template). bytes_eq template.name name) templates

-- a template is among those that are named
abbrev pub is_named : ℕ → List NamedRate → Bool
is_named number done = list_any (λ (named : NamedRate). named.number == number) done

-- a rate of a known template, where none of this template stands before it
abbrev pub named_in : List Template → ℕ → List NamedRate → List Data → Option NamedRate
named_in templates limit done [] = None
named_in templates limit done (name ∷ rest) =
    next_or (option_and_then (number_of templates) (as_str name)) None (λ number. next_or (rate_of limit rest) None (λ rate.
    if is_named number done then None else Some (record { number = number; rate = rate })))

-- the same from its list
abbrev pub named_of : List Template → ℕ → List NamedRate → Data → Option NamedRate
named_of templates limit done d = option_and_then (named_in templates limit done) (list_of d)

-- all of a list
abbrev pub named_from : List Template → ℕ → List Data → Option (List NamedRate)
named_from templates limit ds = records (named_of templates limit) [] ds

-- the rate of a template, or nothing where it is not named
abbrev pub rate_named : List NamedRate → ℕ → Rate
rate_named named number = unwrap_or (option_map (λ (n : NamedRate). n.rate) (find (λ (n : NamedRate). n.number == number) named)) no_rate

-- the rates of so many templates
abbrev pub rates_of : ℕ → List NamedRate → List Rate
rates_of count named = map (rate_named named) (range_with_len 0 count)

-- the rates of all templates, from the list under a key
abbrev pub rates_in : List Template → ℕ → List ℕ → Data → Option (List Rate)
rates_in templates limit key d =
    next_or (list_at key d) None (λ ds. option_map (rates_of (length templates)) (named_from templates limit ds))

-- the four keys
abbrev pub keys : List (List ℕ)
keys = codes "start" ∷ codes "prices" ∷ codes "income" ∷ codes "deeds" ∷ []

-- the items of the list of deeds, where there are not too many
abbrev pub few : Data → Option (List Data)
few d = option_and_then (λ ds. if nat_le (length ds) 100000 then Some ds else None) (list_at (codes "deeds") d)

-- the turn of the last deed, below which the next may not be; the first may be in turn 1
abbrev pub earliest : List DatedDeed → ℕ
earliest done = fold (λ turn (dated : DatedDeed). dated.turn) 1 done

-- the number of an item, counted from 1
abbrev pub counted : {X : Type 0} → Result X ℕ → Result X ℕ
counted (Ok x) = Ok x
counted (Err index) = Err (index + 1)

-- the deeds, or the number of the first that is none
abbrev pub deeds_from : ℕ → ℕ → List Data → Result (List DatedDeed) ℕ
deeds_from players turns ds = counted (numbered (λ done. dated_of players turns (earliest done)) [] ds)

-- an economy with these deeds
abbrev pub with_deeds : Stocks → List Rate → List Rate → Result (List DatedDeed) ℕ → Result Economy ℕ
with_deeds start prices income (Ok deeds) = Ok (record { start = start; prices = prices; income = income; deeds = deeds })
with_deeds start prices income (Err index) = Err index

-- the start, the prices, the income and the deeds, in this order
abbrev pub economy_within : Setup → Data → Result Economy ℕ
economy_within setup d =
    next_or (start_in setup.players d) (Err 0) (λ start.
    next_or (rates_in setup.templates 1000000 (codes "prices") d) (Err 0) (λ prices.
    next_or (rates_in setup.templates 1000 (codes "income") d) (Err 0) (λ income.
    next_or (few d) (Err 0) (λ ds. with_deeds start prices income (deeds_from setup.players setup.turns ds)))))

-- the economy of an object with exactly the four keys
abbrev pub economy_in : Setup → Data → Result Economy ℕ
economy_in setup d = if other_key keys d then Err 0 else economy_within setup d

-- the economy of the bytes of a file
abbrev pub economy_of : Setup → List ℕ → Result Economy ℕ
economy_of setup bytes = next_or (value_of bytes) (Err 0) (economy_in setup)

-- the limits of an economy of a match
pub record IsEconomy (setup : Setup) (economy : Economy) : Type 0 where
  pub start : IsStart economy.start
  pub prices : All (IsRate 1000000) economy.prices
  pub income : All (IsRate 1000) economy.income
  pub deeds : All (IsDated setup.players setup.turns) economy.deeds
  pub rising : IsNonDecreasingBy (λ (dated : DatedDeed). dated.turn) economy.deeds

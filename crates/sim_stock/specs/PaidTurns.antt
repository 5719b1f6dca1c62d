-- A turn in which what players make has a price: deeds, commands, the rest of the turn, and the income.
use Rattle.sim_base.specs.{Commands.commanded, declared.command.Command.{Command, TheVariants.{Attack, Delete, Place, Resign, Stop, Train, Walk}}}
use Rattle.sim_base.specs.{declared.{command.PlayerCommand.PlayerCommand, setup.Setup.Setup, state.{Row.Row, State.State}}, Limits.{IsFrom, IsValid}}
use Rattle.sim_base.specs.Turn.{first_state, orders_at, Past, Turn, turn}
use Rattle.{sim_board.specs.{Boards.{AreKept, IsWholeBy, setup_in, state_in}, declared.board.Board.Board}, sim_laws.specs.TurnLaws.IsOrderOf}
use Rattle.sim_stock.specs.declared.{deed.{DatedDeed.DatedDeed, Deed.{Deed, TheVariants.{Barter, Tribute}}}, economy.Economy.Economy, rate.Rate.Rate}
use Rattle.sim_stock.specs.{declared.stocks.Stocks.Stocks, Economies.{amount_of, AreBelow, gained, IsEconomy, no_rate, rate_at, spent, total}}
use Rattle.sim_system.specs.{declared.system.System.Ghosts, Meanings.Meaning, RigWords.systems_by}
use Rattle.std.specs.Prelude.{All, Bool, filter, fold, if◌then◌else◌, length, List, nat_le, nat_lt, OnOk, Result, suc, true, zero, ℕ, [], ◌&&◌, ◌*◌, ◌++◌, ◌+◌}
use Rattle.std.specs.Prelude.{◌-◌, ◌/◌, ◌<◌, ◌==◌, ◌^◌, ◌∷◌, ◌≡◌, ◌≢◌, ◌≤◌}

-- What a deed makes of the stocks, and what a handler of deeds may be asked.

-- the number of a deed's kind
abbrev pub kind_of : Deed → ℕ
kind_of (Tribute other good amount) = 1
kind_of (Barter good amount) = 2

-- a player gives an amount away and something comes of it, or he lacks the amount and nothing changes
abbrev pub given : Stocks → ℕ → ℕ → ℕ → (Stocks → Stocks) → Stocks
given stocks player good amount comes = if nat_le amount (amount_of player good stocks) then comes (spent player good amount stocks) else stocks

-- the stocks after a player's deed: a tribute goes to another player, and a barter brings four fifths, rounded down, of the other good
abbrev pub deed : Stocks → ℕ → Deed → Stocks
deed stocks player (Tribute other good amount) = given stocks player good amount (gained other good amount)
deed stocks player (Barter good amount) = given stocks player good amount (gained player (1 - good) (amount * 4 / 5))

-- an amount of food or metal
pub record IsAmount (good amount : ℕ) : Type 0 where
  pub good_is : good ≤ 1
  pub amount_is : amount < 2 ^ 64

-- a player's deed gives an amount of a good, a tribute to another player
abbrev pub IsDeedOf : ℕ → Deed → Type 0
IsDeedOf player (Tribute other good amount) = IsFrom 1 8 other × (other ≢ player) × IsAmount good amount
IsDeedOf player (Barter good amount) = IsAmount good amount

-- a deed of this kind is done by a player on stocks below 2^40
pub record IsAsked (kind : ℕ) (stocks : Stocks) (player : ℕ) (deed : Deed) : Type 0 where
  pub below : AreBelow (2 ^ 40) stocks
  pub player_is : IsFrom 1 8 player
  pub kind_is : kind_of deed ≡ kind
  pub deed_is : IsDeedOf player deed

-- a deed with its turn is done by one of eight players
pub record IsDatedDeed (dated : DatedDeed) : Type 0 where
  pub player_is : IsFrom 1 8 dated.player
  pub deed_is : IsDeedOf dated.player dated.deed

-- a match and what its players have
pub record Books : Type 0 where
  pub state : State
  pub stocks : Stocks

-- the books of a state and stocks
abbrev pub books_of : State → Stocks → Books
books_of state stocks = record { state = state; stocks = stocks }

-- the deeds of a turn, in their order
abbrev pub deeds_at : ℕ → List DatedDeed → List DatedDeed
deeds_at t deeds = filter (λ (dated : DatedDeed). dated.turn == t) deeds

-- the stocks after deeds, one after the other
abbrev pub dealt : Stocks → List DatedDeed → Stocks
dealt stocks deeds = fold (λ q (dated : DatedDeed). deed q dated.player dated.deed) stocks deeds

-- what a command costs: to place or train, the price of the template that it names, which is nothing where none has this number
abbrev pub price_of : List Rate → Command → Rate
price_of prices (Walk ids to) = no_rate
price_of prices (Stop ids) = no_rate
price_of prices (Attack ids target) = no_rate
price_of prices (Delete ids) = no_rate
price_of prices (Place number at) = rate_at prices number
price_of prices (Train building number) = rate_at prices number
price_of prices Resign = no_rate

-- a player has as much of both goods
abbrev pub affords : ℕ → Rate → Stocks → Bool
affords player rate stocks = nat_le rate.food (amount_of player 0 stocks) && nat_le rate.metal (amount_of player 1 stocks)

-- it is a player, who has as much of both
pub record CanPay (player : ℕ) (rate : Rate) (stocks : Stocks) : Type 0 where
  pub player_is : IsFrom 1 8 player
  pub enough : affords player rate stocks ≡ true

-- a player has paid a price
abbrev pub paid : ℕ → Rate → Stocks → Stocks
paid player rate stocks = spent player 1 rate.metal (spent player 0 rate.food stocks)

-- a player has earned an income
abbrev pub earned : ℕ → Rate → Stocks → Stocks
earned player rate stocks = gained player 1 rate.metal (gained player 0 rate.food stocks)

-- a row was made: there is one more
abbrev pub made_row : State → State → Bool
made_row old new = nat_lt (length old.rows) (length new.rows)

-- a command is left out where its player can't pay its price
abbrev pub is_kept : List Rate → Stocks → PlayerCommand → Bool
is_kept prices stocks order = affords order.player (price_of prices order.command) stocks

-- the stocks after a command that was obeyed: its price is paid where a row was made
abbrev pub charged : List Rate → State → State → PlayerCommand → Stocks → Stocks
charged prices old new order stocks = if made_row old new then paid order.player (price_of prices order.command) stocks else stocks

-- a command is obeyed and paid for, or left out
unfoldable pub obeyed : Setup → List Rate → Books → PlayerCommand → Books
obeyed setup prices books order =
    if is_kept prices books.stocks order
    then record { state = commanded setup books.state order; stocks = charged prices books.state (commanded setup books.state order) order books.stocks }
    else books

-- the commands that are not left out
abbrev pub kept : Setup → List Rate → Books → List PlayerCommand → List PlayerCommand
kept setup prices books [] = []
kept setup prices books (order ∷ orders) = (if is_kept prices books.stocks order then order ∷ [] else []) ++ kept setup prices (obeyed setup prices books order)
    orders

-- each row of a player brings him the income of its template
abbrev pub brought : List Rate → Stocks → Row → Stocks
brought income stocks row = if row.owner == 0 then stocks else earned row.owner (rate_at income row.template) stocks

-- the income of all rows
abbrev pub collected : List Rate → Stocks → List Row → Stocks
collected income stocks rows = fold (brought income) stocks rows

-- the first part: the deeds of the turn
abbrev pub with_deeds : Economy → Books → Books
with_deeds economy books = record books { stocks = dealt books.stocks (deeds_at (books.state.turn + 1) economy.deeds) }

-- the last two parts: the turn without commands, and the income of the rows that are then alive
unfoldable pub settled : Setup → Economy → Books → Books
settled setup economy books =
    let state : State = turn setup books.state [] in record { state = state; stocks = collected economy.income books.stocks state.rows }

-- a paid turn: deeds, commands, the rest of the turn, income
abbrev pub paid_turn : Setup → Economy → Books → List PlayerCommand → Books
paid_turn setup economy books orders = settled setup economy (fold (obeyed setup economy.prices) (with_deeds economy books) orders)

-- the commands of a paid turn that are not left out
abbrev pub kept_in : Setup → Economy → Books → List PlayerCommand → List PlayerCommand
kept_in setup economy books orders = kept setup economy.prices (with_deeds economy books) orders

-- a match and its stocks after so many paid turns of its own commands
abbrev pub books_after : Setup → Economy → ℕ → Books
books_after setup economy zero = record { state = first_state setup; stocks = economy.start }
books_after setup economy (suc n) = paid_turn setup economy (books_after setup economy n) (orders_at (suc n) setup.commands)

-- the past of those turns, without what was left out
abbrev pub kept_past : Setup → Economy → ℕ → Past
kept_past setup economy zero = []
kept_past setup economy (suc n) = Turn (kept_in setup economy (books_after setup economy n) (orders_at (suc n) setup.commands)) ∷ kept_past setup economy n

-- What a paid turn and its parts ask, and what becomes of the board and of the stocks: the facts of each call by name. A clause passes
-- ⟦<dyn System as System>⟧ for `sys`.

-- ---- before

-- a turn may end and bring its income: the match has one more, the economy is one of it, and the stocks may rise
pub record MaySettleBy {X : Type 0} {F : X → Type 0} (given : Economy) (board : Board X F) (stocks : Stocks) (meaning : (i : X) → F i → Meaning)
    : Type 0 where
  pub whole : IsWholeBy board meaning
  pub below : (state_in board).turn < (setup_in board).turns
  pub economy : IsEconomy (setup_in board) given
  pub total : total stocks + 8192000 < 2 ^ 40

-- a whole paid turn may be played with these commands
pub record MayPayBy {X : Type 0} {F : X → Type 0} (given : Economy) (board : Board X F) (stocks : Stocks) (orders : List PlayerCommand)
    (meaning : (i : X) → F i → Meaning) : Type 0 where
  pub whole : IsWholeBy board meaning
  pub valid : IsValid (setup_in board) (state_in board)
  pub below : (state_in board).turn < (setup_in board).turns
  pub players : All (IsOrderOf (setup_in board)) orders
  pub economy : IsEconomy (setup_in board) given
  pub total : total stocks + 8192000 < 2 ^ 40

-- ---- behind

-- stocks that were changed to these are no more than they were
pub record AreLeft (last before after : Stocks) : Type 0 where
  pub stocks : after ≡ last
  pub total : total after ≤ total before

-- The board and the stocks come to these books, if there was memory, and the board is whole then. However it ends, the stocks are no more
-- than they were, no system was built since, and the match of the board is the same.
pub record ServesToBy {X : Type 0} {F : X → Type 0} {A E : Type 0} (outcome : Result A E) (last : Books) (old new : Board X F) (before after : Stocks)
    (meaning : (i : X) → F i → Meaning) : Type 0 where
  pub books : OnOk outcome (books_of (state_in new) after ≡ last)
  pub total : total after ≤ total before
  pub whole : OnOk outcome (IsWholeBy new meaning)
  pub kept : AreKept (systems_by old.rig meaning) (systems_by new.rig meaning)
  pub setup : setup_in new ≡ setup_in old

-- They come to these books in the same way, but the stocks may have risen by the income of a turn.
pub record SettlesToBy {X : Type 0} {F : X → Type 0} {A E : Type 0} (outcome : Result A E) (last : Books) (old new : Board X F) (before after : Stocks)
    (meaning : (i : X) → F i → Meaning) : Type 0 where
  pub books : OnOk outcome (books_of (state_in new) after ≡ last)
  pub total : OnOk outcome (total after ≤ total before + 8192000)
  pub whole : OnOk outcome (IsWholeBy new meaning)
  pub kept : AreKept (systems_by old.rig meaning) (systems_by new.rig meaning)
  pub setup : setup_in new ≡ setup_in old

-- so they do by a whole turn, and the state is valid
pub record PaysToBy {X : Type 0} {F : X → Type 0} {A E : Type 0} (outcome : Result A E) (last : Books) (old new : Board X F) (before after : Stocks)
    (meaning : (i : X) → F i → Meaning) : Type 0 where
  pub books : OnOk outcome (books_of (state_in new) after ≡ last)
  pub total : OnOk outcome (total after ≤ total before + 8192000)
  pub valid : OnOk outcome (IsValid (setup_in old) (state_in new))
  pub whole : OnOk outcome (IsWholeBy new meaning)
  pub kept : AreKept (systems_by old.rig meaning) (systems_by new.rig meaning)
  pub setup : setup_in new ≡ setup_in old

-- ---- the same, as a clause has them

abbrev pub MaySettle : {X : Type 0} {F : X → Type 0} → Economy → Board X F → Stocks → ((i : X) → Ghosts (F i)) → Type 0
MaySettle economy board stocks sys = MaySettleBy economy board stocks (λ i v. (sys i).meaning v)

abbrev pub MayPay : {X : Type 0} {F : X → Type 0} → Economy → Board X F → Stocks → List PlayerCommand → ((i : X) → Ghosts (F i)) → Type 0
MayPay economy board stocks orders sys = MayPayBy economy board stocks orders (λ i v. (sys i).meaning v)

abbrev pub ServesTo : {X : Type 0} {F : X → Type 0} {A E : Type 0} → Result A E → Books → Board X F → Board X F → Stocks → Stocks
    → ((i : X) → Ghosts (F i)) → Type 0
ServesTo outcome last old new before after sys = ServesToBy outcome last old new before after (λ i v. (sys i).meaning v)

abbrev pub SettlesTo : {X : Type 0} {F : X → Type 0} {A E : Type 0} → Result A E → Books → Board X F → Board X F → Stocks → Stocks
    → ((i : X) → Ghosts (F i)) → Type 0
SettlesTo outcome last old new before after sys = SettlesToBy outcome last old new before after (λ i v. (sys i).meaning v)

abbrev pub PaysTo : {X : Type 0} {F : X → Type 0} {A E : Type 0} → Result A E → Books → Board X F → Board X F → Stocks → Stocks
    → ((i : X) → Ghosts (F i)) → Type 0
PaysTo outcome last old new before after sys = PaysToBy outcome last old new before after (λ i v. (sys i).meaning v)

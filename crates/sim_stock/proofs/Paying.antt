-- A paid turn is a turn with the commands that were not left out.
use Rattle.sim_stock.proofs.Common.{Some, None, Ok, Err, fold, All, Option, Result, refl, affords, after, All-cons, All-filter, All-head, All-tail, ap}
use Rattle.sim_stock.proofs.Common.{Stocks, subst, sym, Template, template_of, Tribute, turn, turn_is_counted, turn_keeps_valid, with_deeds, ◌∙◌}
use Rattle.sim_stock.proofs.Common.{arith, Barter, Books, books_after, books_of, charged, collected, commanded, DatedDeed, dealt, Deed, deeds_at, Economy}
use Rattle.sim_stock.proofs.Common.{is_kept, IsDatedDeed, IsDeedBy, IsDeedOf, IsEconomy, IsOrderOf, IsSetup, IsState, IsValid, IsValidRow, kept}
use Rattle.sim_stock.proofs.Common.{kept_in, kept_past, made_row, obeyed, orders_at, paid, paid_turn, PlayerCommand, price_of, Rate, Row, settled, Setup, State}
use Rattle.sim_stock.proofs.Common.{◌≡◌, ℕ, zero, suc, ◌+◌, ◌<◌, ◌≤◌, Bool, true, false, List, [], ◌∷◌, ◌++◌, get_or, if◌then◌else◌, OnOk, ◌==◌, MatchOption}

-- one of two, by a test that is known
chosen : {X : Type 0} (k : Bool) (a b : X) → k ≡ true → a ≡ (if k then a else b)
chosen true a b e = refl
chosen false a b e = absurd cc

other_one : {X : Type 0} (k : Bool) (a b : X) → k ≡ false → b ≡ (if k then a else b)
other_one true a b e = absurd cc
other_one false a b e = refl

-- a command that its player can't pay is left out
pub left_out : (setup : Setup) (prices : List Rate) (state : State) (stocks : Stocks) (order : PlayerCommand) (price : Rate) (b : Bool)
    → price ≡ price_of prices order.command →
    b ≡ affords order.player price stocks → b ≡ false → books_of state stocks ≡ obeyed setup prices (books_of state stocks) order
unfolding obeyed
left_out setup prices state stocks order price b priced is lacks =
    other_one (is_kept prices stocks order) (books_of (commanded setup state order) (charged prices state (commanded setup state order) order stocks))
    (books_of state stocks)
    (ap (λ (r : Rate). affords order.player r stocks) (sym priced) ∙ sym is ∙ lacks)

-- one that he can pay is obeyed, and paid for where a row was made
pub served : {X E : Type 0} (r : Result X E) (setup : Setup) (prices : List Rate) (state state' : State) (stocks stocks' : Stocks) (order : PlayerCommand)
    (price : Rate) (b : Bool) →
    price ≡ price_of prices order.command → b ≡ affords order.player price stocks → b ≡ true → OnOk r (state' ≡ commanded setup state order) →
    OnOk r (stocks' ≡ (if made_row state state' then paid order.player price stocks else stocks))
    → OnOk r (books_of state' stocks' ≡ obeyed setup prices (books_of state stocks) order)
unfolding obeyed
served (Err e) setup prices state state' stocks stocks' order price b priced is can obeys pays = tt
served (Ok x) setup prices state state' stocks stocks' order price b priced is can obeys pays =
    ap (books_of state') pays
    ∙ ap (λ (s : State). books_of s (if made_row state s then paid order.player price stocks else stocks)) obeys
    ∙ ap (λ (r : Rate). books_of (commanded setup state order) (if made_row state (commanded setup state order) then paid order.player r stocks else stocks))
    priced
    ∙ chosen (is_kept prices stocks order) (books_of (commanded setup state order) (charged prices state (commanded setup state order) order stocks))
    (books_of state stocks)
    (ap (λ (r : Rate). affords order.player r stocks) (sym priced) ∙ sym is ∙ can)

-- the income of the rows after the rest of the turn
pub settled_is : (setup : Setup) (economy : Economy) (state state' : State) (stocks stocks' : Stocks) (income : List Rate) (rows : List Row)
    → state' ≡ turn setup state [] → income ≡ economy.income →
    rows ≡ state'.rows → stocks' ≡ collected income stocks rows → books_of state' stocks' ≡ settled setup economy (books_of state stocks)
unfolding settled
settled_is setup economy state state' stocks stocks' income rows turned incomes rowed collects =
    ap (books_of state') (collects ∙ ap (λ (rs : List Row). collected income stocks rs) rowed ∙ ap (λ (rates : List Rate). collected rates stocks state'.rows)
    incomes)
    ∙ ap (λ (s : State). books_of s (collected economy.income stocks s.rows)) turned

module _ (setup : Setup) where
  -- a command is obeyed or not, and those behind it follow
  one_more : (b : Bool) (books : Books) (order : PlayerCommand) (q : Stocks) (orders : List PlayerCommand) →
      fold (commanded setup) (if b then record { state = commanded setup books.state order; stocks = q } else books).state orders ≡
      fold (commanded setup) books.state ((if b then order ∷ [] else []) ++ orders)
  one_more true books order q orders = refl
  one_more false books order q orders = refl

  one_by_one : (prices : List Rate) (books : Books) (order : PlayerCommand) (orders : List PlayerCommand) →
      fold (commanded setup) (obeyed setup prices books order).state orders ≡ fold (commanded setup) books.state
      ((if is_kept prices books.stocks order then order ∷ [] else []) ++ orders)
  unfolding obeyed
  one_by_one prices books order orders = one_more (is_kept prices books.stocks order) books order
      (charged prices books.state (commanded setup books.state order) order books.stocks) orders

  -- the commands that are not left out give the state
  pub kept_state : (prices : List Rate) (books : Books) (orders : List PlayerCommand) → (fold (obeyed setup prices) books orders).state ≡ fold (commanded setup)
      books.state (kept setup prices books orders)
  kept_state prices books [] = refl
  kept_state prices books (order ∷ orders) =
      kept_state prices (obeyed setup prices books order) orders ∙ one_by_one prices books order (kept setup prices (obeyed setup prices books order) orders)

  -- what holds of all commands, holds of those that are not left out
  kept_one : (P : PlayerCommand → Type 0) (b : Bool) (order : PlayerCommand) (orders : List PlayerCommand) → P order → All P orders
      → All P ((if b then order ∷ [] else []) ++ orders)
  kept_one P true order orders here all = All-cons P order orders here all
  kept_one P false order orders here all = all

  pub kept_all : (P : PlayerCommand → Type 0) (prices : List Rate) (books : Books) (orders : List PlayerCommand) → All P orders
      → All P (kept setup prices books orders)
  kept_all P prices books [] all = all
  kept_all P prices books (order ∷ orders) all =
      kept_one P (is_kept prices books.stocks order) order (kept setup prices (obeyed setup prices books order) orders) (All-head P order orders all)
      (kept_all P prices (obeyed setup prices books order) orders (All-tail P order orders all))

  -- commands are no turn
  pub obeyed_keep_turn : (prices : List Rate) (books : Books) (orders : List PlayerCommand) → (fold (obeyed setup prices) books orders).state.turn ≡
      books.state.turn
  obeyed_keep_turn prices books orders =
      let ks = kept setup prices books orders in
      let e : (fold (commanded setup) books.state ks).turn + 1 ≡ books.state.turn + 1 = sym (turn_is_counted setup (fold (commanded setup) books.state ks) []) ∙
      turn_is_counted setup books.state ks in
      ap (λ (s : State). s.turn) (kept_state prices books orders) ∙ omega (arith, e)

  settled_state : (economy : Economy) (books : Books) → (settled setup economy books).state ≡ turn setup books.state []
  unfolding settled
  settled_state economy books = refl

  -- the state after a paid turn
  pub paid_state : (economy : Economy) (books : Books) (orders : List PlayerCommand) → (paid_turn setup economy books orders).state ≡ turn setup books.state
      (kept_in setup economy books orders)
  paid_state economy books orders =
      settled_state economy (fold (obeyed setup economy.prices) (with_deeds economy books) orders)
      ∙ ap (λ (s : State). turn setup s []) (kept_state economy.prices (with_deeds economy books) orders)

  -- and after paid turns
  pub states_are_after : (economy : Economy) (n : ℕ) → (books_after setup economy n).state ≡ after setup (kept_past setup economy n)
  states_are_after economy zero = refl
  states_are_after economy (suc n) =
      paid_state economy (books_after setup economy n) (orders_at (suc n) setup.commands)
      ∙ ap (λ (s : State). turn setup s (kept_in setup economy (books_after setup economy n) (orders_at (suc n) setup.commands))) (states_are_after economy n)

  -- a match has eight players at most
  pub few_players : IsSetup setup → setup.players ≤ 8
  few_players limits = omega (arith, limits.players, limits.land.players.1)

  -- so the owners of rows are Gaia or one of eight players
  pub few_owners : (least : ℕ) (state : State) → IsSetup setup → IsState least setup state → All (λ (row : Row). row.owner ≤ 8) state.rows
  few_owners least state limits valid k d lt = by (template_of setup (get_or state.rows k d)) (valid.rows k d lt)
    where
      by : (o : Option Template) → MatchOption o ⊥ (IsValidRow least setup state.rows (get_or state.rows k d)) → (get_or state.rows k d).owner ≤ 8
      by None none = absurd none
      by (Some t) row = omega (arith, row.owner, few_players limits)

  -- and a deed of the match is done by one of eight players
  dealt_by : (player : ℕ) (d : Deed) → IsSetup setup → IsDeedBy setup.players player d → IsDeedOf player d
  dealt_by player (Tribute other good amount) limits is =
      ((is.0.0, omega (arith, is.0.1, few_players limits)), is.1, record { good_is = is.2.good_is; amount_is = omega (arith, is.2.amount_is) })
  dealt_by player (Barter good amount) limits is = record { good_is = is.good_is; amount_is = omega (arith, is.amount_is) }

  pub few_dealers : (economy : Economy) (t : ℕ) → IsSetup setup → IsEconomy setup economy → All IsDatedDeed (deeds_at t economy.deeds)
  few_dealers economy t limits is =
      All-filter (λ (dated : DatedDeed). dated.turn == t) IsDatedDeed economy.deeds (λ k d lt.
      let one = is.deeds k d lt in
      record {
        player_is = (one.player_is.0, omega (arith, one.player_is.1, few_players limits));
        deed_is = dealt_by (get_or economy.deeds k d).player (get_or economy.deeds k d).deed limits one.deed_is;
      })

-- all parts make a paid turn
pub joined : {X E : Type 0} (r : Result X E) (setup setup' : Setup) (economy : Economy) (state middle last : State)
    (stocks dealt_stocks paid_stocks last_stocks : Stocks) (due : List DatedDeed) (prices : List Rate)
    (orders : List PlayerCommand) → setup' ≡ setup → due ≡ deeds_at (state.turn + 1) economy.deeds → dealt_stocks ≡ dealt stocks due → prices ≡ economy.prices →
    books_of middle paid_stocks ≡ fold (obeyed setup prices) (books_of state dealt_stocks) orders
    → OnOk r (books_of last last_stocks ≡ settled setup' economy (books_of middle paid_stocks)) →
    OnOk r (books_of last last_stocks ≡ paid_turn setup economy (books_of state stocks) orders)
joined (Err e) setup setup' economy state middle last stocks dealt_stocks paid_stocks last_stocks due prices orders same dues deals priced obeys settles = tt
joined (Ok x) setup setup' economy state middle last stocks dealt_stocks paid_stocks last_stocks due prices orders same dues deals priced obeys settles =
    settles ∙ ap (λ (s : Setup). settled s economy (books_of middle paid_stocks)) same
    ∙ ap (settled setup economy) (obeys ∙ ap (λ (rates : List Rate). fold (obeyed setup rates) (books_of state dealt_stocks) orders) priced
    ∙ ap (λ (q : Stocks). fold (obeyed setup economy.prices) (books_of state q) orders) (deals ∙ ap (dealt stocks) dues))

-- so the state is that of a turn
pub joined_state : {X E : Type 0} (r : Result X E) (setup : Setup) (economy : Economy) (state last : State) (stocks last_stocks : Stocks)
    (orders : List PlayerCommand) →
    OnOk r (books_of last last_stocks ≡ paid_turn setup economy (books_of state stocks) orders)
    → OnOk r (last ≡ turn setup state (kept_in setup economy (books_of state stocks) orders))
joined_state (Err e) setup economy state last stocks last_stocks orders is = tt
joined_state (Ok x) setup economy state last stocks last_stocks orders is = ap (λ (books : Books). books.state) is ∙
    paid_state setup economy (books_of state stocks) orders

-- and valid
pub joined_valid : {X E : Type 0} (r : Result X E) (setup : Setup) (economy : Economy) (state last : State) (stocks last_stocks : Stocks)
    (orders : List PlayerCommand) → IsSetup setup →
    All (IsOrderOf setup) orders → IsValid setup state → state.turn < setup.turns
    → OnOk r (books_of last last_stocks ≡ paid_turn setup economy (books_of state stocks) orders) → OnOk r (IsValid setup last)
joined_valid (Err e) setup economy state last stocks last_stocks orders limits players valid below is = tt
joined_valid {X} {E} (Ok x) setup economy state last stocks last_stocks orders limits players valid below is =
    subst (IsValid setup) (sym (joined_state {X = X} {E = E} (Ok x) setup economy state last stocks last_stocks orders is))
    (turn_keeps_valid setup state (kept_in setup economy (books_of state stocks) orders) limits
    (kept_all setup (IsOrderOf setup) economy.prices (with_deeds economy (books_of state stocks)) orders players) valid below)

-- Turns are counted, and players of the match give the commands.
use Rattle.{sim_laws.proofs.Turning.own_turns_are_of_players, std.proofs.Common.Ok, std.proofs.Common.Err, std.proofs.Common.Result, std.specs.Prelude.OnOk}
use Rattle.sim_base.specs.{Limits.IsSetup, Turn.Turn, declared.command.PlayerCommand.PlayerCommand}
use Rattle.sim_turn.proofs.Common.{orders_at, Setup, State, subst, sym, turn, turn_is_counted, turn_keeps_valid, ◌∙◌}
use Rattle.sim_turn.proofs.Common.{◌≡◌, ℕ, ◌+◌, ◌<◌, List, [], map, length, get_or, fold, All, ap, arith, commanded, get_or-map, IsOrderOf, IsValid, length-map}

-- commands are no turn
pub orders_keep_turn : (setup : Setup) (state : State) (orders : List PlayerCommand) → (fold (commanded setup) state orders).turn ≡ state.turn
orders_keep_turn setup state orders =
    let e : (fold (commanded setup) state orders).turn + 1 ≡ state.turn + 1 = sym (turn_is_counted setup (fold (commanded setup) state orders) []) ∙
    turn_is_counted setup state orders in
    omega (arith, e)

-- a state at the same turn is below the last one too
pub still_below : (setup setup' : Setup) (state state' : State) → setup' ≡ setup → state'.turn ≡ state.turn → state.turn < setup.turns
    → state'.turn < setup'.turns
still_below setup setup' state state' e f lt = let g : setup'.turns ≡ setup.turns = ap (λ (s : Setup). s.turns) e in omega (arith, f, g, lt)

-- the phases behind the commands give the turn
pub joined : (setup setup' : Setup) (state middle new : State) (orders : List PlayerCommand) → setup' ≡ setup → middle ≡ fold (commanded setup) state orders
    → new ≡ turn setup' middle [] →
    new ≡ turn setup state orders
joined setup setup' state middle new orders e f g = g ∙ ap (λ (s : Setup). turn s middle []) e ∙ ap (λ (s : State). turn setup s []) f

-- and it is valid
pub joined_valid : {X E : Type 0} (r : Result X E) (setup setup' : Setup) (state middle new : State) (orders : List PlayerCommand) → setup' ≡ setup
    → middle ≡ fold (commanded setup) state orders →
    IsSetup setup → All (IsOrderOf setup) orders → IsValid setup state → state.turn < setup.turns → OnOk r (new ≡ turn setup' middle [])
    → OnOk r (IsValid setup new)
joined_valid (Ok x) setup setup' state middle new orders e f limits players valid below g =
    subst (IsValid setup) (sym (joined setup setup' state middle new orders e f g)) (turn_keeps_valid setup state orders limits players valid below)
joined_valid (Err x) setup setup' state middle new orders e f limits players valid below g = tt

-- what holds of the images holds of the image of each
pub all_mapped : {X Y : Type 0} (P : Y → Type 0) (f : X → Y) (xs : List X) (k : ℕ) (x : X) → All P (map f xs) → k < length xs → x ≡ get_or xs k x → P (f x)
all_mapped P f xs k x all lt is =
    let within : k < length (map f xs) = subst (λ (n : ℕ). k < n) (sym (length-map xs f)) lt in
    subst P (get_or-map f xs k x (f x) lt ∙ ap f (sym is)) (all k (f x) within)

-- the match's own commands of a turn are given by its players
pub players_at : (setup : Setup) (n : ℕ) → IsSetup setup → All (IsOrderOf setup) (orders_at (n + 1) setup.commands)
players_at setup n limits = own_turns_are_of_players setup n 1 limits 0 (Turn []) (omega arith)

-- A turn, a bend and a whole past keep a state valid.
use Rattle.sim_base.specs.{Commands.with_row, declared.{command.{Command.TheVariants.Walk, PlayerCommand.PlayerCommand}, setup.Timed.Timed}, Limits.IsTimed}
use Rattle.{sim_base.specs.Turn.{Bend, from, is_health_of, may_bend, orders_at, own_turns, Turn}, sim_laws.proofs.Commanding.commanded_by_is_state}
use Rattle.sim_laws.proofs.{Commanding.moved_is_state, Common.{Aim, aimed, All, All-cons, All-head, All-map, All-nil, All-tail, All-weaker, and_parts, ap}}
use Rattle.sim_laws.proofs.Common.{append-nil, arith, Attack, Bool, Both, cases_Bool, Cell, centre_of, Command, commanded, commanded_by, cond, cond_both}
use Rattle.sim_laws.proofs.Common.{created, Delete, eqb-true, false, filter, First, first_state, fold, has_room, hit, id_of, int_le, ints, is_enemy, is_inside}
use Rattle.sim_laws.proofs.Common.{is_ordered, is_placeable, IsSetup, IsValid, IsValidRow, List, map, map-append, Motion, moved, new_row, None, not, Option}
use Rattle.sim_laws.proofs.Common.{option_and_then, Place, placed_on, Point, pos, refl, removed, Resign, Row, row_of, sent, set_on, Setup, size_of, slice_get}
use Rattle.sim_laws.proofs.Common.{Some, spot, State, Stop, stopped, subst, suc, sym, Template, template_of, Train, trained, trains, true, with_new}
use Rattle.sim_laws.proofs.{Common.{with_ordered, zero, ℕ, ℤ, ⊎_elim, [], ◌&&◌, ◌++◌, ◌+◌, ◌==◌, ◌∙◌, ◌∷◌, ◌≡◌, ◌≤ℤ◌, ◌≤◌}, Hitting.hit_is_state}
use Rattle.sim_laws.proofs.{Neighbours.Has, Removing.{aimed_is_state, gone_is_valid, removed-ids, removed_all, removed_all-turn, same_stays, spent_ids}}
use Rattle.sim_laws.proofs.Validity.{apart, first_state_is_valid, found_row, map-map, map_agree, mapped_is_state, same_row, Stays, valid_is_loose}
use Rattle.sim_laws.specs.{PhaseLaws.GoneKeepsTurn, TurnLaws.{AfterCountsTurns, AfterIsValid, BendKeepsTurn, BendKeepsValid, CommandKeepsLoose}}
use Rattle.sim_laws.specs.TurnLaws.{CommandKeepsOrder, CommandKeepsTurn, CommandKeepsValid, FromCountsTurns, FromKeepsValid, IsItemOf, IsOrderOf, KeepsOrder}
use Rattle.{sim_laws.specs.TurnLaws.{OwnTurnsAreOfPlayers, OwnTurnsAreSoMany, TurnIsCounted, TurnKeepsValid}, std.proofs.lemmas.List.Elements.All-filter}

-- ---- commands

pub command_keeps_valid : CommandKeepsValid
command_keeps_valid setup state order limits player valid = commanded_by_is_state 1 setup limits state valid order.player (omega arith) player.1 order.command

pub command_keeps_loose : CommandKeepsLoose
command_keeps_loose setup state order limits player valid = commanded_by_is_state 0 setup limits state valid order.player (omega arith) player.1 order.command

-- what holds of a state as it is, with each row changed but for its id, with rows removed, and with a new row, holds after a command
module _ (setup : Setup) (state : State) (player : ℕ) (P : State → Type 0) (same : P state)
    (each : (f : Row → Row) → ((row : Row) → (f row).id ≡ row.id) → P (record state { rows = map f state.rows }))
    (fewer : (ids : List ℕ) → P (removed_all state ids))
    (more : (number : ℕ) (p : Point) (o : Option Template) → P (with_new number p player o state)) where
  either : (b : Bool) (new : State) → P new → P (cond b new state)
  either true new h = h
  either false new h = same

  sent-id : (p : Point) (row : Row) → (sent p row).id ≡ row.id
  sent-id p row = by row.motion
    where
      by : (m : Option Motion) → (sent p (record row { motion = m })).id ≡ row.id
      by None = refl
      by (Some m) = refl

  set_on-id : (target : ℕ) (row : Row) → (set_on target row).id ≡ row.id
  set_on-id target row = by row.attack
    where
      by : (a : Option Aim) → (set_on target (record row { attack = a })).id ≡ row.id
      by None = refl
      by (Some aim) = refl

  ordered : (ids : List ℕ) (changed : Row → Row) → ((row : Row) → (changed row).id ≡ row.id) → P (with_ordered player ids changed state)
  ordered ids changed e =
      each (λ row. cond (is_ordered player ids row) (changed row) row)
      (λ row. cond_both (is_ordered player ids row) (changed row) row (λ (new : Row). new.id ≡ row.id) (λ holds. e row) (λ fails. refl))

  placed : (number : ℕ) (o : Option Cell) → P (placed_on setup state player number o)
  placed number None = same
  placed number (Some c) = more number (centre_of c) (slice_get setup.templates number)

  trained_by : (number : ℕ) (o : Option Row) → P (trained setup state player number o)
  trained_by number None = same
  trained_by number (Some building) =
      let c = building.owner == player && trains (template_of setup building) number (slice_get setup.templates number) && has_room setup state player in
      ⊎_elim (λ (holds : c ≡ true). rw holds (placed number (spot setup state building.at))) (λ (fails : c ≡ false). rw fails same) (cases_Bool c)

  pub after_command : (command : Command) → P (commanded_by setup state player command)
  after_command (Walk ids p) = either (is_inside (size_of setup.land) p) (with_ordered player ids (sent p) state) (ordered ids (sent p) (sent-id p))
  after_command (Stop ids) = ordered ids stopped (λ row. refl)
  after_command (Attack ids target) = either (is_enemy setup player (row_of state target)) (with_ordered player ids (set_on target) state)
      (ordered ids (set_on target) (set_on-id target))
  after_command (Delete ids) = fewer (map id_of (filter (is_ordered player ids) state.rows))
  after_command (Place number p) =
      either (is_placeable setup state p (slice_get setup.templates number) && has_room setup state player) (created setup state number p player)
      (more number p (slice_get setup.templates number))
  after_command (Train building number) = trained_by number (row_of state building)
  after_command Resign =
      each (λ row. cond (row.owner == player) (record row { owner = 0 }) row)
      (λ row. cond_both (row.owner == player) (record row { owner = 0 }) row (λ (new : Row). new.id ≡ row.id) (λ holds. refl) (λ fails. refl))

with_new-turn : (state : State) (number : ℕ) (p : Point) (owner : ℕ) (o : Option Template) → (with_new number p owner o state).turn ≡ state.turn
with_new-turn state number p owner None = refl
with_new-turn state number p owner (Some t) = refl

pub command_keeps_turn : CommandKeepsTurn
command_keeps_turn setup state order =
    after_command setup state order.player (λ (new : State). new.turn ≡ state.turn) refl (λ f e. refl) (λ ids. removed_all-turn ids state)
    (λ number p o. with_new-turn state number p order.player o) order.command

-- ---- the order of the rows

filter-filter : {X : Type 0} (p q : X → Bool) (xs : List X) → filter p (filter q xs) ≡ filter (λ x. q x && p x) xs
filter-filter p q [] = refl
filter-filter p q (x ∷ xs) = by (q x) (filter-filter p q xs)
  where
    by : (b : Bool) → filter p (filter q xs) ≡ filter (λ x. q x && p x) xs
        → filter p (cond b (x ∷ filter q xs) (filter q xs)) ≡ cond (b && p x) (x ∷ filter (λ x. q x && p x) xs) (filter (λ x. q x && p x) xs)
    by true e = rw e refl
    by false e = e

filter_all : (xs : List ℕ) → filter (λ n. true) xs ≡ xs
filter_all [] = refl
filter_all (x ∷ xs) = ap (λ ys. x ∷ ys) (filter_all xs)

removed_all-ids : (ids : List ℕ) (state : State) → (stays : ℕ → Bool) × (map id_of (removed_all state ids).rows ≡ filter stays (map id_of state.rows))
removed_all-ids [] state = (λ n. true, sym (filter_all (map id_of state.rows)))
removed_all-ids (id ∷ ids) state =
    let (stays, e) = removed_all-ids ids (removed id state) in
    (λ n. not (n == id) && stays n, e ∙ ap (filter stays) (removed-ids state id) ∙ filter-filter stays (λ n. not (n == id)) (map id_of state.rows))

module _ (old : State) where
  in_order : (new : State) → map id_of new.rows ≡ map id_of old.rows → KeepsOrder old new
  in_order new e = record {
    stays = λ n. true;
    made = [];
    ids = e ∙ sym (filter_all (map id_of old.rows)) ∙ sym (append-nil (filter (λ n. true) (map id_of old.rows)));
    made_later =
        All-nil (λ id. old.next ≤ id);
  }

  with_new-order : (number : ℕ) (p : Point) (owner : ℕ) (o : Option Template) → KeepsOrder old (with_new number p owner o old)
  with_new-order number p owner None = in_order old refl
  with_new-order number p owner (Some t) =
      record {
        stays = λ n. true;
        made = old.next ∷ [];
        ids = map-append id_of old.rows (new_row old.next number p owner t ∷ []) ∙ ap (λ ns. ns ++ old.next ∷ []) (sym (filter_all (map id_of old.rows)));
        made_later = All-cons (λ id. old.next ≤ id) old.next [] (omega arith) (All-nil (λ id. old.next ≤ id));
      }

pub command_keeps_order : CommandKeepsOrder
command_keeps_order setup state order =
    after_command setup state order.player (KeepsOrder state) (in_order state state refl)
    (λ f e. in_order state (record state { rows = map f state.rows }) (map-map f id_of state.rows ∙ map_agree (λ (row : Row). (f row).id) id_of state.rows
    (λ row h. e row)))
    (λ ids. let (stays, e) = removed_all-ids ids state in
    record { stays = stays; made = []; ids = e ∙ sym (append-nil (filter stays (map id_of state.rows))); made_later = All-nil (λ id. state.next ≤ id) })
    (λ number p o. with_new-order state number p order.player o) order.command

-- ---- a turn

all_commanded : (setup : Setup) (limits : IsSetup setup) (orders : List PlayerCommand) → All (IsOrderOf setup) orders → (state : State)
    → IsValid setup state → IsValid setup (fold (commanded setup) state orders)
all_commanded setup limits [] of_players state valid = valid
all_commanded setup limits (order ∷ orders) of_players state valid =
    all_commanded setup limits orders (All-tail (IsOrderOf setup) order orders of_players) (commanded setup state order)
    (command_keeps_valid setup state order limits (All-head (IsOrderOf setup) order orders of_players) valid)

all_commanded-turn : (setup : Setup) (orders : List PlayerCommand) (state : State) → (fold (commanded setup) state orders).turn ≡ state.turn
all_commanded-turn setup [] state = refl
all_commanded-turn setup (order ∷ orders) state = all_commanded-turn setup orders (commanded setup state order) ∙ command_keeps_turn setup state order

pub gone_keeps_turn : GoneKeepsTurn
gone_keeps_turn state = removed_all-turn (spent_ids state) state

pub turn_is_counted : TurnIsCounted
turn_is_counted setup state orders =
    let commands = fold (commanded setup) state orders in
    ap (λ (n : ℕ). n + 1) (gone_keeps_turn (hit setup (moved setup (aimed setup commands))) ∙ all_commanded-turn setup orders state)

pub turn_keeps_valid : TurnKeepsValid
turn_keeps_valid setup state orders limits of_players valid below =
    let commands = fold (commanded setup) state orders in
    let before = valid_is_loose setup commands (all_commanded setup limits orders of_players state valid) in
    let aims = aimed_is_state 0 setup commands before in
    let moves = moved_is_state 0 setup (aimed setup commands) aims in
    let hits = hit_is_state setup (moved setup (aimed setup commands)) moves in
    let v = gone_is_valid setup (hit setup (moved setup (aimed setup commands))) hits in
    record {
      turn = omega (arith, turn_is_counted setup state orders, below);
      next = v.next;
      word = v.word;
      few = v.few;
      ascending = v.ascending;
      ids = v.ids;
      rows =
          v.rows;
    }

-- ---- a bend

bent_health : (health : ℤ) (old most : Option ℤ) → is_health_of health old most ≡ true → Both (Some health) most (λ h m. (pos 1 ≤ℤ h) × (h ≤ℤ m))
bent_health health (Some old) (Some most) h =
    let (low, high) = and_parts (int_le (pos 1) health) (int_le health most) h in
    let at_least : pos 1 ≤ℤ health = grind (arith, ints) in
    let at_most : health ≤ℤ most = grind (arith, ints) in
    (at_least, at_most)
bent_health health (Some old) None h = absurd (cc)
bent_health health None most h = absurd (cc)

module _ (setup : Setup) (state : State) (id : ℕ) (health : ℤ) (valid : IsValid setup state) where
  abbrev bend : Row → Row
  bend row = record row { health = Some health }

  bend_stays : (found : Row) → row_of state id ≡ Some found → may_bend setup health (Some found) ≡ true → (row : Row) (t : Template)
      → Has state.rows row → template_of setup row ≡ Some t →
      IsValidRow 1 setup state.rows row t → row.id ≡ id → Stays 1 setup state.rows row (bend row) t
  bend_stays found e may row t h known v same =
      let (m, is_id) = found_row state id found e in
      let is_row : found ≡ row = same_row state.rows found row (apart state.rows valid.ascending) m h (is_id ∙ sym same) in
      let may_row : may_bend setup health (Some row) ≡ true = subst (λ (r : Row). may_bend setup health (Some r) ≡ true) is_row may in
      let fits : is_health_of health row.health t.health ≡ true =
      subst (λ (o : Option Template). is_health_of health row.health (option_and_then (λ (u : Template). u.health) o) ≡ true) known may_row in
      record {
        id = refl;
        template = refl;
        valid =
            record { at = v.at; owner = v.owner; health = bent_health health row.health t.health fits; motion = v.motion; attack = v.attack };
      }

  bent_is_valid : (o : Option Row) → row_of state id ≡ o → (b : Bool) → may_bend setup health o ≡ b
      → IsValid setup (cond b (with_row id bend state) state)
  bent_is_valid o e false may = valid
  bent_is_valid None e true may = absurd (cc)
  bent_is_valid (Some found) e true may =
      mapped_is_state 1 1 setup state (λ (row : Row). cond (row.id == id) (bend row) row) valid
      (λ row t h known v. cond_both (row.id == id) (bend row) row (λ (new : Row). Stays 1 setup state.rows row new t)
      (λ holds. bend_stays found e may row t h known v (eqb-true row.id id holds)) (λ fails. same_stays 1 setup state.rows row t v))

pub bend_keeps_valid : BendKeepsValid
bend_keeps_valid setup state id health valid = bent_is_valid setup state id health valid (row_of state id) refl (may_bend setup health (row_of state id)) refl

pub bend_keeps_turn : BendKeepsTurn
bend_keeps_turn setup state id health = by (may_bend setup health (row_of state id))
  where
    by : (b : Bool) → (cond b (with_row id (λ row. record row { health = Some health }) state) state).turn ≡ state.turn
    by true = refl
    by false = refl

-- ---- a past

pub from_counts_turns : FromCountsTurns
from_counts_turns setup state [] = omega arith
from_counts_turns setup state (Turn orders ∷ past) = omega (arith, turn_is_counted setup (from setup state past) orders, from_counts_turns setup state past)
from_counts_turns setup state (Bend id health ∷ past) =
    omega (arith, bend_keeps_turn setup (from setup state past) id health, from_counts_turns setup state past)

pub from_keeps_valid : FromKeepsValid
from_keeps_valid setup state [] limits of_players valid room = valid
from_keeps_valid setup state (Turn orders ∷ past) limits of_players valid room =
    turn_keeps_valid setup (from setup state past) orders limits (All-head (IsItemOf setup) (Turn orders) past of_players)
    (from_keeps_valid setup state past limits (All-tail (IsItemOf setup) (Turn orders) past of_players) valid (omega (arith, room)))
    (omega (arith, room, from_counts_turns setup state past))
from_keeps_valid setup state (Bend id health ∷ past) limits of_players valid room =
    bend_keeps_valid setup (from setup state past) id health
    (from_keeps_valid setup state past limits (All-tail (IsItemOf setup) (Bend id health) past of_players) valid room)

pub first-turn : (setup : Setup) → (first_state setup).turn ≡ 0
first-turn setup = by setup.first (record { turn = 0; next = 2; word = setup.seed; rows = [] })
  where
    by : (firsts : List First) (state : State)
        → (fold (λ s (first : First). created setup s first.template first.at first.owner) state firsts).turn ≡ state.turn
    by [] state = refl
    by (first ∷ firsts) state = by firsts (created setup state first.template first.at first.owner) ∙ with_new-turn state first.template first.at first.owner
        (slice_get setup.templates first.template)

pub after_is_valid : AfterIsValid
after_is_valid setup past limits of_players room = from_keeps_valid setup (first_state setup) past limits of_players (first_state_is_valid setup limits)
    (omega (arith, room, first-turn setup))

pub after_counts_turns : AfterCountsTurns
after_counts_turns setup past = omega (arith, from_counts_turns setup (first_state setup) past, first-turn setup)

pub own_turns_are_of_players : OwnTurnsAreOfPlayers
own_turns_are_of_players setup start zero limits = All-nil (IsItemOf setup)
own_turns_are_of_players setup start (suc n) limits =
    All-cons (IsItemOf setup) (Turn (orders_at (start + suc n) setup.commands)) (own_turns setup start n) listed (own_turns_are_of_players setup start n limits)
  where
    at : Timed → Bool
    at timed = timed.turn == (start + suc n)

    listed : All (IsOrderOf setup) (orders_at (start + suc n) setup.commands)
    listed = All-map (IsOrderOf setup) (λ (timed : Timed). timed.order) (filter (λ (timed : Timed). timed.turn == (start + suc n)) setup.commands)
        (All-weaker (IsTimed setup) (λ (timed : Timed). IsOrderOf setup timed.order) (λ timed h. h.player)
        (filter (λ (timed : Timed). timed.turn == (start + suc n)) setup.commands)
        (All-filter (λ (timed : Timed). timed.turn == (start + suc n)) (IsTimed setup) setup.commands limits.commands))

pub own_turns_are_so_many : OwnTurnsAreSoMany
own_turns_are_so_many setup start zero = refl
own_turns_are_so_many setup start (suc n) = omega (arith, own_turns_are_so_many setup start n)

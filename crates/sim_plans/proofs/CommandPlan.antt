-- The plan of a command: its changes fit and give the command, and each names a row of the commander or makes one for him.
use Rattle.sim_base.specs.declared.change.Change.TheVariants as change
use Rattle.sim_base.specs.Commands.{commanded, commanded_by, created, has_room, is_enemy, is_ordered, is_placeable, placed_on, removed, sent, set_on, spot}
use Rattle.sim_base.specs.Commands.{stopped, trained, trains, with_ordered}
use Rattle.sim_base.specs.declared.{change.Change.TheVariants.Tick, command.Command.{Command, TheVariants.{Attack, Delete, Place, Resign, Stop, Train, Walk}}}
use Rattle.sim_base.specs.{declared.{command.PlayerCommand.PlayerCommand, place.Cell.Cell}, Places.centre_of, Turn.{is_spent, ticked}}
use Rattle.sim_laws.proofs.Commanding.{enemy_is_target, enemy_row, middle_inside, moved_is_state, placeable, spot_on_ground, trained_template}
use Rattle.sim_laws.proofs.{Hitting.hit_is_state, Neighbours.{Has-map, Has-of_map}, Removing.{aimed_is_state, removed-ids, removed_all}}
use Rattle.sim_laws.{proofs.{Turning.{command_keeps_loose, turn_is_counted}, Validity.{Has-filter, row_found, valid_is_loose}}, specs.TurnLaws.IsOrderOf}
use Rattle.sim_plans.proofs.{AimPlan.aim_plan_is, Common.{Aim, aim_plan, aimed, All, All-append, All-cons, All-head, All-nil, All-tail, All-weaker, all_at}}
use Rattle.sim_plans.proofs.Common.{AllFit, and_parts, ap, Apart, apart, applied, applied_all, arith, Bool, Change, cond, cond_both, eq-eqb, eqb-true, false}
use Rattle.sim_plans.proofs.Common.{filter, find, flat_map, Going, gone, gone_plan, Has, Has-of_filter, hit, hit_plan, id_of, inl, inr, is_inside, is_some}
use Rattle.sim_plans.proofs.Common.{IsInside, IsKnownRow, IsLooselyValid, IsOwnChange, IsPlanOf, IsSetup, IsStrictlyIncreasing, IsTarget, IsValidRow, known_row}
use Rattle.sim_plans.proofs.Common.{length, List, list_any, map, MatchOption, Motion, move_plan, moved, ne_eqb, None, not, OfRow, Option, Point, refl, Row}
use Rattle.sim_plans.proofs.Common.{row_of, set_by_all, Setup, size_of, slice_get, Some, stance_changes, State, subst, Suits, sym, Template, template_of, true}
use Rattle.sim_plans.proofs.{Common.{ℕ, ⊎_elim, [], ◌&&◌, ◌==◌, ◌∙◌, ◌∷◌, ◌≡◌, ◌≤◌}, MovePlan.move_plan_is, RowByRow.{hit_plan_is, plan_then, row_by_row_to}}
use Rattle.sim_plans.proofs.Suiting.{motion_suits, one_suits, stance_changes-set, stance_changes_suit, stand_changes-set, stand_changes_suit}
use Rattle.sim_plans.specs.Plans.{aim_on, command_plan, command_plan_by, CommandIsOwn, CommandIsPlanned, gone_on, hit_on, move_on, ordered_changes, orders_plan}
use Rattle.sim_plans.specs.Plans.{place_changes, sent_changes, sent_changes_by, set_on_changes, set_on_changes_by, stop_changes, then_plan, train_changes}
use Rattle.sim_plans.specs.Plans.{TurnIsPlanned}
use Rattle.std.{proofs.{Common.{fold, ◌+◌}, lemmas.{Bool.{cases_Bool, ltb-true}, List.Folds.fold-map, Option.slice_get_within}}, specs.Prelude.nat_lt}

-- Rows are removed one after another: each is still alive when it is its turn.

-- an id among those of the rows is found
alive : (rows : List Row) (id : ℕ) → Has (map id_of rows) id → is_some (find (λ (r : Row). r.id == id) rows) ≡ true
alive [] id h = absurd h
alive (q ∷ rows) id h = by (q.id == id) refl h (alive rows id)
  where
    by : (b : Bool) → (q.id == id) ≡ b → Has (map id_of (q ∷ rows)) id → (Has (map id_of rows) id → is_some (find (λ (r : Row). r.id == id) rows) ≡ true)
        → is_some (cond b (Some q) (find (λ (r : Row). r.id == id) rows)) ≡ true
    by true e m rest = refl
    by false e (inl s) rest = let same : (q.id == id) ≡ true = eq-eqb q.id id s in absurd (cc)
    by false e (inr m) rest = rest m

apart-filter : (p : Row → Bool) (rows : List Row) → Apart rows → Apart (filter p rows)
apart-filter p [] h = tt
apart-filter p (row ∷ rows) h = by (p row) (apart-filter p rows h.1)
  where
    by : (b : Bool) → Apart (filter p rows) → Apart (cond b (row ∷ filter p rows) (filter p rows))
    by true rest = ((λ q m. let (k, passes) = Has-of_filter p rows q m in h.0 q k), rest)
    by false rest = rest

removals_fit : (setup : Setup) (qs : List Row) → Apart qs → (state : State) → ((q : Row) → Has qs q → Has (map id_of state.rows) q.id)
    → AllFit setup state (map (λ id. change.Remove id) (map id_of qs))
removals_fit setup [] h state there = tt
removals_fit setup (q ∷ qs) h state there = (
  alive state.rows q.id (there q (inl refl)),
  removals_fit setup qs h.1 (removed q.id state)
      (λ r m. let below = h.0 r m in
      subst (λ (ids : List ℕ). Has ids r.id) (sym (removed-ids state q.id))
      (Has-filter (λ (n : ℕ). not (n == q.id)) (map id_of state.rows) r.id (there r (inr m)) (ap not (ne_eqb r.id q.id (λ e. omega (arith, below)))))),
)

-- the rows that pass a test are removed
pub remove_plan : (setup : Setup) (state : State) (p : Row → Bool) → IsStrictlyIncreasing (map id_of state.rows) →
    IsPlanOf setup state (map (λ id. change.Remove id) (map id_of (filter p state.rows))) (removed_all state (map id_of (filter p state.rows)))
remove_plan setup state p ascending =
    record {
      fit = removals_fit setup (filter p state.rows) (apart-filter p state.rows (apart state.rows ascending)) state
          (λ q m. let (k, passes) = Has-of_filter p state.rows q m in Has-map id_of state.rows q k);
      give = fold-map (applied setup) (λ (id : ℕ). change.Remove id) state (map id_of (filter p state.rows));
    }

pub gone_plan_is : (setup : Setup) (state : State) → IsLooselyValid setup state → IsPlanOf setup state (gone_plan state) (gone state)
gone_plan_is setup state valid = remove_plan setup state (λ (row : Row). is_spent row.health) valid.ascending

All-flat_map : {X Y : Type 0} (P : Y → Type 0) (f : X → List Y) (xs : List X) → ((x : X) → Has xs x → All P (f x)) → All P (flat_map f xs)
All-flat_map P f [] each = All-nil P
All-flat_map P f (x ∷ xs) each = All-append P (f x) (flat_map f xs) (each x (inl refl)) (All-flat_map P f xs (λ y h. each y (inr h)))

module _ (setup : Setup) (limits : IsSetup setup) (state : State) (valid : IsLooselyValid setup state) (player : ℕ)
    (known_player : player ≤ setup.players) where
  -- the changes give this state, and are the player's own
  record IsOwnPlan (changes : List Change) (after : State) : Type 0 where
    plan : IsPlanOf setup state changes after
    own : All (IsOwnChange state player) changes

  nothing : IsOwnPlan [] state
  nothing = record { plan = record { fit = tt; give = refl }; own = All-nil (IsOwnChange state player) }

  either : (b : Bool) (changes : List Change) (new : State) → (b ≡ true → IsOwnPlan changes new) → IsOwnPlan (cond b changes []) (cond b new state)
  either true changes new h = h refl
  either false changes new h = nothing

  -- what suits a row of the player is his own
  suits_own : (row : Row) → Has state.rows row → row.owner ≡ player → (c : Change) → Suits setup state.rows row c → IsOwnChange state player c
  suits_own row h own = by
    where
      of_row : (id : ℕ) → id ≡ row.id → OfRow state id (λ r. r.owner ≡ player)
      of_row id e =
          subst (λ (o : Option Row). MatchOption o ⊥ (λ r. r.owner ≡ player))
          (sym (ap (row_of state) e ∙ row_found state row (apart state.rows valid.ascending) h)) own

      by : (c : Change) → Suits setup state.rows row c → IsOwnChange state player c
      by (change.Move id p) s = of_row id s.0
      by (change.Motion id motion) s = of_row id s.0
      by (change.Attack id aim) s = of_row id s.0
      by (change.Health id health) s = of_row id s.0
      by (change.Owner id owner) s = of_row id s.0
      by (change.Remove id) s = absurd s
      by (change.Create number p owner) s = absurd s
      by (change.Word word) s = absurd s
      by change.Tick s = absurd s

  -- changes of rows of the player that pass a test
  own_rows : (test : Row → Bool) (changes : Row → List Change) (f : Row → Row) → ((row : Row) → test row ≡ true → row.owner ≡ player) →
      ((row : Row) (t : Template) → Has state.rows row → row.owner ≡ player → template_of setup row ≡ Some t → IsValidRow 0 setup state.rows row t
      → All (Suits setup state.rows row) (changes row)) →
      ((row : Row) → set_by_all (changes row) row ≡ f row) →
      IsOwnPlan (flat_map (λ row. cond (test row) (changes row) []) state.rows) (record state { rows = map (λ row. cond (test row) (f row) row) state.rows })
  own_rows test changes f owned suits make =
      record {
        plan = row_by_row_to setup state (λ (row : Row). cond (test row) (changes row) []) (λ (row : Row). cond (test row) (f row) row) valid.ascending all_suit
            (λ row h. made row (test row));
        own = All-flat_map (IsOwnChange state player) (λ (row : Row). cond (test row) (changes row) []) state.rows (λ row h. all_own row h (test row) refl);
      }
    where
      all_suit : (row : Row) → Has state.rows row → All (Suits setup state.rows row) (cond (test row) (changes row) [])
      all_suit row h =
          let (t, e, v) = known_row 0 setup state.rows row (all_at (IsKnownRow 0 setup state.rows) state.rows row valid.rows h) in
          cond_both (test row) (changes row) [] (All (Suits setup state.rows row)) (λ holds. suits row t h (owned row holds) e v)
          (λ fails. All-nil (Suits setup state.rows row))

      made : (row : Row) (b : Bool) → set_by_all (cond b (changes row) []) row ≡ cond b (f row) row
      made row true = make row
      made row false = refl

      all_own : (row : Row) → Has state.rows row → (b : Bool) → test row ≡ b → All (IsOwnChange state player) (cond b (changes row) [])
      all_own row h false e = All-nil (IsOwnChange state player)
      all_own row h true e =
          let (t, known, v) = known_row 0 setup state.rows row (all_at (IsKnownRow 0 setup state.rows) state.rows row valid.rows h) in
          All-weaker (Suits setup state.rows row) (IsOwnChange state player) (suits_own row h (owned row e)) (changes row) (suits row t h (owned row e) known v)

  ordered_plan : (ids : List ℕ) (changes : Row → List Change) (f : Row → Row) →
      ((row : Row) (t : Template) → Has state.rows row → row.owner ≡ player → template_of setup row ≡ Some t → IsValidRow 0 setup state.rows row t
      → All (Suits setup state.rows row) (changes row)) →
      ((row : Row) → set_by_all (changes row) row ≡ f row) → IsOwnPlan (ordered_changes player ids changes state) (with_ordered player ids f state)
  ordered_plan ids changes f suits make =
      own_rows (is_ordered player ids) changes f
      (λ row holds. let (own, named) = and_parts (row.owner == player) (list_any (λ (id : ℕ). id == row.id) ids) holds in eqb-true row.owner player own) suits
      make

  -- ---- walk

  sent_make : (p : Point) (row : Row) → set_by_all (sent_changes p row) row ≡ sent p row
  sent_make p row = by row.motion
    where
      by : (m : Option Motion) → set_by_all (sent_changes_by p row.id m row.attack) (record row { motion = m }) ≡ sent p (record row { motion = m })
      by None = refl
      by (Some motion) = stance_changes-set 0 false (record row { motion = Some (Going p [] false) })

  sent_suit : (p : Point) → IsInside setup p → (row : Row) (t : Template) → template_of setup row ≡ Some t → IsValidRow 0 setup state.rows row t
      → All (Suits setup state.rows row) (sent_changes p row)
  sent_suit p inside row t known v = by row.motion refl
    where
      by : (m : Option Motion) → row.motion ≡ m → All (Suits setup state.rows row) (sent_changes_by p row.id m row.attack)
      by None e = All-nil (Suits setup state.rows row)
      by (Some motion) e =
          All-cons (Suits setup state.rows row) (change.Motion row.id (Going p [] false)) (stance_changes 0 false row.id row.attack)
          (motion_suits 0 setup state.rows row t known v (Going p [] false) (ap is_some e) (inside, All-nil (IsInside setup), omega arith))
          (stance_changes_suit 0 setup state.rows row t known v 0 false (inl refl))

  -- ---- attack

  set_on_make : (target : ℕ) (row : Row) → set_by_all (set_on_changes target row) row ≡ set_on target row
  set_on_make target row = by row.attack
    where
      by : (a : Option Aim) → set_by_all (set_on_changes_by target (record row { attack = a }) a) (record row { attack = a }) ≡ set_on target
          (record row { attack = a })
      by None = refl
      by (Some aim) = stand_changes-set target false (record row { attack = Some aim })

  set_on_suit : (target : ℕ) (row : Row) (t : Template) → IsTarget state.rows row target → template_of setup row ≡ Some t → IsValidRow 0 setup state.rows row t
      → All (Suits setup state.rows row) (set_on_changes target row)
  set_on_suit target row t may known v = by row.attack
    where
      by : (a : Option Aim) → All (Suits setup state.rows row) (set_on_changes_by target row a)
      by None = All-nil (Suits setup state.rows row)
      by (Some aim) = stand_changes_suit 0 setup state.rows row t known v target false may

  -- ---- a new row

  create_plan : (number : ℕ) (p : Point) (t : Template) → slice_get setup.templates number ≡ Some t → IsInside setup p → has_room setup state player ≡ true →
      IsOwnPlan (change.Create number p player ∷ []) (created setup state number p player)
  create_plan number p t e inside room =
      let (first, capped) = and_parts (nat_lt (length state.rows) 4096 && nat_lt state.next 0x20000000) _ room in
      let (few, free) = and_parts (nat_lt (length state.rows) 4096) (nat_lt state.next 0x20000000) first in
      record {
        plan = record {
          fit = (
            (slice_get_within setup.templates number t e, inside, known_player, ltb-true (length state.rows) 4096 few, ltb-true state.next 0x20000000 free),
            tt,
          );
          give = refl;
        };
        own = All-cons (IsOwnChange state player) (change.Create number p player) [] refl (All-nil (IsOwnChange state player));
      }

  place_plan : (number : ℕ) (t : Template) → slice_get setup.templates number ≡ Some t → has_room setup state player ≡ true → (p : Point) →
      IsOwnPlan (place_changes player number (spot setup state p)) (placed_on setup state player number (spot setup state p))
  place_plan number t e room p = by (spot setup state p) refl
    where
      by : (o : Option Cell) → spot setup state p ≡ o → IsOwnPlan (place_changes player number o) (placed_on setup state player number o)
      by None f = nothing
      by (Some c) f = create_plan number (centre_of c) t e (middle_inside (size_of setup.land) c (spot_on_ground setup state p c f)) room

  train_plan : (number : ℕ) (o : Option Row) → IsOwnPlan (train_changes setup state player number o) (trained setup state player number o)
  train_plan number None = nothing
  train_plan number (Some building) =
      let c = building.owner == player && trains (template_of setup building) number (slice_get setup.templates number) && has_room setup state player in
      ⊎_elim (λ (holds : c ≡ true). rw holds (allowed holds)) (λ (fails : c ≡ false). rw fails nothing) (cases_Bool c)
    where
      allowed : (building.owner == player && trains (template_of setup building) number (slice_get setup.templates number) && has_room setup state player) ≡
          true →
          IsOwnPlan (place_changes player number (spot setup state building.at)) (placed_on setup state player number (spot setup state building.at))
      allowed holds =
          let (first, room) = and_parts (building.owner == player && trains (template_of setup building) number (slice_get setup.templates number))
          (has_room setup state player) holds in
          let (own, can) = and_parts (building.owner == player) (trains (template_of setup building) number (slice_get setup.templates number)) first in
          let (t, e) = trained_template 0 setup limits state valid player (template_of setup building) number (slice_get setup.templates number) can in
          place_plan number t e room building.at

  -- ---- delete

  delete_own : (ids : List ℕ) (id : ℕ) → Has (map id_of (filter (is_ordered player ids) state.rows)) id → IsOwnChange state player (change.Remove id)
  delete_own ids id h =
      let (row, m, e) = Has-of_map id_of (filter (is_ordered player ids) state.rows) id h in
      let (k, passes) = Has-of_filter (is_ordered player ids) state.rows row m in
      let (own, named) = and_parts (row.owner == player) (list_any (λ (n : ℕ). n == row.id) ids) passes in
      subst (λ (n : ℕ). OfRow state n (λ r. r.owner ≡ player)) e
      (subst (λ (o : Option Row). MatchOption o ⊥ (λ r. r.owner ≡ player)) (sym (row_found state row (apart state.rows valid.ascending) k))
      (eqb-true row.owner player own))

  all_removals : (ids : List ℕ) → ((id : ℕ) → Has ids id → IsOwnChange state player (change.Remove id))
      → All (IsOwnChange state player) (map (λ id. change.Remove id) ids)
  all_removals [] each = All-nil (IsOwnChange state player)
  all_removals (id ∷ ids) each =
      All-cons (IsOwnChange state player) (change.Remove id) (map (λ id. change.Remove id) ids) (each id (inl refl)) (all_removals ids (λ n h. each n (inr h)))

  -- ---- the seven commands

  planned : (command : Command) → IsOwnPlan (command_plan_by setup state player command) (commanded_by setup state player command)
  planned (Walk ids p) =
      either (is_inside (size_of setup.land) p) (ordered_changes player ids (sent_changes p) state) (with_ordered player ids (sent p) state)
      (λ inside. ordered_plan ids (sent_changes p) (sent p) (λ row t h own e v. sent_suit p inside row t e v) (sent_make p))
  planned (Stop ids) = ordered_plan ids stop_changes stopped (λ row t h own e v. stand_changes_suit 0 setup state.rows row t e v 0 true (inl refl))
      (stand_changes-set 0 true)
  planned (Attack ids target) =
      either (is_enemy setup player (row_of state target)) (ordered_changes player ids (set_on_changes target) state)
      (with_ordered player ids (set_on target) state)
      (λ holds. ordered_plan ids (set_on_changes target) (set_on target)
      (λ row t h own e v. set_on_suit target row t
      (enemy_is_target 0 setup limits state valid player target (enemy_row 0 setup limits state valid player known_player target holds) row h own) e v)
      (set_on_make target))
  planned (Delete ids) =
      record {
        plan = remove_plan setup state (is_ordered player ids) valid.ascending;
        own = all_removals (map id_of (filter (is_ordered player ids) state.rows)) (delete_own ids);
      }
  planned (Place number p) =
      either (is_placeable setup state p (slice_get setup.templates number) && has_room setup state player) (change.Create number p player ∷ [])
      (created setup state number p player)
      (λ holds. let (can, room) = and_parts (is_placeable setup state p (slice_get setup.templates number)) (has_room setup state player) holds in
      let (t, e, inside) = placeable 0 setup limits state valid player p (slice_get setup.templates number) can in create_plan number p t e inside room)
  planned (Train building number) = train_plan number (row_of state building)
  planned Resign =
      own_rows (λ row. row.owner == player) (λ row. change.Owner row.id 0 ∷ []) (λ row. record row { owner = 0 }) (λ row holds. eqb-true row.owner player holds)
      (λ row t h own e v. one_suits setup state.rows row (change.Owner row.id 0) (refl, omega arith)) (λ row. refl)

pub command_is_planned : CommandIsPlanned
command_is_planned setup state order limits player valid = (planned setup limits state valid order.player player.1 order.command).plan

pub command_is_own : CommandIsOwn
command_is_own setup state order limits player valid = (planned setup limits state valid order.player player.1 order.command).own

-- The changes of a turn fit in order and give it.

-- a plan, and a plan for the state to which it leads
then_is_plan : (setup : Setup) (state middle after : State) (first : List Change) (second : State → List Change) → IsPlanOf setup state first middle
    → IsPlanOf setup middle (second middle) after →
    IsPlanOf setup state (then_plan setup state first second) after
then_is_plan setup state middle after first second p q =
    plan_then setup state middle after first (second (applied_all setup state first)) p
    (subst (λ (s : State). IsPlanOf setup middle (second s) after) (sym p.give) q)

orders_are_planned : (setup : Setup) → IsSetup setup → (orders : List PlayerCommand) → All (IsOrderOf setup) orders → (state : State)
    → IsLooselyValid setup state →
    IsPlanOf setup state (orders_plan setup state orders) (fold (commanded setup) state orders)
orders_are_planned setup limits [] of_players state valid = record { fit = tt; give = refl }
orders_are_planned setup limits (order ∷ orders) of_players state valid =
    let player = All-head (IsOrderOf setup) order orders of_players in
    then_is_plan setup state (commanded setup state order) (fold (commanded setup) (commanded setup state order) orders) (command_plan setup state order)
    (λ s. orders_plan setup s orders)
    (command_is_planned setup state order limits player valid)
    (orders_are_planned setup limits orders (All-tail (IsOrderOf setup) order orders of_players) (commanded setup state order)
    (command_keeps_loose setup state order limits player valid))

orders_keep_loose : (setup : Setup) → IsSetup setup → (orders : List PlayerCommand) → All (IsOrderOf setup) orders → (state : State)
    → IsLooselyValid setup state → IsLooselyValid setup (fold (commanded setup) state orders)
orders_keep_loose setup limits [] of_players state valid = valid
orders_keep_loose setup limits (order ∷ orders) of_players state valid =
    orders_keep_loose setup limits orders (All-tail (IsOrderOf setup) order orders of_players) (commanded setup state order)
    (command_keeps_loose setup state order limits (All-head (IsOrderOf setup) order orders of_players) valid)

pub turn_is_planned : TurnIsPlanned
turn_is_planned setup state orders limits of_players valid below =
    let loose = valid_is_loose setup state valid in
    let s1 = fold (commanded setup) state orders in
    let v1 = orders_keep_loose setup limits orders of_players state loose in
    let s2 = aimed setup s1 in
    let v2 = aimed_is_state 0 setup s1 v1 in
    let s3 = moved setup s2 in
    let v3 = moved_is_state 0 setup s2 v2 in
    let s4 = hit setup s3 in
    let v4 = hit_is_state setup s3 v3 in
    let s5 = gone s4 in
    let counted : s5.turn + 1 ≡ state.turn + 1 = turn_is_counted setup state orders in
    let tick : IsPlanOf setup s5 (Tick ∷ []) (ticked s5) = record { fit = (omega (arith, counted, below), tt); give = refl } in
    then_is_plan setup state s1 (ticked s5) (orders_plan setup state orders) (aim_on setup) (orders_are_planned setup limits orders of_players state loose)
    (then_is_plan setup s1 s2 (ticked s5) (aim_plan setup s1) (move_on setup) (aim_plan_is setup s1 v1)
    (then_is_plan setup s2 s3 (ticked s5) (move_plan setup s2) (hit_on setup) (move_plan_is setup s2 v2)
    (then_is_plan setup s3 s4 (ticked s5) (hit_plan setup s3) gone_on (hit_plan_is setup s3 v3)
    (plan_then setup s4 s5 (ticked s5) (gone_plan s4) (Tick ∷ []) (gone_plan_is setup s4 v4) tick))))

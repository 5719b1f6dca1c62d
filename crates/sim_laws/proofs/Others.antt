-- A command leaves the rows of other owners as they are, but for those whose target leaves.
use Rattle.{sim_base.specs.declared.command.Command.TheVariants.Walk, sim_laws.proofs.Common.{ap, arith, Attack, Bool, cases_Bool, Cell, centre_of, Command}}
use Rattle.sim_laws.proofs.Common.{commanded, commanded_by, cond, created, Delete, false, filter, has_room, id_of, inl, inr, is_enemy, is_inside, is_ordered}
use Rattle.sim_laws.proofs.Common.{is_placeable, is_some, IsLooselyValid, List, list_any, map, ne_eqb, new_row, None, not, Option, Place, placed_on, Point}
use Rattle.sim_laws.proofs.Common.{refl, released, removed, Resign, Row, row_of, sent, set_on, Setup, size_of, slice_get, Some, spot, State, Stop, stopped}
use Rattle.sim_laws.proofs.Common.{subst, sym, target_of, Template, template_of, Train, trained, trains, true, with_new, with_ordered, ℕ, ⊎_elim, [], ◌&&◌, ◌<◌}
use Rattle.sim_laws.proofs.{Common.{◌==◌, ◌∙◌, ◌∷◌, ◌≡◌, ◌≤◌, ◌⊎◌}, Neighbours.{Has, Has-append_left, Has-map, Has-of_map}}
use Rattle.sim_laws.proofs.{Removing.{left_all, let_go, others, removed_all}, Turning.command_keeps_loose, Validity.{all_at, apart, found_row, Has-filter}}
use Rattle.{sim_laws.{proofs.Validity.{Has-of_filter, row_found, same_row}, specs.TurnLaws.CommandLeavesOthers}, std.specs.Prelude.IsSome}

-- a row stays as it is where another one leaves that is not its target
left_alone : (id : ℕ) (state : State) (row : Row) → Has state.rows row → (row.id ≡ id → ⊥) → (target_of row ≡ id → ⊥)
    → Has (removed id state).rows row
left_alone id state row h other elsewhere =
    let passes : others id row ≡ true = ap not (ne_eqb row.id id other) in
    let same : let_go id row ≡ row = ap (λ (b : Bool). cond b (released row) row) (ne_eqb (target_of row) id elsewhere) in
    subst (Has (removed id state).rows) same (Has-map (let_go id) (filter (others id) state.rows) row (Has-filter (others id) state.rows row h passes))

all_left_alone : (ids : List ℕ) (state : State) (row : Row) → Has state.rows row → (Has ids row.id → ⊥) → (Has ids (target_of row) → ⊥)
    → Has (removed_all state ids).rows row
all_left_alone [] state row h other elsewhere = h
all_left_alone (id ∷ ids) state row h other elsewhere =
    all_left_alone ids (removed id state) row (left_alone id state row h (λ e. other (inl (sym e))) (λ e. elsewhere (inl (sym e)))) (λ m. other (inr m))
    (λ m. elsewhere (inr m))

module _ (setup : Setup) (state : State) (valid : IsLooselyValid setup state) (player : ℕ) (row : Row) (here : Has state.rows row) (not_own : row.owner ≡ player
    → ⊥) where
  -- its target is none, or is still there
  abbrev HasTargetIn : State → Type 0
  HasTargetIn new = (target_of row ≡ 0) ⊎ IsSome (row_of new (target_of row))

  not_owned : (row.owner == player) ≡ false
  not_owned = ne_eqb row.owner player not_own

  unchanged : (rows : List Row) (test : Row → Bool) (f : Row → Row) → Has rows row → test row ≡ false
      → Has (map (λ r. cond (test r) (f r) r) rows) row
  unchanged rows test f h e =
      let same : cond (test row) (f row) row ≡ row = ap (λ (b : Bool). cond b (f row) row) e in
      subst (Has (map (λ r. cond (test r) (f r) r) rows)) same (Has-map (λ r. cond (test r) (f r) r) rows row h)

  ordered : (ids : List ℕ) (f : Row → Row) → Has (with_ordered player ids f state).rows row
  ordered ids f = unchanged state.rows (is_ordered player ids) f here (ap (λ (b : Bool). b && list_any (λ (id : ℕ). id == row.id) ids) not_owned)

  either : (b : Bool) (new : State) → Has new.rows row → Has (cond b new state).rows row
  either true new h = h
  either false new h = here

  made : (number : ℕ) (p : Point) (o : Option Template) → Has (with_new number p player o state).rows row
  made number p None = here
  made number p (Some t) = Has-append_left state.rows (new_row state.next number p player t ∷ []) row here

  placed : (number : ℕ) (o : Option Cell) → Has (placed_on setup state player number o).rows row
  placed number None = here
  placed number (Some c) = made number (centre_of c) (slice_get setup.templates number)

  trained_by : (number : ℕ) (o : Option Row) → Has (trained setup state player number o).rows row
  trained_by number None = here
  trained_by number (Some building) =
      let c = building.owner == player && trains (template_of setup building) number (slice_get setup.templates number) && has_room setup state player in
      ⊎_elim (λ (holds : c ≡ true). rw holds (placed number (spot setup state building.at))) (λ (fails : c ≡ false). rw fails here) (cases_Bool c)

  deleted : (ids : List ℕ) → HasTargetIn (removed_all state (map id_of (filter (is_ordered player ids) state.rows)))
      → Has (removed_all state (map id_of (filter (is_ordered player ids) state.rows))).rows row
  deleted ids target = all_left_alone (map id_of (filter (is_ordered player ids) state.rows)) state row here not_deleted (target_stays target)
    where
      owned : (r : Row) → is_ordered player ids r ≡ true → (r.owner == player) ≡ false → ⊥
      owned r holds fails = let none : is_ordered player ids r ≡ false = ap (λ (b : Bool). b && list_any (λ (id : ℕ). id == r.id) ids) fails in absurd (cc)

      not_deleted : Has (map id_of (filter (is_ordered player ids) state.rows)) row.id → ⊥
      not_deleted m =
          let (q, k, e) = Has-of_map id_of (filter (is_ordered player ids) state.rows) row.id m in
          let (l, holds) = Has-of_filter (is_ordered player ids) state.rows q k in
          let same : q ≡ row = same_row state.rows q row (apart state.rows valid.ascending) l here e in
          owned row (ap (is_ordered player ids) (sym same) ∙ holds) not_owned

      target_stays : HasTargetIn (removed_all state (map id_of (filter (is_ordered player ids) state.rows)))
          → Has (map id_of (filter (is_ordered player ids) state.rows)) (target_of row) → ⊥
      target_stays (inl none) m =
          let (q, k, e) = Has-of_map id_of (filter (is_ordered player ids) state.rows) (target_of row) m in
          let (l, holds) = Has-of_filter (is_ordered player ids) state.rows q k in
          let low = all_at (λ (r : Row). (2 ≤ r.id) × (r.id < state.next)) state.rows q valid.ids l in
          absurd (omega (arith, low.0, e, none))
      target_stays (inr some) m = by (row_of (removed_all state (map id_of (filter (is_ordered player ids) state.rows))) (target_of row)) refl some
        where
          by : (o : Option Row) → row_of (removed_all state (map id_of (filter (is_ordered player ids) state.rows))) (target_of row) ≡ o
              → is_some o ≡ true → ⊥
          by None e s = absurd (cc)
          by (Some q) e s =
              let (k, is_id) = found_row (removed_all state (map id_of (filter (is_ordered player ids) state.rows))) (target_of row) q e in
              let from = left_all (map id_of (filter (is_ordered player ids) state.rows)) state q k in
              from.not_removed (subst (Has (map id_of (filter (is_ordered player ids) state.rows))) (sym is_id) m)

  pub stays_there : (command : Command) → HasTargetIn (commanded_by setup state player command)
      → Has (commanded_by setup state player command).rows row
  stays_there (Walk ids p) target = either (is_inside (size_of setup.land) p) (with_ordered player ids (sent p) state) (ordered ids (sent p))
  stays_there (Stop ids) target = ordered ids stopped
  stays_there (Attack ids enemy) target = either (is_enemy setup player (row_of state enemy)) (with_ordered player ids (set_on enemy) state)
      (ordered ids (set_on enemy))
  stays_there (Delete ids) target = deleted ids target
  stays_there (Place number p) target =
      either (is_placeable setup state p (slice_get setup.templates number) && has_room setup state player) (created setup state number p player)
      (made number p (slice_get setup.templates number))
  stays_there (Train building number) target = trained_by number (row_of state building)
  stays_there Resign target = unchanged state.rows (λ r. r.owner == player) (λ r. record r { owner = 0 }) here not_owned

pub command_leaves_others : CommandLeavesOthers
command_leaves_others setup state order row limits player valid found not_own target =
    let (here, same) = found_row state row.id row found in
    let new = command_keeps_loose setup state order limits player valid in
    row_found (commanded setup state order) row (apart (commanded setup state order).rows new.ascending)
    (stays_there setup state valid order.player row here not_own order.command target)

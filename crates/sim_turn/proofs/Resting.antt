-- A state whose rows all rest goes through the phases as it is.
use Rattle.sim_base.specs.{Commands.{applied_all, removed}, declared.{change.Change.{Change, TheVariants.Word}, state.{Aim.Aim, Motion.Motion, Row.Row}}}
use Rattle.sim_base.specs.{Limits.IsLooselyValid, Rows.{arms_of, id_of, row_of, speed_of, target_of}, Turn.{fights, gone, Hit, Hitting, hitting, is_idle}}
use Rattle.{sim_base.specs.Turn.{is_spent, lets_go, taken_from}, sim_plans.proofs.{AimPlan.aim_plan_is, MovePlan.move_plan_is, RowByRow.hit_plan_is}}
use Rattle.sim_plans.specs.Plans.{aim_changes_by, aim_changes_of, fight_changes_by, fight_changes_of, halt_changes, hit_plan, hurt_changes_by, hurt_changes_of}
use Rattle.{sim_plans.specs.Plans.{move_changes_by, move_changes_of, next_target, target_changes}, sim_turn.proofs.Common.{aimed, ap, false, filter, fold, hit}}
use Rattle.sim_turn.{proofs.Common.{is_resting, List, list_all, map, moved, refl, Setup, State, sym, true, ℕ, [], ◌∙◌, ◌∷◌, ◌≡◌}, specs.Resting.is_resting_by}
use Rattle.std.proofs.{Common.{Bool, cond, flat_map, None, Option, Some, ℤ, ◌++◌}, lemmas.{Bool.{and_parts, not-true, true≢false}, List.Concat.flat_map-cons}}

-- what is known of a row that rests
record Rests (row : Row) : Type 0 where
  motion : row.motion ≡ None
  attack : row.attack ≡ None
  well : is_spent row.health ≡ false

rests_by : (row : Row) (m : Option Motion) (a : Option Aim) → row.motion ≡ m → row.attack ≡ a → is_resting_by m a row.health ≡ true → Rests row
rests_by row None None e f h = record { motion = e; attack = f; well = not-true (is_spent row.health) h }
rests_by row None (Some aim) e f h = absurd (true≢false (sym h))
rests_by row (Some motion) a e f h = absurd (true≢false (sym h))

rests : (row : Row) → is_resting row ≡ true → Rests row
rests row = rests_by row row.motion row.attack refl refl

-- what lists nothing for each of several rows that rest lists nothing
nothing : (f : Row → List Change) → ((row : Row) → Rests row → f row ≡ []) → (rows : List Row) → list_all is_resting rows ≡ true → flat_map f rows ≡ []
nothing f none [] e = refl
nothing f none (row ∷ rows) e =
    let parts = and_parts (is_resting row) (list_all is_resting rows) e in
    flat_map-cons f row rows ∙ ap (λ (cs : List Change). cs ++ flat_map f rows) (none row (rests row parts.0)) ∙ nothing f none rows parts.1

-- none of them is spent
none_spent : (rows : List Row) → list_all is_resting rows ≡ true → filter (λ (row : Row). is_spent row.health) rows ≡ []
none_spent [] e = refl
none_spent (row ∷ rows) e =
    let parts = and_parts (is_resting row) (list_all is_resting rows) e in
    let rest = filter (λ (row : Row). is_spent row.health) rows in
    ap (λ (b : Bool). cond b (row ∷ rest) rest) (rests row parts.0).well ∙ none_spent rows parts.1

not_hurt : (row : Row) → hurt_changes_of [] row ≡ []
not_hurt row = by row.health
  where
    by : (h : Option ℤ) → hurt_changes_by row.id (taken_from row.id []) h ≡ []
    by None = refl
    by (Some health) = refl

module _ (setup : Setup) (state : State) where
  aims_nowhere : (row : Row) → Rests row → aim_changes_of setup state row ≡ []
  aims_nowhere row r =
      ap (λ (a : Option Aim). aim_changes_by lets (is_idle (record row { attack = a })) target row) r.attack ∙ by lets
    where
      lets : Bool
      lets = lets_go setup row (row_of state (target_of row))

      target : ℕ
      target = next_target setup state row (arms_of setup row)

      by : (b : Bool) → aim_changes_by b false target row ≡ []
      by true =
          ap (λ (a : Option Aim). target_changes target row.id a ++ halt_changes row.id row.motion) r.attack ∙ ap (λ (m : Option Motion). halt_changes row.id m)
          r.motion
      by false = refl

  goes_nowhere : (row : Row) → Rests row → move_changes_of setup state row ≡ []
  goes_nowhere row r = ap (λ (m : Option Motion). move_changes_by setup state row m (speed_of setup row)) r.motion

  fights_nobody : (row : Row) → Rests row → fight_changes_of setup state row ≡ []
  fights_nobody row r = ap (λ (a : Option Aim). fight_changes_by state row a (arms_of setup row)) r.attack

  -- rows that rest change neither the word nor the hits
  record IsSame (before after : Hitting) : Type 0 where
    word : after.word ≡ before.word
    hits : after.hits ≡ before.hits

  abbrev step : Hitting → Row → Hitting
  step so_far row = fights setup state so_far row row.attack (arms_of setup row)

  none_hit : (rows : List Row) → list_all is_resting rows ≡ true → (so_far : Hitting) → IsSame so_far (fold step so_far rows)
  none_hit [] e so_far = record { word = refl; hits = refl }
  none_hit (row ∷ rows) e so_far =
      let parts = and_parts (is_resting row) (list_all is_resting rows) e in
      let attack = (rests row parts.0).attack in
      let rest = none_hit rows parts.1 (step so_far row) in
      record {
        word = rest.word ∙ ap (λ (a : Option Aim). (fights setup state so_far row a (arms_of setup row)).word) attack;
        hits = rest.hits ∙ ap (λ (a : Option Aim). (fights setup state so_far row a (arms_of setup row)).hits) attack;
      }

  module _ (e : list_all is_resting state.rows ≡ true) where
    hits_nobody : hit_plan setup state ≡ Word state.word ∷ []
    hits_nobody =
        let same = none_hit state.rows e (record { rows = []; word = state.word; hits = [] }) in
        let done = hitting setup state in
        ap (λ (cs : List Change). cs ++ Word done.word ∷ flat_map (hurt_changes_of done.hits) state.rows)
        (nothing (fight_changes_of setup state) fights_nobody state.rows e) ∙
        ap (λ (w : ℕ). Word w ∷ flat_map (hurt_changes_of done.hits) state.rows) same.word ∙
        ap (λ (hs : List Hit). Word state.word ∷ flat_map (hurt_changes_of hs) state.rows) same.hits ∙
        ap (λ (cs : List Change). Word state.word ∷ cs) (nothing (hurt_changes_of []) (λ row r. not_hurt row) state.rows e)

    pub nobody_acts : IsLooselyValid setup state → state ≡ gone (hit setup (moved setup (aimed setup state)))
    nobody_acts valid =
        let aims : aimed setup state ≡ state = sym (aim_plan_is setup state valid).give ∙
        ap (applied_all setup state) (nothing (aim_changes_of setup state) aims_nowhere state.rows e) in
        let moves : moved setup state ≡ state = sym (move_plan_is setup state valid).give ∙
        ap (applied_all setup state) (nothing (move_changes_of setup state) goes_nowhere state.rows e) in
        let hits : hit setup state ≡ state = sym (hit_plan_is setup state valid).give ∙ ap (applied_all setup state) hits_nobody in
        let goes : gone state ≡ state = ap (λ (rows : List Row). fold (λ (s : State) (id : ℕ). removed id s) state (map id_of rows))
        (none_spent state.rows e) in
        sym (ap (λ (s : State). gone (hit setup (moved setup s))) aims ∙ ap (λ (s : State). gone (hit setup s)) moves ∙ ap gone hits ∙ goes)

-- The plan of the phase in which rows move: its changes fit and give the phase.
use Rattle.{sim_base.specs.{Rows.speed_of, Turn.moved_row}, sim_laws.proofs.Commanding.moved_row_stays}
use Rattle.sim_plans.proofs.Common.{All, All-nil, all_at, along_found, ap, arms_of, Bool, Both, both_same, chasing, false, field_of, goes_on, Going, is_some}
use Rattle.sim_plans.proofs.Common.{IsKnownRow, IsLooselyValid, IsValidMotion, IsValidRow, known_row, List, Motion, move_plan, moved, moved_by, None, Option}
use Rattle.sim_plans.proofs.Common.{Plans, Point, refl, Row, row_of, set_by_all, Setup, Some, State, Stays, step_changes, Still, subst, Suits, sym, target_of}
use Rattle.sim_plans.proofs.{Common.{Template, template_of, true, unsigned_abs, way_of, ℕ, ℤ, [], ◌∙◌, ◌∷◌, ◌≡◌}, GoingOn.goes_on_same, RowByRow.row_by_row_to}
use Rattle.{sim_plans.{proofs.Suiting.{step_changes-set, step_changes_suit}, specs.Plans.{move_changes_by, move_changes_of}}, std.proofs.Common.◌/◌}

-- a row that moves changes in its place and its motion alone
abbrev OnlyMoves : Row → Row → Type 0
OnlyMoves row new = record row { at = new.at; motion = new.motion } ≡ new

found_moves : (row : Row) (budget : ℕ) (goal : Point) (way : List Point) (whole : Bool) → OnlyMoves row (along_found row budget goal way whole)
found_moves row budget goal [] whole = refl
found_moves row budget goal (q ∷ way) whole = refl

moved_by_moves : (setup : Setup) (state : State) (row : Row) (budget : ℕ) (motion : Motion) → OnlyMoves row (moved_by setup state row budget motion)
moved_by_moves setup state row budget Still = refl
moved_by_moves setup state row budget (Going goal [] false) = found_moves row budget goal (way_of (field_of setup state) row.at goal).points
    (way_of (field_of setup state) row.at goal).whole
moved_by_moves setup state row budget (Going goal [] true) = refl
moved_by_moves setup state row budget (Going goal (q ∷ way) whole) = refl

module _ (setup : Setup) (state : State) (valid : IsLooselyValid setup state) (row : Row) (t : Template) (known : template_of setup row ≡ Some t)
    (v : IsValidRow 0 setup state.rows row t) where
  abbrev new : Row
  new = moved_row setup state row row.motion (speed_of setup row)

  stays : Stays 0 setup state.rows row new t
  stays = moved_row_stays 0 setup state valid row t known v

  can_move : is_some new.motion ≡ is_some row.motion
  can_move = both_same (λ m s. IsValidMotion setup m) new.motion t.speed stays.valid.motion ∙
      sym (both_same (λ m s. IsValidMotion setup m) row.motion t.speed v.motion)

  valid_motion : (motion : Motion) → new.motion ≡ Some motion → IsValidMotion setup motion
  valid_motion motion e = by t.speed (subst (λ (o : Option Motion). Both o t.speed (λ m s. IsValidMotion setup m)) e stays.valid.motion)
    where
      by : (s : Option ℤ) → Both (Some motion) s (λ m s. IsValidMotion setup m) → IsValidMotion setup motion
      by None h = absurd h
      by (Some speed) h = h

  changes_suit : All (Suits setup state.rows row) (move_changes_of setup state row)
  changes_suit = by row.motion (speed_of setup row) refl refl
    where
      by : (m : Option Motion) (s : Option ℤ) → row.motion ≡ m → speed_of setup row ≡ s → All (Suits setup state.rows row) (move_changes_by setup state row m s)
      by None s e f = All-nil (Suits setup state.rows row)
      by (Some motion) None e f = All-nil (Suits setup state.rows row)
      by (Some motion) (Some speed) e f =
          let is : new ≡ moved_row setup state row (Some motion) (Some speed) = ap (λ (o : Option Motion). moved_row setup state row o (speed_of setup row)) e ∙
          ap (moved_row setup state row (Some motion)) f in
          subst (λ (r : Row). All (Suits setup state.rows row) (step_changes row r)) is
          (step_changes_suit 0 setup state.rows row t known v new can_move stays.valid.at valid_motion (ap is_some e))

  changes_make : set_by_all (move_changes_of setup state row) row ≡ new
  changes_make = by row.motion (speed_of setup row) refl refl
    where
      by : (m : Option Motion) (s : Option ℤ) → row.motion ≡ m → speed_of setup row ≡ s → set_by_all (move_changes_by setup state row m s) row ≡ moved_row setup
          state row m s
      by None s e f = refl
      by (Some motion) None e f = refl
      by (Some motion) (Some speed) e f =
          let is : new ≡ moved_row setup state row (Some motion) (Some speed) = ap (λ (o : Option Motion). moved_row setup state row o (speed_of setup row)) e ∙
          ap (moved_row setup state row (Some motion)) f in
          let same : is_some (moved_row setup state row (Some motion) (Some speed)).motion ≡ is_some row.motion = ap (λ (r : Row). is_some r.motion) (sym is) ∙
          can_move in
          step_changes-set row (moved_row setup state row (Some motion) (Some speed)) same
          (λ m after on. e ∙ goes_on_same setup state row (unsigned_abs speed / 5) motion (row_of state (target_of row)) (arms_of setup row) m after
          (ap (λ (o : Option Motion). goes_on o m) (sym e) ∙ on)) ∙
          moved_by_moves setup state row (unsigned_abs speed / 5) (chasing row motion (row_of state (target_of row)) (arms_of setup row))

pub move_plan_is : Plans move_plan moved
move_plan_is setup state valid =
    row_by_row_to setup state (move_changes_of setup state) (λ (row : Row). moved_row setup state row row.motion (speed_of setup row)) valid.ascending
    (λ row h. let (t, e, v) = known_row 0 setup state.rows row (all_at (IsKnownRow 0 setup state.rows) state.rows row valid.rows h) in
    changes_suit setup state valid row t e v)
    (λ row h. let (t, e, v) = known_row 0 setup state.rows row (all_at (IsKnownRow 0 setup state.rows) state.rows row valid.rows h) in
    changes_make setup state valid row t e v)

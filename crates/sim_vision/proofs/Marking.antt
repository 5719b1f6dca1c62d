-- The marks of a valid state are known, and so are those of the shifts between two such lists.
use Rattle.{sim_base.proofs.GroundPoints.within-below, sim_base.specs.Places.is_within, sim_vision.proofs.Common.template_of}
use Rattle.sim_vision.proofs.Common.{All-map, All-nil, All-tail, All-weaker, and_parts, arith, Born, born, cell_of, change_of, end_of, Extent}
use Rattle.sim_vision.proofs.Common.{IfSome, int_lt, int_le, MatchOption, Some, None, All, flat_map, Option, refl, All-append, All-cons, All-head}
use Rattle.sim_vision.proofs.Common.{IsSetup, IsTemplate, IsValid, IsValidRow, length-map, Mark, mark_at, mark_of, marks_of, Point, range_with_len}
use Rattle.sim_vision.proofs.Common.{extent_in, Gone, gone, HasReach, ints, is_inside, IsKnownMark, IsKnownRow, IsKnownShift, IsOnGround, IsPlaced, IsPlacedRow}
use Rattle.sim_vision.proofs.Common.{reach_of, reaches_of, Row, same_mark, Setup, shifts_between, Size, size_of, slice_get_within, State, Template}
use Rattle.sim_vision.proofs.Common.{◌≡◌, ℕ, ◌*◌, ◌<◌, ◌≤◌, max, Bool, true, false, cond, eqb, List, [], ◌∷◌, ◌++◌, length, ℤ, pos, ◌≤ℤ◌, ◌<ℤ◌}

-- ---- points of a ground of at most 256 cells each way

pub on_ground : (size : Size) (p : Point) → is_inside size p ≡ true → IsOnGround size (cell_of p)
on_ground size p h =
    let parts = and_parts (is_within p.x size.width) (is_within p.z size.depth) h in
    record { east = within-below p.x size.width parts.0; north = within-below p.z size.depth parts.1 }

low_end : (raw : ℤ) (cells : ℕ) → is_within raw cells ≡ true → pos 0 ≤ℤ raw
low_end raw cells h = let parts = and_parts (int_le (pos 0) raw) (int_lt raw (pos (cells * 65536))) h in let low = parts.0 in grind (arith, ints)

high_end : (raw : ℤ) (cells : ℕ) → cells ≤ 256 → is_within raw cells ≡ true → raw <ℤ pos 16777216
high_end raw cells le h =
    let parts = and_parts (int_le (pos 0) raw) (int_lt raw (pos (cells * 65536))) h in
    let high = parts.1 in
    let high_is : raw <ℤ pos (cells * 65536) = grind (arith, ints) in
    omega (arith, ints)

placed : (size : Size) (p : Point) → size.width ≤ 256 → size.depth ≤ 256 → is_inside size p ≡ true → IsPlaced p
placed size p narrow shallow h =
    let parts = and_parts (is_within p.x size.width) (is_within p.z size.depth) h in
    record {
      west = low_end p.x size.width parts.0;
      east = high_end p.x size.width narrow parts.0;
      south = low_end p.z size.depth parts.1;
      north =
          high_end p.z size.depth shallow parts.1;
    }

-- ---- the rows of a valid state

known_row : (setup : Setup) (rows : List Row) (row : Row) (found : Option Template) → template_of setup row ≡ found →
    MatchOption found ⊥ (IsValidRow 1 setup rows row) → (row.template < length setup.templates) × (is_inside (size_of setup.land) row.at ≡ true) ×
    (row.owner ≤ setup.players)
known_row setup rows row None e known = absurd known
known_row setup rows row (Some t) e known = (slice_get_within setup.templates row.template t e, known.at, known.owner)

row_known : (setup : Setup) (all : List Row) (row : Row) → IsSetup setup → IsKnownRow 1 setup all row →
    IsPlacedRow row × IsKnownMark (extent_in setup) (reaches_of setup) (mark_of row)
row_known setup all row limits known =
    let here = known_row setup all row (template_of setup row) refl known in (
      placed (size_of setup.land) row.at limits.land.width.1 limits.land.depth.1 here.1,
      record { on = on_ground (size_of setup.land) row.at here.1; template = omega (arith, here.0, length-map setup.templates reach_of); owner = here.2 },
    )

pub marks_known : (setup : Setup) (state : State) → IsSetup setup → IsValid setup state →
    All (IsKnownMark (extent_in setup) (reaches_of setup)) (marks_of state)
marks_known setup state limits valid =
    All-map (IsKnownMark (extent_in setup) (reaches_of setup)) mark_of state.rows
    (All-weaker (IsKnownRow 1 setup state.rows) (λ row. IsKnownMark (extent_in setup) (reaches_of setup) (mark_of row))
    (λ row known. (row_known setup state.rows row limits known).1) state.rows valid.rows)

-- ---- the templates of a match

pub have_reach : (count : ℕ) (templates : List Template) → All (IsTemplate count) templates → All HasReach templates
have_reach count templates all = All-weaker (IsTemplate count) HasReach (λ t limits. limits.arms) templates all

-- ---- shifts tell of marks of both lists alone

module _ (extent : Extent) (reaches : List ℕ) where
  found : (id : ℕ) (marks : List Mark) → All (IsKnownMark extent reaches) marks → IfSome (mark_at marks id) (IsKnownMark extent reaches)
  found id [] all = tt
  found id (mark ∷ marks) all = by (eqb mark.id id) (found id marks (All-tail (IsKnownMark extent reaches) mark marks all))
    where
      by : (b : Bool) → IfSome (mark_at marks id) (IsKnownMark extent reaches) → IfSome (cond b (Some mark) (mark_at marks id)) (IsKnownMark extent reaches)
      by true later = All-head (IsKnownMark extent reaches) mark marks all
      by false later = later

  one_change : (old new : Option Mark) → IfSome old (IsKnownMark extent reaches) → IfSome new (IsKnownMark extent reaches) →
      All (IsKnownShift extent reaches) (change_of old new)
  one_change None None known known' = All-nil (IsKnownShift extent reaches)
  one_change None (Some new) known known' = All-cons (IsKnownShift extent reaches) (Born new) [] known' (All-nil (IsKnownShift extent reaches))
  one_change (Some old) None known known' = All-cons (IsKnownShift extent reaches) (Gone old) [] known (All-nil (IsKnownShift extent reaches))
  one_change (Some old) (Some new) known known' = by (same_mark old new)
    where
      by : (b : Bool) → All (IsKnownShift extent reaches) (cond b [] (gone (Some old) ++ born (Some new)))
      by true = All-nil (IsKnownShift extent reaches)
      by false = All-cons (IsKnownShift extent reaches) (Gone old) (Born new ∷ []) known
          (All-cons (IsKnownShift extent reaches) (Born new) [] known' (All-nil (IsKnownShift extent reaches)))

  all_changes : (old new : List Mark) → All (IsKnownMark extent reaches) old → All (IsKnownMark extent reaches) new → (ids : List ℕ) →
      All (IsKnownShift extent reaches) (flat_map (λ id. change_of (mark_at old id) (mark_at new id)) ids)
  all_changes old new known known' [] = All-nil (IsKnownShift extent reaches)
  all_changes old new known known' (id ∷ ids) =
      All-append (IsKnownShift extent reaches) (change_of (mark_at old id) (mark_at new id)) (flat_map (λ id. change_of (mark_at old id) (mark_at new id)) ids)
      (one_change (mark_at old id) (mark_at new id) (found id old known) (found id new known')) (all_changes old new known known' ids)

  pub shifts_known : (old new : List Mark) → All (IsKnownMark extent reaches) old → All (IsKnownMark extent reaches) new →
      All (IsKnownShift extent reaches) (shifts_between old new)
  unfolding shifts_between
  shifts_known old new known known' = all_changes old new known known' (range_with_len 0 (max (end_of old) (end_of new)))

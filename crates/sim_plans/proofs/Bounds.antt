-- Points of a valid state lie on the largest ground, and arms of a match are within their limits.
use Rattle.sim_base.{proofs.GroundPoints.inside_placed, specs.{Limits.IsArms, Places.{Field, is_within, IsPlaced, Size}}}
use Rattle.sim_laws.proofs.Commanding.{inside-on_ground, way_of-inside}
use Rattle.sim_plans.proofs.Common.{All, All-weaker, all_at, and_parts, arith, Arms, arms_of, found_row, ints, is_inside, IsInside, IsKnownRow, IsLooselyValid}
use Rattle.sim_plans.proofs.Common.{IsSetup, known_row, known_template, List, None, Option, option_and_then, Point, pos, refl, Row, row_of, Setup, size_of}
use Rattle.sim_plans.proofs.Common.{slice_get, Some, State, subst, Template, template_of, true, way_of, ℕ, ℤ, ◌*◌, ◌<◌, ◌≡◌, ◌≤ℤ◌, ◌≤◌}
use Rattle.{sim_plans.specs.Sizes.{IsCoordinate, IsGround}, std.{proofs.Common.{int_le, int_lt, ◌<ℤ◌}, specs.Prelude.IfSome}}

coordinate : (raw : ℤ) (cells : ℕ) → cells ≤ 256 → is_within raw cells ≡ true → IsCoordinate raw
coordinate raw cells le h =
    let (low, high) = and_parts (int_le (pos 0) raw) (int_lt raw (pos (cells * 65536))) h in
    let low_is : pos 0 ≤ℤ raw = grind (arith, ints) in
    let high_is : raw <ℤ pos (cells * 65536) = grind (arith, ints) in
    record { low = low_is; high = omega (arith, ints) }

pub placed_in : (size : Size) (p : Point) → IsGround size → is_inside size p ≡ true → IsPlaced p
placed_in size p ground inside =
    let (x, z) = and_parts (is_within p.x size.width) (is_within p.z size.depth) inside in
    let cx = coordinate p.x size.width ground.width x in
    let cz = coordinate p.z size.depth ground.depth z in
    record { west = cx.low; east = cx.high; south = cz.low; north = cz.high }

pub ground : (setup : Setup) → IsSetup setup → IsGround (size_of setup.land)
ground setup limits = record { width = limits.land.width.1; depth = limits.land.depth.1 }

-- the points of a way
pub way_placed : (field : Field) (from goal : Point) → IsGround field.size → is_inside field.size from ≡ true → is_inside field.size goal ≡ true
    → All IsPlaced (way_of field from goal).points
way_placed field from goal small in_from in_goal =
    All-weaker (λ (p : Point). is_inside field.size p ≡ true) IsPlaced (λ p h. placed_in field.size p small h) (way_of field from goal).points
    (way_of-inside field from goal (inside-on_ground field.size from in_from) in_goal)

-- a row that is found stands inside
pub found_inside : (setup : Setup) (state : State) (id : ℕ) (row : Row) → IsLooselyValid setup state → row_of state id ≡ Some row → IsInside setup row.at
found_inside setup state id row valid e =
    let (h, same) = found_row state id row e in
    let (t, k, v) = known_row 0 setup state.rows row (all_at (IsKnownRow 0 setup state.rows) state.rows row valid.rows h) in
    v.at

pub row_placed : (setup : Setup) (rows : List Row) (row : Row) → IsSetup setup → IsKnownRow 0 setup rows row → IsPlaced row.at
row_placed setup rows row limits known = let (t, e, v) = known_row 0 setup rows row known in inside_placed setup row.at limits v.at

pub found_placed : (setup : Setup) (state : State) (id : ℕ) (row : Row) → IsSetup setup → IsLooselyValid setup state → row_of state id ≡ Some row
    → IsPlaced row.at
found_placed setup state id row limits valid e =
    let (h, same) = found_row state id row e in
    row_placed setup state.rows row limits (all_at (IsKnownRow 0 setup state.rows) state.rows row valid.rows h)

pub arms_limited : (setup : Setup) (row : Row) (arms : Arms) → IsSetup setup → arms_of setup row ≡ Some arms → IsArms arms
arms_limited setup row arms limits = by (template_of setup row) refl
  where
    by : (o : Option Template) → slice_get setup.templates row.template ≡ o → option_and_then (λ (t : Template). t.arms) o ≡ Some arms → IsArms arms
    by None e f = absurd (cc)
    by (Some t) e f = let h = known_template setup row.template t limits e in subst (λ (o : Option Arms). IfSome o IsArms) f h.arms

-- the owner of a row that is found has a bit in a mask
pub found_owned : (setup : Setup) (state : State) (id : ℕ) (row : Row) → IsSetup setup → IsLooselyValid setup state → row_of state id ≡ Some row
    → row.owner < 32
found_owned setup state id row limits valid e =
    let (h, same) = found_row state id row e in
    let (t, k, v) = known_row 0 setup state.rows row (all_at (IsKnownRow 0 setup state.rows) state.rows row valid.rows h) in
    omega (arith, v.owner, limits.players, limits.land.players)

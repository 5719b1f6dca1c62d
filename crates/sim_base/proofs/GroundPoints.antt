-- Where a point lies that is on a ground: its cell is one of the ground's, and it is a point of the largest ground.
use Rattle.sim_base.specs.{declared.{place.Point.Point, setup.{Land.Land, Setup.Setup}}, Limits.{IsInside, IsLand, IsSetup}, Places.{is_inside, is_within}}
use Rattle.{sim_base.specs.{Places.IsPlaced, Rows.size_of}, std.proofs.Common.{arith, int_le, int_lt, IsTrue, ltb-true, negsuc, pos, sym, true, true≢false}}
use Rattle.std.proofs.{Common.{unsigned_abs, ℕ, ℤ, ◌*◌, ◌/◌, ◌<ℤ◌, ◌<◌, ◌≡◌, ◌≤ℤ◌, ◌≤◌}, lemmas.{Bool.and_parts, Int.ints, Nat.div_below}}

pub below : (z : ℤ) (n : ℕ) → int_le (pos 0) z ≡ true → int_lt z (pos n) ≡ true → unsigned_abs z < n
below (pos m) n h g = ltb-true m n g
below (negsuc m) n h g = absurd (true≢false (sym h))

pub within-below : (raw : ℤ) (cells : ℕ) → is_within raw cells ≡ true → unsigned_abs raw / 65536 < cells
within-below raw cells h =
    let (low, high) = and_parts (int_le (pos 0) raw) (int_lt raw (pos (cells * 65536))) h in
    div_below (unsigned_abs raw) 65536 cells (omega arith) (below raw (cells * 65536) low high)

-- a raw that lies on a ground lies on the largest
pub within_largest : (raw : ℤ) (cells : ℕ) → cells ≤ 256 → is_within raw cells ≡ true → (pos 0 ≤ℤ raw) × (raw <ℤ pos 16777216)
within_largest raw cells le h =
    let (low, high) = and_parts (int_le (pos 0) raw) (int_lt raw (pos (cells * 65536))) h in
    let low_is : pos 0 ≤ℤ raw = grind (arith, ints) in
    let high_is : raw <ℤ pos (cells * 65536) = grind (arith, ints) in
    (low_is, omega (arith, ints))

pub placed_on : (land : Land) (p : Point) → IsLand land → IsTrue (is_inside (size_of land) p) → IsPlaced p
placed_on land p limits inside =
    let (x, z) = and_parts (is_within p.x land.width) (is_within p.z land.depth) inside in
    let by_x = within_largest p.x land.width limits.width.1 x in
    let by_z = within_largest p.z land.depth limits.depth.1 z in
    record { west = by_x.0; east = by_x.1; south = by_z.0; north = by_z.1 }

pub inside_placed : (setup : Setup) (p : Point) → IsSetup setup → IsInside setup p → IsPlaced p
inside_placed setup p limits inside = placed_on setup.land p limits.land inside

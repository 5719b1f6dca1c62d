-- Holders are found anew, cell by cell and row by row.
use Rattle.sim_territory.proofs.Common.{IsInBlock, IsOnGround, IsPlaceIn, IsShifted, leaving, length, length-set, List, Mark, mark_in, place-below, place_of}
use Rattle.sim_territory.proofs.Common.{ap, AreFound, AreFoundNear, AreHolders, arith, Born, Building, cases_lt, Cell, coming, get_or-set_other}
use Rattle.sim_territory.proofs.Common.{get_or-set_same, GivesNoneAt, GivesNothing, Gone, holder_at, holder_by, inl, inr, IsBuildingOf, IsFoundOr, IsHeldRight}
use Rattle.sim_territory.proofs.Common.{places-apart, refl, same_or_not, set, Setup, share, Shift, Size, size_in, SpansNear, strength_of, subst, sum_at, Sums}
use Rattle.sim_territory.proofs.Common.{sym, ℕ, ◌*◌, ◌+◌, ◌<◌, ◌∙◌, ◌≡◌, ◌≤◌, ◌⊎◌}
use Rattle.sim_territory.proofs.{Holding.holder_by-same, Moving.far-east, Moving.far-north, Moving.left_out, Moving.share-weak, Moving.size-shape}

pub found_none : (sums : Sums) (columns rows : ℕ × ℕ) (holders : List ℕ) → ((c : Cell) → IsInBlock columns rows c → ⊥)
    → AreFound sums columns rows holders holders
found_none sums columns rows holders never = record { full = refl; each = λ c on. inr (refl, never c) }

-- no cell is in columns, or in rows, that end where they begin
pub no_column : (x : ℕ) (rows : ℕ × ℕ) (c : Cell) → IsInBlock (x, x) rows c → ⊥
no_column x rows c in_it = let west = in_it.west in let east = in_it.east in omega arith

pub no_row : (columns : ℕ × ℕ) (z : ℕ) (c : Cell) → IsInBlock columns (z, z) c → ⊥
no_row columns z c in_it = let south = in_it.south in let north = in_it.north in omega arith

-- ---- one cell more

abbrev cell_at : ℕ → ℕ → Cell
cell_at x z = record { x = x; z = z }

is_cell : (c : Cell) (x z : ℕ) → c.x ≡ x → c.z ≡ z → c ≡ cell_at x z
is_cell c x z e f = ap (λ (n : ℕ). cell_at n c.z) e ∙ ap (λ (n : ℕ). cell_at x n) f

module _ (sums : Sums) (west x z : ℕ) (old mid : List ℕ) (done : AreFound sums (west, x) (z, z + 1) old mid) (on : IsOnGround (size_in sums) (cell_at x z))
    (full : length old ≡ sums.width * sums.depth) where
  narrower : (c : Cell) → (c ≡ cell_at x z → ⊥) → IsInBlock (west, x + 1) (z, z + 1) c → IsInBlock (west, x) (z, z + 1) c
  narrower c ne in_it = by (cases_lt c.x x)
    where
      by : (c.x < x) ⊎ (x ≤ c.x) → IsInBlock (west, x) (z, z + 1) c
      by (inl lt) = record { west = in_it.west; east = lt; south = in_it.south; north = in_it.north }
      by (inr le) = let east = in_it.east in let south = in_it.south in let north = in_it.north in absurd (ne (is_cell c x z (omega arith) (omega arith)))

  pub found_cell : (place holder : ℕ) → place ≡ place_of (size_in sums) (cell_at x z)
      → holder ≡ holder_by sums.players (λ player. sum_at sums player (cell_at x z)) → AreFound sums (west, x + 1) (z, z + 1) old (set mid place holder)
  found_cell place holder at is =
      subst (λ (n : ℕ). AreFound sums (west, x + 1) (z, z + 1) old (set mid n holder)) (sym at)
      (record { full = length-set mid here holder ∙ done.full; each = λ c there. by c there (same_or_not c (cell_at x z)) (done.each c there) })
    where
      here : ℕ
      here = place_of (size_in sums) (cell_at x z)

      inside : here < length mid
      inside = omega (arith, done.full, full, place-below (size_in sums) (cell_at x z) on)

      by : (c : Cell) → IsOnGround (size_in sums) c → (c ≡ cell_at x z) ⊎ (c ≡ cell_at x z → ⊥)
          → IsFoundOr sums old mid c (IsInBlock (west, x) (z, z + 1) c → ⊥) →
          IsFoundOr sums old (set mid here holder) c (IsInBlock (west, x + 1) (z, z + 1) c → ⊥)
      by c there (inl e) before = inl (subst (λ (v : Cell). IsHeldRight sums (set mid here holder) v) (sym e) (get_or-set_same mid here holder 0 inside ∙ is))
      by c there (inr ne) (inl right) =
          inl (get_or-set_other mid here (place_of (size_in sums) c) holder 0 (places-apart (size_in sums) c (cell_at x z) there on ne) ∙ right)
      by c there (inr ne) (inr (same, apart)) =
          inr (
            get_or-set_other mid here (place_of (size_in sums) c) holder 0 (places-apart (size_in sums) c (cell_at x z) there on ne) ∙
                same,
            λ in_it. apart (narrower c ne in_it),
          )

-- ---- one row more

pub found_row : (sums : Sums) (columns : ℕ × ℕ) (south z : ℕ) (old mid new : List ℕ) → AreFound sums columns (south, z) old mid
    → AreFound sums columns (z, z + 1) mid new → AreFound sums columns (south, z + 1) old new
found_row sums columns south z old mid new first second =
    record { full = second.full ∙ first.full; each = λ c on. by c (second.each c on) (first.each c on) }
  where
    by : (c : Cell) → IsFoundOr sums mid new c (IsInBlock columns (z, z + 1) c → ⊥) → IsFoundOr sums old mid c (IsInBlock columns (south, z) c → ⊥)
        → IsFoundOr sums old new c (IsInBlock columns (south, z + 1) c → ⊥)
    by c (inl right) before = inl right
    by c (inr (same, out)) (inl right) = inl (same ∙ right)
    by c (inr (same, out)) (inr (was, before)) = inr (same ∙ was, λ in_it. either in_it (cases_lt c.z z))
      where
        either : IsInBlock columns (south, z + 1) c → (c.z < z) ⊎ (z ≤ c.z) → ⊥
        either in_it (inl lt) = before (record { west = in_it.west; east = in_it.east; south = in_it.south; north = lt })
        either in_it (inr le) = out (record { west = in_it.west; east = in_it.east; south = le; north = in_it.north })

-- ---- within reach of an entity

pub found_near : (setup : Setup) (mark : Mark) (b : Building) (sums : Sums) (columns rows : ℕ × ℕ) (old new : List ℕ) → IsBuildingOf setup mark b
    → SpansNear b.cell.x b.reach sums.width columns → SpansNear b.cell.z b.reach sums.depth rows →
    AreFound sums columns rows old new → AreFoundNear setup mark sums old new
found_near setup mark b sums columns rows old new is spans_x spans_z found =
    record { full = found.full; each = λ c on. by c on (found.each c on) }
  where
    weak : (c : Cell) → IsOnGround (size_in sums) c → (IsInBlock columns rows c → ⊥) → (c.x < columns.0) ⊎ (columns.0 ≤ c.x) → (c.x < columns.1)
        ⊎ (columns.1 ≤ c.x) → (c.z < rows.0) ⊎ (rows.0 ≤ c.z) → (c.z < rows.1) ⊎ (rows.1 ≤ c.z) →
        strength_of b c ≡ 0
    weak c on out (inl lt) x z w = far-east b c (left_out b.cell.x b.reach sums.width c.x columns spans_x on.east (inl lt))
    weak c on out (inr le) (inr past) z w = far-east b c (left_out b.cell.x b.reach sums.width c.x columns spans_x on.east (inr past))
    weak c on out (inr le) (inl lt) (inl below) w = far-north b c (left_out b.cell.z b.reach sums.depth c.z rows spans_z on.north (inl below))
    weak c on out (inr le) (inl lt) (inr from) (inr past) = far-north b c (left_out b.cell.z b.reach sums.depth c.z rows spans_z on.north (inr past))
    weak c on out (inr le) (inl lt) (inr from) (inl before) = absurd (out (record { west = le; east = lt; south = from; north = before }))

    by : (c : Cell) → IsOnGround (size_in sums) c → IsFoundOr sums old new c (IsInBlock columns rows c → ⊥)
        → IsFoundOr sums old new c (GivesNoneAt setup mark c)
    by c on (inl right) = inl right
    by c on (inr (same, out)) =
        let none = weak c on out (cases_lt c.x columns.0) (cases_lt c.x columns.1) (cases_lt c.z rows.0) (cases_lt c.z rows.1) in
        inr (same, λ player from. is.shares player c ∙ share-weak b player c none)

pub near_nothing : (setup : Setup) (mark : Mark) (sums : Sums) (holders : List ℕ) → GivesNothing setup mark → AreFoundNear setup mark sums holders holders
near_nothing setup mark sums holders none = record { full = refl; each = λ c on. inr (refl, λ player from. none player c from) }

-- ---- the holders of a table

pub all_found : (sums : Sums) (old new : List ℕ) → length old ≡ sums.width * sums.depth → AreFound sums (0, sums.width) (0, sums.depth) old new
    → AreHolders sums new
all_found sums old new full found = record { full = found.full ∙ full; each = λ c on. by c on (found.each c on) }
  where
    by : (c : Cell) → IsOnGround (size_in sums) c → IsFoundOr sums old new c (IsInBlock (0, sums.width) (0, sums.depth) c → ⊥) → IsHeldRight sums new c
    by c on (inl right) = right
    by c on (inr (same, out)) = absurd (out (record { west = omega arith; east = on.east; south = omega arith; north = on.north }))

none_shifts : (setup : Setup) (player : ℕ) (c : Cell) (shift : Shift) → share setup player c (mark_in shift) ≡ 0 → (leaving setup player c shift ≡ 0)
    × (coming setup player c shift ≡ 0)
none_shifts setup player c (Gone mark) e = (e, refl)
none_shifts setup player c (Born mark) e = (refl, e)

-- after one shift, and where it gives nothing they are as before
module _ (setup : Setup) (shift : Shift) (old new : Sums) (shifted : IsShifted setup shift old new) where
  kept : (player : ℕ) (c : Cell) → IsPlaceIn old player c → share setup player c (mark_in shift) ≡ 0 → sum_at old player c ≡ sum_at new player c
  kept player c at e = let none = none_shifts setup player c shift e in let step = shifted.each player c at in omega (arith, none.0, none.1)

  pub shift_found : (holders found : List ℕ) → AreHolders old holders → AreFoundNear setup (mark_in shift) new holders found → AreHolders new found
  shift_found holders found are near =
      record {
        full = near.full ∙ are.full ∙ ap (λ (s : Size). s.width * s.depth) (sym size_is);
        each = λ c on. by c (subst (λ (s : Size). IsOnGround s c) size_is on) (near.each c on);
      }
    where
      size_is : size_in new ≡ size_in old
      size_is = size-shape old new shifted.shape

      by : (c : Cell) → IsOnGround (size_in old) c → IsFoundOr new holders found c (GivesNoneAt setup (mark_in shift) c) → IsHeldRight new found c
      by c on (inl right) = right
      by c on (inr (same, none)) =
          same ∙ ap (λ (s : Size). holder_at s holders c) size_is ∙ are.each c on
          ∙ holder_by-same old.players (λ player. sum_at old player c) (λ player. sum_at new player c)
          (λ player a b. kept player c (record { least = a; most = b; ground = on }) (none player a))
          ∙ ap (λ (n : ℕ). holder_by n (λ player. sum_at new player c)) (sym shifted.shape.players)

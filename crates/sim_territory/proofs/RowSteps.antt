-- A building comes or goes at one cell more of a row, where the player's influence stands at a place behind the row's first.
use Rattle.sim_territory.proofs.Common.{abs_diff, ap, arith, Bool, Building, Cell, get_or, HasShapeOf, in_part, IsPlaceIn, length, max, MayMove, MaySumsMove}
use Rattle.sim_territory.proofs.Common.{min, Moves, set, share_where, Size, size_in, strength_of, subst, sum_place, Sums, SumsMove, sym, ℕ, ◌*◌, ◌+◌, ◌-◌, ◌<◌}
use Rattle.sim_territory.proofs.Moving.{part_may, part_moves, place-later, size-shape}
use Rattle.sim_territory.proofs.{Common.◌∙◌, Common.◌≡◌, Common.◌≤◌, Keeping.set_summed, Keeping.sum_place-below, Moving.cell_may, Moving.cell_moves}

abbrev pub cell_on : ℕ → ℕ → Cell
cell_on x z = record { x = x; z = z }

-- a place so far behind that of the row's first cell
pub along_row : (sums : Sums) (player z first x : ℕ) → first ≡ sum_place (size_in sums) player (cell_on 0 z) → first + x ≡ sum_place (size_in sums) player
    (cell_on x z)
along_row sums player z first x is = omega (arith, is)

-- a strength that was told by how far the cell is along and across
abbrev octile_by : ℕ → ℕ → ℕ
octile_by along across = 14 * min along across + 10 * (max along across - min along across)

pub strength-on : (b : Building) (x z along across strength : ℕ) → along ≡ abs_diff b.cell.x x → across ≡ abs_diff b.cell.z z
    → strength ≡ b.reach - (14 * min along across + 10 * (max along across - min along across)) → strength ≡ strength_of b (cell_on x z)
strength-on b x z along across strength is over e =
    e
    ∙ ap (λ (n : ℕ). b.reach - octile_by n across) is
    ∙ ap (λ (n : ℕ). b.reach - octile_by (abs_diff b.cell.x x) n) over

module _ (comes : Bool) (b : Building) (old mid : Sums) (z west x place : ℕ) (done : SumsMove comes (share_where (in_part z west x) b) old mid)
    (home : IsPlaceIn old b.owner b.cell) (east : x < old.width) (north : z < old.depth)
    (is : place ≡ sum_place (size_in old) b.owner (cell_on x z)) where
  at_old : IsPlaceIn old b.owner (cell_on x z)
  at_old = record { least = home.least; most = home.most; ground = record { east = east; north = north } }

  at_mid : IsPlaceIn mid b.owner (cell_on x z)
  at_mid = place-later old mid b.owner (cell_on x z) done.shape at_old

  place_mid : place ≡ sum_place (size_in mid) b.owner (cell_on x z)
  place_mid = subst (λ (s : Size). place ≡ sum_place s b.owner (cell_on x z)) (sym (size-shape old mid done.shape)) is

  pub step_within : length mid.items.items ≡ mid.players * (mid.width * mid.depth) → place < length mid.items.items
  step_within full = omega (arith, full, place_mid, sum_place-below mid b.owner (cell_on x z) at_mid)

  pub step_may : (end : ℕ) → west ≤ x → x < end → MaySumsMove comes (share_where (in_part z west end) b) old → MayMove comes (strength_of b (cell_on x z))
      (get_or mid.items.items place 0)
  step_may end from below may =
      subst (λ (n : ℕ). MayMove comes (strength_of b (cell_on x z)) (get_or mid.items.items n 0)) (sym place_mid)
      (cell_may comes b (cell_on x z) mid at_mid (part_may comes b old mid z west x end from below done may))

  pub step_moves : (new : Sums) (influence : ℕ) → west ≤ x → HasShapeOf mid new → new.items.items ≡ set mid.items.items place influence
      → length mid.items.items ≡ mid.players * (mid.width * mid.depth) →
      Moves comes (strength_of b (cell_on x z)) (get_or mid.items.items place 0) influence → SumsMove comes (share_where (in_part z west (x + 1)) b) old new
  step_moves new influence from shape items full step =
      part_moves comes b old mid z west x new from done
      (cell_moves comes b (cell_on x z) mid new influence (set_summed mid new b.owner (cell_on x z) influence place at_mid shape items place_mid full)
      (subst (λ (n : ℕ). Moves comes (strength_of b (cell_on x z)) (get_or mid.items.items n 0) influence) place_mid step))

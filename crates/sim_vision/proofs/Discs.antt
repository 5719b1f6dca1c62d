-- Which cells of a row lie in a disc, by the root that its half is.
use Rattle.sim_vision.proofs.Common.{IsRoot, le-leb, leb-true, lt-leb, lt-ltb, ltb-true, mul-le, same_from_decides, ⊎_elim}
use Rattle.sim_vision.proofs.Common.{◌≡◌, ℕ, ◌+◌, ◌-◌, ◌*◌, ◌<◌, ◌≤◌, min, false, ◌&&◌, ltb, leb, and_from, and_parts, arith, cases_lt, Cell, is_in_disc}

-- how far two numbers are apart
abbrev pub gap : ℕ → ℕ → ℕ
gap a b = (a - b) + (b - a)

-- a row further away than the reach has no cell
pub far_row : (reach away across : ℕ) → reach < away → leb (across * across + away * away) (reach * reach) ≡ false
far_row reach away across far = lt-leb (across * across + away * away) (reach * reach)
    (omega (arith, mul-le (reach + 1) (reach + 1) away away (omega arith) (omega arith)))

in_half : (reach away half across : ℕ) → IsRoot (reach * reach - away * away) half → away ≤ reach → across ≤ half →
    across * across + away * away ≤ reach * reach
in_half reach away half across root near le = omega (arith, mul-le across across half half le le, root.within, mul-le away away reach reach near near)

out_half : (reach away half across : ℕ) → IsRoot (reach * reach - away * away) half → half < across → reach * reach < across * across + away * away
out_half reach away half across root lt = omega (arith, mul-le (half + 1) (half + 1) across across (omega arith) (omega arith), root.above)

from_half : (reach away half across : ℕ) → IsRoot (reach * reach - away * away) half → across * across + away * away ≤ reach * reach → across ≤ half
from_half reach away half across root le = ⊎_elim (λ (lt : half < across). absurd (omega (arith, out_half reach away half across root lt)))
    (λ (h : across ≤ half). h) (cases_lt half across)

-- the span of a row, from the middle to both sides and no further than the ground
pub near_row : (reach away half middle width x : ℕ) → IsRoot (reach * reach - away * away) half → away ≤ reach → x < width →
    (leb (middle - half) x && ltb x (min (middle + half + 1) width)) ≡ leb (gap middle x * gap middle x + away * away) (reach * reach)
near_row reach away half middle width x root near on = same_from_decides {P = gap middle x ≤ half} _ _ (
  (λ h. let parts = and_parts (leb (middle - half) x) (ltb x (min (middle + half + 1) width)) h in omega
      (arith, leb-true (middle - half) x parts.0, ltb-true x (min (middle + half + 1) width) parts.1)),
  (λ le. and_from (leb (middle - half) x) (ltb x (min (middle + half + 1) width)) (le-leb (middle - half) x (omega arith))
      (lt-ltb x (min (middle + half + 1) width) (omega arith))),
) (
  (λ h. from_half reach away half (gap middle x) root (leb-true (gap middle x * gap middle x + away * away) (reach * reach) h)),
  (λ le. le-leb (gap middle x * gap middle x + away * away) (reach * reach) (in_half reach away half (gap middle x) root near le)),
)

-- the row of a cell is further away than the reach
pub far_cell : (reach : ℕ) (middle c : Cell) → reach < gap middle.z c.z → is_in_disc reach middle c ≡ false
far_cell reach middle c far = far_row reach (gap middle.z c.z) (gap middle.x c.x) far

-- a half is at most the greatest reach
pub half_small : (reach away half : ℕ) → IsRoot (reach * reach - away * away) half → reach ≤ 256 → half ≤ 256
half_small reach away half root le = ⊎_elim
    (λ (lt : 256 < half). absurd (omega (arith, mul-le 257 257 half half (omega arith) (omega arith), mul-le reach reach 256 256 le le, root.within)))
    (λ (h : half ≤ 256). h)
    (cases_lt 256 half)

-- The shifts of a trail are followed one by one.
use Rattle.sim_territory.proofs.Common.{Building, Cell, coming, FitShifts, FitsShift, GivesNothing, Gone, HasShapeOf, IsBuildingOf, IsMarkIn, IsOnGround}
use Rattle.sim_territory.proofs.Common.{IsPlaceIn, IsShifted, leaving, Mark, mark_in, MaySumsMove, Setup, share_by, share_of, Shift, Size, size_in, subst}
use Rattle.sim_territory.proofs.Common.{sum_by_more, sum_by_more_le, Sums, SumsMove, sym, take_all}
use Rattle.sim_territory.proofs.Common.{◌≡◌, ℕ, ◌+◌, ◌<◌, ◌≤◌, Bool, true, false, List, length, get_or, take, refl, All-get_or, AreShifted, arith, Born}
use Rattle.sim_territory.proofs.Moving.{may_same, place-before, place-later, shape-chain, shape-same, size-shape, sums_none, sums_same}

-- ---- one entity

module _ (setup : Setup) (mark : Mark) (sums : Sums) (b : Building) (is : IsBuildingOf setup mark b) (within : IsMarkIn sums mark) where
  pub building_place : IsPlaceIn sums b.owner b.cell
  building_place =
      record {
        least = is.player;
        most = let owner = is.owner in let most = within.owner in omega arith;
        ground = subst (λ (v : Cell). IsOnGround (size_in sums) v) (sym is.cell) within.ground;
      }

  pub building_may : (comes : Bool) → MaySumsMove comes (share_by setup mark) sums → MaySumsMove comes (share_of b) sums
  building_may comes may = may_same comes (share_by setup mark) (share_of b) sums (λ player c at. is.shares player c) may

  pub building_moves : (comes : Bool) (new : Sums) → SumsMove comes (share_of b) sums new → SumsMove comes (share_by setup mark) sums new
  building_moves comes new moved = sums_same comes (share_of b) (share_by setup mark) sums new (λ player c at. sym (is.shares player c)) moved

pub nothing_moves : (setup : Setup) (mark : Mark) (comes : Bool) (sums : Sums) → GivesNothing setup mark → SumsMove comes (share_by setup mark) sums sums
nothing_moves setup mark comes sums none = sums_none comes (share_by setup mark) sums (λ player c at. none player c at.least)

-- ---- one shift

pub gone_shifts : (setup : Setup) (mark : Mark) (shift : Shift) (old new : Sums) → shift ≡ Gone mark → SumsMove false (share_by setup mark) old new
    → IsShifted setup shift old new
gone_shifts setup mark shift old new e moved =
    subst (λ (s : Shift). IsShifted setup s old new) (sym e)
    (record { shape = moved.shape; each = λ player c at. let step = moved.each player c at in omega arith })

pub born_shifts : (setup : Setup) (mark : Mark) (shift : Shift) (old new : Sums) → shift ≡ Born mark → SumsMove true (share_by setup mark) old new
    → IsShifted setup shift old new
born_shifts setup mark shift old new e moved =
    subst (λ (s : Shift). IsShifted setup s old new) (sym e)
    (record { shape = moved.shape; each = λ player c at. let step = moved.each player c at in omega arith })

pub gone_may : (setup : Setup) (mark : Mark) (shift : Shift) (sums : Sums) → shift ≡ Gone mark → FitsShift setup shift sums
    → MaySumsMove false (share_by setup mark) sums
gone_may setup mark shift sums e fits = (subst (λ (s : Shift). FitsShift setup s sums) e fits).there

pub born_may : (setup : Setup) (mark : Mark) (shift : Shift) (sums : Sums) → shift ≡ Born mark → FitsShift setup shift sums
    → MaySumsMove true (share_by setup mark) sums
born_may setup mark shift sums e fits = (subst (λ (s : Shift). FitsShift setup s sums) e fits).room

pub gone_mark : (setup : Setup) (mark : Mark) (shift : Shift) (sums : Sums) → shift ≡ Gone mark → FitsShift setup shift sums → IsMarkIn sums mark
gone_mark setup mark shift sums e fits = (subst (λ (s : Shift). FitsShift setup s sums) e fits).mark

pub born_mark : (setup : Setup) (mark : Mark) (shift : Shift) (sums : Sums) → shift ≡ Born mark → FitsShift setup shift sums → IsMarkIn sums mark
born_mark setup mark shift sums e fits = (subst (λ (s : Shift). FitsShift setup s sums) e fits).mark

-- ---- one after another

pub mark_later : (old new : Sums) (mark : Mark) → HasShapeOf old new → IsMarkIn old mark → IsMarkIn new mark
mark_later old new mark shape is =
    record {
      owner = let owner = is.owner in let same = shape.players in omega arith;
      ground = subst (λ (s : Size). IsOnGround s mark.cell) (sym (size-shape old new shape)) is.ground;
    }

pub shifts_begin : (setup : Setup) (shifts : List Shift) (sums : Sums) → AreShifted setup (take 0 shifts) sums sums
shifts_begin setup shifts sums = record { shape = shape-same sums; each = λ player c at. refl }

module _ (setup : Setup) (shifts : List Shift) (old mid : Sums) (i : ℕ) (d : Shift) (below : i < length shifts)
    (done : AreShifted setup (take i shifts) old mid) where
  pub shift_fits : FitShifts setup shifts old → FitsShift setup (get_or shifts i d) mid
  shift_fits fits =
      record {
        limits = fits.limits;
        mark = mark_later old mid (mark_in (get_or shifts i d)) done.shape (All-get_or (λ (s : Shift). IsMarkIn old (mark_in s)) shifts i d below fits.marks);
        there = λ player c at.
            let before = place-before old mid player c done.shape at in
            let sum = done.each player c before in
            let whole = fits.there player c before in
            let part = sum_by_more_le (leaving setup player c) shifts i d below in
            omega arith;
        room = λ player c at.
            let before = place-before old mid player c done.shape at in
            let sum = done.each player c before in
            let whole = fits.room player c before in
            let part = sum_by_more_le (coming setup player c) shifts i d below in
            omega arith;
      }

  pub shift_followed : (new : Sums) → IsShifted setup (get_or shifts i d) mid new → AreShifted setup (take (i + 1) shifts) old new
  shift_followed new one =
      record {
        shape = shape-chain old mid new done.shape one.shape;
        each = λ player c at.
            let sum = done.each player c at in
            let step = one.each player c (place-later old mid player c done.shape at) in
            let left = sum_by_more (leaving setup player c) shifts i d below in
            let came = sum_by_more (coming setup player c) shifts i d below in
            omega arith;
      }

pub shifts_followed : (setup : Setup) (shifts : List Shift) (old new : Sums) (i : ℕ) → length shifts ≤ i → AreShifted setup (take i shifts) old new
    → AreShifted setup shifts old new
shifts_followed setup shifts old new i all done = subst (λ (xs : List Shift). AreShifted setup xs old new) (take_all i shifts all) done

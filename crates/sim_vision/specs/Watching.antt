-- What the marks of a trail see, and what a fog is after a mark has changed.
use Rattle.sim_vision.specs.Common.{Born, Cell, Gone, IsOnGround, IsRoot, Mark, Shift, Size, born, gone, weight_born, weight_gone}
use Rattle.sim_vision.specs.{Vision.is_in_disc, declared.crossing.Crossing.Crossing, declared.span.Span.Span}
use Rattle.std.specs.Prelude.{Bool, false, IfSome, if◌then◌else◌, length, List, nat_le, nat_lt, None, Option, slice_index, slice_index_or, Some, sum_by, true}
use Rattle.std.specs.Prelude.{ℕ, ◌&&◌, ◌*◌, ◌++◌, ◌+◌, ◌-◌, ◌<◌, ◌==◌, ◌||◌, ◌∷◌, ◌≡◌, ◌≤◌}

-- The cells of a disc, row by row: those of a row are a span.

-- 1 where a test holds, and else 0
abbrev pub one_if : Bool → ℕ
one_if b = if b then 1 else 0

-- the number lies from one up to, and without, another
abbrev pub is_within : ℕ → ℕ → ℕ → Bool
is_within from to k = nat_le from k && nat_lt k to

-- the number lies in the span
abbrev pub is_in_span : Span → ℕ → Bool
is_in_span span x = is_within span.from span.to x

-- the span has just the cells of row z that pass a test, on a ground of this width
pub record IsSpanWhere (width z : ℕ) (test : Cell → Bool) (span : Span) : Type 0 where
  pub cells : (x : ℕ) → x < width → is_in_span span x ≡ test (record { x = x; z = z })
  pub ordered : span.from ≤ span.to
  pub within : span.to ≤ width

-- the span lies in a row that begins at this place, in a list of so many
pub record IsSpanOf (start : ℕ) (span : Span) (count : ℕ) : Type 0 where
  pub within : start + span.to ≤ count
  pub ordered : span.from ≤ span.to

-- there are as many flags as counts, and each count of some can be one more
pub record CanRaise (which : ℕ → Bool) (counts : List ℕ) (flags : List Bool) : Type 0 where
  pub paired : length flags ≡ length counts
  pub room : (k : ℕ) → which k ≡ true → slice_index counts k < 65535

-- the number is that of a cell of the span, in a row whose cells are counted on from its start
abbrev pub is_in_row : ℕ → Span → ℕ → Bool
is_in_row start span k = is_within (start + span.from) (start + span.to) k

-- of each row of a disc the greatest distance of a cell from the middle, by the distance of the row
pub record AreHalves (reach : ℕ) (halves : List ℕ) : Type 0 where
  pub small : reach ≤ 256
  pub full : length halves ≡ reach + 1
  pub each : (away : ℕ) → away ≤ reach → IsRoot (reach * reach - away * away) (slice_index halves away)

-- the cell lies in the disc of a mark, whoever owns it
abbrev pub is_near : List ℕ → Option Mark → Cell → Bool
is_near reaches None c = false
is_near reaches (Some mark) c = is_in_disc (slice_index reaches mark.template) mark.cell c

-- a mark of this player sees the cell
abbrev pub mark_sees : List ℕ → ℕ → Cell → Mark → Bool
mark_sees reaches player c mark = mark.owner == player && is_in_disc (slice_index reaches mark.template) mark.cell c

-- the same of a mark, if there is one
abbrev pub is_watched : List ℕ → ℕ → Cell → Option Mark → Bool
is_watched reaches player c None = false
is_watched reaches player c (Some mark) = mark_sees reaches player c mark

-- a mark counts 1 at each cell that it sees
abbrev pub weight_at : List ℕ → ℕ → Cell → Mark → ℕ
weight_at reaches player c mark = one_if (mark_sees reaches player c mark)

-- the ground of a fog, and for how many players it is
pub record Extent : Type 0 where
  pub size : Size
  pub players : ℕ

-- a ground has at most 256 cells each way, and there are at most 8 players
pub record IsExtent (extent : Extent) : Type 0 where
  pub narrow : extent.size.width ≤ 256
  pub shallow : extent.size.depth ≤ 256
  pub few : extent.players ≤ 8

-- how many cells the ground has
abbrev pub area_of : Size → ℕ
area_of size = size.width * size.depth

-- where a row of a player begins in a list by player, then z, then x
abbrev pub start_of : Size → ℕ → ℕ → ℕ
start_of size player z = (player - 1) * area_of size + z * size.width

-- where a cell of a player stands in that list
abbrev pub place_of : Size → ℕ → Cell → ℕ
place_of size player c = start_of size player c.z + c.x

-- one of the players, and a cell of the ground
pub record IsAt (extent : Extent) (player : ℕ) (c : Cell) : Type 0 where
  pub first : 1 ≤ player
  pub last : player ≤ extent.players
  pub on : IsOnGround extent.size c

-- one of the players
pub record IsPlayerOf (extent : Extent) (player : ℕ) : Type 0 where
  pub first : 1 ≤ player
  pub last : player ≤ extent.players

-- one of the players, and a row of the ground
pub record IsRowOf (extent : Extent) (player z : ℕ) : Type 0 where
  pub first : 1 ≤ player
  pub last : player ≤ extent.players
  pub row : z < extent.size.depth

-- how many marks of a player see a cell, by the list of counts
abbrev pub count_in : Extent → List ℕ → ℕ → Cell → ℕ
count_in extent counts player c = slice_index counts (place_of extent.size player c)

-- whether a player has explored a cell, by the list of flags
abbrev pub flag_in : Extent → List Bool → ℕ → Cell → Bool
flag_in extent flags player c = slice_index_or flags (place_of extent.size player c) false

-- the mark stands on the ground, its template is known, and its owner is Gaia or a player
pub record IsKnownMark (extent : Extent) (reaches : List ℕ) (mark : Mark) : Type 0 where
  pub on : IsOnGround extent.size mark.cell
  pub template : mark.template < length reaches
  pub owner : mark.owner ≤ extent.players

-- the mark of the shift is known
abbrev pub IsKnownShift : Extent → List ℕ → Shift → Type 0
IsKnownShift extent reaches (Gone mark) = IsKnownMark extent reaches mark
IsKnownShift extent reaches (Born mark) = IsKnownMark extent reaches mark

-- both marks of a crossing are known, and of one owner
pub record IsKnownCrossing (extent : Extent) (reaches : List ℕ) (crossing : Crossing) : Type 0 where
  pub old : IfSome crossing.old (IsKnownMark extent reaches)
  pub new : IfSome crossing.new (IsKnownMark extent reaches)
  pub owner : IfSome crossing.old (λ old. IfSome crossing.new (λ new. old.owner ≡ new.owner))

-- each mark of a crossing is of this owner
pub record IsOwnedBy (crossing : Crossing) (owner : ℕ) : Type 0 where
  pub old : IfSome crossing.old (λ mark. mark.owner ≡ owner)
  pub new : IfSome crossing.new (λ mark. mark.owner ≡ owner)

-- the shifts begin with a crossing
pub record BeginsWith (shifts : List Shift) (crossing : Crossing) (rest : List Shift) : Type 0 where
  pub is : shifts ≡ gone crossing.old ++ (born crossing.new ++ rest)
  pub owner : IfSome crossing.old (λ old. IfSome crossing.new (λ new. old.owner ≡ new.owner))
  pub shorter : length rest < length shifts

-- a mark that is gone and these shifts begin with a crossing
abbrev pub BeginsFrom : Mark → List Shift → Crossing → List Shift → Type 0
BeginsFrom mark shifts crossing rest = BeginsWith (Gone mark ∷ shifts) crossing rest

-- a row of counts and flags after the old span was left and the new one taken
pub record IsRowTurned (start : ℕ) (old new : Span) (old_counts new_counts : List ℕ) (old_flags new_flags : List Bool) : Type 0 where
  pub counts : (k : ℕ) → slice_index new_counts k + one_if (is_in_row start old k) ≡ slice_index old_counts k + one_if (is_in_row start new k)
  pub flags : (k : ℕ) → slice_index_or new_flags k false ≡ (slice_index_or old_flags k false || is_in_row start new k)

-- the cells of row z are counted for the new mark and no more for the old one
pub record IsTurnedAt (extent : Extent) (reaches : List ℕ) (crossing : Crossing) (z : ℕ) (old_counts new_counts : List ℕ)
    (old_flags new_flags : List Bool) : Type 0 where
  pub counts : (player : ℕ) (c : Cell) → IsAt extent player c →
      count_in extent new_counts player c + one_if (c.z == z && is_watched reaches player c crossing.old)
      ≡ count_in extent old_counts player c + one_if (c.z == z && is_watched reaches player c crossing.new)
  pub flags : (player : ℕ) (c : Cell) → IsAt extent player c → flag_in extent new_flags player c
      ≡ (flag_in extent old_flags player c || (c.z == z && is_watched reaches player c crossing.new))

-- the same of all rows below z
pub record IsTurnedBelow (extent : Extent) (reaches : List ℕ) (crossing : Crossing) (z : ℕ) (old_counts new_counts : List ℕ)
    (old_flags new_flags : List Bool) : Type 0 where
  pub counts : (player : ℕ) (c : Cell) → IsAt extent player c →
      count_in extent new_counts player c + one_if (nat_lt c.z z && is_watched reaches player c crossing.old)
      ≡ count_in extent old_counts player c + one_if (nat_lt c.z z && is_watched reaches player c crossing.new)
  pub flags : (player : ℕ) (c : Cell) → IsAt extent player c → flag_in extent new_flags player c
      ≡ (flag_in extent old_flags player c || (nat_lt c.z z && is_watched reaches player c crossing.new))

-- all cells are counted for the new mark and no more for the old one, and those of the new one are explored
pub record IsTurned (extent : Extent) (reaches : List ℕ) (crossing : Crossing) (old_counts new_counts : List ℕ) (old_flags new_flags : List Bool) : Type 0 where
  pub counts : (player : ℕ) (c : Cell) → IsAt extent player c →
      count_in extent new_counts player c + one_if (is_watched reaches player c crossing.old)
      ≡ count_in extent old_counts player c + one_if (is_watched reaches player c crossing.new)
  pub flags : (player : ℕ) (c : Cell) → IsAt extent player c → flag_in extent new_flags player c
      ≡ (flag_in extent old_flags player c || is_watched reaches player c crossing.new)

-- the old mark is counted, the new one can be, and what the old one sees is explored
pub record CanTurn (extent : Extent) (reaches : List ℕ) (crossing : Crossing) (counts : List ℕ) (flags : List Bool) : Type 0 where
  pub counted : (player : ℕ) (c : Cell) → IsAt extent player c → is_watched reaches player c crossing.old ≡ true → 0 < count_in extent counts player c
  pub room : (player : ℕ) (c : Cell) → IsAt extent player c → is_watched reaches player c crossing.new ≡ true → count_in extent counts player c < 65535
  pub seen : (player : ℕ) (c : Cell) → IsAt extent player c → is_watched reaches player c crossing.old ≡ true → flag_in extent flags player c ≡ true

-- the same of the cells of row z
pub record CanTurnAt (extent : Extent) (reaches : List ℕ) (crossing : Crossing) (z : ℕ) (counts : List ℕ) (flags : List Bool) : Type 0 where
  pub counted : (player : ℕ) (c : Cell) → IsAt extent player c → c.z ≡ z → is_watched reaches player c crossing.old ≡ true → 0 < count_in extent counts player c
  pub room : (player : ℕ) (c : Cell) → IsAt extent player c → c.z ≡ z → is_watched reaches player c crossing.new ≡ true →
      count_in extent counts player c < 65535
  pub seen : (player : ℕ) (c : Cell) → IsAt extent player c → c.z ≡ z → is_watched reaches player c crossing.old ≡ true → flag_in extent flags player c ≡ true

-- what is counted is explored
abbrev pub AreLit : Extent → List ℕ → List Bool → Type 0
AreLit extent counts flags = (player : ℕ) (c : Cell) → IsAt extent player c → 0 < count_in extent counts player c → flag_in extent flags player c ≡ true

-- the shifts tell nothing gone that is not counted, and nothing more born than can be
pub record CanFollow (extent : Extent) (reaches : List ℕ) (shifts : List Shift) (counts : List ℕ) : Type 0 where
  pub counted : (player : ℕ) (c : Cell) → IsAt extent player c → sum_by (weight_gone (weight_at reaches player c)) shifts ≤ count_in extent counts player c
  pub room : (player : ℕ) (c : Cell) → IsAt extent player c → count_in extent counts player c + sum_by (weight_born (weight_at reaches player c)) shifts ≤ 65535

-- counts and flags after all the shifts
pub record HasFollowed (extent : Extent) (reaches : List ℕ) (shifts : List Shift) (old_counts new_counts : List ℕ)
    (old_flags new_flags : List Bool) : Type 0 where
  pub counts : (player : ℕ) (c : Cell) → IsAt extent player c →
      count_in extent new_counts player c + sum_by (weight_gone (weight_at reaches player c)) shifts
      ≡ count_in extent old_counts player c + sum_by (weight_born (weight_at reaches player c)) shifts
  pub flags : (player : ℕ) (c : Cell) → IsAt extent player c →
      flag_in extent new_flags player c ≡ (flag_in extent old_flags player c || nat_lt 0 (sum_by (weight_born (weight_at reaches player c)) shifts))

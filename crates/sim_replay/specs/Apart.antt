-- The first place at which two lists of digests differ.
use Rattle.{sim_replay.specs.declared.apart.Apart.Apart, std.specs.List.range_with_len, std.specs.List.zip, std.specs.Str.bytes_eq}
use Rattle.std.specs.Prelude.{◌≡◌, ℕ, ◌<◌, Bool, ◌≢◌, not, List, map, length, slice_get, Some, find, Option}

-- a turn beside what two lists have at it
abbrev pub apart_of : ℕ × (List ℕ × List ℕ) → Apart
apart_of entry = record { turn = entry.0; told = entry.1.0; played = entry.1.1 }

-- the turns from 0 on that two lists both have, each with what they have at it
abbrev pub at_each_turn : List (List ℕ) → List (List ℕ) → List Apart
at_each_turn told played = map apart_of (zip (range_with_len 0 (length told)) (zip told played))

-- the two digests of a turn differ
abbrev pub is_other : Apart → Bool
is_other apart = not (bytes_eq apart.told apart.played)

-- the first of the turns at which they do
abbrev pub first_apart : List (List ℕ) → List (List ℕ) → Option Apart
first_apart told played = find is_other (at_each_turn told played)

-- two lists have these digests at a turn, which differ, and the same ones at all turns before
pub record IsFirstApart (told played : List (List ℕ)) (apart : Apart) : Type 0 where
  pub within_told : apart.turn < length told
  pub within_played : apart.turn < length played
  pub told_is : slice_get told apart.turn ≡ Some apart.told
  pub played_is : slice_get played apart.turn ≡ Some apart.played
  pub differ : apart.told ≢ apart.played
  pub before : (turn : ℕ) → turn < apart.turn → slice_get told turn ≡ slice_get played turn

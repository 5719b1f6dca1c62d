-- The first place at which two lists of digests differ.
use Rattle.sim_replay.proofs.Common.{[], ◌+◌, ◌<◌, ◌∙◌, ◌∷◌, ◌≡◌, ap, Apart, apart_of, arith, Bool, bytes_eq, bytes_eq-Decides, cond, false, first_apart}
use Rattle.sim_replay.proofs.Common.{is_other, IsFirstApart, length, List, map, None, not, Option, refl, slice_get, Some, subst, suc, sym, take, take_all, true}
use Rattle.{sim_replay.proofs.Common.zero, sim_replay.proofs.Common.ℕ, std.specs.List.find, std.specs.List.range_with_len, std.specs.List.zip}

-- the first turn from this one on whose digests differ, found one by one
abbrev pub apart_from : ℕ → List (List ℕ) → List (List ℕ) → Option Apart
apart_from turn [] played = None
apart_from turn (told ∷ others) [] = None
apart_from turn (told ∷ others) (played ∷ more) =
    cond (bytes_eq told played) (apart_from (turn + 1) others more) (Some (record { turn = turn; told = told; played = played }))

from_turn : (turn : ℕ) (told played : List (List ℕ)) → apart_from turn told played
    ≡ find is_other (map apart_of (zip (range_with_len turn (length told)) (zip told played)))
from_turn turn [] played = refl
from_turn turn (x ∷ xs) [] = refl
from_turn turn (x ∷ xs) (y ∷ ys) = by (from_turn (turn + 1) xs ys) (bytes_eq x y)
  where
    here : Apart
    here = record { turn = turn; told = x; played = y }

    rest : Option Apart
    rest = find is_other (map apart_of (zip (range_with_len (turn + 1) (length xs)) (zip xs ys)))

    by : apart_from (turn + 1) xs ys ≡ rest → (same : Bool) → cond same (apart_from (turn + 1) xs ys) (Some here) ≡ cond (not same) (Some here) rest
    by more true = more
    by more false = refl

-- found from the start on, it is the first of all
pub from_start : (told played : List (List ℕ)) → apart_from 0 told played ≡ first_apart told played
from_start told played = from_turn 0 told played

-- so many places behind this turn two lists differ for the first time
record Found (turn : ℕ) (told played : List (List ℕ)) (apart : Apart) : Type 0 where
  place : ℕ
  at : apart.turn ≡ turn + place
  in_told : place < length told
  in_played : place < length played
  told_is : slice_get told place ≡ Some apart.told
  played_is : slice_get played place ≡ Some apart.played
  differ : apart.told ≡ apart.played → ⊥
  before : (earlier : ℕ) → earlier < place → slice_get told earlier ≡ slice_get played earlier

differs : (x y : List ℕ) → bytes_eq x y ≡ false → x ≡ y → ⊥
differs x y other same = let yes = (bytes_eq-Decides x y).1 same in absurd cc

found : (turn : ℕ) (told played : List (List ℕ)) (apart : Apart) → apart_from turn told played ≡ Some apart → Found turn told played apart
found turn [] played apart e = absurd cc
found turn (x ∷ xs) [] apart e = absurd cc
found turn (x ∷ xs) (y ∷ ys) apart e = by (λ h. found (turn + 1) xs ys apart h) (bytes_eq x y) refl e
  where
    here : Apart
    here = record { turn = turn; told = x; played = y }

    at_once : bytes_eq x y ≡ false → Found turn (x ∷ xs) (y ∷ ys) here
    at_once other = record {
      place = 0;
      at = omega arith;
      in_told = omega arith;
      in_played = omega arith;
      told_is = refl;
      played_is = refl;
      differ = differs x y other;
      before = λ earlier less. absurd (omega (arith, less));
    }

    later : x ≡ y → Found (turn + 1) xs ys apart → Found turn (x ∷ xs) (y ∷ ys) apart
    later same f = record {
      place = suc f.place;
      at = omega (arith, f.at);
      in_told = omega (arith, f.in_told);
      in_played = omega (arith, f.in_played);
      told_is = f.told_is;
      played_is = f.played_is;
      differ = f.differ;
      before = earlier_same f.before;
    }
      where
        earlier_same : {place : ℕ} → ((earlier : ℕ) → earlier < place → slice_get xs earlier ≡ slice_get ys earlier)
            → (earlier : ℕ) → earlier < suc place → slice_get (x ∷ xs) earlier ≡ slice_get (y ∷ ys) earlier
        earlier_same before zero less = ap Some same
        earlier_same before (suc earlier) less = before earlier (omega (arith, less))

    by : (apart_from (turn + 1) xs ys ≡ Some apart → Found (turn + 1) xs ys apart) → (same : Bool) → bytes_eq x y ≡ same
        → cond same (apart_from (turn + 1) xs ys) (Some here) ≡ Some apart → Found turn (x ∷ xs) (y ∷ ys) apart
    by more true same h = later ((bytes_eq-Decides x y).0 same) (more h)
    by more false other h = let is : here ≡ apart = cc in subst (Found turn (x ∷ xs) (y ∷ ys)) is (at_once other)

pub first_is : (told played : List (List ℕ)) (apart : Apart) → first_apart told played ≡ Some apart → IsFirstApart told played apart
first_is told played apart e =
    let f = found 0 told played apart (from_start told played ∙ e) in
    let at : apart.turn ≡ f.place = omega (arith, f.at) in
    record {
      within_told = omega (arith, at, f.in_told);
      within_played = omega (arith, at, f.in_played);
      told_is = ap (slice_get told) at ∙ f.told_is;
      played_is = ap (slice_get played) at ∙ f.played_is;
      differ = f.differ;
      before = λ earlier less. f.before earlier (omega (arith, at, less));
    }

none_from : (turn : ℕ) (told played : List (List ℕ)) → apart_from turn told played ≡ None → take (length played) told ≡ take (length told) played
none_from turn [] [] e = refl
none_from turn [] (y ∷ ys) e = refl
none_from turn (x ∷ xs) [] e = refl
none_from turn (x ∷ xs) (y ∷ ys) e = by (λ h. none_from (turn + 1) xs ys h) (bytes_eq x y) refl e
  where
    by : (apart_from (turn + 1) xs ys ≡ None → take (length ys) xs ≡ take (length xs) ys) → (same : Bool) → bytes_eq x y ≡ same
        → cond same (apart_from (turn + 1) xs ys) (Some (record { turn = turn; told = x; played = y })) ≡ None
        → (x ∷ take (length ys) xs) ≡ (y ∷ take (length xs) ys)
    by more true same h =
        let first = (bytes_eq-Decides x y).0 same in
        let rest = more h in cc
    by more false other h = absurd cc

-- nowhere apart, they are the same as far as both go
pub none_within : (told played : List (List ℕ)) → first_apart told played ≡ None → take (length played) told ≡ take (length told) played
none_within told played e = none_from 0 told played (from_start told played ∙ e)

-- and where they are as long, they are the same
pub none_apart : (told played : List (List ℕ)) → length told ≡ length played → first_apart told played ≡ None → told ≡ played
none_apart told played long e =
    sym (take_all (length played) told (omega (arith, long))) ∙ none_within told played e ∙ take_all (length told) played (omega (arith, long))

-- A fog that follows shifts: what one crossing takes of them, and how far it has come.
use Rattle.sim_vision.proofs.Common.{All-head, All-tail, ap, AreLit, arith, BeginsWith, Born, born, CanFollow, CanTurn, cases_Bool, Cell, count_in, Crossing}
use Rattle.sim_vision.proofs.Common.{Extent, flag_in, Gone, gone, HasFollowed, is_watched, IsAt, IsKnownCrossing, IsKnownMark, IsKnownShift, IsTurned, lt-ltb}
use Rattle.sim_vision.proofs.Common.{Mark, one_if, or_left, or_right, Shift, subst, sum_by-cons, sym, weight_at, weight_born, weight_gone, ⊎_elim, ◌∙◌}
use Rattle.sim_vision.proofs.Common.{◌≡◌, ℕ, ◌+◌, ◌<◌, Bool, true, false, ◌||◌, ltb, List, [], ◌∷◌, ◌++◌, IfSome, Some, None, All, sum_by, Option, refl}

module _ (reaches : List ℕ) (player : ℕ) (c : Cell) where
  -- what is gone in these shifts of those that see the cell, and what is born
  abbrev pub gone_at : List Shift → ℕ
  gone_at shifts = sum_by (weight_gone (weight_at reaches player c)) shifts

  abbrev pub born_at : List Shift → ℕ
  born_at shifts = sum_by (weight_born (weight_at reaches player c)) shifts

  pub gone_first : (old new : Option Mark) (rest : List Shift) → gone_at (gone old ++ (born new ++ rest))
      ≡ one_if (is_watched reaches player c old) + gone_at rest
  gone_first None None rest = omega arith
  gone_first None (Some new) rest = omega (arith, sum_by-cons (weight_gone (weight_at reaches player c)) (Born new) rest)
  gone_first (Some old) None rest = sum_by-cons (weight_gone (weight_at reaches player c)) (Gone old) rest
  gone_first (Some old) (Some new) rest =
      omega (
        arith,
        sum_by-cons (weight_gone (weight_at reaches player c)) (Gone old) (Born new ∷ rest),
        sum_by-cons (weight_gone (weight_at reaches player c)) (Born new) rest,
      )

  pub born_first : (old new : Option Mark) (rest : List Shift) → born_at (gone old ++ (born new ++ rest))
      ≡ one_if (is_watched reaches player c new) + born_at rest
  born_first None None rest = omega arith
  born_first None (Some new) rest = sum_by-cons (weight_born (weight_at reaches player c)) (Born new) rest
  born_first (Some old) None rest = omega (arith, sum_by-cons (weight_born (weight_at reaches player c)) (Gone old) rest)
  born_first (Some old) (Some new) rest =
      omega (
        arith,
        sum_by-cons (weight_born (weight_at reaches player c)) (Gone old) (Born new ∷ rest),
        sum_by-cons (weight_born (weight_at reaches player c)) (Born new) rest,
      )

positive_or : (b : Bool) (n : ℕ) → ltb 0 (one_if b + n) ≡ (b || ltb 0 n)
positive_or true n = lt-ltb 0 (1 + n) (omega arith)
positive_or false n = ap (ltb 0) (omega arith)

or_joins : (x y z : Bool) → ((x || y) || z) ≡ (x || (y || z))
or_joins true y z = refl
or_joins false y z = refl

-- how far the fog has come: what is left of the shifts, and what was told
pub record Follows (extent : Extent) (reaches : List ℕ) (all rest : List Shift) (counts counts' : List ℕ) (flags flags' : List Bool) : Type 0 where
  pub known : All (IsKnownShift extent reaches) rest
  pub lit : AreLit extent counts' flags'
  pub can : CanFollow extent reaches rest counts'
  pub told : (player : ℕ) (c : Cell) → IsAt extent player c → count_in extent counts' player c + born_at reaches player c rest + gone_at reaches player c
      all ≡ count_in extent counts player c + born_at reaches player c all + gone_at reaches player c rest
  pub seen : (player : ℕ) (c : Cell) → IsAt extent player c → (flag_in extent flags' player c || ltb 0 (born_at reaches player c rest))
      ≡ (flag_in extent flags player c || ltb 0 (born_at reaches player c all))

pub begins : (extent : Extent) (reaches : List ℕ) (shifts : List Shift) (counts : List ℕ) (flags : List Bool) → All (IsKnownShift extent reaches) shifts →
    AreLit extent counts flags → CanFollow extent reaches shifts counts →
    Follows extent reaches shifts shifts counts counts flags flags
begins extent reaches shifts counts flags known lit can = record { known = known; lit = lit; can = can; told = λ player c at. refl; seen = λ player c at. refl }

-- the marks of the first crossing are known, and those behind it
known_parts : (extent : Extent) (reaches : List ℕ) (old new : Option Mark) (rest : List Shift) →
    All (IsKnownShift extent reaches) (gone old ++ (born new ++ rest)) →
    IfSome old (IsKnownMark extent reaches) × IfSome new (IsKnownMark extent reaches) × All (IsKnownShift extent reaches) rest
known_parts extent reaches None None rest all = (tt, tt, all)
known_parts extent reaches None (Some new) rest all = (
  tt,
  All-head (IsKnownShift extent reaches) (Born new) rest all,
  All-tail (IsKnownShift extent reaches) (Born new) rest all,
)
known_parts extent reaches (Some old) None rest all = (
  All-head (IsKnownShift extent reaches) (Gone old) rest all,
  tt,
  All-tail (IsKnownShift extent reaches) (Gone old) rest all,
)
known_parts extent reaches (Some old) (Some new) rest all =
    let later = All-tail (IsKnownShift extent reaches) (Gone old) (Born new ∷ rest) all in (
      All-head (IsKnownShift extent reaches) (Gone old) (Born new ∷ rest) all,
      All-head (IsKnownShift extent reaches) (Born new) rest later,
      All-tail (IsKnownShift extent reaches) (Born new) rest later,
    )

module _ (extent : Extent) (reaches : List ℕ) (all shifts more : List Shift) (crossing : Crossing) (first : BeginsWith shifts crossing more)
    (counts counts' : List ℕ) (flags flags' : List Bool)
    (follows : Follows extent reaches all shifts counts counts' flags flags') where
  parts : IfSome crossing.old (IsKnownMark extent reaches) × IfSome crossing.new (IsKnownMark extent reaches) × All (IsKnownShift extent reaches) more
  parts = known_parts extent reaches crossing.old crossing.new more (subst (All (IsKnownShift extent reaches)) first.is follows.known)

  gone_is : (player : ℕ) (c : Cell) → gone_at reaches player c shifts ≡ one_if (is_watched reaches player c crossing.old) + gone_at reaches player c more
  gone_is player c = ap (gone_at reaches player c) first.is ∙ gone_first reaches player c crossing.old crossing.new more

  born_is : (player : ℕ) (c : Cell) → born_at reaches player c shifts ≡ one_if (is_watched reaches player c crossing.new) + born_at reaches player c more
  born_is player c = ap (born_at reaches player c) first.is ∙ born_first reaches player c crossing.old crossing.new more

  pub known_crossing : IsKnownCrossing extent reaches crossing
  known_crossing = record { old = parts.0; new = parts.1; owner = first.owner }

  counted : (player : ℕ) (c : Cell) → IsAt extent player c → is_watched reaches player c crossing.old ≡ true → 0 < count_in extent counts' player c
  counted player c at h = let one = ap one_if h in omega (arith, one, gone_is player c, follows.can.counted player c at)

  pub can_turn : CanTurn extent reaches crossing counts' flags'
  can_turn = record {
    counted = counted;
    room = λ player c at h. let one = ap one_if h in omega (arith, one, born_is player c, follows.can.room player c at);
    seen = λ player c at h. follows.lit player c at (counted player c at h);
  }

  pub goes_on : (counts'' : List ℕ) (flags'' : List Bool) → IsTurned extent reaches crossing counts' counts'' flags' flags'' →
      Follows extent reaches all more counts counts'' flags flags''
  goes_on counts'' flags'' turned = record {
    known = parts.2;
    lit = λ player c at some. turned.flags player c at ∙ ⊎_elim
        (λ (h : is_watched reaches player c crossing.new ≡ true). or_right (flag_in extent flags' player c) (is_watched reaches player c crossing.new) h)
        (λ (h : is_watched reaches player c crossing.new ≡ false). or_left (flag_in extent flags' player c) (is_watched reaches player c crossing.new)
        (follows.lit player c at (let none = ap one_if h in omega (arith, none, turned.counts player c at, some))))
        (cases_Bool (is_watched reaches player c crossing.new));
    can = record {
      counted = λ player c at. omega (arith, gone_is player c, turned.counts player c at, follows.can.counted player c at);
      room = λ player c at. omega (arith, born_is player c, turned.counts player c at, follows.can.room player c at);
    };
    told = λ player c at. omega (arith, gone_is player c, born_is player c, turned.counts player c at, follows.told player c at);
    seen = λ player c at.
        ap (λ (b : Bool). b || ltb 0 (born_at reaches player c more)) (turned.flags player c at)
        ∙ or_joins (flag_in extent flags' player c) (is_watched reaches player c crossing.new) (ltb 0 (born_at reaches player c more))
        ∙ sym (ap (λ (b : Bool). flag_in extent flags' player c || b) (ap (ltb 0) (born_is player c)
        ∙ positive_or (is_watched reaches player c crossing.new) (born_at reaches player c more)))
        ∙ follows.seen player c at;
  }

pub ends : (extent : Extent) (reaches : List ℕ) (all rest : List Shift) (counts counts' : List ℕ) (flags flags' : List Bool) → rest ≡ [] →
    Follows extent reaches all rest counts counts' flags flags' →
    HasFollowed extent reaches all counts counts' flags flags'
ends extent reaches all rest counts counts' flags flags' none follows = record {
  counts = λ player c at.
      let no_gone = ap (gone_at reaches player c) none in
      let no_born = ap (born_at reaches player c) none in
      omega (arith, no_gone, no_born, follows.told player c at);
  flags = λ player c at. sym (or_nothing (flag_in extent flags' player c))
      ∙ sym (ap (λ (shifts : List Shift). flag_in extent flags' player c || ltb 0 (born_at reaches player c shifts)) none) ∙ follows.seen player c at;
}
  where
    or_nothing : (x : Bool) → (x || false) ≡ x
    or_nothing true = refl
    or_nothing false = refl

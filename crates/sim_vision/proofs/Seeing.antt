-- Counts of marks are counts of rows, and what is counted is visible.
use Rattle.sim_vision.proofs.Common.{All, All-nil, all_counts, all_visible, ap, AreLit, arith, Bool, CanFollow, Cell, cond, count_at, count_by}
use Rattle.sim_vision.proofs.Common.{count_by-le-length, count_in, explored_with, ext_get_or, extent_in, extent_of, false, flag_in, Fog, get_or, get_or-map}
use Rattle.sim_vision.proofs.Common.{get_or-replicate, HasFollowed, is_visible, IsAscending, IsAt, IsKnownMark, IsKnownShift, IsSetup, IsValid, Keeps, length}
use Rattle.sim_vision.proofs.Common.{length-map, List, list_any, lt-ltb, ltb, map, Mark, mark_of, mark_sees, marks_ascend, marks_of, place_of, reaches_of, refl}
use Rattle.sim_vision.proofs.Common.{replicate, Row, sees, Setup, shifts_between, State, sum_by-cons, sum_follows, SumFollows, sym, true, true≢false, weight_at}
use Rattle.sim_vision.proofs.{Common.{ℕ, [], ◌*◌, ◌+◌, ◌<◌, ◌||◌, ◌∙◌, ◌∷◌, ◌≡◌, ◌≤◌}, Flat.{by_players, explored_at, explored_long, place_at, StandsAt}}
use Rattle.sim_vision.proofs.{Following.born_at, Marking.{marks_known, shifts_known}, Places.place_below}

-- ---- counts over rows

count_rows : (setup : Setup) (player : ℕ) (c : Cell) (rows : List Row) →
    count_by (mark_sees (reaches_of setup) player c) (map mark_of rows) ≡ count_at setup rows player c
count_rows setup player c [] = refl
count_rows setup player c (row ∷ rows) =
    sum_by-cons (weight_at (reaches_of setup) player c) (mark_of row) (map mark_of rows)
    ∙ ap (λ (n : ℕ). weight_at (reaches_of setup) player c (mark_of row) + n) (count_rows setup player c rows)
    ∙ sym (sum_by-cons (λ (r : Row). weight_at (reaches_of setup) player c (mark_of r)) row rows)

any_step : (b : Bool) (n : ℕ) (any : Bool) → ltb 0 n ≡ any → ltb 0 (cond b 1 0 + n) ≡ (b || any)
any_step true n any e = lt-ltb 0 (1 + n) (omega arith)
any_step false n any e = ap (ltb 0) (plus_none n) ∙ e
  where
    plus_none : (n : ℕ) → 0 + n ≡ n
    plus_none n = omega arith

pub any_counted : {X : Type 0} (test : X → Bool) (xs : List X) → ltb 0 (count_by test xs) ≡ list_any test xs
any_counted test [] = refl
any_counted test (x ∷ xs) = ap (ltb 0) (sum_by-cons (λ y. cond (test y) 1 0) x xs)
    ∙ any_step (test x) (count_by test xs) (list_any test xs) (any_counted test xs)

-- ---- a fog that begins, and one that has followed a state

pub keeps_nothing : (setup : Setup) (discs : List ℕ) (fog : Fog) → IsSetup setup → discs ≡ reaches_of setup → extent_of fog ≡ extent_in setup →
    fog.counts.items ≡ replicate (setup.players * (setup.land.width * setup.land.depth)) 0 → Keeps setup [] discs fog
keeps_nothing setup discs fog limits reaches extent counts = record {
  limits = limits;
  reaches = reaches;
  extent = extent;
  few = omega arith;
  known = All-nil (IsKnownMark (extent_in setup) (reaches_of setup));
  counts = none;
  lit = λ player c at some. absurd (let n = none player c at in omega (arith, n, some));
}
  where
    none : (player : ℕ) (c : Cell) → IsAt (extent_in setup) player c → count_in (extent_in setup) fog.counts.items player c ≡ 0
    none player c at =
        ap (λ (xs : List ℕ). get_or xs (place_of (extent_in setup).size player c) 0) counts
        ∙ get_or-replicate (setup.players * (setup.land.width * setup.land.depth)) (place_of (extent_in setup).size player c) 0 0
        (place_below (extent_in setup) player c at)

module _ (setup : Setup) (state : State) (marks : List Mark) (discs : List ℕ) (fog : Fog) (keeps : Keeps setup marks discs fog)
    (valid : IsValid setup state) (up : IsAscending marks) where
  follows : (player : ℕ) (c : Cell) → SumFollows (weight_at (reaches_of setup) player c) marks (marks_of state) (shifts_between marks (marks_of state))
  follows player c = sum_follows (weight_at (reaches_of setup) player c) marks (marks_of state) up (marks_ascend state valid.ascending)

  few_new : (player : ℕ) (c : Cell) → count_by (mark_sees (reaches_of setup) player c) (marks_of state) ≤ 4096
  few_new player c = omega (arith, count_by-le-length (mark_sees (reaches_of setup) player c) (marks_of state), length-map state.rows mark_of, valid.few)

  pub known : All (IsKnownShift (extent_in setup) (reaches_of setup)) (shifts_between marks (marks_of state))
  known = shifts_known (extent_in setup) (reaches_of setup) marks (marks_of state) keeps.known (marks_known setup state keeps.limits valid)

  pub can : CanFollow (extent_in setup) (reaches_of setup) (shifts_between marks (marks_of state)) fog.counts.items
  can = record {
    counted = λ player c at. omega (arith, keeps.counts player c at, (follows player c).gone);
    room = λ player c at. omega (
      arith,
      keeps.counts player c at,
      (follows player c).born,
      few_new player c,
      count_by-le-length (mark_sees (reaches_of setup) player c) marks,
      keeps.few,
    );
  }

  module _ (fog' : Fog) (extent' : extent_of fog' ≡ extent_in setup)
      (followed : HasFollowed (extent_in setup) (reaches_of setup) (shifts_between marks (marks_of state)) fog.counts.items fog'.counts.items
      fog.flags.items fog'.flags.items)
      (lit : AreLit (extent_in setup) fog'.counts.items fog'.flags.items) where
    new_counts : (player : ℕ) (c : Cell) → IsAt (extent_in setup) player c →
        count_in (extent_in setup) fog'.counts.items player c ≡ count_by (mark_sees (reaches_of setup) player c) (marks_of state)
    new_counts player c at = omega (arith, keeps.counts player c at, followed.counts player c at, (follows player c).balance)

    pub keeps_on : Keeps setup (marks_of state) discs fog'
    keeps_on = record {
      limits = keeps.limits;
      reaches = keeps.reaches;
      extent = extent';
      few = omega (arith, length-map state.rows mark_of, valid.few);
      known = marks_known setup state keeps.limits valid;
      counts = new_counts;
      lit = lit;
    }

    row_counts : (player : ℕ) (c : Cell) → IsAt (extent_in setup) player c →
        count_in (extent_in setup) fog'.counts.items player c ≡ count_at setup state.rows player c
    row_counts player c at = new_counts player c at ∙ count_rows setup player c state.rows

    pub counts_are : length fog'.counts.items ≡ setup.players * (setup.land.width * setup.land.depth) → fog'.counts.items ≡ all_counts setup state.rows
    counts_are full = by_players 0 (extent_in setup) (count_at setup state.rows) fog'.counts.items full row_counts

    visible_are : length fog'.counts.items ≡ setup.players * (setup.land.width * setup.land.depth) →
        map (ltb 0) fog'.counts.items ≡ all_visible setup state.rows
    visible_are full = by_players false (extent_in setup) (is_visible setup state.rows) (map (ltb 0) fog'.counts.items)
        (length-map fog'.counts.items (ltb 0) ∙ full)
        (λ player c at.
        get_or-map (ltb 0) fog'.counts.items (place_of (extent_in setup).size player c) 0 false
        (let below = place_below (extent_in setup) player c at in omega (arith, below, full))
        ∙ ap (ltb 0) (row_counts player c at) ∙ any_counted (sees setup player c) state.rows)

    -- what was explored, or was born, is what was explored, or is counted
    flags_are : (player : ℕ) (c : Cell) → IsAt (extent_in setup) player c →
        flag_in (extent_in setup) fog'.flags.items player c ≡ (flag_in (extent_in setup) fog.flags.items player c || ltb 0
        (count_in (extent_in setup) fog'.counts.items player c))
    flags_are player c at = followed.flags player c at ∙ by (flag_in (extent_in setup) fog.flags.items player c) refl
      where
        by : (b : Bool) → flag_in (extent_in setup) fog.flags.items player c ≡ b →
            (b || ltb 0 (born_at (reaches_of setup) player c (shifts_between marks (marks_of state))))
            ≡ (b || ltb 0 (count_in (extent_in setup) fog'.counts.items player c))
        by true e = refl
        by false e =
            let none : 0 < count_in (extent_in setup) fog.counts.items player c → ⊥ = λ some. true≢false (sym (keeps.lit player c at some) ∙ e) in
            let balance = followed.counts player c at in
            let less = (can).counted player c at in
            ap (ltb 0) (omega (arith, none, balance, less))

    pub explored_are : length fog'.counts.items ≡ setup.players * (setup.land.width * setup.land.depth) →
        length fog.flags.items ≡ setup.players * (setup.land.width * setup.land.depth) →
        length fog'.flags.items ≡ setup.players * (setup.land.width * setup.land.depth) →
        fog'.flags.items ≡ explored_with fog.flags.items (all_visible setup state.rows)
    explored_are full was long =
        ext_get_or false fog'.flags.items (explored_with fog.flags.items (map (ltb 0) fog'.counts.items))
        (long ∙ sym (explored_long fog.flags.items (map (ltb 0) fog'.counts.items) ∙ was))
        (λ k lt. each k (place_at (extent_in setup) k (omega (arith, long, lt))))
        ∙ ap (explored_with fog.flags.items) (visible_are full)
      where
        each : (k : ℕ) → StandsAt (extent_in setup) k → get_or fog'.flags.items k false
            ≡ get_or (explored_with fog.flags.items (map (ltb 0) fog'.counts.items)) k false
        each k s =
            ap (λ (n : ℕ). get_or fog'.flags.items n false) (sym s.is) ∙ flags_are s.player s.cell s.at
            ∙ ap (λ (b : Bool). flag_in (extent_in setup) fog.flags.items s.player s.cell || b)
            (sym (get_or-map (ltb 0) fog'.counts.items (place_of (extent_in setup).size s.player s.cell) 0 false
            (let below = place_below (extent_in setup) s.player s.cell s.at in omega (arith, below, full))))
            ∙ sym (explored_at fog.flags.items (map (ltb 0) fog'.counts.items) (place_of (extent_in setup).size s.player s.cell)
            (was ∙ sym (length-map fog'.counts.items (ltb 0) ∙ full)))
            ∙ ap (λ (n : ℕ). get_or (explored_with fog.flags.items (map (ltb 0) fog'.counts.items)) n false) s.is

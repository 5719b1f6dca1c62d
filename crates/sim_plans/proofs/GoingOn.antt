-- A row that goes on to the same goal with as many waypoints as before goes on as it went.
use Rattle.{sim_base.specs.{Places.root, Turn.{after_walk, headed, toward, Walked, walked}}, sim_plans.proofs.Common.along_found}
use Rattle.sim_plans.proofs.Common.{and_parts, ap, arith, Arms, Bool, chasing, cond, eq-eqb, eqb-true, false, field_of, goes_on, Going, int_eq, is_near, length}
use Rattle.sim_plans.proofs.Common.{List, Motion, moved_by, nat_le, None, Option, Point, refl, Row, same_point, Setup, Some, square, State, Still, suc, sym}
use Rattle.{sim_plans.proofs.Common.{true, way_of, ℕ, [], ◌-◌, ◌==◌, ◌∙◌, ◌∷◌, ◌≡◌, ◌≤◌}, std.proofs.lemmas.Bool.{and_from, both_ways, Decides.Decides-int_eq}}

-- no more waypoints are left than there were
rest_is_short : (p : Point) (budget : ℕ) (way : List Point) → length (walked p budget way).way ≤ length way
rest_is_short p budget [] = omega arith
rest_is_short p budget (q ∷ way) = by (rest_is_short q (budget - root (square p q)) way) (nat_le (root (square p q)) budget)
  where
    by : length (walked q (budget - root (square p q)) way).way ≤ length way → (b : Bool)
        → length (cond b (walked q (budget - root (square p q)) way) (record { at = toward p q budget (root (square p q)); way = q ∷ way })).way ≤
        suc (length way)
    by less true = omega arith
    by less false = omega arith

-- as many are left only where none was reached
pub none_reached : (p : Point) (budget : ℕ) (way : List Point) → length way ≡ length (walked p budget way).way → (walked p budget way).way ≡ way
none_reached p budget [] e = refl
none_reached p budget (q ∷ way) e = by (nat_le (root (square p q)) budget) e
  where
    stop : Walked
    stop = record { at = toward p q budget (root (square p q)); way = q ∷ way }

    by : (b : Bool) → suc (length way) ≡ length (cond b (walked q (budget - root (square p q)) way) stop).way
        → (cond b (walked q (budget - root (square p q)) way) stop).way ≡ q ∷ way
    by true e = absurd (omega (arith, rest_is_short q (budget - root (square p q)) way, e))
    by false e = refl

-- a row that goes on keeps its way, whatever it is after the walk
walked_on : (goal : Point) (way : List Point) (whole : Bool) (rest : List Point) → (length way ≡ length rest → rest ≡ way)
    → goes_on (Some (Going goal way whole)) (after_walk goal whole rest) ≡ true →
    Going goal way whole ≡ after_walk goal whole rest
walked_on goal way true [] same e = absurd (cc)
walked_on goal way false [] same e =
    let (here, many) = and_parts (same_point goal goal) (length way == 0) e in
    ap (λ (ps : List Point). Going goal ps false) (sym (same (eqb-true (length way) 0 many)))
walked_on goal way whole (q ∷ rest) same e =
    let (here, many) = and_parts (same_point goal goal) (length way == suc (length rest)) e in
    ap (λ (ps : List Point). Going goal ps whole) (sym (same (eqb-true (length way) (suc (length rest)) many)))

no_more : (n : ℕ) → (0 == suc n) ≡ true → ⊥
no_more n e = absurd (omega (arith, eqb-true 0 (suc n) e))

-- one that asked a way has none left only where it must ask again
asked_on : (goal : Point) (whole : Bool) (rest : List Point) → goes_on (Some (Going goal [] false)) (after_walk goal whole rest) ≡ true
    → Going goal [] false ≡ after_walk goal whole rest
asked_on goal true [] e = absurd (cc)
asked_on goal false [] e = refl
asked_on goal whole (q ∷ rest) e = let (here, many) = and_parts (same_point goal goal) (0 == suc (length rest)) e in absurd (no_more (length rest) many)

-- one that goes elsewhere does not go on
turned : (goal to : Point) (way rest : List Point) (whole all : Bool) → same_point goal to ≡ false → goes_on (Some (Going goal way whole))
    (after_walk to all rest) ≡ true → ⊥
turned goal to way [] whole true other e = absurd (cc)
turned goal to way [] whole false other e = let (here, many) = and_parts (same_point goal to) (length way == 0) e in both_ways (same_point goal to) other here
turned goal to way (q ∷ rest) whole all other e = let (here, many) = and_parts (same_point goal to) (length way == suc (length rest)) e in
    both_ways (same_point goal to) other here

-- one that stood still does not go on
started : (to : Point) (rest : List Point) (all : Bool) → goes_on (Some Still) (after_walk to all rest) ≡ true → Still ≡ after_walk to all rest
started to [] true e = refl
started to [] false e = absurd (cc)
started to (q ∷ rest) all e = absurd (cc)

stopped : (motion : Motion) → goes_on (Some motion) Still ≡ true → motion ≡ Still
stopped Still e = refl
stopped (Going goal way whole) e = absurd (cc)

-- and what goes on as it went goes on
pub goes_on_itself : (motion : Motion) → goes_on (Some motion) motion ≡ true
goes_on_itself Still = refl
goes_on_itself (Going goal way whole) =
    and_from (same_point goal goal) (length way == length way) (and_from (int_eq goal.x goal.x) (int_eq goal.z goal.z) ((Decides-int_eq goal.x goal.x).1 refl)
    ((Decides-int_eq goal.z goal.z).1 refl)) (eq-eqb (length way) (length way) refl)

-- what is the same as before where it goes on as before
abbrev Same : Motion → Option Motion → Type 0
Same motion new = (m : Motion) → new ≡ Some m → goes_on (Some motion) m ≡ true → Some motion ≡ Some m

same_by : (motion new : Motion) → (goes_on (Some motion) new ≡ true → motion ≡ new) → Same motion (Some new)
same_by motion new same m e on =
    let is : new ≡ m = cc in
    ap (λ (o : Motion). Some o) (same (ap (goes_on (Some motion)) is ∙ on) ∙ is)

module _ (setup : Setup) (state : State) (row : Row) (budget : ℕ) where
  found_same : (motion : Motion) (goal : Point) (way : List Point) (whole : Bool)
      → ((rest : List Point) → goes_on (Some motion) (after_walk goal whole rest) ≡ true → motion ≡ after_walk goal whole rest) →
      Same motion (along_found row budget goal way whole).motion
  found_same motion goal [] whole same = same_by motion Still (stopped motion)
  found_same motion goal (q ∷ way) whole same = same_by motion (after_walk goal whole (walked row.at budget (q ∷ way)).way)
      (same (walked row.at budget (q ∷ way)).way)

  kept_same : (motion : Motion) → Same motion (moved_by setup state row budget motion).motion
  kept_same Still = same_by Still Still (stopped Still)
  kept_same (Going goal [] false) =
      let way = way_of (field_of setup state) row.at goal in
      found_same (Going goal [] false) goal way.points way.whole (asked_on goal way.whole)
  kept_same (Going goal [] true) = same_by (Going goal [] true) Still (stopped (Going goal [] true))
  kept_same (Going goal (q ∷ way) whole) =
      same_by (Going goal (q ∷ way) whole) (after_walk goal whole (walked row.at budget (q ∷ way)).way)
      (walked_on goal (q ∷ way) whole (walked row.at budget (q ∷ way)).way (none_reached row.at budget (q ∷ way)))

  headed_same : (motion : Motion) (to : Point) → Same motion (moved_by setup state row budget (headed to motion)).motion
  headed_same Still to =
      let way = way_of (field_of setup state) row.at to in
      found_same Still to way.points way.whole (λ rest. started to rest way.whole)
  headed_same (Going goal way whole) to = by (same_point goal to) refl
    where
      by : (b : Bool) → same_point goal to ≡ b
          → Same (Going goal way whole) (moved_by setup state row budget (cond b (Going goal way whole) (Going to [] false))).motion
      by true e = kept_same (Going goal way whole)
      by false e =
          let found = way_of (field_of setup state) row.at to in
          found_same (Going goal way whole) to found.points found.whole (λ rest on. absurd (turned goal to way rest whole found.whole e on))

  pub goes_on_same : (motion : Motion) (target : Option Row) (arms : Option Arms)
      → Same motion (moved_by setup state row budget (chasing row motion target arms)).motion
  goes_on_same motion None None = kept_same motion
  goes_on_same motion None (Some arms) = kept_same motion
  goes_on_same motion (Some target) None = kept_same motion
  goes_on_same motion (Some target) (Some arms) = by (is_near target.at row.at arms.range)
    where
      by : (b : Bool) → Same motion (moved_by setup state row budget (cond b Still (headed target.at motion))).motion
      by true = same_by motion Still (stopped motion)
      by false = headed_same motion target.at

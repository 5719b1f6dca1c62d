-- The numbers of a valid state fit the bytes that they get, by the limits of its match.
use Rattle.sim_codec.proofs.Common.{Aim, All, AllByRecursion, and_parts, Any-from_list_any, ap, append_assoc, arith, Arms, Both, clock_bytes, eqb-true}
use Rattle.sim_codec.proofs.Common.{FitsSigned, get_or, get_or_from_slice_get, Going, has_health, IfSome, inl, inr, int_le, int_lt, ints, is_some, is_within}
use Rattle.sim_codec.proofs.Common.{IsArms, IsInside, IsKnownRow, IsMotion, IsPoint, IsRawFrom, IsSetup, IsTemplate, IsTrue, IsValid, IsValidAim, IsValidMotion}
use Rattle.sim_codec.proofs.Common.{IsValidRow, length, length-append, length-u32_bytes, length-u64_bytes, List, ltb-true, MatchOption, Motion, negsuc, None}
use Rattle.sim_codec.proofs.Common.{Option, Point, pos, recursion_from_All, refl, Row, Setup, slice_get, slice_get_within, Some, State, Still, subst, Template}
use Rattle.sim_codec.proofs.Common.{u32_bytes, u64_bytes, w32, ℕ, ℤ, ◌&&◌, ◌*◌, ◌++◌, ◌<◌, ◌==◌, ◌^◌, ◌∙◌, ◌≡◌, ◌≢◌, ◌≤ℤ◌, ◌≤◌, ◌⊎◌}

-- each number of a row fits, and no way is too long
pub record RowFits (row : Row) : Type 0 where
  pub id : row.id < 2 ^ 32
  pub template : row.template < 2 ^ 16
  pub at : IsPoint row.at
  pub owner : row.owner < 2 ^ 8
  pub health : IfSome row.health (FitsSigned w32)
  pub motion : IfSome row.motion IsMotion
  pub attack : IfSome row.attack (λ (aim : Aim). (aim.target < 2 ^ 32) × (aim.cooldown < 2 ^ 16))

raw_fits : (raw : ℤ) (cells : ℕ) → cells ≤ 256 → IsTrue (is_within raw cells) → FitsSigned w32 raw
raw_fits (pos n) cells le h =
    let tests = and_parts (int_le (pos 0) (pos n)) (int_lt (pos n) (pos (cells * 65536))) h in
    let below : n < cells * 65536 = ltb-true n (cells * 65536) tests.1 in
    omega (arith, ints)
raw_fits (negsuc n) cells le h = absurd (cc h)

point_fits : (setup : Setup) → IsSetup setup → (p : Point) → IsInside setup p → IsPoint p
point_fits setup is p h =
    let parts = and_parts (is_within p.x setup.land.width) (is_within p.z setup.land.depth) h in
    record { x = raw_fits p.x setup.land.width is.land.width.1 parts.0; z = raw_fits p.z setup.land.depth is.land.depth.1 parts.1 }

health_fits : (health most : Option ℤ) → Both health most (λ health most. (pos 1 ≤ℤ health) × (health ≤ℤ most)) → IfSome most (IsRawFrom 1 1048576000)
    → IfSome health (FitsSigned w32)
health_fits None most h limits = tt
health_fits (Some health) None h limits = absurd h
health_fits (Some health) (Some most) h limits =
    let low : pos 1 ≤ℤ health = h.0 in
    let high : health ≤ℤ most = h.1 in
    let top : most ≤ℤ pos 1048576000 = limits.1 in
    omega (arith, ints)

motion_fits : (setup : Setup) → IsSetup setup → (motion : Option Motion) (speed : Option ℤ) → Both motion speed (λ motion speed. IsValidMotion setup motion)
    → IfSome motion IsMotion
motion_fits setup is None speed h = tt
motion_fits setup is (Some motion) None h = absurd h
motion_fits setup is (Some Still) (Some speed) h = tt
motion_fits setup is (Some (Going goal way whole)) (Some speed) h =
    (point_fits setup is goal h.0, recursion_from_All IsPoint way (λ k d lt. point_fits setup is (get_or way k d) (h.1 k d lt)), h.2)

-- some row has the id
id_below : (rows : List Row) (id next : ℕ) → All (λ (row : Row). (2 ≤ row.id) × (row.id < next)) rows → IsTrue (has_health rows id) → id < next
id_below rows id next ids h =
    let found = Any-from_list_any (λ (row : Row). row.id == id && is_some row.health) rows h in
    let same : found.1.id ≡ id = eqb-true found.1.id id (and_parts (found.1.id == id) (is_some found.1.health) found.4).0 in
    let below : (get_or rows found.0 found.1).id < next = (ids found.0 found.1 found.2).1 in
    let here : found.1.id < next = subst (λ (row : Row). row.id < next) found.3 below in
    omega arith

attack_fits : (rows : List Row) (id next : ℕ) (attack : Option Aim) (arms : Option Arms) → All (λ (row : Row). (2 ≤ row.id) × (row.id < next)) rows
    → next ≤ 0x20000000 → Both attack arms (IsValidAim rows id) → IfSome arms IsArms
    → IfSome attack (λ (aim : Aim). (aim.target < 2 ^ 32) × (aim.cooldown < 2 ^ 16))
attack_fits rows id next None arms ids le h limits = tt
attack_fits rows id next (Some aim) None ids le h limits = absurd h
attack_fits rows id next (Some aim) (Some arms) ids le h limits = (target h.target, omega (arith, h.cooldown, limits.repeat))
  where
    target : (aim.target ≡ 0) ⊎ ((aim.target ≢ id) × IsTrue (has_health rows aim.target)) → aim.target < 2 ^ 32
    target (inl none) = omega arith
    target (inr other) = omega (arith, id_below rows aim.target next ids other.1)

template_fits : (setup : Setup) → IsSetup setup → (n : ℕ) (t : Template) → slice_get setup.templates n ≡ Some t → (n < 2 ^ 16)
    × IsTemplate (length setup.templates) t
template_fits setup is n t e =
    let lt = slice_get_within setup.templates n t e in
    (omega (arith, is.few_templates), subst (IsTemplate (length setup.templates)) (get_or_from_slice_get setup.templates n t t e) (is.templates n t lt))

row_fits : (setup : Setup) → IsSetup setup → (rows : List Row) (next : ℕ) → All (λ (row : Row). (2 ≤ row.id) × (row.id < next)) rows → next ≤ 0x20000000
    → (row : Row) → row.id < next → IsKnownRow 1 setup rows row → RowFits row
row_fits setup is rows next ids le row below known = by_template (slice_get setup.templates row.template) refl known
  where
    by_template : (o : Option Template) → slice_get setup.templates row.template ≡ o → MatchOption o ⊥ (IsValidRow 1 setup rows row) → RowFits row
    by_template None e h = absurd h
    by_template (Some t) e h =
        let limits = template_fits setup is row.template t e in
        record {
          id = omega arith;
          template = limits.0;
          at = point_fits setup is row.at h.at;
          owner = omega (arith, h.owner, is.players, is.land.players.1);
          health = health_fits row.health t.health h.health limits.1.health;
          motion = motion_fits setup is row.motion t.speed h.motion;
          attack = attack_fits rows row.id next row.attack t.arms ids le h.attack limits.1.arms;
        }

pub rows_fit : (setup : Setup) → IsSetup setup → (s : State) → IsValid setup s → AllByRecursion RowFits s.rows
rows_fit setup is s valid =
    recursion_from_All RowFits s.rows (λ k d lt. row_fits setup is s.rows s.next valid.ids valid.next.1 (get_or s.rows k d) (valid.ids k d lt).1
    (valid.rows k d lt))

-- The clock has sixteen bytes: its numbers, one behind the other.

pub length-clock_bytes : (s : State) → length (clock_bytes s) ≡ 16
length-clock_bytes s =
    omega (
      arith,
      length-append (u32_bytes s.turn) (u32_bytes s.next ++ u64_bytes s.word),
      length-append (u32_bytes s.next) (u64_bytes s.word),
      length-u32_bytes
          s.turn,
      length-u32_bytes s.next,
      length-u64_bytes s.word,
    )

-- the clock and what follows it, number by number
pub clock_regrouped : (s : State) (rest : List ℕ) → clock_bytes s ++ rest ≡ u32_bytes s.turn ++ (u32_bytes s.next ++ (u64_bytes s.word ++ rest))
clock_regrouped s rest =
    append_assoc (u32_bytes s.turn) (u32_bytes s.next ++ u64_bytes s.word) rest ∙ ap (λ (x : List ℕ). u32_bytes s.turn ++ x)
    (append_assoc (u32_bytes s.next) (u64_bytes s.word) rest)

-- Each command of a player of the match keeps a state valid.
use Rattle.sim_base.{proofs.GroundPoints.within-below, specs.{Commands.{field_of, is_open}, declared.{command.Command.TheVariants.Walk, template.Base.Base}}}
use Rattle.sim_base.specs.{Rows.speed_of, Turn.{after_walk, along, along_found, chasing, headed, moved_by, moved_row, same_point, toward, Walked, walked}}
use Rattle.{sim_base.specs.Ways.Way, sim_laws.proofs.Common.{Aim, All, All-cons, All-head, All-map, All-nil, All-tail, All-weaker, and_from, and_parts, ap}}
use Rattle.sim_laws.proofs.Common.{arith, Arms, arms_of, Attack, Bool, Both, cases_Bool, Cell, cell_of, cells_of, centre_of, Command, commanded_by, cond}
use Rattle.sim_laws.proofs.Common.{cond_both, created, Delete, enemies_of, eqb-true, false, Field, filter, first_points, Going, has_health, has_room, id_of}
use Rattle.sim_laws.proofs.Common.{in_mask, inl, inr, ints, is_enemy, is_inside, is_near, is_ordered, is_placeable, is_some, is_within, IsFound, IsInside}
use Rattle.sim_laws.proofs.Common.{IsKnownRow, IsOnGround, IsSetup, IsState, IsTemplate, IsTrail, IsValidMotion, IsValidRow, le-leb, leb, length, List}
use Rattle.sim_laws.proofs.Common.{list_any, lt-ltb, ltb, ltb-true, map, MatchBool, Motion, moved, mul-le, negsuc, None, Option, option_and_then, Place}
use Rattle.sim_laws.proofs.Common.{placed_on, Point, pos, refl, Resign, reverse, root, Row, row_of, same_cell, sent, set_on, Setup, Size, size_of, slice_get}
use Rattle.sim_laws.proofs.Common.{slice_get_within, Some, spot, square, State, Still, Stop, stopped, subst, suc, sym, target_of, Template, template_of, Train}
use Rattle.sim_laws.proofs.Common.{trained, trains, true, unsigned_abs, way_between, way_of, waypoints, with_new, with_ordered, zero, ℕ, ℤ, ⊎_elim, [], ◌&&◌}
use Rattle.sim_laws.proofs.{Common.{◌*◌, ◌+ℤ◌, ◌+◌, ◌-ℤ◌, ◌-◌, ◌/◌, ◌<◌, ◌==◌, ◌∙◌, ◌∷◌, ◌≡◌, ◌≤◌}, Neighbours.{Has, Has-of_cells_of}, Removing.IsTarget}
use Rattle.sim_laws.proofs.{Removing.{least_of-some, ordered_stays, placed_stays, removed_all_is_state, same_stays}, Rounds.way_of-is_way, Trips.walk-on}
use Rattle.sim_laws.proofs.Validity.{all_at, apart, found_row, Has-of_filter, has_health_of, known_row, mapped_is_state, same_row, Stays, with_new_is_valid}
use Rattle.{sim_laws.specs.WayLaws.{InsideIsOnGround, WayOfIsShort, WayOfStaysInside}, std.proofs.Common.{int_div, length-take, neg_ℤ, ◌*ℤ◌}}
use Rattle.std.proofs.lemmas.{Bool.leb-false, List.{Elements.All-take, Sorted.{All-permutation, IsPermutation-reverse}}, Option.get_or_from_slice_get}
use Rattle.std.{proofs.Math.Nat.{div-le_of_le-mul, div-le_self, mul_comm}, specs.Prelude.{nat_le, nat_lt}}

-- a template of a known number is one of the match
pub known_template : (setup : Setup) (number : ℕ) (t : Template) → IsSetup setup → slice_get setup.templates number ≡ Some t
    → IsTemplate (length setup.templates) t
known_template setup number t limits e =
    subst (IsTemplate (length setup.templates)) (get_or_from_slice_get setup.templates number t t e)
    (limits.templates number t (slice_get_within setup.templates number t e))

-- the middle of a cell of the ground lies inside
middle_within : (place cells : ℕ) → place < cells → is_within (pos (place * 65536 + 32768)) cells ≡ true
middle_within place cells h =
    and_from (leb 0 (place * 65536 + 32768)) (ltb (place * 65536 + 32768) (cells * 65536))
    (le-leb 0 (place * 65536 + 32768) (omega arith)) (lt-ltb (place * 65536 + 32768) (cells * 65536) (omega arith))

pub middle_inside : (size : Size) (c : Cell) → IsOnGround size c → is_inside size (centre_of c) ≡ true
middle_inside size c on =
    and_from (is_within (pos (c.x * 65536 + 32768)) size.width) (is_within (pos (c.z * 65536 + 32768)) size.depth)
    (middle_within c.x size.width on.east) (middle_within c.z size.depth on.north)

-- the spot for a new row lies on the ground
pub spot_on_ground : (setup : Setup) (state : State) (p : Point) (c : Cell) → spot setup state p ≡ Some c → IsOnGround (size_of setup.land) c
spot_on_ground setup state p c e =
    let (h, free) = Has-of_filter (is_open setup state) (cells_of (size_of setup.land)) c
    ((least_of-some (λ (x : Cell). square (centre_of x) p ∷ x.z ∷ x.x ∷ []) (filter (is_open setup state) (cells_of (size_of setup.land))) c e).member) in
    Has-of_cells_of (size_of setup.land) c h

module _ (least : ℕ) (setup : Setup) (limits : IsSetup setup) (state : State) (valid : IsState least setup state) (player : ℕ) where
  -- each row that is ordered stays valid
  ordered_is_state : (ids : List ℕ) (changed : Row → Row) →
      ((row : Row) (t : Template) → Has state.rows row → row.owner ≡ player → template_of setup row ≡ Some t → IsValidRow least setup state.rows row t
      → Stays least setup state.rows row (changed row) t) →
      IsState least setup (with_ordered player ids changed state)
  ordered_is_state ids changed each =
      mapped_is_state least least setup state (λ (row : Row). cond (is_ordered player ids row) (changed row) row) valid
      (λ row t h e v. cond_both (is_ordered player ids row) (changed row) row (λ (new : Row). Stays least setup state.rows row new t)
      (λ holds. let (own, named) = and_parts (row.owner == player) (list_any (λ (id : ℕ). id == row.id) ids) holds in
      each row t h (eqb-true row.owner player own) e v)
      (λ fails. same_stays least setup state.rows row t v))

  sent_stays : (p : Point) → IsInside setup p → (row : Row) (t : Template) → IsValidRow least setup state.rows row t
      → Stays least setup state.rows row (sent p row) t
  sent_stays p inside row t v = by row.motion v
    where
      going : (o : Option ℤ) (m : Motion) → Both (Some m) o (λ m s. IsValidMotion setup m)
          → Both (Some (Going p [] false)) o (λ m s. IsValidMotion setup m)
      going None m h = h
      going (Some speed) m h = (inside, All-nil (IsInside setup), omega arith)

      by : (m : Option Motion) → IsValidRow least setup state.rows (record row { motion = m }) t
          → Stays least setup state.rows (record row { motion = m }) (sent p (record row { motion = m })) t
      by None w = same_stays least setup state.rows (record row { motion = None }) t w
      by (Some m) w =
          let a = placed_stays least setup state.rows (record row { motion = Some m }) t w 0 false (inl refl) in
          record {
            id = refl;
            template = refl;
            valid =
                record { at = w.at; owner = w.owner; health = w.health; motion = going t.speed m w.motion; attack = a.valid.attack };
          }

  set_on_stays : (target : ℕ) (row : Row) (t : Template) → IsTarget state.rows row target → IsValidRow least setup state.rows row t
      → Stays least setup state.rows row (set_on target row) t
  set_on_stays target row t may v = by row.attack v
    where
      by : (a : Option Aim) → IsValidRow least setup state.rows (record row { attack = a }) t
          → Stays least setup state.rows (record row { attack = a }) (set_on target (record row { attack = a })) t
      by None w = same_stays least setup state.rows (record row { attack = None }) t w
      by (Some aim) w = ordered_stays least setup state.rows (record row { attack = Some aim }) t w target false may

  -- an enemy is a row with health that is none of the player's own
  pub record IsEnemyRow (target : ℕ) : Type 0 where
    pub row : Row
    pub has : Has state.rows row
    pub id : row.id ≡ target
    pub some : is_some row.health ≡ true
    pub not_own : row.owner ≡ player → ⊥

  not_own_enemy : player ≤ setup.players → in_mask (enemies_of setup player) player ≡ false
  not_own_enemy known = (limits.land.masks player (omega (arith, limits.players))).not_itself

  pub enemy_row : player ≤ setup.players → (target : ℕ) → is_enemy setup player (row_of state target) ≡ true → IsEnemyRow target
  enemy_row known target = by (row_of state target) refl
    where
      by : (o : Option Row) → row_of state target ≡ o → is_enemy setup player o ≡ true → IsEnemyRow target
      by None e holds = absurd (cc)
      by (Some row) e holds =
          let (h, same) = found_row state target row e in
          let (some, enemy) = and_parts (is_some row.health) (in_mask (enemies_of setup player) row.owner) holds in
          record {
            row = row;
            has = h;
            id = same;
            some = some;
            not_own = λ own. let other = not_own_enemy known in
                let itself : in_mask (enemies_of setup player) player ≡ true = ap (in_mask (enemies_of setup player)) (sym own) ∙ enemy in absurd (cc);
          }

  -- so it may be the target of each of the player's rows
  pub enemy_is_target : (target : ℕ) → IsEnemyRow target → (row : Row) → Has state.rows row → row.owner ≡ player → IsTarget state.rows row target
  enemy_is_target target enemy row h own =
      inr (
        (λ same. enemy.not_own (ap (λ (r : Row). r.owner) (same_row state.rows enemy.row row (apart state.rows valid.ascending) enemy.has h (enemy.id ∙ same)) ∙
            own)),
        subst (λ (n : ℕ). has_health state.rows n ≡ true) enemy.id (has_health_of state.rows enemy.row enemy.has enemy.some),
      )

  -- a new row where there is room
  pub created_is_state : least ≤ 1 → player ≤ setup.players → (number : ℕ) (p : Point) (t : Template) → slice_get setup.templates number ≡ Some t
      → IsInside setup p → has_room setup state player ≡ true →
      IsState least setup (created setup state number p player)
  created_is_state low known number p t e inside room =
      let (first, capped) = and_parts (nat_lt (length state.rows) 4096 && nat_lt state.next 0x20000000) _ room in
      let (few, free) = and_parts (nat_lt (length state.rows) 4096) (nat_lt state.next 0x20000000) first in
      subst (λ (o : Option Template). IsState least setup (with_new number p player o state)) (sym e)
      (with_new_is_valid least setup state number p player t valid (record { low = low; inside = inside; known_owner = known }) e
      (known_template setup number t limits e)
      (ltb-true (length state.rows) 4096 few) (ltb-true state.next 0x20000000 free))

  -- what may be placed is of a known template, and inside
  pub placeable : (p : Point) (o : Option Template) → is_placeable setup state p o ≡ true → (t : Template) × (o ≡ Some t) × (IsInside setup p)
  placeable p None holds = absurd (cc)
  placeable p (Some t) holds = (t, refl, by t.obstruct holds)
    where
      by : (o : Option Base) → is_placeable setup state p (Some (record t { obstruct = o })) ≡ true → IsInside setup p
      by None e = absurd (cc)
      by (Some base) e = (and_parts (is_inside (size_of setup.land) p) _ e).0

  -- what is trained is of a known template
  pub trained_template : (building : Option Template) (number : ℕ) (o : Option Template) → trains building number o ≡ true
      → (t : Template) × (o ≡ Some t)
  trained_template (Some building) number (Some t) holds = (t, refl)
  trained_template (Some building) number None holds = absurd (cc)
  trained_template None number o holds = absurd (cc)

  module _ (low : least ≤ 1) (known : player ≤ setup.players) where
    placed_on_is_state : (number : ℕ) (t : Template) → slice_get setup.templates number ≡ Some t → has_room setup state player ≡ true → (p : Point)
        → IsState least setup (placed_on setup state player number (spot setup state p))
    placed_on_is_state number t e room p = by (spot setup state p) refl
      where
        by : (o : Option Cell) → spot setup state p ≡ o → IsState least setup (placed_on setup state player number o)
        by None f = valid
        by (Some c) f = created_is_state low known number (centre_of c) t e (middle_inside (size_of setup.land) c (spot_on_ground setup state p c f)) room

    trained_is_state : (number : ℕ) (o : Option Row) → IsState least setup (trained setup state player number o)
    trained_is_state number None = valid
    trained_is_state number (Some building) =
        let c = building.owner == player && trains (template_of setup building) number (slice_get setup.templates number) && has_room setup state player in
        ⊎_elim (λ (holds : c ≡ true). rw holds (yes_case holds)) (λ (fails : c ≡ false). rw fails valid) (cases_Bool c)
      where
        yes_case : (building.owner == player && trains (template_of setup building) number (slice_get setup.templates number) && has_room setup state player) ≡
            true
            → IsState least setup (placed_on setup state player number (spot setup state building.at))
        yes_case holds =
            let (first, room) = and_parts (building.owner == player && trains (template_of setup building) number (slice_get setup.templates number))
            (has_room setup state player) holds in
            let (own, can) = and_parts (building.owner == player) (trains (template_of setup building) number (slice_get setup.templates number)) first in
            let (t, e) = trained_template (template_of setup building) number (slice_get setup.templates number) can in
            placed_on_is_state number t e room building.at

    resigned_stays : (row : Row) (t : Template) → IsValidRow least setup state.rows row t
        → Stays least setup state.rows row (record row { owner = 0 }) t
    resigned_stays row t v =
        record { id = refl; template = refl; valid = record { at = v.at; owner = omega arith; health = v.health; motion = v.motion; attack = v.attack } }

    pub commanded_by_is_state : (command : Command) → IsState least setup (commanded_by setup state player command)
    commanded_by_is_state (Walk ids p) =
        cond_both (is_inside (size_of setup.land) p) (with_ordered player ids (sent p) state) state (IsState least setup)
        (λ inside. ordered_is_state ids (sent p) (λ row t h own e v. sent_stays p inside row t v)) (λ outside. valid)
    commanded_by_is_state (Stop ids) = ordered_is_state ids stopped (λ row t h own e v. ordered_stays least setup state.rows row t v 0 true (inl refl))
    commanded_by_is_state (Attack ids target) =
        cond_both (is_enemy setup player (row_of state target)) (with_ordered player ids (set_on target) state) state (IsState least setup)
        (λ holds. ordered_is_state ids (set_on target)
        (λ row t h own e v. set_on_stays target row t (enemy_is_target target (enemy_row known target holds) row h own) v)) (λ fails. valid)
    commanded_by_is_state (Delete ids) = removed_all_is_state least setup (map id_of (filter (is_ordered player ids) state.rows)) state valid
    commanded_by_is_state (Place number p) =
        cond_both (is_placeable setup state p (slice_get setup.templates number) && has_room setup state player) (created setup state number p player) state
        (IsState least setup)
        (λ holds. let (can, room) = and_parts (is_placeable setup state p (slice_get setup.templates number)) (has_room setup state player) holds in
        let (t, e, inside) = placeable p (slice_get setup.templates number) can in created_is_state low known number p t e inside room) (λ fails. valid)
    commanded_by_is_state (Train building number) = trained_is_state number (row_of state building)
    commanded_by_is_state Resign =
        mapped_is_state least least setup state (λ (row : Row). cond (row.owner == player) (record row { owner = 0 }) row) valid
        (λ row t h e v. cond_both (row.owner == player) (record row { owner = 0 }) row (λ (new : Row). Stays least setup state.rows row new t)
        (λ holds. resigned_stays row t v) (λ fails. same_stays least setup state.rows row t v))

-- The points of a way lie on the ground, and are at most 64.

pub inside-on_ground : InsideIsOnGround
inside-on_ground size p h =
    let (x, z) = and_parts (is_within p.x size.width) (is_within p.z size.depth) h in
    record { east = within-below p.x size.width x; north = within-below p.z size.depth z }

middle-within : (place cells : ℕ) → place < cells → is_within (pos (place * 65536 + 32768)) cells ≡ true
middle-within place cells h =
    and_from (leb 0 (place * 65536 + 32768)) (ltb (place * 65536 + 32768) (cells * 65536))
    (le-leb 0 (place * 65536 + 32768) (omega arith)) (lt-ltb (place * 65536 + 32768) (cells * 65536) (omega arith))

centre-inside : (size : Size) (c : Cell) → IsOnGround size c → is_inside size (centre_of c) ≡ true
centre-inside size c on =
    and_from (is_within (pos (c.x * 65536 + 32768)) size.width) (is_within (pos (c.z * 65536 + 32768)) size.depth)
    (middle-within c.x size.width on.east) (middle-within c.z size.depth on.north)

module _ (field : Field) (start : Cell) (start_on : IsOnGround field.size start) where
  trail-on : (c : Cell) (cells : List Cell) → IsTrail field start c cells → All (IsOnGround field.size) cells
  trail-on c [] h = All-nil (IsOnGround field.size)
  trail-on c (x ∷ cells) (same, other, d, cost, p, is, rest) =
      All-cons (IsOnGround field.size) x cells (rw same (walk-on field start start_on cost.walk)) (trail-on p cells rest)

abbrev Inside : Size → Point → Type 0
Inside size p = is_inside size p ≡ true

waypoints-inside : (size : Size) (goal : Point) (cells : List Cell) → is_inside size goal ≡ true → All (IsOnGround size) cells
    → All (Inside size) (waypoints goal cells)
waypoints-inside size goal cells inside on =
    All-map (Inside size) (λ (c : Cell). cond (same_cell c (cell_of goal)) goal (centre_of c)) cells (All-weaker (IsOnGround size) at cell-inside cells on)
  where
    at : Cell → Type 0
    at c = Inside size (cond (same_cell c (cell_of goal)) goal (centre_of c))

    cell-inside : (c : Cell) → IsOnGround size c → at c
    cell-inside c h = cond_both (same_cell c (cell_of goal)) goal (centre_of c) (Inside size) (λ e. inside) (λ e. centre-inside size c h)

found-inside : (field : Field) (from goal : Point) (way : Way) → IsOnGround field.size (cell_of from) → is_inside field.size goal ≡ true
    → IsFound field from goal way → All (Inside field.size) way.points
found-inside field from goal way on inside h =
    let back = trail-on field (cell_of from) on h.last h.trail h.is_trail in
    let cells = All-permutation (IsOnGround field.size) h.trail (reverse h.trail) (IsPermutation-reverse h.trail) back in
    let all = All-take (Inside field.size) 64 (waypoints goal (reverse h.trail)) (waypoints-inside field.size goal (reverse h.trail) inside cells) in
    subst (λ (w : Way). All (Inside field.size) w.points) (sym h.way_is) all

pub way_of-inside : WayOfStaysInside
way_of-inside field from goal on inside = by (same_cell (cell_of from) (cell_of goal)) (way_of-is_way field from goal on)
  where
    way : Way
    way = way_of field from goal

    by : (b : Bool) → MatchBool b (way ≡ record { points = goal ∷ []; whole = true }) (IsFound field from goal way) → All (Inside field.size) way.points
    by true e = subst (λ (w : Way). All (Inside field.size) w.points) (sym e) (All-cons (Inside field.size) goal [] inside (All-nil (Inside field.size)))
    by false h = found-inside field from goal way on inside h

first-short : (points : List Point) → length (first_points points).points ≤ 64
first-short points = omega (arith, length-take 64 points)

pub way_of-short : WayOfIsShort
unfolding way_of
way_of-short field from goal = by (same_cell (cell_of from) (cell_of goal))
  where
    by : (b : Bool) → length (way_between field from goal b).points ≤ 64
    by true = omega arith
    by false = first-short _

-- The phase in which rows move keeps a state valid: a row walks between points of the ground.

-- ---- a share of the way between two numbers

-- a part of m that is no more than the whole
pub share_le : (m k d : ℕ) → k ≤ d → m * k / d ≤ m
share_le m k d h = div-le_of_le-mul d (omega (arith, mul-le m k m d (omega arith) h, mul_comm m d))

pub div_below_zero : (n d : ℕ) → int_div (neg_ℤ (pos n)) (pos d) ≡ neg_ℤ (pos (n / d))
div_below_zero zero d = let none : 0 / d ≡ 0 = omega (arith, div-le_self 0 d) in rw none refl
div_below_zero (suc n) d = refl

within_at : (x cells : ℕ) → x < cells * 65536 → is_within (pos x) cells ≡ true
within_at x cells h = and_from (leb 0 x) (ltb x (cells * 65536)) (le-leb 0 x (omega arith)) (lt-ltb x (cells * 65536) h)

within_pos : (x cells : ℕ) → is_within (pos x) cells ≡ true → x < cells * 65536
within_pos x cells h = let (low, high) = and_parts (leb 0 x) (ltb x (cells * 65536)) h in ltb-true x (cells * 65536) high

-- from x by a share of a difference z that leads to y
between_at : (x y k d cells : ℕ) (z : ℤ) → pos y -ℤ pos x ≡ z → k ≤ d → x < cells * 65536 → y < cells * 65536
    → is_within (pos x +ℤ int_div (z *ℤ pos k) (pos d)) cells ≡ true
between_at x y k d cells (pos m) e h in_x in_y = within_at (x + m * k / d) cells (omega (arith, ints, share_le m k d h, e))
between_at x y k d cells (negsuc m) e h in_x in_y =
    let q = suc m * k / d in
    let small : q ≤ suc m = share_le (suc m) k d h in
    let back : suc m ≤ x = omega (arith, ints, e) in
    let is : pos x +ℤ int_div (neg_ℤ (pos (suc m * k))) (pos d) ≡ pos (x - q) = ap (λ (w : ℤ). pos x +ℤ w) (div_below_zero (suc m * k) d) ∙
    minus x q (omega arith) in
    subst (λ (w : ℤ). is_within w cells ≡ true) (sym is) (within_at (x - q) cells (omega arith))
  where
    minus : (a b : ℕ) → b ≤ a → pos a +ℤ neg_ℤ (pos b) ≡ pos (a - b)
    minus a b h = omega (arith, ints)

pub within_between : (a b : ℤ) (k d cells : ℕ) → k ≤ d → is_within a cells ≡ true → is_within b cells ≡ true
    → is_within (a +ℤ int_div ((b -ℤ a) *ℤ pos k) (pos d)) cells ≡ true
within_between (pos x) (pos y) k d cells h in_a in_b = between_at x y k d cells (pos y -ℤ pos x) refl h (within_pos x cells in_a) (within_pos y cells in_b)
within_between (pos x) (negsuc y) k d cells h in_a in_b = absurd (cc)
within_between (negsuc x) b k d cells h in_a in_b = absurd (cc)

pub toward_inside : (size : Size) (p q : Point) (budget distance : ℕ) → budget ≤ distance → is_inside size p ≡ true → is_inside size q ≡ true
    → is_inside size (toward p q budget distance) ≡ true
toward_inside size p q budget distance h in_p in_q =
    let (px, pz) = and_parts (is_within p.x size.width) (is_within p.z size.depth) in_p in
    let (qx, qz) = and_parts (is_within q.x size.width) (is_within q.z size.depth) in_q in
    and_from (is_within (toward p q budget distance).x size.width) (is_within (toward p q budget distance).z size.depth)
    (within_between p.x q.x budget distance size.width h px qx) (within_between p.z q.z budget distance size.depth h pz qz)

-- ---- along a way

abbrev In : Size → Point → Type 0
In size p = is_inside size p ≡ true

-- a row that has walked stands inside, before waypoints that lie inside and are no more than before
pub record IsInsideWalk (size : Size) (most : ℕ) (w : Walked) : Type 0 where
  pub at : is_inside size w.at ≡ true
  pub way : All (In size) w.way
  pub short : length w.way ≤ most

pub walked_inside : (size : Size) (most : ℕ) (way : List Point) (p : Point) (budget : ℕ) → In size p → All (In size) way → length way ≤ most
    → IsInsideWalk size most (walked p budget way)
walked_inside size most [] p budget at all short = record { at = at; way = all; short = short }
walked_inside size most (q ∷ way) p budget at all short =
    let distance = root (square p q) in
    let on_q = All-head (In size) q way all in
    cond_both (nat_le distance budget) (walked q (budget - distance) way) (record { at = toward p q budget distance; way = q ∷ way }) (IsInsideWalk size most)
    (λ reached. walked_inside size most way q (budget - distance) on_q (All-tail (In size) q way all) (omega arith))
    (λ far. record { at = toward_inside size p q budget distance (omega (arith, leb-false distance budget far)) at on_q; way = all; short = short })

after_walk_is_valid : (setup : Setup) (goal : Point) (whole : Bool) (way : List Point) → IsInside setup goal → All (IsInside setup) way
    → length way ≤ 64 → IsValidMotion setup (after_walk goal whole way)
after_walk_is_valid setup goal true [] on all short = tt
after_walk_is_valid setup goal false [] on all short = (on, All-nil (IsInside setup), omega arith)
after_walk_is_valid setup goal whole (q ∷ way) on all short = (on, all, short)

headed_is_valid : (setup : Setup) (p : Point) (motion : Motion) → IsInside setup p → IsValidMotion setup motion
    → IsValidMotion setup (headed p motion)
headed_is_valid setup p Still on v = (on, All-nil (IsInside setup), omega arith)
headed_is_valid setup p (Going goal way whole) on v =
    cond_both (same_point goal p) (Going goal way whole) (Going p [] false) (IsValidMotion setup) (λ same. v)
    (λ other. (on, All-nil (IsInside setup), omega arith))

module _ (least : ℕ) (setup : Setup) (state : State) (valid : IsState least setup state) where
  chasing_is_valid : (row : Row) (motion : Motion) (o : Option Row) → ((target : Row) → o ≡ Some target → IsInside setup target.at)
      → (arms : Option Arms) → IsValidMotion setup motion → IsValidMotion setup (chasing row motion o arms)
  chasing_is_valid row motion (Some target) on (Some arms) v =
      cond_both (is_near target.at row.at arms.range) Still (headed target.at motion) (IsValidMotion setup) (λ near. tt)
      (λ far. headed_is_valid setup target.at motion (on target refl) v)
  chasing_is_valid row motion (Some target) on None v = v
  chasing_is_valid row motion None on arms v = v

  found_inside : (id : ℕ) (target : Row) → row_of state id ≡ Some target → IsInside setup target.at
  found_inside id target e =
      let (h, same) = found_row state id target e in
      let (t, known, v) = known_row least setup state.rows target (all_at (IsKnownRow least setup state.rows) state.rows target valid.rows h) in
      v.at

  module _ (row : Row) (t : Template) (v : IsValidRow least setup state.rows row t) (speed : ℤ) (has_speed : t.speed ≡ Some speed) where
    set_motion : (at : Point) (motion : Motion) → IsInside setup at → IsValidMotion setup motion
        → Stays least setup state.rows row (record row { at = at; motion = Some motion }) t
    set_motion at motion on ok =
        record {
          id = refl;
          template = refl;
          valid = record {
            at = on;
            owner = v.owner;
            health = v.health;
            motion = subst (λ (o : Option ℤ). Both (Some motion) o (λ m s. IsValidMotion setup m)) (sym has_speed) ok;
            attack = v.attack;
          };
        }

    along_stays : (budget : ℕ) (goal : Point) (way : List Point) (whole : Bool) → IsInside setup goal → All (IsInside setup) way → length way ≤ 64
        → Stays least setup state.rows row (along row budget goal way whole) t
    along_stays budget goal way whole on all short =
        let w = walked_inside (size_of setup.land) 64 way row.at budget v.at all short in
        set_motion (walked row.at budget way).at (after_walk goal whole (walked row.at budget way).way) w.at
        (after_walk_is_valid setup goal whole (walked row.at budget way).way on w.way w.short)

    along_found_stays : (budget : ℕ) (goal : Point) (way : List Point) (whole : Bool) → IsInside setup goal → All (IsInside setup) way
        → length way ≤ 64 → Stays least setup state.rows row (along_found row budget goal way whole) t
    along_found_stays budget goal [] whole on all short = set_motion row.at Still v.at tt
    along_found_stays budget goal (q ∷ way) whole on all short = along_stays budget goal (q ∷ way) whole on all short

    moved_by_stays : (budget : ℕ) (motion : Motion) → IsValidMotion setup motion
        → Stays least setup state.rows row (moved_by setup state row budget motion) t
    moved_by_stays budget Still ok = set_motion row.at Still v.at tt
    moved_by_stays budget (Going goal [] false) ok =
        let field = field_of setup state in
        let inside = way_of-inside field row.at goal (inside-on_ground (size_of setup.land) row.at v.at) ok.0 in
        along_found_stays budget goal (way_of field row.at goal).points (way_of field row.at goal).whole ok.0 inside (way_of-short field row.at goal)
    moved_by_stays budget (Going goal [] true) ok = along_stays budget goal [] true ok.0 ok.1 ok.2
    moved_by_stays budget (Going goal (q ∷ way) whole) ok = along_stays budget goal (q ∷ way) whole ok.0 ok.1 ok.2

  pub moved_row_stays : (row : Row) (t : Template) → template_of setup row ≡ Some t → IsValidRow least setup state.rows row t
      → Stays least setup state.rows row (moved_row setup state row row.motion (speed_of setup row)) t
  moved_row_stays row t e v =
      subst (λ (o : Option ℤ). Stays least setup state.rows row (moved_row setup state row row.motion o) t) (sym speed_is) (by row.motion t.speed refl v.motion)
    where
      speed_is : speed_of setup row ≡ t.speed
      speed_is = ap (λ (o : Option Template). option_and_then (λ (u : Template). u.speed) o) e

      by : (m : Option Motion) (s : Option ℤ) → t.speed ≡ s → Both m s (λ motion speed. IsValidMotion setup motion)
          → Stays least setup state.rows row (moved_row setup state row m s) t
      by None s f ok = same_stays least setup state.rows row t v
      by (Some motion) None f ok = same_stays least setup state.rows row t v
      by (Some motion) (Some speed) f ok =
          moved_by_stays row t v speed f (unsigned_abs speed / 5) (chasing row motion (row_of state (target_of row)) (arms_of setup row))
          (chasing_is_valid row motion (row_of state (target_of row)) (found_inside (target_of row)) (arms_of setup row) ok)

  pub moved_is_state : IsState least setup (moved setup state)
  moved_is_state = mapped_is_state least least setup state (λ (row : Row). moved_row setup state row row.motion (speed_of setup row)) valid
      (λ row t h e v. moved_row_stays row t e v)

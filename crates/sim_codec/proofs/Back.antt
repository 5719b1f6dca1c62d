-- The bytes of a valid state are read as that state.
use Rattle.sim_codec.proofs.Common.{IsMoving, IsOwner, IsPosition, IsSetup, IsStance, IsValid, IsValidRow, le-ltb, length, List, ltb, map, MatchOption, Motion}
use Rattle.sim_codec.proofs.Common.{[], Aim, AllByRecursion, ap, append-nil, append_assoc, arith, attack_at, attack_back, attack_bytes, attack_like}
use Rattle.sim_codec.proofs.Common.{attack_part, Back, Bool, Both, CanSay, clock_bytes, cons_option, drop, entity_at, entity_back, entity_bytes, entity_part}
use Rattle.sim_codec.proofs.Common.{false, FitsSigned, flat_map, has_stances, HasParts, HaveSamePlaces, health_at, health_back, health_bytes, health_like}
use Rattle.sim_codec.proofs.Common.{health_part, holds, IfSome, is_holding, is_some, is_some-map, IsAhead, IsAttack, IsEntity, IsHealth, IsKnownRow, IsMotion}
use Rattle.sim_codec.proofs.Common.{motion_like, motion_part, moving_at, moving_back, moving_bytes, None, number_at, One, Option, option_map, owner_at}
use Rattle.sim_codec.proofs.Common.{owner_back, owner_bytes, owner_part, Parts, parts_at, place_of, Point, position_at, position_back, position_bytes}
use Rattle.sim_codec.proofs.Common.{position_part, quick_bytes, Reader, recursion_from_All, refl, Row, row_at, row_if, row_if_back, row_of, rows_at, rows_with}
use Rattle.sim_codec.proofs.Common.{section, section_at, section_back, sections_at, sections_by, Setup, slice_get, Some, stance_at, stance_back, stance_bytes}
use Rattle.sim_codec.proofs.Common.{stance_part, stances, stances_at, State, state_at, subst, suc, sym, Template, Two, u32_back, u32_bytes, u64_back, u64_bytes}
use Rattle.sim_codec.proofs.Common.{unwrap_or, Version, w32, w64, Walk, with_id, ℕ, ℤ, ◌&&◌, ◌++◌, ◌+◌, ◌<◌, ◌^◌, ◌↔◌, ◌∙◌, ◌∷◌, ◌≡◌, ◌≤◌}
use Rattle.sim_codec.proofs.Fits.{clock_regrouped, RowFits, rows_fit}

-- ---- the rows of the sections fit

cons_fit : {X : Type 0} (Fits : X → Type 0) (o : Option X) (xs : List X) → IfSome o Fits → AllByRecursion Fits xs → AllByRecursion Fits (cons_option o xs)
cons_fit Fits None xs h rest = rest
cons_fit Fits (Some x) xs h rest = (h, rest)

pub sections_fit : {X : Type 0} (part : Row → Option X) (Fits : ℕ × X → Type 0) → ((row : Row) → RowFits row → IfSome (with_id part row) Fits)
    → (rows : List Row) → AllByRecursion RowFits rows → AllByRecursion Fits (rows_with part rows)
sections_fit part Fits one [] fits = tt
sections_fit part Fits one (row ∷ rows) fits = cons_fit Fits (with_id part row) (rows_with part rows) (one row fits.0) (sections_fit part Fits one rows fits.1)

entity_fits : (row : Row) → RowFits row → IfSome (with_id entity_part row) IsEntity
entity_fits row fits = record { id = fits.id; template = fits.template }

pub position_fits : (row : Row) → RowFits row → IfSome (with_id position_part row) IsPosition
position_fits row fits = record { id = fits.id; at = fits.at }

owner_fits : (row : Row) → RowFits row → IfSome (with_id owner_part row) IsOwner
owner_fits row fits = record { id = fits.id; owner = fits.owner }

health_fits : (row : Row) → RowFits row → IfSome (with_id health_part row) IsHealth
health_fits row fits = at row.health fits.health
  where
    at : (o : Option ℤ) → IfSome o (FitsSigned w32) → IfSome (option_map (λ (h : ℤ). (row.id, h)) o) IsHealth
    at None h = tt
    at (Some z) h = record { id = fits.id; health = h }

moving_fits : (row : Row) → RowFits row → IfSome (with_id motion_part row) IsMoving
moving_fits row fits = at row.motion fits.motion
  where
    at : (o : Option Motion) → IfSome o IsMotion → IfSome (option_map (λ (m : Motion). (row.id, m)) o) IsMoving
    at None h = tt
    at (Some m) h = record { id = fits.id; motion = h }

attack_fits : (row : Row) → RowFits row → IfSome (with_id attack_part row) IsAttack
attack_fits row fits = at row.attack fits.attack
  where
    at : (o : Option Aim) → IfSome o (λ (aim : Aim). (aim.target < 2 ^ 32) × (aim.cooldown < 2 ^ 16))
        → IfSome (option_map (λ (x : ℕ × ℕ). (row.id, x)) (option_map (λ (aim : Aim). (aim.target, aim.cooldown)) o)) IsAttack
    at None h = tt
    at (Some aim) h = record { id = fits.id; target = h.0; cooldown = h.1 }

stance_fits : (row : Row) → RowFits row → IfSome (with_id stance_part row) IsStance
stance_fits row fits = at row.attack
  where
    at : (o : Option Aim) → IfSome (option_map (λ (x : Bool). (row.id, x)) (option_map (λ (aim : Aim). aim.hold) o)) IsStance
    at None = tt
    at (Some aim) = record { id = fits.id }

length-cons : {X : Type 0} (o : Option X) (xs : List X) (n : ℕ) → length xs ≤ n → length (cons_option o xs) ≤ n + 1
length-cons None xs n h = omega arith
length-cons (Some x) xs n h = omega arith

pub length-rows_with : {X : Type 0} (part : Row → Option X) (rows : List Row) → length (rows_with part rows) ≤ length rows
length-rows_with part [] = omega arith
length-rows_with part (row ∷ rows) = omega (arith, length-cons (with_id part row) (rows_with part rows) (length rows) (length-rows_with part rows))

length-entities : (rows : List Row) → length (rows_with entity_part rows) ≡ length rows
length-entities [] = refl
length-entities (row ∷ rows) = ap suc (length-entities rows)

-- ---- the sections

-- the rows of the section of stances stand at the front, if the version has it
abbrev pub StancesAhead : Version → List Row → List ℕ → Type 0
StancesAhead One rows bytes = Unit {0}
StancesAhead Two rows bytes = IsAhead stance_bytes (rows_with stance_part rows) bytes

pub record AreAhead (version : Version) (rows : List Row) (walk : Walk) : Type 0 where
  pub by : walk.version ≡ version
  pub entity : IsAhead entity_bytes (rows_with entity_part rows) walk.entity
  pub position : IsAhead position_bytes (rows_with position_part rows) walk.position
  pub owner : IsAhead owner_bytes (rows_with owner_part rows) walk.owner
  pub health : IsAhead health_bytes (rows_with health_part rows) walk.health
  pub motion : IsAhead moving_bytes (rows_with motion_part rows) walk.motion
  pub attack : IsAhead attack_bytes (rows_with attack_part rows) walk.attack
  pub stance : StancesAhead version rows walk.stance

-- the section of a part, with whatever follows it
part_back : {X : Type 0} (part : Row → Option X) (Fits : ℕ × X → Type 0) (spelled : ℕ × X → List ℕ) (at : Reader (ℕ × X)) → Back Fits spelled at →
    ((row : Row) → RowFits row → IfSome (with_id part row) Fits)
    → (tag : ℕ) (rows : List Row) (rest : List ℕ) → AllByRecursion RowFits rows → length rows < 2 ^ 32
    → section_at tag at (section tag spelled (rows_with part rows) ++ rest) ≡ Some
    ((length (rows_with part rows), flat_map spelled (rows_with part rows) ++ rest), rest)
part_back part Fits spelled at back one tag rows rest fits few =
    section_back Fits spelled at back tag (rows_with part rows) rest (sections_fit part Fits one rows fits) (omega (arith, length-rows_with part rows))

stances_back : (version : Version) (rows : List Row) → AllByRecursion RowFits rows → length rows < 2 ^ 32
    → (bytes : List ℕ) × (stances_at version (stances version rows) ≡ Some (bytes, [])) × StancesAhead version rows bytes
unfolding stances_at
stances_back One rows fits few = ([], refl, tt)
stances_back Two rows fits few =
    let s7 = section 7 stance_bytes (rows_with stance_part rows) in
    let seven = ap (section_at 7 stance_at) (sym (append-nil s7)) ∙ part_back stance_part IsStance stance_bytes stance_at stance_back stance_fits 7 rows [] fits
    few in
    (flat_map stance_bytes (rows_with stance_part rows) ++ [], rw seven refl, record { rest = []; is = refl })

sections_back : (version : Version) (rows : List Row) → AllByRecursion RowFits rows → length rows < 2 ^ 32
    → (walk : Walk) × (sections_at version (sections_by version rows) ≡ Some ((length rows, walk), [])) × AreAhead version rows walk
unfolding sections_at
sections_back version rows fits few =
    let r6 = stances version rows in
    let r5 = section 6 attack_bytes (rows_with attack_part rows) ++ r6 in
    let r4 = section 5 moving_bytes (rows_with motion_part rows) ++ r5 in
    let r3 = section 4 health_bytes (rows_with health_part rows) ++ r4 in
    let r2 = section 3 owner_bytes (rows_with owner_part rows) ++ r3 in
    let r1 = section 2 position_bytes (rows_with position_part rows) ++ r2 in
    let one = part_back entity_part IsEntity entity_bytes entity_at entity_back entity_fits 1 rows r1 fits few in
    let two = part_back position_part IsPosition position_bytes position_at position_back position_fits 2 rows r2 fits few in
    let three = part_back owner_part IsOwner owner_bytes owner_at owner_back owner_fits 3 rows r3 fits few in
    let four = part_back health_part IsHealth health_bytes health_at health_back health_fits 4 rows r4 fits few in
    let five = part_back motion_part IsMoving moving_bytes moving_at moving_back moving_fits 5 rows r5 fits few in
    let six = part_back attack_part IsAttack attack_bytes attack_at attack_back attack_fits 6 rows r6 fits few in
    let last = stances_back version rows fits few in (
      record {
        version = version;
        entity = flat_map entity_bytes (rows_with entity_part rows) ++ r1;
        position = flat_map position_bytes (rows_with position_part rows) ++ r2;
        owner = flat_map owner_bytes (rows_with owner_part rows) ++ r3;
        health = flat_map health_bytes (rows_with health_part rows) ++ r4;
        motion = flat_map moving_bytes (rows_with motion_part rows) ++ r5;
        attack = flat_map attack_bytes (rows_with attack_part rows) ++ r6;
        stance = last.0;
      },
      rw (one, two, three, four, five, six, last.1, length-entities rows) refl,
      record {
        by = refl;
        entity = record { rest = r1; is = refl };
        position = record { rest = r2; is = refl };
        owner = record { rest = r3; is = refl };
        health = record { rest = r4; is = refl };
        motion = record { rest = r5; is = refl };
        attack = record { rest = r6; is = refl };
        stance = last.2;
      },
    )

-- ---- one row

-- what a version says of the stance of an entity, by whom it attacks
abbrev stance_by : Version → ℕ → Option Aim → Option (ℕ × Bool)
stance_by One id attack = None
stance_by Two id attack = option_map (λ (x : Bool). (id, x)) (option_map (λ (aim : Aim). aim.hold) attack)

abbrev parts_of : Version → Row → Parts
parts_of version row = record {
  entity = (row.id, row.template);
  position = (row.id, row.at);
  owner = (row.id, row.owner);
  health = with_id health_part row;
  motion = with_id motion_part row;
  attack = with_id attack_part row;
  stance = stance_by version row.id row.attack;
}

next_back : {X : Type 0} (Fits : X → Type 0) (spelled : X → List ℕ) (at : Reader X) → Back Fits spelled at → (x : X) (xs : List X) (bytes : List ℕ) → Fits x
    → IsAhead spelled (x ∷ xs) bytes
    → (after : List ℕ) × (at bytes ≡ Some (x, after)) × IsAhead spelled xs after
next_back Fits spelled at back x xs bytes fits ahead = (
  flat_map spelled xs ++ ahead.rest,
  ap at (ahead.is ∙ append_assoc (spelled x) (flat_map spelled xs) ahead.rest) ∙
      back x (flat_map spelled xs ++ ahead.rest) fits,
  record { rest = ahead.rest; is = refl },
)

next_stance : (version : Version) (row : Row) (rows : List Row) (arms : Bool) (bytes : List ℕ) → RowFits row → is_some row.attack ≡ arms
    → StancesAhead version (row ∷ rows) bytes
    → (after : List ℕ) × (row_if stance_at (has_stances version && arms) bytes ≡ Some (stance_by version row.id row.attack, after))
    × StancesAhead version rows after
unfolding row_if
next_stance One row rows arms bytes fits is ahead = (bytes, refl, tt)
next_stance Two row rows arms bytes fits is ahead =
    let s = row_if_back IsStance stance_bytes stance_at stance_back (with_id stance_part row) (rows_with stance_part rows) bytes (stance_fits row fits) ahead in
    let flag : is_some (with_id stance_part row) ≡ arms = is_some-map (λ (x : Bool). (row.id, x)) (stance_part row) ∙
    is_some-map (λ (aim : Aim). aim.hold) row.attack ∙ is in
    (s.0, subst (λ b. row_if stance_at b bytes ≡ Some (with_id stance_part row, s.0)) flag s.1, s.2)

parts_back : (version : Version) (templates : List Template) (row : Row) (rows : List Row) (w : Walk) → RowFits row → HasParts templates row
    → AreAhead version (row ∷ rows) w
    → (after : Walk) × (parts_at templates w ≡ Some (parts_of version row, after)) × AreAhead version rows after
unfolding parts_at
parts_back version templates row rows w fits has ahead =
    let e = next_back IsEntity entity_bytes entity_at entity_back (row.id, row.template) (rows_with entity_part rows) w.entity (entity_fits row fits)
    ahead.entity in
    let p = next_back IsPosition position_bytes position_at position_back (row.id, row.at) (rows_with position_part rows) w.position (position_fits row fits)
    ahead.position in
    let o = next_back IsOwner owner_bytes owner_at owner_back (row.id, row.owner) (rows_with owner_part rows) w.owner (owner_fits row fits) ahead.owner in
    let h = row_if_back IsHealth health_bytes health_at health_back (with_id health_part row) (rows_with health_part rows) w.health (health_fits row fits)
    ahead.health in
    let m = row_if_back IsMoving moving_bytes moving_at moving_back (with_id motion_part row) (rows_with motion_part rows) w.motion (moving_fits row fits)
    ahead.motion in
    let a = row_if_back IsAttack attack_bytes attack_at attack_back (with_id attack_part row) (rows_with attack_part rows) w.attack (attack_fits row fits)
    ahead.attack in
    let s = next_stance version row rows (is_some has.template.arms) w.stance fits has.like.attack ahead.stance in
    let h1 = subst (λ b. row_if health_at b w.health ≡ Some (with_id health_part row, h.0)) (health_like row has.template has.like) h.1 in
    let m1 = subst (λ b. row_if moving_at b w.motion ≡ Some (with_id motion_part row, m.0)) (motion_like row has.template has.like) m.1 in
    let a1 = subst (λ b. row_if attack_at b w.attack ≡ Some (with_id attack_part row, a.0)) (attack_like row has.template has.like) a.1 in
    let s1 = subst (λ v. row_if stance_at (has_stances v && is_some has.template.arms) w.stance ≡ Some (stance_by version row.id row.attack, s.0))
    (sym ahead.by) s.1 in (
      record { version = w.version; entity = e.0; position = p.0; owner = o.0; health = h.0; motion = m.0; attack = a.0; stance = s.0 },
      rw (e.1, has.known, p.1, o.1, h1, m1, a1, s1) refl,
      record { by = ahead.by; entity = e.2; position = p.2; owner = o.2; health = h.2; motion = m.2; attack = a.2; stance = s.2 },
    )

-- a version can say whether this row holds its place
abbrev pub Says : Version → Row → Type 0
Says One row = is_holding row ≡ false
Says Two row = Unit {0}

all_said : (version : Version) (rows : List Row) → CanSay version rows → AllByRecursion (Says version) rows
all_said One rows h = recursion_from_All (λ (row : Row). is_holding row ≡ false) rows h
all_said Two [] h = tt
all_said Two (row ∷ rows) h = (tt, all_said Two rows tt)

-- whom the row attacks, as it is put together
abbrev aim_by : Version → ℕ → Option Aim → Option Aim
aim_by version id attack =
    option_map (λ (r : ℕ × (ℕ × ℕ)). record { target = r.1.0; cooldown = r.1.1; hold = holds (stance_by version id attack) })
    (option_map (λ (x : ℕ × ℕ). (id, x)) (option_map (λ (aim : Aim). (aim.target, aim.cooldown)) attack))

same_row : (version : Version) (row : Row) → Says version row → row_of (parts_of version row) ≡ row
same_row version row says =
    rw (snd_back row.id row.health, snd_back row.id row.motion, aim_back version row says) refl
  where
    snd_back : {X : Type 0} (id : ℕ) (o : Option X) → option_map (λ (r : ℕ × X). r.1) (option_map (λ (x : X). (id, x)) o) ≡ o
    snd_back id None = refl
    snd_back id (Some x) = refl

    unheld : (id : ℕ) (o : Option Aim) → unwrap_or (option_map (λ (aim : Aim). aim.hold) o) false ≡ false → aim_by One id o ≡ o
    unheld id None h = refl
    unheld id (Some aim) h = (let e : false ≡ aim.hold = sym h in ap (λ (b : Bool). Some (record aim { hold = b })) e)

    said : (id : ℕ) (o : Option Aim) → aim_by Two id o ≡ o
    said id None = refl
    said id (Some aim) = refl

    aim_back : (v : Version) (r : Row) → Says v r → aim_by v r.id r.attack ≡ r.attack
    aim_back One r h = unheld r.id r.attack h
    aim_back Two r h = said r.id r.attack

row_back : (version : Version) (templates : List Template) (row : Row) (rows : List Row) (w : Walk) → RowFits row → HasParts templates row → Says version row
    → AreAhead version (row ∷ rows) w
    → (after : Walk) × (row_at templates w ≡ Some (row, after)) × AreAhead version rows after
unfolding row_at
row_back version templates row rows w fits has says ahead =
    let p = parts_back version templates row rows w fits has ahead in
    (p.0, rw (p.1, same_row version row says) refl, p.2)

rows_back : (version : Version) (templates : List Template) (rows : List Row) (w : Walk) → AllByRecursion RowFits rows
    → AllByRecursion (HasParts templates) rows → AllByRecursion (Says version) rows → AreAhead version rows w
    → (after : Walk) × (rows_at templates (length rows) w ≡ Some (rows, after))
unfolding rows_at
rows_back version templates [] w fits has says ahead = (w, refl)
rows_back version templates (row ∷ rows) w fits has says ahead =
    let first = row_back version templates row rows w fits.0 has.0 says.0 ahead in
    let others = rows_back version templates rows first.0 fits.1 has.1 says.1 first.2 in
    (others.0, rw (first.1, others.1) refl)

-- ---- what a valid state has

both_some : {X Y : Type 0} (a : Option X) (b : Option Y) (P : X → Y → Type 0) → Both a b P → is_some a ≡ is_some b
both_some None None P h = refl
both_some None (Some y) P h = absurd h
both_some (Some x) None P h = absurd h
both_some (Some x) (Some y) P h = refl

has_parts : (setup : Setup) (all : List Row) (row : Row) (o : Option Template) → slice_get setup.templates row.template ≡ o
    → MatchOption o ⊥ (IsValidRow 1 setup all row) → HasParts setup.templates row
has_parts setup all row None e h = absurd h
has_parts setup all row (Some t) e h = record {
  template = t;
  known = e;
  like = record {
    health = both_some row.health t.health _ h.health;
    motion = both_some row.motion t.speed _ h.motion;
    attack = both_some row.attack t.arms _ h.attack;
  };
}

all_have_parts : (setup : Setup) (all rows : List Row) → AllByRecursion (IsKnownRow 1 setup all) rows → AllByRecursion (HasParts setup.templates) rows
all_have_parts setup all [] h = tt
all_have_parts setup all (row ∷ rows) h = (has_parts setup all row (slice_get setup.templates row.template) refl h.0, all_have_parts setup all rows h.1)

pub state_back : (version : Version) (setup : Setup) (s : State) → IsSetup setup → IsValid setup s → CanSay version s.rows
    → state_at version setup (clock_bytes s ++ sections_by version s.rows) ≡ Some s
unfolding state_at
state_back version setup s is valid can =
    let fits = rows_fit setup is s valid in
    let found = sections_back version s.rows fits (omega (arith, valid.few)) in
    let has = all_have_parts setup s.rows s.rows (recursion_from_All _ s.rows valid.rows) in
    let rows = rows_back version setup.templates s.rows found.0 fits has (all_said version s.rows can) found.2 in
    let turn : s.turn < 2 ^ 32 = omega (arith, valid.turn, is.turns) in
    let next : s.next < 2 ^ 32 = omega (arith, valid.next.1) in
    let word : s.word < 2 ^ 64 = omega (arith, valid.word) in
    let few : ltb 4096 (length s.rows) ≡ false = le-ltb 4096 (length s.rows) valid.few in
    ap (state_at version setup) (clock_regrouped s (sections_by version s.rows))
    ∙ rw (
      u32_back s.turn (u32_bytes s.next ++ (u64_bytes s.word ++ sections_by version s.rows)) turn,
      u32_back s.next (u64_bytes s.word ++ sections_by version s.rows) next,
      u64_back s.word (sections_by version s.rows) word,
      found.1,
      few,
      rows.1,
    ) refl

-- What a quick digest is made of tells the clock and the place of every row, and nothing else.

module _ {X : Type 0} (Fits : X → Type 0) (spelled : X → List ℕ) (at : Reader X) (back : Back Fits spelled at) where
  -- what is told first is the same where all that is told is
  first_told : (x y : X) (a b : List ℕ) → Fits x → Fits y → spelled x ++ a ≡ spelled y ++ b → ◌≡◌ {A = X × List ℕ} (x, a) (y, b)
  first_told x y a b x-fits y-fits same = equal (x, a) (y, b) (sym (back x a x-fits) ∙ ap at same ∙ back y b y-fits)
    where
      equal : (p q : X × List ℕ) → Some p ≡ Some q → p ≡ q
      equal p q e = cc

  rows_told : (xs ys : List X) → AllByRecursion Fits xs → AllByRecursion Fits ys → length xs ≡ length ys → flat_map spelled xs ≡ flat_map spelled ys → xs ≡ ys
  rows_told [] [] x-fits y-fits count same = refl
  rows_told [] (y ∷ ys) x-fits y-fits count same = absurd (omega arith)
  rows_told (x ∷ xs) [] x-fits y-fits count same = absurd (omega arith)
  rows_told (x ∷ xs) (y ∷ ys) x-fits y-fits count same =
      let first = first_told x y (flat_map spelled xs) (flat_map spelled ys) x-fits.0 y-fits.0 same in
      let others = rows_told xs ys x-fits.1 y-fits.1 (omega arith) (ap (λ (p : X × List ℕ). p.1) first) in
      ap (λ z. z ∷ xs) (ap (λ (p : X × List ℕ). p.0) first) ∙ ap (λ zs. y ∷ zs) others

rows_with-places : (rows : List Row) → rows_with position_part rows ≡ map place_of rows
rows_with-places [] = refl
rows_with-places (row ∷ rows) = ap (λ (places : List (ℕ × Point)). (row.id, row.at) ∷ places) (rows_with-places rows)

-- the numbers of the clock, of which each has its bytes
record Clock (s : State) : Type 0 where
  pub turn : s.turn < 2 ^ 32
  pub next : s.next < 2 ^ 32
  pub word : s.word < 2 ^ 64

clock_fits : (setup : Setup) (s : State) → IsSetup setup → IsValid setup s → Clock s
clock_fits setup s is valid = record {
  turn = omega (arith, valid.turn, is.turns);
  next = omega (arith, valid.next.1);
  word = omega (arith, valid.word);
}

abbrev places_in : State → List ℕ
places_in s = section 2 position_bytes (rows_with position_part s.rows)

told_same : (setup : Setup) (s t : State) → IsSetup setup → IsValid setup s → IsValid setup t → quick_bytes s ≡ quick_bytes t → HaveSamePlaces s t
told_same setup s t is s-valid t-valid same =
    let s-clock = clock_fits setup s is s-valid in
    let t-clock = clock_fits setup t is t-valid in
    let told = sym (clock_regrouped s (places_in s)) ∙ same ∙ clock_regrouped t (places_in t) in
    let turn = first_told (λ n. n < 2 ^ 32) u32_bytes (number_at w32) u32_back s.turn t.turn (u32_bytes s.next ++ (u64_bytes s.word ++ places_in s))
    (u32_bytes t.next ++ (u64_bytes t.word ++ places_in t)) s-clock.turn t-clock.turn told in
    let next = first_told (λ n. n < 2 ^ 32) u32_bytes (number_at w32) u32_back s.next t.next (u64_bytes s.word ++ places_in s) (u64_bytes t.word ++ places_in t)
    s-clock.next t-clock.next (ap (λ (p : ℕ × List ℕ). p.1) turn) in
    let word = first_told (λ n. n < 2 ^ 64) u64_bytes (number_at w64) u64_back s.word t.word (places_in s) (places_in t) s-clock.word t-clock.word
    (ap (λ (p : ℕ × List ℕ). p.1) next) in
    let xs = rows_with position_part s.rows in
    let ys = rows_with position_part t.rows in
    let xs-few : length xs < 2 ^ 32 = omega (arith, length-rows_with position_part s.rows, s-valid.few) in
    let ys-few : length ys < 2 ^ 32 = omega (arith, length-rows_with position_part t.rows, t-valid.few) in
    let behind = ap (λ (p : ℕ × List ℕ). drop 1 p.1) word in
    let counted = first_told (λ n. n < 2 ^ 32) u32_bytes (number_at w32) u32_back (length xs) (length ys) (flat_map position_bytes xs)
    (flat_map position_bytes ys) xs-few ys-few behind in
    let xs-fit = sections_fit position_part IsPosition position_fits s.rows (rows_fit setup is s s-valid) in
    let ys-fit = sections_fit position_part IsPosition position_fits t.rows (rows_fit setup is t t-valid) in
    let rows = rows_told IsPosition position_bytes position_at position_back xs ys xs-fit ys-fit (ap (λ (p : ℕ × List ℕ). p.0) counted)
    (ap (λ (p : ℕ × List ℕ). p.1) counted) in
    record {
      turn = ap (λ (p : ℕ × List ℕ). p.0) turn;
      next = ap (λ (p : ℕ × List ℕ). p.0) next;
      word = ap (λ (p : ℕ × List ℕ). p.0) word;
      rows = sym (rows_with-places s.rows) ∙ rows ∙ rows_with-places t.rows;
    }

same_told : (s t : State) → HaveSamePlaces s t → quick_bytes s ≡ quick_bytes t
same_told s t h =
    let places : rows_with position_part s.rows ≡ rows_with position_part t.rows = rows_with-places s.rows ∙ h.rows ∙ sym (rows_with-places t.rows) in
    rw (h.turn, h.next, h.word, places) refl

pub of_places : (setup : Setup) (s t : State) → IsSetup setup → IsValid setup s → IsValid setup t → (quick_bytes s ≡ quick_bytes t) ↔ HaveSamePlaces s t
of_places setup s t is s-valid t-valid = (told_same setup s t is s-valid t-valid, same_told s t)

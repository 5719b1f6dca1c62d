-- Two states that have the same bytes of every part of every entity have one spelling: their rows have the same ids, and so each section the same rows.
use Rattle.sim_diff.proofs.Common.{ap, AreRowsOf, arith, Attack, attack_bytes, attack_part, bits, Bool, cases_eq, cases_lt, cases_order, Clock, clock_bytes}
use Rattle.sim_diff.proofs.Common.{cond, cons_option, difference_of, Entity, entity_bytes, entity_part, eq-eqb, eqb-true, false, filter_map, find, flat_map}
use Rattle.sim_diff.proofs.Common.{get_or, HaveSameBits, HaveSameFirst, Health, health_bytes, health_part, id_of, ids_rise, inl, inr, IsBefore}
use Rattle.sim_diff.proofs.Common.{IsLeastDifference, IsSetup, IsStrictlyIncreasing, IsValid, length, length-map, List, map, min, Motion, motion_part}
use Rattle.sim_diff.proofs.Common.{moving_bytes, ne_eqb, next_id, None, none-some, one_state, Option, option_and_then, option_map, Owner, owner_bytes}
use Rattle.sim_diff.proofs.Common.{owner_part, Part, Place, Position, position_bytes, position_part, refl, Row, row_bits, row_of, rows_behind, rows_with}
use Rattle.sim_diff.proofs.Common.{same_Some, section, sections, Setup, Some, spelling, Stance, stance_bytes, stance_part, State, suc, sym, true, u32_bytes}
use Rattle.sim_diff.proofs.{Common.{with_id, ℕ, [], ◌++◌, ◌+◌, ◌<◌, ◌==◌, ◌∙◌, ◌∷◌, ◌≡◌, ◌≤◌, ◌⊎◌}, LeastPlace.{bits-row, IsFirst, same-difference_of}}

-- Rows whose ids rise, and ids that no row has, by recursion on the rows.

-- each row has an id above n
abbrev pub Above : ℕ → List Row → Type 0
Above n [] = Unit {0}
Above n (row ∷ rows) = (n < row.id) × Above n rows

-- each row has an id below those of all later rows
abbrev pub Rising : List Row → Type 0
Rising [] = Unit {0}
Rising (row ∷ rows) = Above row.id rows × Rising rows

-- no row has this id
abbrev pub Lacks : List Row → ℕ → Type 0
Lacks [] id = Unit {0}
Lacks (row ∷ rows) id = (row.id ≡ id → ⊥) × Lacks rows id

pub above_each : (n : ℕ) (rows : List Row) → ((k : ℕ) (d : Row) → k < length rows → n < (get_or rows k d).id) → Above n rows
above_each n [] each = tt
above_each n (row ∷ rows) each = (each 0 row (omega arith), above_each n rows (λ k d lt. each (suc k) d (omega arith)))

rising_each : (rows : List Row) → ((i j : ℕ) (d : Row) → i < j → j < length rows → (get_or rows i d).id < (get_or rows j d).id) → Rising rows
rising_each [] each = tt
rising_each (row ∷ rows) each = (
  above_each row.id rows (λ k d lt. each 0 (suc k) d (omega arith) (omega arith)),
  rising_each rows (λ i j d before lt. each (suc i) (suc j) d (omega arith) (omega arith)),
)

pub rising : (rows : List Row) → IsStrictlyIncreasing (map id_of rows) → Rising rows
rising rows up = rising_each rows (ids_rise rows up)

-- an id up to n is lacking above n
pub above-lacks : (n id : ℕ) (rows : List Row) → id ≤ n → Above n rows → Lacks rows id
above-lacks n id [] le above = tt
above-lacks n id (row ∷ rows) le above = (λ e. omega arith, above-lacks n id rows le above.1)

-- what is lacking is not found
pub lacks-none : (rows : List Row) (id : ℕ) → Lacks rows id → find (λ (row : Row). row.id == id) rows ≡ None
lacks-none [] id lacks = refl
lacks-none (row ∷ rows) id lacks = rw (ne_eqb row.id id lacks.0) (lacks-none rows id lacks.1)

-- ---- the rows

-- what the row of an id has, if there is one
abbrev bits_in : List Row → ℕ → Part → Option (List ℕ)
bits_in rows id part = option_and_then (row_bits part) (find (λ (row : Row). row.id == id) rows)

abbrev HaveSameRows : List Row → List Row → Type 0
HaveSameRows xs ys = (id : ℕ) (part : Part) → bits_in xs id part ≡ bits_in ys id part

bits_in-first : (row : Row) (rows : List Row) (id : ℕ) (part : Part) → row.id ≡ id → bits_in (row ∷ rows) id part ≡ row_bits part row
bits_in-first row rows id part e = rw (eq-eqb row.id id e) refl

bits_in-behind : (row : Row) (rows : List Row) (id : ℕ) (part : Part) → (row.id ≡ id → ⊥) → bits_in (row ∷ rows) id part ≡ bits_in rows id part
bits_in-behind row rows id part other = rw (ne_eqb row.id id other) refl

bits_in-lacks : (rows : List Row) (id : ℕ) (part : Part) → Lacks rows id → bits_in rows id part ≡ None
bits_in-lacks rows id part lacks = rw (lacks-none rows id lacks) refl

-- a row that one list has is not missing in the other
not_missing : (row : Row) (rows others : List Row) → HaveSameRows (row ∷ rows) others → Lacks others row.id → ⊥
not_missing row rows others same lacks =
    none-some _ (sym (bits_in-lacks others row.id Entity lacks) ∙ sym (same row.id Entity) ∙ bits_in-first row rows row.id Entity refl)

rest_same : (x y : Row) (xs ys : List Row) → x.id ≡ y.id → Rising (x ∷ xs) → Rising (y ∷ ys) → HaveSameRows (x ∷ xs) (y ∷ ys) → HaveSameRows xs ys
rest_same x y xs ys e l r same id part = by (cases_lt x.id id)
  where
    by : (x.id < id) ⊎ (id ≤ x.id) → bits_in xs id part ≡ bits_in ys id part
    by (inl above) = sym (bits_in-behind x xs id part (λ f. omega arith)) ∙ same id part ∙ bits_in-behind y ys id part (λ f. omega arith)
    by (inr below) = bits_in-lacks xs id part (above-lacks x.id id xs below l.0) ∙ sym (bits_in-lacks ys id part (above-lacks y.id id ys (omega arith) r.0))

same_rows : (part : Part) (xs ys : List Row) → Rising xs → Rising ys → HaveSameRows xs ys → filter_map (row_bits part) xs ≡ filter_map (row_bits part) ys
same_rows part [] [] l r same = refl
same_rows part [] (y ∷ ys) l r same = absurd (not_missing y ys [] (λ id p. sym (same id p)) tt)
same_rows part (x ∷ xs) [] l r same = absurd (not_missing x xs [] same tt)
same_rows part (x ∷ xs) (y ∷ ys) l r same = by (cases_order x.id y.id) (λ e. same_rows part xs ys l.1 r.1 (rest_same x y xs ys e l r same))
  where
    by : (x.id ≡ y.id) ⊎ ((x.id < y.id) ⊎ (y.id < x.id)) → (x.id ≡ y.id → filter_map (row_bits part) xs ≡ filter_map (row_bits part) ys)
        → filter_map (row_bits part) (x ∷ xs) ≡ filter_map (row_bits part) (y ∷ ys)
    by (inl e) rest =
        let first : row_bits part x ≡ row_bits part y = sym (bits_in-first x xs x.id part refl) ∙ same x.id part ∙ bits_in-first y ys x.id part (sym e) in
        ap (λ (o : Option (List ℕ)). cons_option o (filter_map (row_bits part) xs)) first ∙ ap (cons_option (row_bits part y)) (rest e)
    by (inr (inl less)) rest = absurd (not_missing x xs (y ∷ ys) same (λ f. omega arith, above-lacks y.id x.id ys (omega arith) r.0))
    by (inr (inr more)) rest = absurd (not_missing y ys (x ∷ xs) (λ id p. sym (same id p)) (λ f. omega arith, above-lacks x.id y.id xs (omega arith) l.0))

-- ---- the sections

-- a section by the bytes of its rows
told : ℕ → List (List ℕ) → List ℕ
told tag rows = tag ∷ (u32_bytes (length rows) ++ flat_map (λ (row : List ℕ). row) rows)

map-filter_map : {X Y Z : Type 0} (f : Y → Z) (h : X → Option Y) (xs : List X) → map f (filter_map h xs) ≡ filter_map (λ x. option_map f (h x)) xs
map-filter_map f h [] = refl
map-filter_map {X = X} {Y = Y} {Z = Z} f h (x ∷ xs) = by (h x) (map-filter_map f h xs)
  where
    by : (o : Option Y) → map f (filter_map h xs) ≡ filter_map (λ x. option_map f (h x)) xs → map f (cons_option o (filter_map h xs)) ≡ cons_option
        (option_map f o) (filter_map (λ x. option_map f (h x)) xs)
    by None rest = rest
    by (Some y) rest = ap (λ zs. f y ∷ zs) rest

flat_map-map : {X : Type 0} (f : X → List ℕ) (xs : List X) → flat_map f xs ≡ flat_map (λ (row : List ℕ). row) (map f xs)
flat_map-map f [] = refl
flat_map-map f (x ∷ xs) = ap (λ (more : List ℕ). f x ++ more) (flat_map-map f xs)

section-told : {X : Type 0} (tag : ℕ) (spelled : ℕ × X → List ℕ) (part : Row → Option X) (rows : List Row) → section tag spelled (rows_with part rows) ≡
    told tag (filter_map (λ row. option_map spelled (with_id part row)) rows)
unfolding told
section-told tag spelled part rows =
    let each : map spelled (rows_with part rows) ≡ filter_map (λ row. option_map spelled (with_id part row)) rows =
    map-filter_map spelled (with_id part) rows in
    let count = ap length (sym each) ∙ length-map (rows_with part rows) spelled in
    let bytes = flat_map-map spelled (rows_with part rows) ∙ ap (flat_map (λ (row : List ℕ). row)) each in
    rw (count, bytes) refl

section_same : {X : Type 0} (tag : ℕ) (spelled : ℕ × X → List ℕ) (part : Row → Option X) (xs ys : List Row)
    → filter_map (λ row. option_map spelled (with_id part row)) xs ≡ filter_map (λ row. option_map spelled (with_id part row)) ys
    → section tag spelled (rows_with part xs) ≡ section tag spelled (rows_with part ys)
section_same tag spelled part xs ys same = section-told tag spelled part xs ∙ ap (told tag) same ∙ sym (section-told tag spelled part ys)

joined : {a b c d : List ℕ} → a ≡ b → c ≡ d → a ++ c ≡ b ++ d
joined {a = a} {d = d} e f = ap (λ (l : List ℕ). a ++ l) f ∙ ap (λ (l : List ℕ). l ++ d) e

sections_same : (xs ys : List Row) → ((part : Part) → filter_map (row_bits part) xs ≡ filter_map (row_bits part) ys) → sections xs ≡ sections ys
sections_same xs ys same =
    joined (section_same 1 entity_bytes entity_part xs ys (same Entity))
    (joined (section_same 2 position_bytes position_part xs ys (same Position))
    (joined (section_same 3 owner_bytes owner_part xs ys (same Owner))
    (joined (section_same 4 health_bytes health_part xs ys (same Health))
    (joined (section_same 5 moving_bytes motion_part xs ys (same Motion))
    (joined (section_same 6 attack_bytes attack_part xs ys (same Attack))
    (section_same 7 stance_bytes stance_part xs ys (same Stance)))))))

-- ---- the states

above_first : (setup : Setup) (state : State) → IsValid setup state → Above 1 state.rows
above_first setup state valid = above_each 1 state.rows (λ k d lt. (valid.ids k d lt).0)

rows_have_same : (setup : Setup) (left right : State) → IsValid setup left → IsValid setup right → HaveSameBits left right → HaveSameRows left.rows right.rows
rows_have_same setup left right l r same id part = by (cases_eq id 1)
  where
    by : (id ≡ 1) ⊎ (id ≡ 1 → ⊥) → bits_in left.rows id part ≡ bits_in right.rows id part
    by (inl clock) =
        bits_in-lacks left.rows id part (above-lacks 1 id left.rows (omega arith) (above_first setup left l))
        ∙ sym (bits_in-lacks right.rows id part (above-lacks 1 id right.rows (omega arith) (above_first setup right r)))
    by (inr other) = sym (bits-row left id part other) ∙ same id part ∙ bits-row right id part other

pub same_bits-spelling : (setup : Setup) (left right : State) → IsValid setup left → IsValid setup right → HaveSameBits left right
    → spelling setup left ≡ spelling setup right
same_bits-spelling setup left right l r same =
    let clocks : clock_bytes left ≡ clock_bytes right = same_Some _ _ (same 1 Clock) in
    let rows = rows_have_same setup left right l r same in
    let all = sections_same left.rows right.rows (λ part. same_rows part left.rows right.rows (rising left.rows l.ascending) (rising right.rows r.ascending)
    rows) in
    rw (clocks, all) refl

pub spelling-same : (setup : Setup) (left right : State) → IsSetup setup → IsValid setup left → IsValid setup right → spelling setup left ≡ spelling setup right
    → left ≡ right
spelling-same setup left right is l r same = one_state setup (spelling setup left) left right is (record { valid = l; spelled = inl refl })
    (record { valid = r; spelled = inl same })

pub same-no_difference : (left right : State) → left ≡ right → difference_of left right ≡ None
same-no_difference left right same = sym (same-difference_of left right (λ id part. ap (λ state. bits state id part) same))

-- A step of the walk: what is behind the next entity, and that all that was passed is the same.

-- ---- what is behind an entity

pub rising_behind : (entity : ℕ) (rows : List Row) → Rising rows → Rising (rows_behind entity rows)
rising_behind entity [] up = up
rising_behind entity (row ∷ rows) up = by (row.id == entity)
  where
    by : (b : Bool) → Rising (cond b rows (row ∷ rows))
    by true = up.1
    by false = up

lacks_behind : (entity id : ℕ) (rows : List Row) → (id ≡ entity → ⊥) → Lacks (rows_behind entity rows) id → Lacks rows id
lacks_behind entity id [] other lacks = lacks
lacks_behind entity id (row ∷ rows) other lacks = by (row.id == entity) refl lacks
  where
    by : (b : Bool) → (row.id == entity) ≡ b → Lacks (cond b rows (row ∷ rows)) id → Lacks (row ∷ rows) id
    by true e lacks = (λ f. other (sym f ∙ eqb-true row.id entity e), lacks)
    by false e lacks = lacks

length_behind : (entity : ℕ) (rows : List Row) → length (rows_behind entity rows) ≤ length rows
length_behind entity [] = omega arith
length_behind entity (row ∷ rows) = by (row.id == entity)
  where
    by : (b : Bool) → length (cond b rows (row ∷ rows)) ≤ length (row ∷ rows)
    by true = omega arith
    by false = omega arith

length_behind_first : (entity : ℕ) (row : Row) (rows : List Row) → row.id ≡ entity → length (rows_behind entity (row ∷ rows)) < length (row ∷ rows)
length_behind_first entity row rows e = rw (eq-eqb row.id entity e) (omega arith)

-- ---- the next entity

-- some row goes
pub fewer_behind : (lefts rights : List Row) (entity : ℕ) → next_id lefts rights ≡ Some entity → length (rows_behind entity lefts) +
    length (rows_behind entity rights) < length lefts + length rights
fewer_behind [] [] entity next = absurd (none-some entity next)
fewer_behind (x ∷ xs) [] entity next = omega (arith, length_behind_first entity x xs (same_Some _ _ next))
fewer_behind [] (y ∷ ys) entity next = omega (arith, length_behind_first entity y ys (same_Some _ _ next))
fewer_behind (x ∷ xs) (y ∷ ys) entity next = by (cases_lt y.id x.id)
  where
    least : min x.id y.id ≡ entity
    least = same_Some _ _ next

    by : (y.id < x.id) ⊎ (x.id ≤ y.id) → length (rows_behind entity (x ∷ xs)) + length (rows_behind entity (y ∷ ys)) < length (x ∷ xs) + length (y ∷ ys)
    by (inl less) = omega (arith, length_behind_first entity y ys (omega (arith, least)), length_behind entity (x ∷ xs))
    by (inr not_less) = omega (arith, length_behind_first entity x xs (omega (arith, least)), length_behind entity (y ∷ ys))

lacks_above : (row : Row) (rows : List Row) (entity id : ℕ) → Rising (row ∷ rows) → entity ≤ row.id → id < entity → Lacks (row ∷ rows) id
lacks_above row rows entity id up from below = (λ e. omega arith, above-lacks row.id id rows (omega arith) up.0)

-- neither list has an id below it
none_below : (lefts rights : List Row) (entity id : ℕ) → next_id lefts rights ≡ Some entity → Rising lefts → Rising rights → id < entity → Lacks lefts id
    × Lacks rights id
none_below [] [] entity id next l r below = absurd (none-some entity next)
none_below (x ∷ xs) [] entity id next l r below = (lacks_above x xs entity id l (omega (arith, same_Some _ _ next)) below, tt)
none_below [] (y ∷ ys) entity id next l r below = (tt, lacks_above y ys entity id r (omega (arith, same_Some _ _ next)) below)
none_below (x ∷ xs) (y ∷ ys) entity id next l r below =
    let least : min x.id y.id ≡ entity = same_Some _ _ next in
    (lacks_above x xs entity id l (omega arith) below, lacks_above y ys entity id r (omega arith) below)

-- ---- what was passed

-- wherever neither of the lists has a row, the two states have the same bytes
abbrev pub IsSameElsewhere : State → State → List Row → List Row → Type 0
IsSameElsewhere left right lefts rights = (id : ℕ) → Lacks lefts id → Lacks rights id → (part : Part) → bits left id part ≡ bits right id part

pub same_behind : (left right : State) (lefts rights : List Row) (entity : ℕ) → IsSameElsewhere left right lefts rights
    → ((part : Part) → bits left entity part ≡ bits right entity part) → IsSameElsewhere left right (rows_behind entity lefts) (rows_behind entity rights)
same_behind left right lefts rights entity elsewhere here id in_left in_right part = by (cases_eq id entity)
  where
    by : (id ≡ entity) ⊎ (id ≡ entity → ⊥) → bits left id part ≡ bits right id part
    by (inl same) = rw same (here part)
    by (inr other) = elsewhere id (lacks_behind entity id lefts other in_left) (lacks_behind entity id rights other in_right) part

pub same_at_first : (left right : State) → ((id : ℕ) → id < 2 → (part : Part) → bits left id part ≡ bits right id part)
    → IsSameElsewhere left right left.rows right.rows
same_at_first left right first id in_left in_right part = by (cases_eq id 1)
  where
    by : (id ≡ 1) ⊎ (id ≡ 1 → ⊥) → bits left id part ≡ bits right id part
    by (inl clock) = first id (omega arith) part
    by (inr other) = bits-row left id part other ∙ ap (option_and_then (row_bits part)) (lacks-none left.rows id in_left ∙
        sym (lacks-none right.rows id in_right)) ∙ sym (bits-row right id part other)

pub same_at_last : (left right : State) (lefts rights : List Row) → next_id lefts rights ≡ None → IsSameElsewhere left right lefts rights
    → HaveSameBits left right
same_at_last left right [] [] next elsewhere = λ id part. elsewhere id tt tt part
same_at_last left right (x ∷ xs) [] next elsewhere = absurd (none-some x.id (sym next))
same_at_last left right [] (y ∷ ys) next elsewhere = absurd (none-some y.id (sym next))
same_at_last left right (x ∷ xs) (y ∷ ys) next elsewhere = absurd (none-some (min x.id y.id) (sym next))

-- the first part that differs of an entity before which all is the same is the least difference
pub first_is_least : (left right : State) (entity : ℕ) (place : Place) → IsFirst left right entity 0 place
    → ((id : ℕ) → id < entity → (part : Part) → bits left id part ≡ bits right id part) → IsLeastDifference left right place
first_is_least left right entity place first below = record {
  in_left = ap (λ (p : Place). p.left) first.is ∙ sym (ap (λ e. bits left e place.part) at);
  in_right = ap (λ (p : Place). p.right) first.is ∙ sym (ap (λ e. bits right e place.part) at);
  different = first.different;
  least = earlier;
}
  where
    at : place.entity ≡ entity
    at = ap (λ (p : Place). p.entity) first.is

    earlier : (id : ℕ) (part : Part) → IsBefore id part place → bits left id part ≡ bits right id part
    earlier id part (inl less) = below id (omega (arith, at)) part
    earlier id part (inr (same, before)) =
        let here : id ≡ entity = same ∙ at in
        rw here (first.before part (omega arith) before)

-- one entity more that is the same
pub same_more : (left right : State) (entity : ℕ) → ((id : ℕ) → id < entity → (part : Part) → bits left id part ≡ bits right id part)
    → ((part : Part) → bits left entity part ≡ bits right entity part) → (id : ℕ) → id < entity + 1 → (part : Part) → bits left id part ≡ bits right id part
same_more left right entity below here id lt part = by (cases_eq id entity)
  where
    by : (id ≡ entity) ⊎ (id ≡ entity → ⊥) → bits left id part ≡ bits right id part
    by (inl same) = rw same (here part)
    by (inr other) = below id (omega arith) part

-- all entities below the next one are the same
pub same_below : (left right : State) (lefts rights : List Row) (entity : ℕ) → next_id lefts rights ≡ Some entity → Rising lefts → Rising rights
    → IsSameElsewhere left right lefts rights → (id : ℕ) → id < entity → (part : Part) → bits left id part ≡ bits right id part
same_below left right lefts rights entity next l r elsewhere id below part =
    let lacks = none_below lefts rights entity id next l r below in
    elsewhere id lacks.0 lacks.1 part

-- ---- rows of a state

pub rows_of_all : (state : State) → AreRowsOf state state.rows
rows_of_all state id row found = found

pub rows_of_behind : (state : State) (entity : ℕ) (rows : List Row) → Rising rows → AreRowsOf state rows → AreRowsOf state (rows_behind entity rows)
rows_of_behind state entity [] up are = are
rows_of_behind state entity (row ∷ rows) up are = by (row.id == entity)
  where
    behind_first : AreRowsOf state rows
    behind_first id other found = by_first (cases_lt row.id id)
      where
        by_first : (row.id < id) ⊎ (id ≤ row.id) → row_of state id ≡ Some other
        by_first (inl above) = are id other (rw (ne_eqb row.id id (λ e. omega arith)) found)
        by_first (inr below) = absurd (none-some other (sym (lacks-none rows id (above-lacks row.id id rows below up.0)) ∙ found))

    by : (b : Bool) → AreRowsOf state (cond b rows (row ∷ rows))
    by true = behind_first
    by false = are

-- of an entity of which both lists begin with the same row all is the same
pub same_first-bits : (left right : State) (lefts rights : List Row) (entity : ℕ) → 1 < entity → AreRowsOf left lefts → AreRowsOf right rights
    → next_id lefts rights ≡ Some entity → HaveSameFirst lefts rights
    → (part : Part) → bits left entity part ≡ bits right entity part
same_first-bits left right [] rights entity above l r next same part = absurd same
same_first-bits left right (x ∷ xs) [] entity above l r next same part = absurd same
same_first-bits left right (x ∷ xs) (y ∷ ys) entity above l r next same part =
    bits-row left entity part (λ e. omega arith) ∙ ap (option_and_then (row_bits part)) (in_left ∙ sym in_right) ∙
    sym (bits-row right entity part (λ e. omega arith))
  where
    least : min x.id y.id ≡ entity
    least = same_Some _ _ next

    ids : x.id ≡ y.id
    ids = ap (λ (row : Row). row.id) same

    in_left : row_of left entity ≡ Some y
    in_left = l entity y (rw (eq-eqb x.id entity (omega (arith, least, ids))) (ap Some same))

    in_right : row_of right entity ≡ Some y
    in_right = r entity y (rw (eq-eqb y.id entity (omega (arith, least, ids))) refl)

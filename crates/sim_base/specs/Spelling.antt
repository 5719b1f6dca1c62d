-- The bytes of a state: a head, the clock, and seven sections, each with the rows that have its part.
use Rattle.{md5.specs.Md5.md5, sim_base.specs.declared.{place.Point.Point, setup.Setup.Setup, state.{Aim.Aim, Motion.{Motion, TheVariants.{Going, Still}}}}}
use Rattle.{sim_base.specs.declared.state.{Row.Row, State.State}, std.specs.{Int.{cast_unsigned, to_le_bytes, w16, w32, w64}, List.{filter_map, flat_map}}}
use Rattle.std.specs.Prelude.{Bool, codes, false, if◌then◌else◌, length, List, Option, option_map, pos, Some, ℕ, ℤ, [], ◌%◌, ◌++◌, ◌==◌, ◌∷◌}

-- Numbers as bytes, the lowest byte first. They stay closed, so that no proof computes with single bytes by chance.

-- two bytes
unfoldable pub u16_bytes : ℕ → List ℕ
u16_bytes n = to_le_bytes w16 n

-- four bytes
unfoldable pub u32_bytes : ℕ → List ℕ
u32_bytes n = to_le_bytes w32 n

-- eight bytes
unfoldable pub u64_bytes : ℕ → List ℕ
u64_bytes n = to_le_bytes w64 n

-- four bytes, a negative number by its two's complement
unfoldable pub i32_bytes : ℤ → List ℕ
i32_bytes z = to_le_bytes w32 (cast_unsigned w32 z)

-- one byte, 1 for yes
abbrev pub flag_bytes : Bool → List ℕ
flag_bytes b = (if b then 1 else 0) ∷ []

-- the version of the layout that is written; version 1 is read too
abbrev pub version : ℕ
version = 2

-- x and z
abbrev pub point_bytes : Point → List ℕ
point_bytes p = i32_bytes p.x ++ i32_bytes p.z

-- mode, goal, whole, the number of waypoints and the waypoints; all are 0 for a row that stands still
abbrev pub motion_bytes : Motion → List ℕ
motion_bytes Still = 0 ∷ (i32_bytes (pos 0) ++ (i32_bytes (pos 0) ++ (flag_bytes false ++ 0 ∷ [])))
motion_bytes (Going goal way whole) = 1 ∷ (point_bytes goal ++ (flag_bytes whole ++ length way ∷ flat_map point_bytes way))

-- the rows that have a part, each as its id and that part
abbrev pub rows_with : {X : Type 0} → (Row → Option X) → List Row → List (ℕ × X)
rows_with part rows = filter_map (λ row. option_map (λ x. (row.id, x)) (part row)) rows

-- the section of all rows, with the number of the template
abbrev pub entity_part : Row → Option ℕ
entity_part row = Some row.template

-- id and template
abbrev pub entity_bytes : ℕ × ℕ → List ℕ
entity_bytes r = u32_bytes r.0 ++ u16_bytes r.1

-- the section of all rows, with the place
abbrev pub position_part : Row → Option Point
position_part row = Some row.at

-- id and point
abbrev pub position_bytes : ℕ × Point → List ℕ
position_bytes r = u32_bytes r.0 ++ point_bytes r.1

-- the section of all rows, with the owner
abbrev pub owner_part : Row → Option ℕ
owner_part row = Some row.owner

-- id and owner
abbrev pub owner_bytes : ℕ × ℕ → List ℕ
owner_bytes r = u32_bytes r.0 ++ r.1 ∷ []

-- the section of the rows that have health
abbrev pub health_part : Row → Option ℤ
health_part row = row.health

-- id and health
abbrev pub health_bytes : ℕ × ℤ → List ℕ
health_bytes r = u32_bytes r.0 ++ i32_bytes r.1

-- the section of the rows that have motion
abbrev pub motion_part : Row → Option Motion
motion_part row = row.motion

-- id and motion
abbrev pub moving_bytes : ℕ × Motion → List ℕ
moving_bytes r = u32_bytes r.0 ++ motion_bytes r.1

-- the target and the cooldown
abbrev pub attack_part : Row → Option (ℕ × ℕ)
attack_part row = option_map (λ (aim : Aim). (aim.target, aim.cooldown)) row.attack

-- id, target and cooldown
abbrev pub attack_bytes : ℕ × (ℕ × ℕ) → List ℕ
attack_bytes r = u32_bytes r.0 ++ (u32_bytes r.1.0 ++ u16_bytes r.1.1)

-- whether it holds its place
abbrev pub stance_part : Row → Option Bool
stance_part row = option_map (λ (aim : Aim). aim.hold) row.attack

-- id and whether it holds
abbrev pub stance_bytes : ℕ × Bool → List ℕ
stance_bytes r = u32_bytes r.0 ++ flag_bytes r.1

-- a tag, the number of rows, and the rows
abbrev pub section : {X : Type 0} → ℕ → (X → List ℕ) → List X → List ℕ
section tag spelled rows = tag ∷ (u32_bytes (length rows) ++ flat_map spelled rows)

-- the six sections that both versions have, in the order of their tags, and what follows them
abbrev pub six_sections : List Row → List ℕ → List ℕ
six_sections rows rest =
    section 1 entity_bytes (rows_with entity_part rows) ++
    (section 2 position_bytes (rows_with position_part rows) ++
    (section 3 owner_bytes (rows_with owner_part rows) ++
    (section 4 health_bytes (rows_with health_part rows) ++
    (section 5 moving_bytes (rows_with motion_part rows) ++
    (section 6 attack_bytes (rows_with attack_part rows) ++ rest)))))

-- all seven sections
abbrev pub sections : List Row → List ℕ
sections rows = six_sections rows (section 7 stance_bytes (rows_with stance_part rows))

-- the turn, the next id and the word
abbrev pub clock_bytes : State → List ℕ
clock_bytes state = u32_bytes state.turn ++ (u32_bytes state.next ++ u64_bytes state.word)

-- magic, version and the id of the match
abbrev pub head_bytes : ℕ → Setup → List ℕ → List ℕ
head_bytes version setup rest = codes "RSIM" ++ (u32_bytes version ++ (setup.id ++ rest))

-- the bytes of a state: magic, version, the id of the match, the clock, and the sections
abbrev pub spelling : Setup → State → List ℕ
spelling setup state = head_bytes version setup (clock_bytes state ++ sections state.rows)

-- the same by version 1, which does not say who holds its place
abbrev pub old_spelling : Setup → State → List ℕ
old_spelling setup state = head_bytes 1 setup (clock_bytes state ++ six_sections state.rows [])

-- MD5 of the spelling
unfoldable pub digest : Setup → State → List ℕ
digest setup state = md5 (spelling setup state)

-- what a quick digest is made of: the clock, and where each row is
abbrev pub quick_bytes : State → List ℕ
quick_bytes state = clock_bytes state ++ section 2 position_bytes (rows_with position_part state.rows)

-- MD5 of the clock and the places
unfoldable pub quick : State → List ℕ
quick state = md5 (quick_bytes state)

-- every so many turns a report carries the whole digest
abbrev pub full_each : ℕ
full_each = 20

-- a turn whose reports carry the whole digest
abbrev pub is_full_turn : ℕ → Bool
is_full_turn turn = turn % full_each == 0

-- what a report of a state carries
abbrev pub mark : Setup → State → List ℕ
mark setup state = if is_full_turn state.turn then digest setup state else quick state

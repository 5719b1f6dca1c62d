-- A valid state has no more bytes than any may have: 75, and 573 for each row.
use Rattle.sim_client.proofs.SpellingWords.{[], ◌*◌, ◌++◌, ◌+◌, ◌∷◌, ◌≡◌, ◌≤◌, All, All-head, All-tail, arith, attack_bytes, attack_part, clock_bytes, codes}
use Rattle.sim_client.proofs.SpellingWords.{cons_option, entity_bytes, entity_part, flag_bytes, flat_map, HasShortWay, health_bytes, health_part, i32_bytes}
use Rattle.sim_client.proofs.SpellingWords.{IfSome, IsSetup, IsShort, IsShortState, IsValid, length, length-append, length-i32_bytes, length-moving_bytes}
use Rattle.sim_client.proofs.SpellingWords.{length-u16_bytes, length-u32_bytes, length-u64_bytes, List, Motion, motion_part, moving_bytes, None, Option}
use Rattle.sim_client.proofs.SpellingWords.{option_map, owner_bytes, owner_part, point_bytes, position_bytes, position_part, Row, rows_with, section, sections}
use Rattle.sim_client.proofs.SpellingWords.{Setup, short_ways, Some, spelling, stance_bytes, stance_part, State, suc, suc-mul, u16_bytes, u32_bytes, u64_bytes}
use Rattle.{sim_client.proofs.SpellingWords.version, sim_client.proofs.SpellingWords.ℕ, sim_wire.proofs.Lengths.length_of_point}

-- the rows of a section, each of at most so many bytes
rows_few : {X : Type 0} (most : ℕ) (spelled : ℕ × X → List ℕ) (part : Row → Option X) (rows : List Row)
    → ((row : Row) → HasShortWay row → IfSome (part row) (λ x. length (spelled (row.id, x)) ≤ most)) → All HasShortWay rows
    → length (flat_map spelled (rows_with part rows)) ≤ length rows * most
rows_few most spelled part [] each short = omega arith
rows_few {X} most spelled part (row ∷ rows) each short =
    by (part row) (each row (All-head HasShortWay row rows short)) (rows_few most spelled part rows each (All-tail HasShortWay row rows short))
  where
    by : (o : Option X) → IfSome o (λ x. length (spelled (row.id, x)) ≤ most) → length (flat_map spelled (rows_with part rows)) ≤ length rows * most
        → length (flat_map spelled (cons_option (option_map (λ x. (row.id, x)) o) (rows_with part rows))) ≤ suc (length rows) * most
    by None h rest = omega (arith, rest, suc-mul (length rows) most)
    by (Some x) h rest = omega (arith, rest, h, suc-mul (length rows) most, length-append (spelled (row.id, x)) (flat_map spelled (rows_with part rows)))

-- every part has so many bytes
have : {X : Type 0} (spelled : ℕ × X → List ℕ) (most id : ℕ) (o : Option X) → ((x : X) → length (spelled (id, x)) ≤ most)
    → IfSome o (λ x. length (spelled (id, x)) ≤ most)
have spelled most id None h = tt
have spelled most id (Some x) h = h x

moving : (id : ℕ) (o : Option Motion) → IfSome o IsShort → IfSome o (λ x. length (moving_bytes (id, x)) ≤ 527)
moving id None short = tt
moving id (Some m) short = length-moving_bytes (id, m) short

section_long : {X : Type 0} (tag : ℕ) (spelled : X → List ℕ) (rows : List X) → length (section tag spelled rows) ≡ 5 + length (flat_map spelled rows)
section_long tag spelled rows = omega (arith, length-append (u32_bytes (length rows)) (flat_map spelled rows), length-u32_bytes (length rows))

sections_few : (rows : List Row) → All HasShortWay rows → length (sections rows) ≤ 35 + 573 * length rows
sections_few rows short =
    let one = section 1 entity_bytes (rows_with entity_part rows) in
    let two = section 2 position_bytes (rows_with position_part rows) in
    let three = section 3 owner_bytes (rows_with owner_part rows) in
    let four = section 4 health_bytes (rows_with health_part rows) in
    let five = section 5 moving_bytes (rows_with motion_part rows) in
    let six = section 6 attack_bytes (rows_with attack_part rows) in
    let seven = section 7 stance_bytes (rows_with stance_part rows) in
    let a = rows_few 6 entity_bytes entity_part rows
    (λ row h. omega (arith, length-append (u32_bytes row.id) (u16_bytes row.template), length-u32_bytes row.id, length-u16_bytes row.template)) short in
    let b = rows_few 12 position_bytes position_part rows
    (λ row h. omega (arith, length-append (u32_bytes row.id) (point_bytes row.at), length-u32_bytes row.id, length_of_point row.at)) short in
    let c = rows_few 5 owner_bytes owner_part rows (λ row h. omega (arith, length-append (u32_bytes row.id) (row.owner ∷ []), length-u32_bytes row.id)) short in
    let d = rows_few 8 health_bytes health_part rows
    (λ row h. have health_bytes 8 row.id row.health
    (λ x. omega (arith, length-append (u32_bytes row.id) (i32_bytes x), length-u32_bytes row.id, length-i32_bytes x))) short in
    let e = rows_few 527 moving_bytes motion_part rows (λ row h. moving row.id row.motion h) short in
    let f = rows_few 10 attack_bytes attack_part rows
    (λ row h. have attack_bytes 10 row.id (attack_part row)
    (λ x. omega (
      arith,
      length-append (u32_bytes row.id) (u32_bytes x.0 ++ u16_bytes x.1),
      length-append (u32_bytes x.0) (u16_bytes x.1),
      length-u32_bytes
          row.id,
      length-u32_bytes x.0,
      length-u16_bytes x.1,
    ))) short in
    let g =
    rows_few 5 stance_bytes stance_part rows
    (λ row h. have stance_bytes 5 row.id (stance_part row) (λ x. omega (arith, length-append (u32_bytes row.id) (flag_bytes x), length-u32_bytes row.id)))
    short in
    omega (
      arith,
      a,
      b,
      c,
      d,
      e,
      f,
      g,
      section_long 1 entity_bytes (rows_with entity_part rows),
      section_long 2 position_bytes (rows_with position_part rows),
      section_long 3 owner_bytes (rows_with owner_part rows),
      section_long 4 health_bytes (rows_with health_part rows),
      section_long 5 moving_bytes (rows_with motion_part rows),
      section_long 6 attack_bytes (rows_with attack_part rows),
      section_long 7 stance_bytes (rows_with stance_part rows),
      length-append one (two ++ (three ++ (four ++ (five ++ (six ++ seven))))),
      length-append two (three ++ (four ++ (five ++ (six ++ seven)))),
      length-append three (four ++ (five ++ (six ++ seven))),
      length-append four (five ++ (six ++ seven)),
      length-append five (six ++ seven),
      length-append six seven,
    )

pub states_are_short : (setup : Setup) (state : State) → IsSetup setup → IsValid setup state → IsShortState (spelling setup state)
states_are_short setup state limits valid =
    let clock = clock_bytes state in
    let rest = sections state.rows in
    omega (
      arith,
      sections_few state.rows (short_ways 1 setup state valid),
      valid.few,
      limits.id,
      length-append (codes "RSIM") (u32_bytes version ++ (setup.id ++ (clock ++ rest))),
      length-append (u32_bytes version) (setup.id ++ (clock ++ rest)),
      length-append setup.id (clock ++ rest),
      length-append clock rest,
      length-append (u32_bytes state.turn) (u32_bytes state.next ++ u64_bytes state.word),
      length-append (u32_bytes state.next) (u64_bytes state.word),
      length-u32_bytes version,
      length-u32_bytes state.turn,
      length-u32_bytes state.next,
      length-u64_bytes state.word,
    )

-- The bytes of one entity in one section.
use Rattle.{sim_base.specs.Rows.row_of, sim_codec.specs.Common.{attack_bytes, attack_part, clock_bytes, entity_bytes, entity_part, health_bytes, health_part}}
use Rattle.sim_codec.specs.Common.{motion_part, moving_bytes, owner_bytes, owner_part, position_bytes, position_part, Row, stance_bytes, stance_part, State}
use Rattle.sim_codec.specs.{Common.with_id, declared.bits.Part.{Part, TheVariants.{Attack, Clock, Entity, Health, Motion, Owner, Position, Stance}}}
use Rattle.std.specs.Prelude.{if◌then◌else◌, List, None, Option, option_and_then, option_map, Some, ℕ, ◌==◌}

-- the clock, and no other part
abbrev pub clock_bits : State → Part → Option (List ℕ)
clock_bits state Clock = Some (clock_bytes state)
clock_bits state Entity = None
clock_bits state Position = None
clock_bits state Owner = None
clock_bits state Health = None
clock_bits state Motion = None
clock_bits state Attack = None
clock_bits state Stance = None

-- the bytes that a row has in the section of a part
abbrev pub row_bits : Part → Row → Option (List ℕ)
row_bits Clock row = None
row_bits Entity row = option_map entity_bytes (with_id entity_part row)
row_bits Position row = option_map position_bytes (with_id position_part row)
row_bits Owner row = option_map owner_bytes (with_id owner_part row)
row_bits Health row = option_map health_bytes (with_id health_part row)
row_bits Motion row = option_map moving_bytes (with_id motion_part row)
row_bits Attack row = option_map attack_bytes (with_id attack_part row)
row_bits Stance row = option_map stance_bytes (with_id stance_part row)

-- entity 1 has the clock alone, and every other what its row has, if it is alive
abbrev pub bits : State → ℕ → Part → Option (List ℕ)
bits state entity part = if entity == 1 then clock_bits state part else option_and_then (row_bits part) (row_of state entity)

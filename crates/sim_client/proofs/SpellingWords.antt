-- The words of spellings that the proof of their length names, passed on from one place. Declares nothing.
pub use Rattle.sim_base.specs.{declared.{place.Point.Point, setup.Setup.Setup, state.{Motion.Motion, Row.Row, State.State}}, Limits.{IsSetup, IsValid}}
pub use Rattle.sim_base.specs.Spelling.{attack_bytes, attack_part, clock_bytes, entity_bytes, entity_part, flag_bytes, health_bytes, health_part, motion_part}
pub use Rattle.sim_base.specs.Spelling.{moving_bytes, owner_bytes, owner_part, point_bytes, position_bytes, position_part, rows_with, section, sections}
pub use Rattle.{sim_base.specs.Spelling.{spelling, stance_bytes, stance_part, version}, sim_bytes.specs.Laws.length-moving_bytes}
pub use Rattle.sim_bytes.specs.{Numbers.{length-i32_bytes, length-u16_bytes, length-u32_bytes, length-u64_bytes}, Rows.{HasShortWay, IsShort}}
pub use Rattle.{sim_codec.proofs.ShortWays.short_ways, sim_wire.specs.Reading.IsShortState, std.proofs.Common.{All, arith, length, length-append, List, None}}
pub use Rattle.std.proofs.{Common.{Option, Some, suc, ℕ, [], ◌*◌, ◌++◌, ◌+◌, ◌∷◌, ◌≡◌, ◌≤◌}, lemmas.List.Elements.{All-head, All-tail}, Math.Nat.suc-mul}
pub use Rattle.std.specs.{List.{cons_option, flat_map}, Prelude.{codes, IfSome, option_map}}
unfoldable pub use Rattle.sim_base.specs.Spelling.{i32_bytes, u16_bytes, u32_bytes, u64_bytes}

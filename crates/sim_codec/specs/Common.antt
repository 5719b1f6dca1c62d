-- The words of other crates that the files here name again and again, passed on from one place. Declares nothing.
pub use Rattle.sim_base.specs.declared.{place.Point.Point, setup.Setup.Setup, state.{Motion.Motion, Row.Row, State.State}, template.Template.Template}
pub use Rattle.sim_base.specs.Limits.{Both, has_health, IsInside, IsKnownRow, IsSetup, IsState, IsValid, IsValidAim, IsValidMotion, IsValidRow, row_limit}
pub use Rattle.sim_base.specs.{Places.is_within, Rows.{id_of, is_holding}}
pub use Rattle.sim_base.specs.Spelling.{attack_bytes, attack_part, clock_bytes, entity_bytes, entity_part, head_bytes, health_bytes, health_part, is_full_turn}
pub use Rattle.sim_base.specs.Spelling.{mark, motion_part, moving_bytes, old_spelling, owner_bytes, owner_part, position_bytes, position_part, quick_bytes}
pub use Rattle.sim_base.specs.Spelling.{rows_with, section, sections, six_sections, spelling, stance_bytes, stance_part}
pub use Rattle.sim_bytes.specs.declared.{version.Version.{TheVariants.{One, Two}, Version}, walk.{Parts.Parts, Walk.Walk}}
pub use Rattle.sim_bytes.specs.{Reading.number_at, Rows.{has_stances, HasShortWay, number_of, point_in, with_id}, Telling.Tells, Walking.{holds, row_of}}
pub use Rattle.std.specs.{Int.{from_le_bytes, w16, w32, w64}, List.{list_any, Sorted.IsStrictlyIncreasing}, Simd.first_chunks}
unfoldable pub use Rattle.{sim_base.specs.Spelling.{digest, quick, u32_bytes, u64_bytes}, sim_bytes.specs.Rows.attack_at}
unfoldable pub use Rattle.sim_bytes.specs.{Rows.{entity_at, health_at, moving_at, owner_at, position_at, stance_at}, Walking.{parts_at, row_if, sections_at}}

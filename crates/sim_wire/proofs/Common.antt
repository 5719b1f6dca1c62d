-- The words that the proofs here name again and again, passed on from one place. Declares nothing.
pub use Rattle.{sim_base.specs.declared.place.Point.Point, sim_bytes.specs.{Numbers.{length-u16_bytes, length-u32_bytes, u16_back, u32_back}, Reading.◌>>=◌}}
pub use Rattle.sim_wire.specs.Common.{AllByRecursion, Attack, byte_at, Command, Delete, DownOf, IsPoint, number_at, Place, point_bytes, Resign, Stop, Train}
pub use Rattle.sim_wire.specs.{Common.{UpOf, w32, Walk}, Memory.read_and, Reading.{command_bytes, CommandFits, down_body, down_frame, DownFits, framed, IdsFit}}
pub use Rattle.{sim_wire.specs.Reading.{IsDownFrame, IsUpFrame, state_limit, up_body, up_frame, UpFits}, std.proofs.Common.{ap, append_assoc, arith, Bool, eqb}}
pub use Rattle.std.proofs.Common.{false, length, length-append, List, ltb, None, Option, refl, Some, subst, suc, sym, true, ℕ, [], ◌*◌, ◌++◌, ◌+◌, ◌-◌, ◌<◌}
pub use Rattle.std.{proofs.{Common.{◌^◌, ◌∙◌, ◌∷◌, ◌≡◌, ◌≤◌}, lemmas.{Bool.{false≢true, le-ltb, ltb-false}, List.append-nil}}, specs.List.flat_map}
unfoldable pub use Rattle.{sim_base.specs.Spelling.i32_bytes, sim_wire.specs.{Common.{u16_bytes, u32_bytes}, Memory.{command_form, down_command_form}}}
unfoldable pub use Rattle.sim_wire.specs.Memory.{down_form, down_tag_form, ids_form, kind_form, state_form, up_command_form, up_form, up_tag_form}
unfoldable pub use Rattle.sim_wire.specs.Reading.{down_at, ids_bytes, numbers_at, up_at}

-- The words of other crates that the files here name again and again, passed on from one place. Declares nothing.
pub use Rattle.{serde_json.specs.{Data.Data, Find.{as_str, get}, View.view}, sim_base.specs.declared.{command.Command.Command, memory.OutOfMemory.OutOfMemory}}
pub use Rattle.sim_base.specs.declared.{place.{Point.Point, Rect.Rect}, setup.{First.First, Land.Land, Setup.Setup, Timed.Timed}, template.Template.Template}
pub use Rattle.sim_base.specs.{Limits.{is_given, IsSetup, IsTemplate, row_limit}, Places.{is_inside, is_within}, Rows.size_of}
pub use Rattle.sim_json.specs.{Commands.{command_takes, IsLeast, next_or, numbered, records}, Keys.other_key, Values.{fits, fixed, four, front_two, is_list}}
pub use Rattle.sim_json.specs.Values.{is_row_of, is_table, is_table_of, is_whole, list_at, list_of, natural, natural_at, natural_in, two, value_of}
pub use Rattle.sim_merge.specs.{declared.fault.MergeFault.MergeFault, Libraries.Holding, Overlay.Laying, Resolution.are_distinct}
pub use Rattle.sim_merge.specs.Resolution.{is_endless, is_missing, is_orphan, layings, names_in, numbers, origins_of, parents_in, root_there, roots_in}
pub use Rattle.sim_tree.specs.{declared.source.Source.Source, Nodes.{Origin, origin_of}, Trees.{is_sound, levels, mark_of, Node, node_of}}
pub use Rattle.std.specs.{declared.alloc.Global.Global, Result.result_ok, Str.is_utf8}
unfoldable pub use Rattle.{md5.specs.Md5.md5, sim_json.specs.Commands.command_of, sim_merge.specs.Resolution.members, sim_traits.specs.Values.template_in}
unfoldable pub use Rattle.sim_tree.specs.Nodes.{source_in}

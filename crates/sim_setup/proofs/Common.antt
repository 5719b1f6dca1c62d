-- The words that the proofs here name again and again, passed on from one place. Declares nothing.
pub use Rattle.{sim_base.specs.Limits.{HasFewIds, IsFrom, IsLand}, sim_json.proofs.Readers.{and_then_some, if_some, natural_in-within, next_some, then_some}}
pub use Rattle.{sim_json.proofs.Reading.{is_least, numbered-All, numbered-keeps, numbered-length, numbered_from_records}, sim_merge.specs.Resolution.name_in}
pub use Rattle.sim_setup.specs.Common.{are_distinct, as_str, Command, Data, First, four, is_given, IsTemplate, Land, list_at, list_of, names_in, natural_in}
pub use Rattle.sim_setup.specs.{Common.{Node, numbered, Origin, origin_of, records, Source, Template, Timed, two, view}, Crowds.Tallies}
pub use Rattle.sim_setup.specs.{Refusals.{after, IsReadySource}, Setups.{crowd, falls_at, land_in, mask_from, mask_of, Meets, next_template, rect_of, roots_of}}
pub use Rattle.{sim_setup.specs.Setups.{setup_of, templates_from}, std.proofs.Common.{All, ap, arith, Bool, codes, drop, eq-eqb, Err, false, if◌then◌else◌}}
pub use Rattle.std.proofs.Common.{inl, inr, length, List, map, nat_le, nat_lt, None, Ok, Option, option_and_then, refl, Result, rules, slice_index, Some, subst}
pub use Rattle.std.proofs.Common.{suc, sym, true, true≢false, zero, ℕ, [], ◌&&◌, ◌++◌, ◌+◌, ◌<◌, ◌==◌, ◌^◌, ◌∙◌, ◌∷◌, ◌≡◌, ◌≢◌, ◌≤◌, ◌⊎◌}
pub use Rattle.std.{proofs.lemmas.{Bool.{and_parts, leb-true}, List.{Elements.All-cons, length-map, length_push}}, specs.Str.bytes_eq}
unfoldable pub use Rattle.sim_setup.specs.{Common.{command_of, template_in}, Refusals.source_of, Setups.{first_of, template_at, timed_of}}

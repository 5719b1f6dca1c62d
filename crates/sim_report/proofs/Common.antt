-- The words that the proofs here name again and again, passed on from one place. Declares nothing.
pub use Rattle.sim_base.proofs.{AppendedTexts.{IsSplitPoint-appended, take-appended_more}, ExampleMatches.{enemies, mid, post, walker}}
pub use Rattle.sim_base.specs.declared.{memory.OutOfMemory.OutOfMemory, setup.Setup.Setup, state.{Motion.TheVariants.Going, Row.Row, State.State}}
pub use Rattle.sim_base.specs.{declared.template.Template.Template, Limits.IsState}
pub use Rattle.sim_report.specs.{Downs.next_id, Parts.{parts_text, template_line, template_lines}, Show.{HasTemplate, next_point, row_line, row_way}}
pub use Rattle.std.proofs.Common.{ap, append-nil, append_assoc, arith, Err, get_or, length, List, None, Ok, OnErr, Option, refl, Result, rules, Some, suc, sym}
pub use Rattle.std.proofs.{Common.{take, true, ℕ, [], ◌++◌, ◌+◌, ◌<◌, ◌∙◌, ◌∷◌, ◌≡◌}, lemmas.{List.{length-take-le, take_more}, Option.slice_get_within}}
pub use Rattle.std.{proofs.Math.Seq.take-append_seam, specs.Prelude.{All, codes, decimal, flat_map, MatchOption, OnOk, slice_get, string_bytes, ⊤}}
unfoldable pub use Rattle.std.specs.Fmt.{digits}

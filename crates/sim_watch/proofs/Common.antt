-- The words that the proofs here name again and again, passed on from one place. Declares nothing.
pub use Rattle.sim_fact_lists.{proofs.OneFact.{missing_found, replaced, Rising, rising, rising_kept}, specs.{Changes.{Ascend, with_only}, Groups.AreGroups}}
pub use Rattle.{sim_fact_lists.specs.Groups.joined_by, sim_system.{proofs.Facts.kept_id, specs.declared.{fact.Fact.Fact, kind.Kind.TheVariants.Watch}}}
pub use Rattle.{sim_system.specs.Notes.{aim_of, fact_with, id_of_fact, kept, kept_of}, sim_watch.specs.Aimers.{aim_key, facts_in, told_in}}
pub use Rattle.{sim_watch.specs.declared.aimer.Aimer.Aimer, std.proofs.Common.{ap, arith, Bool, cond, false, List, map, None, not, Option, refl, Some, subst}}
pub use Rattle.std.{proofs.Common.{sym, take, true, ℕ, [], ◌∙◌, ◌∷◌, ◌≡◌}, specs.{List.cons_option, Prelude.{Err, Ok, option_and_then, Result, ◌==◌}}}

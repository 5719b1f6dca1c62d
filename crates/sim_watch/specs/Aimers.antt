-- What a list of entities and their targets stands for.
use Rattle.{sim_fact_lists.specs.{Changes.with_only, declared.group.Group.Group, Groups.HasRoom}, sim_system.specs.declared.fact.Fact.Fact}
use Rattle.{sim_system.specs.{declared.kind.Kind.TheVariants.Watch, Notes.{aim_of, fact_with, kept, kept_of}}, sim_watch.specs.declared.aimer.Aimer.Aimer}
use Rattle.std.specs.Prelude.{List, map, Option, ℕ, ◌≡◌}

-- an entity of which only its target is told
abbrev pub aim_in : Aimer → Fact
aim_in aimer = aim_of aimer.id aimer.target

-- all of them
abbrev pub told_in : List Aimer → List Fact
told_in aimers = map aim_in aimers

-- what is kept of them: those that have a target
abbrev pub facts_in : List Aimer → List Fact
facts_in aimers = kept_of Watch (told_in aimers)

-- an entity had this target, or none, and this is kept of it now
pub record Aims (id had : ℕ) (now : Option Fact) (old new : List Aimer) : Type 0 where
  pub target : fact_with (facts_in old) id ≡ kept Watch (aim_of id had)
  pub facts : facts_in new ≡ with_only id now (facts_in old)

-- The list that is kept of each target.

-- an entity is listed under its target
abbrev pub aim_key : Fact → ℕ
aim_key fact = fact.target

-- there is room for one more who aims at a target, if it is one
abbrev pub HasRoomFor : ℕ → List Group → Type 0
HasRoomFor target groups = (target ≡ 0 → ⊥) → HasRoom target groups

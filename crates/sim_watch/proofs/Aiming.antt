-- Who aims at whom: what is asked of the groups, and the groups after a change.
use Rattle.sim_base.specs.declared.setup.Land.{Land}
use Rattle.sim_fact_lists.{proofs.{Grouping.relisted, OneFact.noted_is}, specs.{declared.group.Group.Group, Groups.{keyed, left_by, listed}}}
use Rattle.sim_system.specs.{declared.note.Note.{Note, TheVariants.Born}, Meanings.{Meaning, watchers_among}, Notes.{noted, NoteFits}}
use Rattle.sim_watch.proofs.Common.{aim_key, aim_of, Aimer, ap, AreGroups, Ascend, Bool, Fact, fact_with, facts_in, false, id_of_fact, joined_by, kept, kept_id}
use Rattle.sim_watch.proofs.Common.{List, map, None, not, Option, refl, Rising, rising, rising_kept, Some, subst, sym, told_in, true, Watch, with_only, ℕ, []}
use Rattle.{sim_watch.proofs.Common.{◌==◌, ◌∙◌, ◌∷◌, ◌≡◌}, std.{proofs.{Common.MatchOption, lemmas.Bool.{eq-eqb, ne_eqb}}, specs.Prelude.{filter, ◌&&◌}}}

nobody : (facts : List Fact) → map id_of_fact (filter (λ (f : Fact). false) facts) ≡ []
nobody [] = refl
nobody (f ∷ facts) = nobody facts

pub list_is : (facts : List Fact) (id : ℕ) → (id ≡ 0 → ⊥) → keyed aim_key id facts ≡ watchers_among facts id
list_is facts id some = let other : (id == 0) ≡ false = ne_eqb id 0 some in
    sym (ap (λ (b : Bool). map id_of_fact (filter (λ (fact : Fact). not b && fact.target == id) facts)) other)

pub no_list : (facts : List Fact) (id : ℕ) → id ≡ 0 → [] ≡ watchers_among facts id
no_list facts id none = let same : (id == 0) ≡ true = eq-eqb id 0 none in
    sym (ap (λ (b : Bool). map id_of_fact (filter (λ (fact : Fact). not b && fact.target == id) facts)) same ∙ nobody facts)

-- ---- what is kept of one entity

abbrev part : ℕ → ℕ → Option Fact
part id target = kept Watch (aim_of id target)

pub part_named : (id target : ℕ) (f : Fact) → part id target ≡ Some f → f.id ≡ id
part_named id target f e = kept_id Watch (aim_of id target) f e

-- ---- all groups

module _ (aimers : List Aimer) (up : Ascend (told_in aimers)) where
  facts_rise : Rising (facts_in aimers)
  facts_rise = rising_kept Watch (told_in aimers) (rising (told_in aimers) up)

  -- an entity has another target
  pub aimed_groups : (id from to : ℕ) (after : List Aimer) (old room left new : List Group) → AreGroups aim_key (facts_in aimers) old
      → fact_with (facts_in aimers) id ≡ part id from →
      facts_in after ≡ with_only id (part id to) (facts_in aimers) → ((k : ℕ) → listed k room ≡ listed k old)
      → ((k : ℕ) → listed k left ≡ left_by aim_key (part id from) k (listed k room)) →
      ((k : ℕ) → listed k new ≡ joined_by aim_key (part id to) k (listed k left)) → AreGroups aim_key (facts_in after) new
  aimed_groups id from to after old room left new are found is same leaves joins =
      relisted aim_key id (part id from) (part id to) (facts_in aimers) (facts_in after) room left new facts_rise (λ k. same k ∙ are k) (sym found)
      (part_named id to) (sym is) leaves joins

  -- an entity is gone
  pub gone_groups : (id from : ℕ) (after : List Aimer) (old new : List Group) → AreGroups aim_key (facts_in aimers) old → fact_with (facts_in aimers) id ≡
      part id from →
      facts_in after ≡ with_only id None (facts_in aimers) → ((k : ℕ) → listed k new ≡ left_by aim_key (part id from) k (listed k old))
      → AreGroups aim_key (facts_in after) new
  gone_groups id from after old new are found is leaves =
      relisted aim_key id (part id from) None (facts_in aimers) (facts_in after) old new new facts_rise are (sym found) (λ f e. absurd (cc)) (sym is) leaves
      (λ k. refl)

  -- ---- a note

  pub born_noted : (land : Option Land) (given : Note) (fact : Fact) → given ≡ Born fact
      → MatchOption land ⊥ (λ (l : Land). NoteFits Watch l (facts_in aimers) given) →
      with_only fact.id (part fact.id fact.target) (facts_in aimers) ≡ noted Watch (facts_in aimers) given
  born_noted None given fact is fits = absurd fits
  born_noted (Some l) given fact is fits =
      noted_is Watch l (facts_in aimers) (Born fact) facts_rise (subst (NoteFits Watch l (facts_in aimers)) is fits) ∙ ap (noted Watch (facts_in aimers))
      (sym is)

-- ---- as a meaning

abbrev meant : Option Land → List Fact → ℕ → Meaning
meant land facts rebuilds = record { kind = Watch; land = land; facts = facts; rebuilds = rebuilds }

pub meant_by : (land later : Option Land) (facts after : List Fact) (before rebuilds : ℕ) → later ≡ land → after ≡ facts → rebuilds ≡ before
    → meant later after rebuilds ≡ meant land facts before
meant_by land later facts after before rebuilds same is count = λ i. meant (same i) (is i) (count i)

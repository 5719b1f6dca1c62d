-- What is kept of an entity has its id, and a fact goes behind those whose ids are less.
use Rattle.sim_system.specs.declared.{fact.Fact.Fact, kind.Kind.{Kind, TheVariants.{Census, Ground, Range, Watch}}}
use Rattle.sim_system.specs.Notes.{id_of_fact, keeps, kept, part_for, placed}
use Rattle.std.proofs.{Common.{ap, arith, Bool, cond, false, List, nat_lt, None, refl, Some, true, ◌<◌, ◌∙◌, ◌∷◌, ◌≡◌}, lemmas.Bool.le-ltb}

pub kept_id : (kind : Kind) (fact f : Fact) → kept kind fact ≡ Some f → f.id ≡ fact.id
kept_id kind fact f e = by (keeps kind fact) e ∙ part_id kind
  where
    by : (b : Bool) → cond b (Some (part_for kind fact)) None ≡ Some f → f.id ≡ (part_for kind fact).id
    by true s = let same : f ≡ part_for kind fact = cc in ap id_of_fact same
    by false s = absurd (cc)

    part_id : (k : Kind) → (part_for k fact).id ≡ fact.id
    part_id Ground = refl
    part_id Range = refl
    part_id Watch = refl
    part_id Census = refl

pub placed_behind : (f g : Fact) (facts : List Fact) → g.id < f.id → placed f (g ∷ facts) ≡ g ∷ placed f facts
placed_behind f g facts lt = let more : nat_lt f.id g.id ≡ false = le-ltb f.id g.id (omega arith) in rw more refl

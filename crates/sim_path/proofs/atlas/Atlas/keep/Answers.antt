-- Those that are kept are on the ground, the new ones too.
use Rattle.sim_path.proofs.Common.{[], ◌%◌, ◌++◌, ◌∷◌, ◌≡◌, All, Bool, false, field_of_grid, List, subst, sym, true}
use Rattle.{sim_path.specs.Atlases.AreOn, sim_path.specs.Atlases.ground_in, sim_search.specs.declared.distances.Distances.Distances}
use Rattle.std.{proofs.lemmas.List.Elements.All-push, proofs.lemmas.List.Elements.All-set, specs.Bool.if◌then◌else◌, specs.Result.is_ok}

pub invariant_of-self : Rattle.sim_path.proofs.atlas.Atlas.keep.Goals.invariant_of-self
invariant_of-self c =
    let old = c.args.self.now in
    record {
      right = old.right;
      near = All-set (AreOn (field_of_grid (ground_in old.cells))) old.goals.items (old.next % 32) c.args.distances c.requires old.near;
    }

-- one more is pushed, or all stays
push-all : (P : Distances → Type 0) (pushed : Bool) (old new : List Distances) (x : Distances) → new ≡ (if pushed then old ++ x ∷ [] else old) → All P old → P x
    → All P new
push-all P true old new x e all one = subst (All P) (sym e) (All-push P old x all one)
push-all P false old new x e all one = subst (All P) (sym e) all

pub invariant_of-self-else-is_err : Rattle.sim_path.proofs.atlas.Atlas.keep.Goals.invariant_of-self-else-is_err
invariant_of-self-else-is_err c =
    let old = c.args.self.now in
    record {
      right = old.right;
      near = push-all (AreOn (field_of_grid (ground_in old.cells))) (is_ok c.push.result) old.goals.items c.push.new.self.items c.args.distances
          c.push.ensures.items old.near c.requires;
    }

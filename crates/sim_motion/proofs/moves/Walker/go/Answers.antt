-- The points of the way lie inside.
use Rattle.sim_base.specs.{Commands.field_of, declared.place.Point.Point, Places.IsPlaced, Ways.{Way, way_of}}
use Rattle.{sim_motion.specs.Moves.way_in, sim_plans.proofs.Bounds.{ground, way_placed}, std.proofs.Common.{All, ap, List, rules, subst, sym, ◌∙◌, ◌≡◌}}

pub invariant_of-along : Rattle.sim_motion.proofs.moves.Walker.go.Goals.invariant_of-along
invariant_of-along g c =
    let scene = c.args.scene.now in
    let found : way_in c.in-Found.way ≡ way_of (field_of scene.setup.now scene.state.now) c.args.self.now.row.now.at c.args.goal.now = search rules in
    record {
      placed = subst (λ (ps : List Point). All IsPlaced ps) (sym (c.as_slice-way.ensures ∙ ap (λ (w : Way). w.points) found))
          (way_placed (field_of scene.setup.now scene.state.now) c.args.self.now.row.now.at c.args.goal.now (ground scene.setup.now c.requires.stands.limits)
          c.requires.at c.requires.goal);
    }

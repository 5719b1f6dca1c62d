-- Distances that are kept are on the ground.
use Rattle.sim_path.proofs.Common.{All, Cell, Field, field_of_grid, get_or, length, List, same_cell-true, subst, sym, ℕ, ◌<◌, ◌∙◌, ◌≡◌}
use Rattle.{sim_path.specs.Atlases.{AreOn, ground_in}, sim_search.specs.{declared.distances.Distances.Distances, Rows.{AreDistances, number_in}}}

-- an item of those that are kept is on the ground
item-on : (field : Field) (items lent : List Distances) (n : ℕ) (item other : Distances) → lent ≡ items → item ≡ get_or lent n other → n < length lent
    → All (AreOn field) items → AreOn field item
item-on field items lent n item other e is lt all =
    subst (AreOn field) (sym is) (subst (λ (l : List Distances). All (AreOn field) l) (sym e) all n other lt)

pub returns-then-eq-clause-distances : Rattle.sim_path.proofs.atlas.Atlas.distances_to.Goals.returns-then-eq-clause-distances
returns-then-eq-clause-distances c =
    let field = field_of_grid (ground_in c.args.self.now.cells) in
    let item = c.distances-item.result in
    let there : item.goal ≡ c.args.goal = same_cell-true item.goal c.args.goal (sym c.eq.ensures ∙ c.if-eq.true) in
    subst (λ (g : Cell). AreDistances field g (number_in item)) there
    (item-on field c.args.self.now.goals.items c.as_slice-distances-items.result.now c.loop-distances.distances-index item _
    c.as_slice-distances-items.ensures.value c.distances-item.is c.loop-distances-test.true c.args.self.now.near).distances

pub returns-then-eq-clause-size : Rattle.sim_path.proofs.atlas.Atlas.distances_to.Goals.returns-then-eq-clause-size
returns-then-eq-clause-size c =
    let field = field_of_grid (ground_in c.args.self.now.cells) in
    let item = c.distances-item.result in
    (item-on field c.args.self.now.goals.items c.as_slice-distances-items.result.now c.loop-distances.distances-index item _
    c.as_slice-distances-items.ensures.value c.distances-item.is c.loop-distances-test.true c.args.self.now.near).size_is

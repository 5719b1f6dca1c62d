use Rattle.sim_path.proofs.tight.tight_to.Goals as goal
use Rattle.sim_path.proofs.Common.{Bool, IsBestOf, IsTightTrail, IsTrailToEnd, Option, Reached, field_of_grid, floor_cost, refl, subst, true, ◌≡◌}
use Rattle.sim_path.proofs.{Ends.if_ok, TightTrails.tight-end}

pub returns-in-Some : goal.returns-in-Some
returns-in-Some g c =
    let question = c.args.question.now in
    let field = field_of_grid question.grid.now in
    let start = question.start in
    let floor = g.F.Floor.floor_of c.args.floor start in
    let goal = question.goal in
    let end = c.in-Some.end in
    let trail = c.tight_trail.new.trail.items in
    let best = subst (λ (o : Option Reached). IsBestOf (floor_cost floor) goal question.ends.now o) c.in-Some.is c.tight_end.ensures in
    if_ok c.tight_trail.result (λ (b : Bool). b ≡ true → IsTightTrail field start floor end.cell trail)
    (λ (b : Bool). b ≡ true → IsTrailToEnd field start goal trail)
    (λ b found e.
    let h = found e in
    record {
      end = record { cell = end.cell; cost = floor end.cell };
      is_end = tight-end field start floor question.start_on (g.met.F.Floor.is_least field start c.args.floor c.requires.known.floor_holds) goal question.near
          question.ends.now end c.requires.known.ends best.0 best.1 h.tight;
      is_trail = h.is_trail;
    })
    c.tight_trail.ensures

pub tight_trail-requires-clause-end : goal.tight_trail-requires-clause-end
tight_trail-requires-clause-end g c = c.if-has.ensures.0 refl

pub tight_trail-requires-clause-dead : goal.tight_trail-requires-clause-dead
tight_trail-requires-clause-dead g c = c.requires.dead

pub tight_trail-requires-clause-floor : goal.tight_trail-requires-clause-floor
tight_trail-requires-clause-floor g c = c.requires.known.floor_holds

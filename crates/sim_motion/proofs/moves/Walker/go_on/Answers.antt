-- A row that reaches no waypoint goes on as it went.
use Rattle.{sim_motion.proofs.Walking.went_on, std.proofs.Common.sym, std.proofs.Common.◌∙◌}

pub returns-then-left-course-clause-value : Rattle.sim_motion.proofs.moves.Walker.go_on.Goals.returns-then-left-course-clause-value
returns-then-left-course-clause-value c =
    let course = c.args.course.now in
    went_on c.args.self.now.row.now c.args.self.now.budget course.goal.now course.way.now course.whole c.walk-at.result.0 c.walk-at.result.1.now
    c.walk-at.ensures.at c.walk-at.ensures.way c.if-left-course.true (sym c.is_empty.ensures ∙ c.if-not-is_empty.true) c.requires

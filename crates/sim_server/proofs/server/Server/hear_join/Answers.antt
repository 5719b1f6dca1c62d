-- The client is not out, or gets a seat.
use Rattle.sim_server.proofs.{Common.ap, Common.is_out, Common.sym, Common.◌∙◌, Made.joins, Made.joins_not, Whole.whole_joins}
use Rattle.sim_server.proofs.server.Server.hear_join.Goals as goal

pub returns-then-not-is_outside-clause-made : goal.returns-then-not-is_outside-clause-made
returns-then-not-is_outside-clause-made c =
    rw (← c.self.view_is) (joins_not _ c.args.from c.new.result (sym (c.is_outside.ensures ∙ ap is_out c.status_of.ensures) ∙ c.if-not-is_outside.true)
    c.new.ensures)

pub invariant_of-self : goal.invariant_of-self
invariant_of-self c =
    whole_joins c.self.inside.rules c.self.inside.seats c.self.inside.released c.args.from c.least_in_of-donor.result c.seat_of.result c.self.invariant
    (rw (← c.self.view_is) at c.requires)
    (sym (c.is_outside.ensures ∙ ap is_out c.status_of.ensures) ∙ c.if-not-is_outside.false) c.least_in_of-donor.ensures c.seat_of.ensures

pub returns-clause-made : goal.returns-clause-made
returns-clause-made c = rw (← c.self.view_is) (joins _ c.args.from c.least_in_of-donor.result c.seat_of.result c.in_ok-posts.posts c.self.invariant.seated
    (rw (← c.self.view_is) at c.requires)
    (sym (c.is_outside.ensures ∙ ap is_out c.status_of.ensures) ∙ c.if-not-is_outside.false) c.least_in_of-donor.ensures c.seat_of.ensures
    c.in_ok-posts.ensures)

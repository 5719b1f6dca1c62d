-- The client is out, turns are released, and those that waited for it are seated anew.
use Rattle.sim_server.proofs.{Common.{Cut, false≢true, Ok, refl}, Made.{answers, is_cut}, Silence.{cut_alone, cut_stays, silent}, Whole.whole_cut}
use Rattle.sim_server.proofs.server.Server.cut.Goals as goal

pub invariant_of-self : goal.invariant_of-self
invariant_of-self c =
    whole_cut c.self.inside.rules c.self.inside.seats c.self.inside.released c.args.client c.raised_of-risen.result c.least_in_of-donor.result c.seat_of.result
    c.reseat.new.seats c.self.invariant (rw (← c.self.view_is) at c.requires)
    c.raised_of-risen.ensures c.least_in_of-donor.ensures c.seat_of.ensures c.reseat.ensures

pub returns-clause-made : goal.returns-clause-made
returns-clause-made c = rw (← c.self.view_is) (is_cut _ c.args.client c.raised_of-risen.result c.least_in_of-donor.result c.seat_of.result c.in_ok-posts.posts
    c.reseat.new.seats c.self.invariant.seated (rw (← c.self.view_is) at c.requires)
    c.raised_of-risen.ensures c.least_in_of-donor.ensures c.seat_of.ensures c.in_ok-posts.ensures.told c.reseat.ensures)

pub returns-clause-answers : goal.returns-clause-answers
returns-clause-answers c = λ active h stands. answers c.args.self.now _ active h (Cut c.args.client) (Ok c.in_ok-posts.posts) (returns-clause-made c) stands

pub returns-in_err-posts-clause-silent : goal.returns-in_err-posts-clause-silent
returns-in_err-posts-clause-silent c = λ s. absurd (false≢true (c.in_err-posts.ensures.quiet (
  cut_stays _ c.args.client c.raised_of-risen.result c.self.invariant.seated (rw (← c.self.view_is) at c.requires) c.raised_of-risen.ensures
      (rw (← c.self.view_is) at s),
  cut_alone _ c.args.client c.self.invariant.seated (rw (← c.self.view_is) at c.requires) (rw (← c.self.view_is) at s),
)))

pub returns-clause-silent : goal.returns-clause-silent
returns-clause-silent c = λ s. silent c.args.self.now _ (Cut c.args.client) (Ok c.in_ok-posts.posts) (returns-clause-made c) refl s

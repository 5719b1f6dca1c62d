-- The state is dropped, or the one who waits for it comes in.
use Rattle.sim_server.proofs.{Common.ap, Common.sym, Common.takes_state, Common.◌∙◌, Made.takes_it, Made.takes_not, Whole.whole_takes}
use Rattle.sim_server.proofs.server.Server.hear_state.Goals as goal

pub returns-then-not-takes-clause-made : goal.returns-then-not-takes-clause-made
returns-then-not-takes-clause-made c = rw (← c.self.view_is) (takes_not _ c.args.from c.args.client c.args.turn c.args.bytes c.new.result
    (sym (c.takes.ensures ∙ ap (takes_state c.self.inside.released c.args.from c.args.turn) c.status_of-status.ensures) ∙ c.if-not-takes.true) c.new.ensures)

pub invariant_of-self : goal.invariant_of-self
invariant_of-self c =
    whole_takes c.self.inside.rules c.self.inside.seats c.self.inside.released c.args.from c.args.client c.args.turn c.entry_done_of-done.result
    c.self.invariant
    (sym (c.takes.ensures ∙ ap (takes_state c.self.inside.released c.args.from c.args.turn) c.status_of-status.ensures) ∙ c.if-not-takes.false)
    c.entry_done_of-done.ensures

pub returns-clause-made : goal.returns-clause-made
returns-clause-made c = rw (← c.self.view_is) (takes_it _ c.args.from c.args.client c.args.turn c.entry_done_of-done.result c.args.bytes c.deref.result.now
    c.in_ok-posts.posts c.deref.ensures.value c.self.invariant.seated
    (sym (c.takes.ensures ∙ ap (takes_state c.self.inside.released c.args.from c.args.turn) c.status_of-status.ensures) ∙ c.if-not-takes.false)
    c.entry_done_of-done.ensures c.in_ok-posts.ensures)

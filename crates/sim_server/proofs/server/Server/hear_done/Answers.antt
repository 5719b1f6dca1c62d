-- It is refused, or the turns rise to the least done.
use Rattle.sim_server.proofs.{Common.refl, Common.ap, Common.done_fault, Common.false≢true, Common.sym, Common.◌∙◌, Made.is_done, Made.no_fault, Made.refused}
use Rattle.sim_server.proofs.{Silence.done_stays, Silence.not_both, Whole.whole_done}
use Rattle.sim_server.proofs.server.Server.hear_done.Goals as goal

pub returns-in-Some-clause-made : goal.returns-in-Some-clause-made
returns-in-Some-clause-made c = rw (← c.self.view_is) (refused _ _ c.args.from c.in-Some.code _ _ _ c.one.result (rw (← c.self.view_is) at c.requires)
    (sym (c.done_fault_of.ensures ∙ ap (done_fault c.self.inside.rules c.self.inside.released c.args.turn) c.status_of-status.ensures) ∙ c.in-Some.is) refl
    (λ d. refl) c.one.ensures)

pub invariant_of-self : goal.invariant_of-self
invariant_of-self c =
    whole_done c.self.inside.rules c.self.inside.seats c.self.inside.released c.args.from c.args.turn c.raised_of-risen.result c.self.invariant
    (rw (← c.self.view_is) at c.requires)
    (sym (c.done_fault_of.ensures ∙ ap (done_fault c.self.inside.rules c.self.inside.released c.args.turn) c.status_of-status.ensures) ∙
    no_fault c.done_fault_of.result c.in_default.not-Some) c.raised_of-risen.ensures

pub returns-clause-made : goal.returns-clause-made
returns-clause-made c = rw (← c.self.view_is) (is_done _ c.args.from c.args.turn c.raised_of-risen.result c.in_ok-posts.posts c.self.invariant.seated
    (rw (← c.self.view_is) at c.requires)
    (sym (c.done_fault_of.ensures ∙ ap (done_fault c.self.inside.rules c.self.inside.released c.args.turn) c.status_of-status.ensures) ∙
    no_fault c.done_fault_of.result c.in_default.not-Some) c.raised_of-risen.ensures c.in_ok-posts.ensures.told)

pub returns-in-Some-clause-quiet : goal.returns-in-Some-clause-quiet
returns-in-Some-clause-quiet c = λ done. let still = rw (← c.self.view_is) at done in absurd (not_both _ c.in-Some.code
    (sym (c.done_fault_of.ensures ∙ ap (done_fault c.self.inside.rules c.self.inside.released c.args.turn) c.status_of-status.ensures) ∙ c.in-Some.is)
    still.taken)

pub returns-in_err-posts-clause-quiet : goal.returns-in_err-posts-clause-quiet
returns-in_err-posts-clause-quiet c = λ done. absurd (false≢true (c.in_err-posts.ensures.quiet
    (done_stays _ c.args.from c.args.turn c.raised_of-risen.result c.self.invariant.seated (rw (← c.self.view_is) at c.requires) c.raised_of-risen.ensures
    (rw (← c.self.view_is) at done))))

-- The talk is that over the match, and all rigs come back in their order, each system in its place.
use Rattle.sim_talk.specs.declared.fault.TalkFault.TheVariants as ends
use Rattle.sim_live.proofs.living.live.Goals as goal
use Rattle.sim_live.proofs.Answered.{live_caused, live_settled, live_unmade}
use Rattle.{sim_session.{proofs.Builds.came_back, specs.Going.ComeBackBy}, sim_talk.proofs.Talking.nothing_kept, std.proofs.Common.{Err, refl, subst, sym}}

pub returns-in-Ok-clause-lives : goal.returns-in-Ok-clause-lives
returns-in-Ok-clause-lives g c =
    live_settled c.args.setup.now c.in-Ok.session.setup.now c.args.clients c.talk_over-outcome.result c.settled-ended.result _ _ _ c.in-Ok.ensures.setup
    c.talk_over-outcome.ensures.lives c.settled-ended.ensures

pub returns-in-Err-clause-lives : goal.returns-in-Err-clause-lives
returns-in-Err-clause-lives g c =
    live_settled c.args.setup.now c.args.setup.now c.args.clients (Err ends.OutOfMemory) c.settled.result _ _ _ refl
    (live_unmade c.args.setup.now c.args.clients (Err ends.OutOfMemory) _ refl) c.settled.ensures

pub returns-in-Ok-clause-settled : goal.returns-in-Ok-clause-settled
returns-in-Ok-clause-settled g c = nothing_kept c.talk_over-outcome.result c.settled-ended.result _ _ c.settled-ended.ensures

pub returns-in-Err-clause-settled : goal.returns-in-Err-clause-settled
returns-in-Err-clause-settled g c = nothing_kept (Err ends.OutOfMemory) c.settled.result _ _ c.settled.ensures

pub returns-in-Ok-clause-causes : goal.returns-in-Ok-clause-causes
returns-in-Ok-clause-causes g c = live_caused c.args.setup.now c.args.clients c.settled-ended.result _ _ (returns-in-Ok-clause-lives g c)

pub returns-in-Err-clause-causes : goal.returns-in-Err-clause-causes
returns-in-Err-clause-causes g c = live_caused c.args.setup.now c.args.clients c.settled.result _ _ (returns-in-Err-clause-lives g c)

pub returns-in-Ok-clause-rigs : goal.returns-in-Ok-clause-rigs
returns-in-Ok-clause-rigs g c =
    came_back (λ i v. (g.dyn-2.0.entry i).1.meaning v) c.args.setup.now c.in-Ok.session c.talk_over-outcome.new.session c.args.rigs c.finish.result
    c.requires.begins
    c.in-Ok.ensures.session c.in-Ok.ensures.setup c.in-Ok.ensures.systems c.in-Ok.ensures.spare c.in-Ok.ensures.room c.talk_over-outcome.ensures.keeps
    c.finish.ensures.systems c.finish.ensures.spare c.finish.ensures.room

pub returns-in-Err-clause-rigs : goal.returns-in-Err-clause-rigs
returns-in-Err-clause-rigs g c =
    subst (λ back. ComeBackBy (λ i v. (g.dyn-2.0.entry i).1.meaning v) c.args.setup.now c.args.rigs back) (sym c.in-Err.ensures.back)
    (record { kinds = c.requires.begins.fresh.kinds; spare = refl; eight = c.requires.begins.eight; room = refl })

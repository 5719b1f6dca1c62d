-- What is said has frames, and waits behind the rest.
use Rattle.sim_held.proofs.server.HeldServer.hear_up.Goals as goal
use Rattle.sim_held.proofs.{Common.{ap, Ok, refl, subst, sym, told_to, ◌++◌, ◌∙◌}, Serving.{heard_by, own_after, own_still, ready_after}}
use Rattle.{sim_held.specs.Servers.{AreSmall, waiting}, sim_pipes.proofs.Telling.have_frames, sim_plain.specs.Messages.Heard}

pub invariant_of-self-in_err-posts : goal.invariant_of-self-in_err-posts
invariant_of-self-in_err-posts c =
    let before = c.self.inside in
    ready_after before.clients before.server (Heard c.args.from c.args.up) c.hear.result c.hear.new.self before.said.items _ c.self.invariant c.requires.small
    c.hear.ensures.made (subst AreSmall (sym c.in_ok-reserve.ensures.items) c.self.invariant.waits)
    (own_still before.server c.hear.new.self before.said.items _ c.in_err-posts.ensures.made.rules c.in_ok-reserve.ensures.items c.self.invariant.own)

pub invariant_of-self-2 : goal.invariant_of-self-2
invariant_of-self-2 c =
    let before = c.self.inside in
    let a = Heard c.args.from c.args.up in
    let made = c.in_ok-posts.ensures.made in
    ready_after before.clients before.server a (Ok c.in_ok-posts.posts) c.hear.new.self before.said.items c.keep.new.said.items c.self.invariant c.requires.small made
    (c.keep.ensures.small (subst AreSmall (sym c.in_ok-reserve.ensures.items) c.self.invariant.waits)
    (have_frames before.server a (Ok c.in_ok-posts.posts) c.hear.new.self c.self.invariant.keeps c.requires.small made))
    (own_after before.server c.hear.new.self a c.in_ok-posts.posts before.said.items c.keep.new.said.items made c.self.invariant.own
    (λ d. c.keep.ensures.said d ∙ ap (λ l. waiting l d ++ told_to d c.in_ok-posts.posts) c.in_ok-reserve.ensures.items))

pub returns : goal.returns
returns c =
    let before = c.self.inside in
    let a = Heard c.args.from c.args.up in
    rw (← c.self.view_is) (
      refl,
      heard_by before.server c.hear.new.self a c.in_ok-posts.posts before.said.items c.keep.new.said.items c.in_ok-posts.ensures.made
          (λ d. c.keep.ensures.said d ∙ ap (λ l. waiting l d ++ told_to d c.in_ok-posts.posts) c.in_ok-reserve.ensures.items),
    )

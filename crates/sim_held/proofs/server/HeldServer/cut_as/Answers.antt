-- What is said has frames, and waits behind the rest.
use Rattle.sim_held.proofs.server.HeldServer.cut_as.Goals as goal
use Rattle.sim_held.proofs.{Common.{ap, if◌then◌else◌, Ok, refl, subst, sym, told_to, [], ◌++◌, ◌∙◌}, Serving.{cut_by, own_after, own_still, ready_after}}
use Rattle.{sim_held.specs.Servers.{AreSmall, waiting}, sim_pipes.proofs.Telling.have_frames, sim_plain.specs.Messages.Cut, std.proofs.Common.◌==◌}

pub invariant_of-self-in_err-posts : goal.invariant_of-self-in_err-posts
invariant_of-self-in_err-posts c =
    let before = c.self.inside in
    ready_after before.clients before.server (Cut c.args.client) c.cut.result c.cut.new.self before.said.items _ c.self.invariant tt
    c.cut.ensures.made (subst AreSmall (sym c.in_ok-reserve.ensures.items) c.self.invariant.waits)
    (own_still before.server c.cut.new.self before.said.items _ c.in_err-posts.ensures.made.rules c.in_ok-reserve.ensures.items c.self.invariant.own)

pub invariant_of-self-2 : goal.invariant_of-self-2
invariant_of-self-2 c =
    let before = c.self.inside in
    let a = Cut c.args.client in
    let made = c.in_ok-posts.ensures.made in
    ready_after before.clients before.server a (Ok c.in_ok-posts.posts) c.cut.new.self before.said.items c.keep.new.said.items c.self.invariant tt made
    (c.keep.ensures.small (c.leave.ensures.small (subst AreSmall (sym c.in_ok-reserve.ensures.items) c.self.invariant.waits))
    (have_frames before.server a (Ok c.in_ok-posts.posts) c.cut.new.self c.self.invariant.keeps tt made))
    (own_after before.server c.cut.new.self a c.in_ok-posts.posts c.leave.new.said.items c.keep.new.said.items made
    (c.leave.ensures.own before.server (own_still before.server before.server before.said.items _ refl c.in_ok-reserve.ensures.items c.self.invariant.own))
    c.keep.ensures.said)

pub returns : goal.returns
returns c =
    let before = c.self.inside in
    let client = c.args.client in
    rw (← c.self.view_is) (
      refl,
      cut_by before.server c.cut.new.self client c.in_ok-posts.posts before.said.items c.keep.new.said.items c.in_ok-posts.ensures.made
          (λ d. c.keep.ensures.said d ∙ ap (λ l. l ++ told_to d c.in_ok-posts.posts)
          (c.leave.ensures.said d ∙ ap (λ l. if d == client then [] else waiting l d) c.in_ok-reserve.ensures.items)),
    )

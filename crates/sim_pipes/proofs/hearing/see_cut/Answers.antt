-- The posts are what the server says to each client.
use Rattle.sim_pipes.proofs.hearing.see_cut.Goals as goal
use Rattle.sim_pipes.proofs.{Common.{All, Cut, List, Ok, PostOf, subst, sym, ℕ, ◌<◌}, Frames.on_ok, Telling.{have_frames, makes_small, sends, to_clients}}

pub returns-in_err-posts-clause-small : goal.returns-in_err-posts-clause-small
returns-in_err-posts-clause-small c = makes_small c.args.server.now (Cut c.args.client) c.cut.result c.cut.new.self c.requires.small tt c.cut.ensures.made

pub deliver-requires-clause-clients : goal.deliver-requires-clause-clients
deliver-requires-clause-clients c =
    subst (λ n. All (λ (post : PostOf (List ℕ)). post.to < n) c.in_ok-posts.posts) (sym c.requires.count)
    (to_clients c.args.server.now (Cut c.args.client) (Ok c.in_ok-posts.posts) c.cut.new.self c.in_ok-posts.ensures.made)

pub deliver-requires-clause-small : goal.deliver-requires-clause-small
deliver-requires-clause-small c = have_frames c.args.server.now (Cut c.args.client) (Ok c.in_ok-posts.posts) c.cut.new.self c.requires.small tt
    c.in_ok-posts.ensures.made

pub returns-clause-heard : goal.returns-clause-heard
returns-clause-heard c = on_ok c.deliver.result c.deliver.ensures.frames (λ delivered. sends c.args.server.now c.args.downs.now.items (Cut c.args.client)
    c.in_ok-posts.posts c.cut.new.self c.deliver.new.pipes.items c.in_ok-posts.ensures.made delivered)

pub returns-clause-small : goal.returns-clause-small
returns-clause-small c = makes_small c.args.server.now (Cut c.args.client) (Ok c.in_ok-posts.posts) c.cut.new.self c.requires.small tt
    c.in_ok-posts.ensures.made

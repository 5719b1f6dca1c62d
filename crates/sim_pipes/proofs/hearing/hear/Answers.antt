-- The posts are what the server says to each client, and the sender is told of the notice. Bytes that are no frame cut the
-- client off, and what is said of that goes to clients and has frames as well.
use Rattle.sim_pipes.proofs.hearing.hear.Goals as goal
use Rattle.sim_pipes.proofs.Common.{All, ap, filter_map, Heard, List, notice_events, notice_in, Ok, PostOf, raw, server_of, subst, sym, told_to, ℕ, ◌++◌, ◌<◌}
use Rattle.sim_pipes.proofs.Telling.{have_frames, hears_small, makes_rules, raw_is_small, sender_is_noticed, sends, to_clients}
use Rattle.{sim_pipes.proofs.Common.◌∙◌, sim_wire.proofs.Fronts.are_bytes}

pub returns-in_err-posts-clause-rules : goal.returns-in_err-posts-clause-rules
returns-in_err-posts-clause-rules c = makes_rules c.args.server.now (raw c.args.client c.args.frame.now) c.hear_frame.result c.hear_frame.new.self
    c.hear_frame.ensures.made

pub returns-in_err-posts-clause-small : goal.returns-in_err-posts-clause-small
returns-in_err-posts-clause-small c = hears_small c.args.server.now c.args.client c.args.frame.now c.hear_frame.result c.hear_frame.new.self c.requires.small
    (are_bytes _ c.type_inv.frame) c.hear_frame.ensures.made

pub deliver-requires-clause-clients : goal.deliver-requires-clause-clients
deliver-requires-clause-clients c =
    subst (λ n. All (λ (post : PostOf (List ℕ)). post.to < n) c.in_ok-posts.posts) (sym c.requires.count)
    (to_clients c.args.server.now (raw c.args.client c.args.frame.now) (Ok c.in_ok-posts.posts) c.hear_frame.new.self c.in_ok-posts.ensures.made)

pub deliver-requires-clause-small : goal.deliver-requires-clause-small
deliver-requires-clause-small c =
    have_frames c.args.server.now (raw c.args.client c.args.frame.now) (Ok c.in_ok-posts.posts) c.hear_frame.new.self c.requires.small
    (raw_is_small c.args.client c.args.frame.now (are_bytes _ c.type_inv.frame)) c.in_ok-posts.ensures.made

pub returns-clause-heard : goal.returns-clause-heard
returns-clause-heard c = λ message is.
    sends c.args.server.now c.args.downs.now.items (Heard c.args.client message) c.in_ok-posts.posts c.hear_frame.new.self c.deliver.new.pipes.items
    (c.in_ok-posts.ensures.frame message is) c.in_ok-deliver.ensures.frames

pub returns-clause-events : goal.returns-clause-events
returns-clause-events c = λ message is.
    let said = (c.in_ok-posts.ensures.frame message is).said in
    c.in_ok-push_notices.ensures.lines ∙ ap (λ l. l ++ notice_events (filter_map notice_in (told_to c.args.client c.in_ok-posts.posts))) c.new-events.ensures
    ∙ ap (λ l. notice_events (filter_map notice_in (told_to c.args.client l))) said
    ∙ ap notice_events (sender_is_noticed c.args.server.now.rules (server_of c.args.server.now) (Heard c.args.client message) c.requires.client.0
    c.requires.client.1)

pub returns-in_err-deliver-clause-small : goal.returns-in_err-deliver-clause-small
returns-in_err-deliver-clause-small c = hears_small c.args.server.now c.args.client c.args.frame.now (Ok c.in_ok-posts.posts) c.hear_frame.new.self
    c.requires.small (are_bytes _ c.type_inv.frame) c.in_ok-posts.ensures.made

pub returns-in_err-push_notices-clause-small : goal.returns-in_err-push_notices-clause-small
returns-in_err-push_notices-clause-small c = hears_small c.args.server.now c.args.client c.args.frame.now (Ok c.in_ok-posts.posts) c.hear_frame.new.self
    c.requires.small (are_bytes _ c.type_inv.frame) c.in_ok-posts.ensures.made

pub returns-clause-small : goal.returns-clause-small
returns-clause-small c = hears_small c.args.server.now c.args.client c.args.frame.now (Ok c.in_ok-posts.posts) c.hear_frame.new.self c.requires.small
    (are_bytes _ c.type_inv.frame) c.in_ok-posts.ensures.made

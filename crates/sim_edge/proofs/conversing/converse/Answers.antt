-- The match was read and the talk took place, or it says why not.
use Rattle.sim_edge.proofs.conversing.converse.Goals as goal
use Rattle.sim_edge.proofs.Refusing.{live_refused, live_talked, refused_causes, refused_shelf, talked_causes, talked_shelf, where_known}
use Rattle.sim_edge.specs.{Talked.OfRelay, Talked.ShelfCauses, Talked.TalksOf, Words.Talk, Words.talk_of}
use Rattle.sim_top.{proofs.Finishing.all_told, proofs.Returning.All-unmap, specs.Outcome.session_match_in, specs.Stops.status_of, specs.Stops.stop_text}
use Rattle.std.{proofs.Common.ap, proofs.Common.subst, proofs.Common.sym, proofs.lemmas.List.Elements.All-map, specs.Prelude.IfSome}
use Rattle.{sim_client.specs.StageWords.AreCleared, sim_edge.specs.Talked.TalkedAs, sim_system.specs.Meanings.HaveKinds, sim_system.specs.RigWords.systems_by}

pub live-outcome-requires-clause-begins : goal.live-outcome-requires-clause-begins
live-outcome-requires-clause-begins g c =
    record {
      limits = c.in-Ok.ensures.limits;
      eight = c.requires.fresh.eight.count;
      fresh = record {
        kinds = All-map HaveKinds (λ rig. systems_by rig (λ i v. (goal.System-dyn g (i, v)).meaning v)) c.args.rigs.items c.requires.fresh.eight.kinds;
        cleared = All-map AreCleared (λ rig. systems_by rig (λ i v. (goal.System-dyn g (i, v)).meaning v)) c.args.rigs.items c.requires.fresh.cleared;
      };
    }

pub returns-in-Ok-clause-kinds : goal.returns-in-Ok-clause-kinds
returns-in-Ok-clause-kinds g c =
    All-unmap HaveKinds (λ rig. systems_by rig (λ i v. (goal.System-dyn g (i, v)).meaning v)) c.live-outcome.result.1.items c.live-outcome.ensures.rigs.kinds

pub returns-in-Ok-clause-talks : goal.returns-in-Ok-clause-talks
returns-in-Ok-clause-talks g c =
    where_known (g.S.Shelf.held c.args.shelf.now)
    (λ files read.
    subst (λ (t : Talk). TalksOf files t c.ended.result (g.T.Talk.history c.args.talk.now) (g.T.Talk.history c.live-outcome.new.talk))
    (sym (ap talk_of c.in-Live.is))
    (live_talked (session_match_in files c.in-Live.game.now) c.in-Ok.setup c.in-Live.clients c.ended.result (g.T.Talk.history c.args.talk.now)
    (g.T.Talk.history c.live-outcome.new.talk) read (c.live-outcome.result.0, c.ended.ensures, c.live-outcome.ensures.lives)))
    c.in-Ok.ensures.tells

pub returns-in-Err-clause-talks : goal.returns-in-Err-clause-talks
returns-in-Err-clause-talks g c =
    where_known (g.S.Shelf.held c.args.shelf.now)
    (λ files read.
    subst (λ (t : Talk). TalksOf files t c.refused.result (g.T.Talk.history c.args.talk.now) (g.T.Talk.history c.refused.new.talk))
    (sym (ap talk_of c.in-Live.is))
    (live_refused (session_match_in files c.in-Live.game.now) c.in-Live.clients c.in-Err.stop c.refused.result (g.T.Talk.history c.args.talk.now)
    (g.T.Talk.history c.refused.new.talk) read c.refused.ensures.refused))
    c.in-Err.ensures.tells

pub returns-in-Ok-clause-relays : goal.returns-in-Ok-clause-relays
returns-in-Ok-clause-relays g c =
    subst (λ (t : Talk). OfRelay t c.ended.result (g.T.Talk.history c.args.talk.now) (g.T.Talk.history c.live-outcome.new.talk))
    (sym (ap talk_of c.in-Live.is)) tt

pub returns-in-Ok-clause-causes : goal.returns-in-Ok-clause-causes
returns-in-Ok-clause-causes g c =
    talked_causes c.in-Ok.setup c.in-Live.clients c.ended.result (g.T.Talk.history c.args.talk.now) (g.T.Talk.history c.live-outcome.new.talk)
    (c.live-outcome.result.0, c.ended.ensures, c.live-outcome.ensures.lives)

pub returns-in-Ok-clause-shelf : goal.returns-in-Ok-clause-shelf
returns-in-Ok-clause-shelf g c =
    subst (λ (t : Talk). ShelfCauses t c.ended.result (g.S.Shelf.counts c.args.shelf.now) (g.S.Shelf.counts c.session_match.new.shelf))
    (sym (ap talk_of c.in-Live.is))
    (talked_shelf c.in-Ok.setup c.in-Live.clients c.ended.result (g.T.Talk.history c.args.talk.now) (g.T.Talk.history c.live-outcome.new.talk)
    (g.S.Shelf.counts c.args.shelf.now) (g.S.Shelf.counts c.session_match.new.shelf)
    (c.live-outcome.result.0, c.ended.ensures, c.live-outcome.ensures.lives) c.in-Ok.ensures.causes)

pub returns-in-Err-clause-relays : goal.returns-in-Err-clause-relays
returns-in-Err-clause-relays g c =
    subst (λ (t : Talk). OfRelay t c.refused.result (g.T.Talk.history c.args.talk.now) (g.T.Talk.history c.refused.new.talk))
    (sym (ap talk_of c.in-Live.is)) tt

pub returns-in-Err-clause-causes : goal.returns-in-Err-clause-causes
returns-in-Err-clause-causes g c =
    refused_causes (status_of c.in-Err.stop) (stop_text c.in-Err.stop) c.refused.result (g.T.Talk.history c.args.talk.now)
    (g.T.Talk.history c.refused.new.talk) c.refused.ensures.refused

pub returns-in-Err-clause-shelf : goal.returns-in-Err-clause-shelf
returns-in-Err-clause-shelf g c =
    subst (λ (t : Talk). ShelfCauses t c.refused.result (g.S.Shelf.counts c.args.shelf.now) (g.S.Shelf.counts c.session_match.new.shelf))
    (sym (ap talk_of c.in-Live.is))
    (refused_shelf c.in-Err.stop c.refused.result (g.S.Shelf.counts c.args.shelf.now) (g.S.Shelf.counts c.session_match.new.shelf)
    c.in-Err.ensures.causes c.refused.ensures.ending)

pub returns-in-Relay-clause-talks : goal.returns-in-Relay-clause-talks
returns-in-Relay-clause-talks g c =
    subst (λ (t : Talk). IfSome (g.S.Shelf.held c.args.shelf.now)
    (λ files. TalksOf files t c.ended-in-Relay.result (g.T.Talk.history c.args.talk.now) (g.T.Talk.history c.relay.new.talk)))
    (sym (ap talk_of c.in-Relay.is))
    (all_told (λ files. TalkedAs c.in-Relay.rules c.ended-in-Relay.result (g.T.Talk.history c.args.talk.now) (g.T.Talk.history c.relay.new.talk))
    (g.S.Shelf.held c.args.shelf.now) (λ files. (c.relay.result, c.ended-in-Relay.ensures, c.relay.ensures.relays)))

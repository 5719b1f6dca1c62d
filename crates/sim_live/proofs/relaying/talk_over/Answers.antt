-- The whole talk of its parts.
use Rattle.{sim_server.specs.Standing.server_of, std.proofs.Common.◌≡◌, std.proofs.Common.Err, std.proofs.Common.rules}
use Rattle.sim_live.proofs.Relayed.{begins_small, relay_amid, relay_ended, relay_unbegun}
use Rattle.sim_live.proofs.relaying.talk_over.Goals as goal

pub returns-in_err-tell_released : goal.returns-in_err-tell_released
returns-in_err-tell_released g c =
    let is : c.from_residual-in_err-tell_released.result ≡ Err c.in_err-tell_released.field-0.0 = search rules in
    record {
      relays = relay_unbegun c.args.rules c.in_ok-server.server _ c.in_err-tell_released.field-0.0 _ _ is c.in_ok-server.ensures.rules
          c.in_ok-server.ensures.stands c.in_err-tell_released.ensures;
    }

pub answer_all-requires-clause-small : goal.answer_all-requires-clause-small
answer_all-requires-clause-small g c =
    begins_small c.in_ok-server.server.rules c.args.rules.active (server_of c.in_ok-server.server) c.in_ok-server.ensures.stands

pub returns-in_err-answer_all : goal.returns-in_err-answer_all
returns-in_err-answer_all g c =
    let is : c.from_residual-in_err-answer_all.result ≡ Err c.in_err-answer_all.field-0.0 = search rules in
    record {
      relays = relay_amid c.args.rules c.in_ok-server.server c.answer_all.new.server _ c.in_err-answer_all.field-0.0 _ _ _ is c.in_ok-server.ensures.rules
          c.in_ok-server.ensures.stands c.in_ok-tell_released.ensures c.in_err-answer_all.ensures.answers;
    }

pub returns : goal.returns
returns g c =
    record {
      relays = relay_ended c.args.rules c.in_ok-server.server c.answer_all.new.server c.tell_end.result c.in_ok-answer_all.field-0 _ _ _ _
          c.in_ok-server.ensures.rules c.in_ok-server.ensures.stands c.in_ok-tell_released.ensures c.in_ok-answer_all.ensures.answers c.tell_end.ensures;
    }

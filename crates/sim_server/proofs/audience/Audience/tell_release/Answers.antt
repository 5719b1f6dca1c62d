-- Nothing has risen.
use Rattle.{sim_server.proofs.Common.sym, sim_server.proofs.Common.◌∙◌, sim_server.proofs.Made.list_release, std.proofs.Common.rules}

pub returns-else-released-risen : Rattle.sim_server.proofs.audience.Audience.tell_release.Goals.returns-else-released-risen
returns-else-released-risen c = record {
  told = c.new.ensures ∙ sym (list_release _ c.args.self.now.clients _ _ c.if-released-risen.false);
  quiet = search rules;
}

-- The handler is one for the kind of the order's command.
use Rattle.sim_orders.proofs.Common.{◌∙◌, sym}

pub plan-requires : Rattle.sim_orders.proofs.table.OrderTable.changes.Goals.plan-requires
plan-requires g c = record {
  limits = c.requires.stands.limits;
  valid = c.requires.stands.valid;
  player_is = c.requires.player;
  help_is = c.in_ok-help.ensures.value;
  kind_is = sym (c.handler_of.ensures ∙ c.kind_of.ensures.value);
}

-- The lines so far stand behind the old bytes.
use Rattle.sim_replay.proofs.Common.{◌≡◌, ◌++◌, map, take, flat_map, ended, order_line}

abbrev pub invariant-loop-order : Rattle.sim_replay.proofs.push.append_orders.Given.invariant-loop-order
invariant-loop-order l = l.out.items ≡ l.initial.out.items ++ flat_map ended (map (order_line l.turn) (take l.order-index l.orders))

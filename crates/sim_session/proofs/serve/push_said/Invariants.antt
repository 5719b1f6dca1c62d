-- The server stands for the arrivals so far, and the text has the lines of what was said at them.
use Rattle.{sim_lists.specs.Arrivals.plain_arrival, std.specs.Prelude.string_bytes, std.specs.Vec.Iter.into_iter_items, std.specs.Vec.Iter.into_iter_len}
use Rattle.{sim_plain.specs.Messages.Arrival, sim_session.specs.Served.history, sim_session.specs.Served.said_lines, sim_server.specs.Standing.StandsFor}
use Rattle.std.proofs.Common.{◌≡◌, ℕ, List, ◌++◌, map, length}

abbrev pub invariant-loop-arrival : Rattle.sim_session.proofs.serve.push_said.Given.invariant-loop-arrival
invariant-loop-arrival l = record {
  whole : l.yielded ++ into_iter_items l.arrival-iterator ≡ l.fn.arrivals;
  left : into_iter_len l.arrival-iterator ≡ length (into_iter_items l.arrival-iterator);
  rules : l.server.rules ≡ l.fn.server.rules;
  stands : (active : ℕ) (h : List (Arrival (List ℕ))) → StandsFor l.fn.server active h → StandsFor l.server active (history h (map plain_arrival l.yielded));
  text : (active : ℕ) (h : List (Arrival (List ℕ))) → StandsFor l.fn.server active h
      → string_bytes l.text ≡ string_bytes l.fn.text ++ said_lines l.fn.server.rules active h (map plain_arrival l.yielded);
}

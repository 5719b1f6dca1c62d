-- The first seats, no command and no report.
use Rattle.sim_server.proofs.{Made.opens, Whole.whole_start}

pub invariant_of-result : Rattle.sim_server.proofs.server.Server.new.Goals.invariant_of-result
invariant_of-result c = whole_start (record { clients = c.args.clients; delay = c.args.delay; turns = c.args.turns }) c.first_seats.result c.args.active
    c.released_at_start-released.result c.requires.clients c.requires.active c.first_seats.ensures.nine c.first_seats.ensures.seats
    c.released_at_start-released.ensures

pub returns-clause-stands : Rattle.sim_server.proofs.server.Server.new.Goals.returns-clause-stands
returns-clause-stands c = opens (record { clients = c.args.clients; delay = c.args.delay; turns = c.args.turns }) c.first_seats.result c.args.active
    c.released_at_start-released.result c.new.result.items c.new-2.result.items c.first_seats.ensures.seats c.released_at_start-released.ensures
    c.new.ensures.items c.new-2.ensures.items

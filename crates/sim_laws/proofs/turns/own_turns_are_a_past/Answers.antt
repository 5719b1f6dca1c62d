use Rattle.sim_laws.proofs.Turning.{own_turns_are_of_players, own_turns_are_so_many}

pub returns : Rattle.sim_laws.proofs.turns.own_turns_are_a_past.Goals.returns
returns c = record { of_players = own_turns_are_of_players; so_many = own_turns_are_so_many }

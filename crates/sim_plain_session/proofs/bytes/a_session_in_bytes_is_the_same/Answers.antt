use Rattle.sim_plain_session.proofs.Arrived.{bytes_go_down, bytes_go_up, server_hears_bytes, server_is_after_bytes}

pub returns : Rattle.sim_plain_session.proofs.bytes.a_session_in_bytes_is_the_same.Goals.returns
returns c = record { heard = server_hears_bytes; server = server_is_after_bytes; down = bytes_go_down; up = bytes_go_up }

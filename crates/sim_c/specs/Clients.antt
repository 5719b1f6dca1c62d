-- What a call makes of the client that a handle holds, beside what the calls of `sim_held` say.
use Rattle.{sim_c.specs.declared.standing.Standing.Standing, sim_client.specs.Lives.{Joining, Life, Off, On}, sim_held.specs.Clients.{ClientView, IsSame, life}}
use Rattle.std.specs.Prelude.{if◌then◌else◌, length, List, nat_le, ℕ, [], ◌≡◌}

-- what waits is put into a room and let go, where the room is large enough
pub record LetsGo (room : List ℕ) (old new : ClientView) : Type 0 where
  pub outbox : new.outbox ≡ (if nat_le (length old.outbox) (length room) then [] else old.outbox)
  pub stays : life new ≡ life old
  pub same : IsSame old new

-- where a client stands, as numbers
abbrev pub standing_of : Life → Standing
standing_of Off = record { stage = 0; turn = 0; released = 0; done = 0 }
standing_of Joining = record { stage = 1; turn = 0; released = 0; done = 0 }
standing_of (On player) = record { stage = 2; turn = player.state.turn; released = player.released; done = player.done }

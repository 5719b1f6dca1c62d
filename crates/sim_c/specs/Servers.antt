-- What a call makes of the server that a handle holds, beside what the calls of `sim_held` say.
use Rattle.{sim_c.specs.Gives.{put_in, room_status}, sim_held.specs.Servers.{frames_for, is_client, Leaves, ServerView, waiting}}
use Rattle.std.specs.Prelude.{false, if◌then◌else◌, length, List, nat_lt, pos, true, ℕ, ℤ, [], ◌≡◌, ◌≢◌}

-- the client of a number: 0, which is nobody's, stands for those that no byte holds
abbrev pub number_of : ℕ → ℕ
number_of client = if nat_lt client 256 then client else 0

-- how many are to begin: 255, which is too many, stands for those that no byte holds
abbrev pub count_of : ℕ → ℕ
count_of players = if nat_lt players 256 then players else 255

-- what waits for a client is put into a room, and let go where the room is large enough
pub record Sends (client : ℕ) (status : ℤ) (room filled : List ℕ) (written : ℕ) (old new : ServerView) : Type 0 where
  pub tells : status ≡ room_status (frames_for old.said client) room
  pub puts : filled ≡ put_in (frames_for old.said client) room
  pub counts : written ≡ length (frames_for old.said client)
  pub nobody : is_client old.server client ≡ false → written ≡ 0
  pub goes : status ≡ pos 0 → Leaves client old new
  pub stays : status ≡ pos 100 → new ≡ old

-- there is no memory for what waits, so nothing is written or let go; something waits then, and for a client of the match
pub record SendsNothing (client : ℕ) (status : ℤ) (room filled : List ℕ) (before written : ℕ) (old new : ServerView) : Type 0 where
  pub tells : status ≡ pos 9
  pub puts : filled ≡ room
  pub counts : written ≡ before
  pub stays : new ≡ old
  pub some : waiting old.said client ≢ []
  pub own : is_client old.server client ≡ true

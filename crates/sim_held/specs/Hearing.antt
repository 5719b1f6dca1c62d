-- What a client hears of which it need not know the bytes that are carried.
use Rattle.{sim_client.specs.Lives.{Joining, Life, Off, On, Told}, std.specs.Prelude.{Bool, false, not, true}}
use Rattle.sim_plain.specs.declared.message.DownOf.TheVariants as down

-- a message brings the bytes of a state
abbrev pub brings_state : Told → Bool
brings_state (down.Ask client) = false
brings_state (down.State done bytes) = true
brings_state (down.Command turn order) = false
brings_state (down.Release turn) = false
brings_state (down.Notice turn client) = false
brings_state (down.Refused code) = false

-- of a state and a command: one that is off hears neither, one that waits for a state no command, and one that is on no state
abbrev pub goes_by : Life → Told → Bool
goes_by Off said = true
goes_by Joining said = not (brings_state said)
goes_by (On player) said = brings_state said

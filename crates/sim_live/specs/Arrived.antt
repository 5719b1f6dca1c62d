-- What arrives by a line.
use Rattle.sim_lists.specs.declared.schedule.Said.TheVariants as said
use Rattle.sim_plain.specs.Messages as plain
use Rattle.{serde_json.specs.Data.Data, sim_base.specs.Limits.IsFrom, sim_json.specs.Values.value_of, sim_lists.specs.Arrivals.arrival_of}
use Rattle.{sim_lists.specs.declared.schedule.{Arrival.Arrival, Said.Said}, sim_live.specs.declared.arriving.Arriving.{Arriving, TheVariants.{Cut, Frame}}}
use Rattle.{sim_wire.specs.Memory.raw, std.specs.Prelude.{List, None, Option, option_and_then, Some, ℕ}}

-- an arrival that is no message in words
abbrev pub told_by : ℕ → Said → Option Arriving
told_by from (said.Raw bytes) = Some (Frame from bytes)
told_by from said.Cut = Some (Cut from)
told_by from (said.Heard up) = None

abbrev pub told_of : Arrival → Option Arriving
told_of arrival = told_by arrival.from arrival.said

-- a line is an item of a schedule
abbrev pub arriving_in : ℕ → Data → Option Arriving
arriving_in clients d = option_and_then told_of (arrival_of clients d)

abbrev pub arriving_of : ℕ → List ℕ → Option Arriving
arriving_of clients line = option_and_then (arriving_in clients) (value_of line)

-- it is from one of so many clients
abbrev pub IsFromOne : ℕ → Arriving → Type 0
IsFromOne clients (Frame from bytes) = IsFrom 1 clients from
IsFromOne clients (Cut from) = IsFrom 1 clients from

-- what it is to the server
abbrev pub plain_of : Arriving → plain.Arrival (List ℕ)
plain_of (Frame from bytes) = raw from bytes
plain_of (Cut from) = plain.Cut from

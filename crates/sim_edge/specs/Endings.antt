-- How a talk ends, and the number of it.
use Rattle.sim_talk.specs.declared.fault.HearFault.TheVariants as hear
use Rattle.sim_talk.specs.declared.fault.TalkFault.TheVariants as fault
use Rattle.sim_edge.specs.declared.ending.Ending.TheVariants as ending
use Rattle.sim_top.specs.declared.status.Status.TheVariants as status
use Rattle.{sim_edge.specs.declared.ending.Ending.Ending, sim_talk.specs.declared.fault.HearFault.HearFault, sim_talk.specs.declared.fault.TalkFault.TalkFault}
use Rattle.{sim_top.specs.Reads.status_number, std.specs.Prelude.Err, std.specs.Prelude.Ok, std.specs.Prelude.Result, std.specs.Prelude.ℕ, std.specs.Prelude.⊤}

-- a line was not heard
abbrev pub unheard_as : HearFault → Ending
unheard_as hear.Failed = ending.Unread
unheard_as hear.CutOff = ending.CutOff
unheard_as hear.TooLong = ending.LineTooLong
unheard_as hear.NoText = ending.NoText
unheard_as hear.OutOfMemory = ending.Run status.OutOfMemory

-- it ended before its input did
abbrev pub ending_of : TalkFault → Ending
ending_of (fault.Unheard cause) = unheard_as cause
ending_of fault.Untold = ending.Untold
ending_of fault.OutOfMemory = ending.Run status.OutOfMemory

-- or at its end
abbrev pub ended_as : Result ⊤ TalkFault → Ending
ended_as (Ok done) = ending.Run status.Done
ended_as (Err cause) = ending_of cause

-- the number that the process ends with
abbrev pub number_of : Ending → ℕ
number_of (ending.Run s) = status_number s
number_of ending.Unread = 15
number_of ending.CutOff = 16
number_of ending.LineTooLong = 17
number_of ending.NoText = 18
number_of ending.Untold = 19

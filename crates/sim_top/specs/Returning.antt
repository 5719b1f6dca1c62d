-- How the eight rigs of a run come back, with every status.
use Rattle.sim_top.specs.Common.{AllBuiltAtMost, AreBuiltOnceAtMost, builds_of, File, Ghosts, Global, HaveKinds, IsSetup, IsStepList, Meaning, Rig, rigs_by}
use Rattle.sim_top.specs.{Common.{Setup, StepList, systems_by}, declared.status.Status.{Status, TheVariants.{Differs, Done, OutOfMemory, WriteFault}}}
use Rattle.sim_top.specs.Outcome.{builds_with_log, IsHostedBy, IsRecordedBy, OfRecord, OfSession, session_match_in, steps_in}
use Rattle.sim_top.specs.{Reads.HasEnded, Stops.{OfFirsts, RigStands, SecondStands, used}, Words.{Asked, is_session, to_record, to_session}}
use Rattle.std.specs.Prelude.{All, drop, false, IfSome, length, List, Ok, Option, Some, Vec, vec_capacity, ℕ, ◌≡◌, ◌⊎◌}

-- a run that ended so has played nothing: the words, or what a file says or lacks, ended it before
abbrev pub IsUnplayed : Status → Type 0
IsUnplayed Done = ⊥
IsUnplayed Differs = ⊥
IsUnplayed WriteFault = ⊥
IsUnplayed OutOfMemory = ⊥
IsUnplayed other = Unit {0}

-- A session began over a match and steps, those of the files where the shelf tells them. The rig of each client was built at most so
-- often, and the rigs of no client are as they were.
pub record HasBegunBy {X : Type 0} {F : X → Type 0} (meaning : (i : X) → F i → Meaning) (builds : Setup → StepList → ℕ → ℕ) (held : Option (List File))
    (game steps : List ℕ) (old new : List (Rig X F)) : Type 0 where
  pub setup : Setup
  pub list : StepList
  pub read : IfSome held (λ files. session_match_in files game ≡ Ok setup)
  pub listed : IfSome held (λ files. steps_in files steps setup.players ≡ Ok list)
  pub limits : IsSetup setup
  pub within : IsStepList setup.players list
  pub built : AllBuiltAtMost (builds setup list) setup.players (rigs_by old meaning) (rigs_by new meaning)
  pub spare : drop setup.players new ≡ drop setup.players old

-- those of a session are as they were, or it began
abbrev pub AreOfSession : {X : Type 0} {F : X → Type 0} → ((i : X) → F i → Meaning) → Option (List File) → Option Asked → List (Rig X F) → List (Rig X F)
    → Type 0
AreOfSession meaning held (Some (to_session game steps)) old new = (new ≡ old) ⊎ HasBegunBy meaning builds_of held game steps old new
AreOfSession meaning held (Some (to_record game steps out)) old new = (new ≡ old) ⊎ HasBegunBy meaning builds_with_log held game steps old new
AreOfSession meaning held asked old new = Unit {0}

-- what is asked for, what the shelf holds, the status, and the rigs before and after
pub record RigsCameBackBy {X : Type 0} {F : X → Type 0} (meaning : (i : X) → F i → Meaning) (asked : Option Asked) (held : Option (List File)) (status : Status)
    (old new : Vec (Rig X F) Global) : Type 0 where
  -- At its end the first rig stands for the state to which its match came, and so does the second where a client joined; those of a
  -- session stand for what its clients are in the end, and of one that is recorded the first stands for the last state of the log.
  pub stands : IfSome held
      (λ files. HasEnded status → OfFirsts old.items new.items (λ r s. RigStands files asked (systems_by r meaning) (systems_by s meaning)))
  pub joins : IfSome held (λ files. HasEnded status → OfFirsts (drop 1 old.items) (drop 1 new.items) (λ r s. SecondStands files asked (systems_by s meaning)))
  pub hosted : IfSome held (λ files. HasEnded status → OfSession files asked (λ setup list. IsHostedBy meaning setup list old.items new.items))
  pub recorded : IfSome held (λ files. HasEnded status → OfRecord files asked (λ setup list. IsRecordedBy meaning setup list new.items))
  -- However it ends, each system of the first and the second rig was built once at most, where no session was asked for, and those of a
  -- session at most so often as its clients begin and load.
  pub most : is_session asked ≡ false → OfFirsts old.items new.items (λ r s. AreBuiltOnceAtMost (systems_by r meaning) (systems_by s meaning))
  pub joined : is_session asked ≡ false → OfFirsts (drop 1 old.items) (drop 1 new.items)
      (λ r s. AreBuiltOnceAtMost (systems_by r meaning) (systems_by s meaning))
  pub session : AreOfSession meaning held asked old.items new.items
  -- Where nothing was played all are as they were, and else those that were not used.
  pub unplayed : IsUnplayed status → new.items ≡ old.items
  pub rest : drop (used asked) new.items ≡ drop (used asked) old.items
  -- They come back in their kinds, in their number and in the room in which they came.
  pub kinds : All (λ r. HaveKinds (systems_by r meaning)) new.items
  pub count : length new.items ≡ length old.items
  pub room : vec_capacity new ≡ vec_capacity old

-- the same, as a clause has it
abbrev pub RigsCameBack : {X : Type 0} {F : X → Type 0} → ((i : X) → Ghosts (F i)) → Option Asked → Option (List File) → Status → Vec (Rig X F) Global
    → Vec (Rig X F) Global → Type 0
RigsCameBack sys asked held status old new = RigsCameBackBy (λ i v. (sys i).meaning v) asked held status old new

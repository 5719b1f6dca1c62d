-- Why a talk does not begin, and what was told of it.
use Rattle.sim_talk.specs.Talks as talks
use Rattle.sim_edge.specs.declared.ending.Ending.TheVariants as ending
use Rattle.sim_top.specs.declared.status.Status.TheVariants as status
use Rattle.sim_top.specs.declared.stop.Stop.TheVariants as stop
use Rattle.sim_talk.specs.declared.fault.HearFault.TheVariants as hear
use Rattle.sim_talk.specs.declared.fault.TalkFault.TheVariants as fault
use Rattle.{sim_base.specs.declared.setup.Setup.Setup, sim_edge.specs.{declared.ending.Ending.Ending, Endings.ended_as, Talked.between}}
use Rattle.sim_edge.specs.Talked.{CameBetween, in_part, IsRefusal, LiveBy, LiveCauses, ReadsBy, Refused, silent, TalkCauses, TalkedAs, TalkedOver, whole}
use Rattle.sim_live.{proofs.{Answered.live_caused, Relayed.relay_caused}, specs.declared.relaying.RelayRules.RelayRules}
use Rattle.{sim_store.specs.{declared.{counts.Counts.Counts, fault.Failed.Failed}, Shelf.Rose}, sim_talk.proofs.Talking.{Extends-nothing, has_lost}}
use Rattle.{sim_talk.specs.{declared.fault.TalkFault.TalkFault, Dialogues.Causes, Talks.{Extends, History, Tells}}, sim_top.specs.declared.status.Status.Status}
use Rattle.sim_top.specs.{declared.stop.Stop.Stop, Outcome.Outcome, Reads.{CountsBefore, IsSilent, OnlyGave}, Stops.{ended_by, status_of, stop_text, Stopped}}
use Rattle.std.proofs.Common.{ap, arith, Err, inl, inr, length, List, None, Ok, Option, refl, Result, Some, subst, sym, ℕ, [], ◌<◌, ◌∷◌, ◌≡◌, ◌≤◌, ◌⊎◌}
use Rattle.std.specs.Prelude.{IfSome, ⊤}

-- what holds where something is known goes on
pub where_known : {X : Type 0} {P Q : X → Type 0} (o : Option X) → ((x : X) → P x → Q x) → IfSome o P → IfSome o Q
where_known None follows p = tt
where_known (Some x) follows p = follows x p

-- ---- what is read

-- the match was read
pub reads_match : (wanted : Result Setup Outcome) (setup : Setup) (clients : ℕ) → wanted ≡ Ok setup → clients ≤ setup.players
    → ReadsBy wanted clients (Ok setup)
reads_match wanted setup clients is few = subst (λ (w : Result Setup Outcome). ReadsBy w clients (Ok setup)) (sym is) (refl, few)

-- it has not as many players
pub reads_few : (wanted : Result Setup Outcome) (setup : Setup) (clients : ℕ) → wanted ≡ Ok setup → setup.players < clients
    → ReadsBy wanted clients (Err (stop.ListRefused 0))
reads_few wanted setup clients is few = subst (λ (w : Result Setup Outcome). ReadsBy w clients (Err (stop.ListRefused 0))) (sym is) (few, refl)

-- a fault of the shelf or want of memory came between
came_between : (wanted : Result Setup Outcome) (clients : ℕ) (found : Stop) → (found ≡ stop.ReadFault) ⊎ (found ≡ stop.OutOfMemory)
    → ReadsBy wanted clients (Err found)
came_between (Ok setup) clients found (inl is) = subst (λ (s : Stop). ReadsBy (Ok setup) clients (Err s)) (sym is) tt
came_between (Err ended) clients found (inl is) = subst (λ (s : Stop). ReadsBy (Err ended) clients (Err s)) (sym is) tt
came_between (Ok setup) clients found (inr is) = subst (λ (s : Stop). ReadsBy (Ok setup) clients (Err s)) (sym is) tt
came_between (Err ended) clients found (inr is) = subst (λ (s : Stop). ReadsBy (Err ended) clients (Err s)) (sym is) tt

-- the match was not read
pub reads_stopped : (wanted : Result Setup Outcome) (clients : ℕ) (found : Stop) → Stopped found (λ ended. wanted ≡ Err ended)
    → ReadsBy wanted clients (Err found)
reads_stopped wanted clients stop.ReadFault stopped = came_between wanted clients stop.ReadFault (inl refl)
reads_stopped wanted clients stop.OutOfMemory stopped = came_between wanted clients stop.OutOfMemory (inr refl)
reads_stopped wanted clients stop.TooLong stopped =
    subst (λ (w : Result Setup Outcome). ReadsBy w clients (Err stop.TooLong)) (sym stopped) refl
reads_stopped wanted clients stop.NoFile stopped =
    subst (λ (w : Result Setup Outcome). ReadsBy w clients (Err stop.NoFile)) (sym stopped) refl
reads_stopped wanted clients (stop.MatchRefused code index) stopped =
    subst (λ (w : Result Setup Outcome). ReadsBy w clients (Err (stop.MatchRefused code index))) (sym stopped) refl
reads_stopped wanted clients (stop.StateRefused code name) stopped =
    subst (λ (w : Result Setup Outcome). ReadsBy w clients (Err (stop.StateRefused code name))) (sym stopped) refl
reads_stopped wanted clients (stop.ListRefused index) stopped =
    subst (λ (w : Result Setup Outcome). ReadsBy w clients (Err (stop.ListRefused index))) (sym stopped) refl
reads_stopped wanted clients (stop.NoSuchTurn asked turns) stopped =
    subst (λ (w : Result Setup Outcome). ReadsBy w clients (Err (stop.NoSuchTurn asked turns))) (sym stopped) refl
reads_stopped wanted clients (stop.SightRefused code) stopped =
    subst (λ (w : Result Setup Outcome). ReadsBy w clients (Err (stop.SightRefused code))) (sym stopped) refl
reads_stopped wanted clients (stop.LogRefused line) stopped =
    subst (λ (w : Result Setup Outcome). ReadsBy w clients (Err (stop.LogRefused line))) (sym stopped) refl
reads_stopped wanted clients (stop.EconomyRefused index) stopped =
    subst (λ (w : Result Setup Outcome). ReadsBy w clients (Err (stop.EconomyRefused index))) (sym stopped) refl

-- ---- what is told

-- a refusal without a text is silent
nothing_told : (s : Status) (ended : Ending) (old new : History) → (s ≡ status.ReadFault) ⊎ (s ≡ status.OutOfMemory) → Refused s [] old new ended
    → CameBetween ended old new
nothing_told s _ old new is (whole some told) = absurd (omega (arith, some))
nothing_told s _ old new (inl is) (silent none nothing) =
    record { cause = inl (subst (λ (x : Status). ending.Run s ≡ ending.Run x) is refl); nothing = nothing }
nothing_told s _ old new (inr is) (silent none nothing) =
    record { cause = inr (subst (λ (x : Status). ending.Run s ≡ ending.Run x) is refl); nothing = nothing }
nothing_told s _ old new is (in_part some more part told) = absurd (omega (arith, some))
nothing_told s _ old new is (between ended came) = came

-- a refusal is told as it is wanted
as_wanted : (wanted : Outcome) (found : Stop) (ended : Ending) (old new : History) → wanted ≡ ended_by found
    → Refused (status_of found) (stop_text found) old new ended → Refused wanted.status wanted.text old new ended
as_wanted wanted found ended old new is told = subst (λ (w : Outcome). Refused w.status w.text old new ended) (sym is) told

-- what was told of why a match is not read, or has not as many players
pub live_refused : (wanted : Result Setup Outcome) (clients : ℕ) (found : Stop) (ended : Ending) (old new : History) → ReadsBy wanted clients (Err found)
    → Refused (status_of found) (stop_text found) old new ended → LiveBy wanted clients ended old new
live_refused (Ok setup) clients stop.ReadFault ended old new reads told =
    let came = nothing_told status.ReadFault ended old new (inl refl) told in (λ few. inr came, λ many. between ended came)
live_refused (Ok setup) clients stop.OutOfMemory ended old new reads told =
    let came = nothing_told status.OutOfMemory ended old new (inr refl) told in (λ few. inr came, λ many. between ended came)
live_refused (Ok setup) clients (stop.ListRefused index) ended old new reads told = (
  λ few. absurd (omega (arith, reads.0, few)),
  λ many. subst (λ (i : ℕ). Refused status.ListRefused (stop_text (stop.ListRefused i)) old new ended) reads.1 told,
)
live_refused (Ok setup) clients stop.TooLong ended old new reads told = absurd reads
live_refused (Ok setup) clients stop.NoFile ended old new reads told = absurd reads
live_refused (Ok setup) clients (stop.MatchRefused code index) ended old new reads told = absurd reads
live_refused (Ok setup) clients (stop.StateRefused code name) ended old new reads told = absurd reads
live_refused (Ok setup) clients (stop.NoSuchTurn asked turns) ended old new reads told = absurd reads
live_refused (Ok setup) clients (stop.SightRefused code) ended old new reads told = absurd reads
live_refused (Ok setup) clients (stop.LogRefused line) ended old new reads told = absurd reads
live_refused (Ok setup) clients (stop.EconomyRefused index) ended old new reads told = absurd reads
live_refused (Err wanted) clients stop.ReadFault ended old new reads told = between ended (nothing_told status.ReadFault ended old new (inl refl) told)
live_refused (Err wanted) clients stop.OutOfMemory ended old new reads told = between ended (nothing_told status.OutOfMemory ended old new (inr refl) told)
live_refused (Err wanted) clients (stop.ListRefused index) ended old new reads told = as_wanted wanted (stop.ListRefused index) ended old new reads told
live_refused (Err wanted) clients stop.TooLong ended old new reads told = as_wanted wanted stop.TooLong ended old new reads told
live_refused (Err wanted) clients stop.NoFile ended old new reads told = as_wanted wanted stop.NoFile ended old new reads told
live_refused (Err wanted) clients (stop.MatchRefused code index) ended old new reads told =
    as_wanted wanted (stop.MatchRefused code index) ended old new reads told
live_refused (Err wanted) clients (stop.StateRefused code name) ended old new reads told =
    as_wanted wanted (stop.StateRefused code name) ended old new reads told
live_refused (Err wanted) clients (stop.NoSuchTurn asked turns) ended old new reads told =
    as_wanted wanted (stop.NoSuchTurn asked turns) ended old new reads told
live_refused (Err wanted) clients (stop.SightRefused code) ended old new reads told = as_wanted wanted (stop.SightRefused code) ended old new reads told
live_refused (Err wanted) clients (stop.LogRefused line) ended old new reads told = as_wanted wanted (stop.LogRefused line) ended old new reads told
live_refused (Err wanted) clients (stop.EconomyRefused index) ended old new reads told = as_wanted wanted (stop.EconomyRefused index) ended old new reads told

-- the match was read, and the talk took place
pub live_talked : (wanted : Result Setup Outcome) (setup : Setup) (clients : ℕ) (ended : Ending) (old new : History) → ReadsBy wanted clients (Ok setup)
    → TalkedOver setup clients ended old new → LiveBy wanted clients ended old new
live_talked (Ok found) setup clients ended old new reads talked = (
  λ few. inl (subst (λ (s : Setup). TalkedOver s clients ended old new) reads.0 talked),
  λ many. absurd (omega (arith, reads.1, many)),
)
live_talked (Err wanted) setup clients ended old new reads talked = absurd reads

-- ---- how a refusal is told

-- there was no memory for its text
pub refused_memory : (s : Status) (text : List ℕ) (old : History) → Refused s text old old (ending.Run status.OutOfMemory)
refused_memory s text old = between (ending.Run status.OutOfMemory) (record { cause = inr refl; nothing = Extends-nothing old })

-- it has none
pub refused_silent : (s : Status) (text : List ℕ) (old : History) → text ≡ [] → Refused s text old old (ending.Run s)
refused_silent s text old none = silent none (Extends-nothing old)

-- it was told
pub refused_told : (s : Status) (text bytes : List ℕ) (old new : History) → bytes ≡ text → 0 < length bytes → Extends old new (talks.told bytes ∷ [])
    → Refused s text old new (ending.Run s)
refused_told s text bytes old new same some told =
    subst (λ (t : List ℕ). Refused s t old new (ending.Run s)) same (whole some told)

-- or a beginning of it
pub refused_part : (s : Status) (text bytes : List ℕ) (failed : Failed) (old new : History) → bytes ≡ text → 0 < length bytes → Tells (Err failed) bytes old new
    → Refused s text old new ending.Untold
refused_part s text bytes failed old new same some told =
    subst (λ (t : List ℕ). Refused s t old new ending.Untold) same (in_part some told.0 told.1 told.2)

-- What was counted in a talk, by how it ended.

-- ---- by the talk

-- what the outcome says of the counts, the ending says
by_outcome : (outcome : Result ⊤ TalkFault) (old new : History) → Causes outcome old new → TalkCauses (ended_as outcome) old new
by_outcome (Ok done) old new was = was
by_outcome (Err (fault.Unheard hear.Failed)) old new was = was
by_outcome (Err (fault.Unheard hear.CutOff)) old new was = was
by_outcome (Err (fault.Unheard hear.TooLong)) old new was = was
by_outcome (Err (fault.Unheard hear.NoText)) old new was = was
by_outcome (Err (fault.Unheard hear.OutOfMemory)) old new was = was
by_outcome (Err fault.Untold) old new was = was
by_outcome (Err fault.OutOfMemory) old new was = was

-- a talk that took place
pub talked_causes : (setup : Setup) (clients : ℕ) (ended : Ending) (old new : History) → TalkedOver setup clients ended old new → TalkCauses ended old new
talked_causes setup clients ended old new talked =
    subst (λ (e : Ending). TalkCauses e old new) (sym talked.1) (by_outcome talked.0 old new (live_caused setup clients talked.0 old new talked.2))

pub relayed_causes : (rules : RelayRules) (ended : Ending) (old new : History) → TalkedAs rules ended old new → TalkCauses ended old new
relayed_causes rules ended old new talked =
    subst (λ (e : Ending). TalkCauses e old new) (sym talked.1) (by_outcome talked.0 old new (relay_caused rules talked.0 old new talked.2))

-- one that did not begin
pub refused_causes : (s : Status) (text : List ℕ) (ended : Ending) (old new : History) → Refused s text old new ended → TalkCauses ended old new
refused_causes s text _ old new (whole some told) = (told.read, told.wrote)
refused_causes s text _ old new (silent none nothing) = (nothing.read, nothing.wrote)
refused_causes s text _ old new (in_part some more part broke) =
    subst (λ (n : ℕ). Rose n new.unwritten) broke.1.wrote (has_lost broke.0 new broke.2).1
refused_causes s text _ old new (between ended came) = elim came.cause [
  | inl is ↦ subst (λ (e : Ending). TalkCauses e old new) (sym is) (came.nothing.read, came.nothing.wrote)
  | inr is ↦ subst (λ (e : Ending). TalkCauses e old new) (sym is) (came.nothing.read, came.nothing.wrote)
]

-- ---- by the shelf

-- where bytes were given no read failed
given_well : (old new : Counts) → OnlyGave old new → new.read_faults ≡ old.read_faults
given_well old new gave = ap (λ (c : Counts). c.read_faults) gave.1

-- a talk that took place has read its match
by_ending : (outcome : Result ⊤ TalkFault) (old new : Counts) → OnlyGave old new → LiveCauses (ended_as outcome) old new
by_ending (Ok done) old new gave = given_well old new gave
by_ending (Err (fault.Unheard hear.Failed)) old new gave = given_well old new gave
by_ending (Err (fault.Unheard hear.CutOff)) old new gave = given_well old new gave
by_ending (Err (fault.Unheard hear.TooLong)) old new gave = given_well old new gave
by_ending (Err (fault.Unheard hear.NoText)) old new gave = given_well old new gave
by_ending (Err (fault.Unheard hear.OutOfMemory)) old new gave = given_well old new gave
by_ending (Err fault.Untold) old new gave = given_well old new gave
by_ending (Err fault.OutOfMemory) old new gave = given_well old new gave

pub talked_shelf : (setup : Setup) (clients : ℕ) (ended : Ending) (a b : History) (old new : Counts) → TalkedOver setup clients ended a b
    → OnlyGave old new → LiveCauses ended old new
talked_shelf setup clients ended a b old new talked gave =
    subst (λ (e : Ending). LiveCauses e old new) (sym talked.1) (by_ending talked.0 old new gave)

-- why it was not read is counted
by_stop : (found : Stop) (old new : Counts) → CountsBefore (status_of found) old new → LiveCauses (ending.Run (status_of found)) old new
by_stop stop.ReadFault old new was = was
by_stop stop.TooLong old new was = given_well old new was.0
by_stop stop.NoFile old new was = ap (λ (c : Counts). c.read_faults) was.1
by_stop stop.OutOfMemory old new was = given_well old new was
by_stop (stop.MatchRefused code index) old new was = given_well old new was
by_stop (stop.StateRefused code name) old new was = given_well old new was
by_stop (stop.ListRefused index) old new was = given_well old new was
by_stop (stop.NoSuchTurn asked turns) old new was = given_well old new was
by_stop (stop.SightRefused code) old new was = given_well old new was
by_stop (stop.LogRefused line) old new was = given_well old new was
by_stop (stop.EconomyRefused index) old new was = given_well old new was

-- and where that was no fault of reading, no read failed
reads_well : (found : Stop) (old new : Counts) → (found ≡ stop.ReadFault → ⊥) → CountsBefore (status_of found) old new
    → new.read_faults ≡ old.read_faults
reads_well stop.ReadFault old new not was = absurd (not refl)
reads_well stop.TooLong old new not was = by_stop stop.TooLong old new was
reads_well stop.NoFile old new not was = by_stop stop.NoFile old new was
reads_well stop.OutOfMemory old new not was = by_stop stop.OutOfMemory old new was
reads_well (stop.MatchRefused code index) old new not was = by_stop (stop.MatchRefused code index) old new was
reads_well (stop.StateRefused code name) old new not was = by_stop (stop.StateRefused code name) old new was
reads_well (stop.ListRefused index) old new not was = by_stop (stop.ListRefused index) old new was
reads_well (stop.NoSuchTurn asked turns) old new not was = by_stop (stop.NoSuchTurn asked turns) old new was
reads_well (stop.SightRefused code) old new not was = by_stop (stop.SightRefused code) old new was
reads_well (stop.LogRefused line) old new not was = by_stop (stop.LogRefused line) old new was
reads_well (stop.EconomyRefused index) old new not was = by_stop (stop.EconomyRefused index) old new was

pub refused_shelf : (found : Stop) (ended : Ending) (old new : Counts) → CountsBefore (status_of found) old new → IsRefusal found ended
    → LiveCauses ended old new
refused_shelf found ended old new was (inl is) = subst (λ (e : Ending). LiveCauses e old new) (sym is) (by_stop found old new was)
refused_shelf found ended old new was (inr (inl unmade)) =
    subst (λ (e : Ending). LiveCauses e old new) (sym unmade.0)
    (reads_well found old new (λ is. unmade.1 (subst (λ (s : Stop). IsSilent (status_of s)) (sym is) tt)) was)
refused_shelf found ended old new was (inr (inr untold)) =
    let some : found ≡ stop.ReadFault → ⊥ = λ is.
    let none : 0 < 0 = subst (λ (s : Stop). 0 < length (stop_text s)) is untold.1 in omega (arith, none) in
    subst (λ (e : Ending). LiveCauses e old new) (sym untold.0) (reads_well found old new some was)

-- What is made is written: by the status of what was made.
use Rattle.sim_top.specs.declared.stop.Stop.TheVariants as stops
use Rattle.sim_top.proofs.Common.{Option, refl, Scene, Some, Status, status_of, Stop, subst, sym, take, Tells, Usage, WriteFault, ℕ, ◌<◌, ◌∙◌, ◌≡◌}
use Rattle.sim_top.proofs.Common.{[], ap, Appends, arith, Asked, Causes, Counts, CountsBefore, Differs, Done, File, GaveFor, GaveForWords, HasEnded, IfSome}
use Rattle.sim_top.proofs.Common.{inl, inr, IsSettled, IsSilent, IsUnfound, IsUnplayed, length, List, MayEnd, Meets, MeetsBefore, None, NoSuchTurn, OnlyGave}
use Rattle.sim_top.specs.Reads.{FailsToSave, FailsToTell, GaveThenUnsaved, IsUntouched, IsUsageTold, Saves, SavesPart}
use Rattle.sim_top.specs.declared.status.Status.TheVariants.{EconomyRefused, ListRefused, LogRefused, MatchRefused, NoFile, OutOfMemory, ReadFault}
use Rattle.sim_top.specs.declared.status.Status.TheVariants.{SightRefused, StateRefused, TooLong}
use Rattle.{sim_store.specs.Shelf.Rose, sim_top.specs.Making.IsCutShort, sim_top.specs.Making.IsUsageMade, std.proofs.Common.◌≢◌}

untouched : (before now : Scene) (text : List ℕ) (saved : Option File) → text ≡ [] → saved ≡ None → Appends before.told now.told text
    → Saves saved before.held now.held → IsUntouched before now
untouched before now text saved none unsaved told held = record {
  text = subst (Appends before.told now.told) none told;
  files = subst (λ (file : Option File). Saves file before.held now.held) unsaved held;
}

pub done_meets : (status : Status) (words : List (List ℕ)) (files : List File) (text : List ℕ) (saved : Option File) (before now : Scene)
    → MeetsBefore status words files text saved
    → Appends before.told now.told text → Saves saved before.held now.held → Meets status words files before now
done_meets ReadFault words files text saved before now h told held = untouched before now text saved h.0 h.1 told held
done_meets OutOfMemory words files text saved before now h told held = untouched before now text saved h.0 h.1 told held
done_meets WriteFault words files text saved before now h told held = absurd h
done_meets Done words files text saved before now h told held = (_, h, refl, record { text = told; files = held })
done_meets Differs words files text saved before now h told held = (_, h, refl, record { text = told; files = held })
done_meets Usage words files text saved before now h told held = (_, h, refl, record { text = told; files = held })
done_meets TooLong words files text saved before now h told held = (_, h, refl, record { text = told; files = held })
done_meets MatchRefused words files text saved before now h told held = (_, h, refl, record { text = told; files = held })
done_meets StateRefused words files text saved before now h told held = (_, h, refl, record { text = told; files = held })
done_meets ListRefused words files text saved before now h told held = (_, h, refl, record { text = told; files = held })
done_meets NoSuchTurn words files text saved before now h told held = (_, h, refl, record { text = told; files = held })
done_meets NoFile words files text saved before now h told held = (_, h, refl, record { text = told; files = held })
done_meets SightRefused words files text saved before now h told held = (_, h, refl, record { text = told; files = held })
done_meets LogRefused words files text saved before now h told held = (_, h, refl, record { text = told; files = held })
done_meets EconomyRefused words files text saved before now h told held = (_, h, refl, record { text = told; files = held })

pub none_told : (part : ℕ) (text : List ℕ) → part < length text → text ≡ [] → ⊥
none_told part text less none = let none_long : length text ≡ 0 = ap length none in omega (arith, less, none_long)

pub untold_meets : (status : Status) (words : List (List ℕ)) (files : List File) (text : List ℕ) (saved : Option File) (before now : Scene) (part : ℕ)
    → MeetsBefore status words files text saved
    → FailsToTell before now → part < length text → Appends before.told now.told (take part text) → Saves saved before.held now.held
    → Meets WriteFault words files before now
untold_meets ReadFault words files text saved before now part h fails less told held = absurd (none_told part text less h.0)
untold_meets OutOfMemory words files text saved before now part h fails less told held = absurd (none_told part text less h.0)
untold_meets WriteFault words files text saved before now part h fails less told held = absurd h
untold_meets Done words files text saved before now part h fails less told held =
    (_, h, inr (record { fails = fails; part = part; less = less; text = told; files = held }))
untold_meets Differs words files text saved before now part h fails less told held =
    (_, h, inr (record { fails = fails; part = part; less = less; text = told; files = held }))
untold_meets Usage words files text saved before now part h fails less told held =
    (_, h, inr (record { fails = fails; part = part; less = less; text = told; files = held }))
untold_meets TooLong words files text saved before now part h fails less told held =
    (_, h, inr (record { fails = fails; part = part; less = less; text = told; files = held }))
untold_meets MatchRefused words files text saved before now part h fails less told held =
    (_, h, inr (record { fails = fails; part = part; less = less; text = told; files = held }))
untold_meets StateRefused words files text saved before now part h fails less told held =
    (_, h, inr (record { fails = fails; part = part; less = less; text = told; files = held }))
untold_meets ListRefused words files text saved before now part h fails less told held =
    (_, h, inr (record { fails = fails; part = part; less = less; text = told; files = held }))
untold_meets NoSuchTurn words files text saved before now part h fails less told held =
    (_, h, inr (record { fails = fails; part = part; less = less; text = told; files = held }))
untold_meets NoFile words files text saved before now part h fails less told held =
    (_, h, inr (record { fails = fails; part = part; less = less; text = told; files = held }))
untold_meets SightRefused words files text saved before now part h fails less told held =
    (_, h, inr (record { fails = fails; part = part; less = less; text = told; files = held }))
untold_meets LogRefused words files text saved before now part h fails less told held =
    (_, h, inr (record { fails = fails; part = part; less = less; text = told; files = held }))
untold_meets EconomyRefused words files text saved before now part h fails less told held =
    (_, h, inr (record { fails = fails; part = part; less = less; text = told; files = held }))

no_part : (file : Option File) (old new : Option (List File)) → file ≡ None → SavesPart file old new → ⊥
no_part file old new none part = subst (λ (f : Option File). SavesPart f old new) none part

pub unsaved_meets : (status : Status) (words : List (List ℕ)) (files : List File) (text : List ℕ) (saved : Option File) (before now : Scene)
    → MeetsBefore status words files text saved
    → FailsToSave before now → SavesPart saved before.held now.held → Meets WriteFault words files before now
unsaved_meets ReadFault words files text saved before now h fails held = absurd (no_part saved before.held now.held h.1 held)
unsaved_meets OutOfMemory words files text saved before now h fails held = absurd (no_part saved before.held now.held h.1 held)
unsaved_meets WriteFault words files text saved before now h fails held = absurd h
unsaved_meets Done words files text saved before now h fails held = (_, h, inl (record { fails = fails; files = held }))
unsaved_meets Differs words files text saved before now h fails held = (_, h, inl (record { fails = fails; files = held }))
unsaved_meets Usage words files text saved before now h fails held = (_, h, inl (record { fails = fails; files = held }))
unsaved_meets TooLong words files text saved before now h fails held = (_, h, inl (record { fails = fails; files = held }))
unsaved_meets MatchRefused words files text saved before now h fails held = (_, h, inl (record { fails = fails; files = held }))
unsaved_meets StateRefused words files text saved before now h fails held = (_, h, inl (record { fails = fails; files = held }))
unsaved_meets ListRefused words files text saved before now h fails held = (_, h, inl (record { fails = fails; files = held }))
unsaved_meets NoSuchTurn words files text saved before now h fails held = (_, h, inl (record { fails = fails; files = held }))
unsaved_meets NoFile words files text saved before now h fails held = (_, h, inl (record { fails = fails; files = held }))
unsaved_meets SightRefused words files text saved before now h fails held = (_, h, inl (record { fails = fails; files = held }))
unsaved_meets LogRefused words files text saved before now h fails held = (_, h, inl (record { fails = fails; files = held }))
unsaved_meets EconomyRefused words files text saved before now h fails held = (_, h, inl (record { fails = fails; files = held }))

-- ---- what was counted where a command ended and its line found no memory

pub without_memory : (stop : Stop) (old new : Counts) → (IsSilent (status_of stop) → ⊥) → CountsBefore (status_of stop) old new
    → CountsBefore OutOfMemory old new
without_memory stops.ReadFault old new loud h = absurd (loud tt)
without_memory stops.TooLong old new loud h = absurd (loud tt)
without_memory stops.NoFile old new loud h = absurd (loud tt)
without_memory stops.OutOfMemory old new loud h = h
without_memory (stops.MatchRefused code index) old new loud h = h
without_memory (stops.StateRefused code name) old new loud h = h
without_memory (stops.ListRefused index) old new loud h = h
without_memory (stops.NoSuchTurn asked turns) old new loud h = h
without_memory (stops.SightRefused code) old new loud h = h
without_memory (stops.LogRefused line) old new loud h = h
without_memory (stops.EconomyRefused index) old new loud h = h

-- ---- what was counted where the text was written

gave_nothing : (old new : Counts) → new ≡ old → OnlyGave old new
gave_nothing old new same =
    let given : new.given ≡ old.given = ap (λ (c : Counts). c.given) same in
    (omega (arith, given), same ∙ ap (λ (n : ℕ). record old { given = n }) (sym given))

loud_gave : (status : Status) (old new : Counts) → (IsSilent status → ⊥) → CountsBefore status old new → OnlyGave old new
loud_gave ReadFault old new loud h = absurd (loud tt)
loud_gave OutOfMemory old new loud h = h
loud_gave WriteFault old new loud h = h
loud_gave Done old new loud h = h
loud_gave Differs old new loud h = h
loud_gave Usage old new loud h = gave_nothing old new h
loud_gave TooLong old new loud h = absurd (loud tt)
loud_gave MatchRefused old new loud h = h
loud_gave StateRefused old new loud h = h
loud_gave ListRefused old new loud h = h
loud_gave NoSuchTurn old new loud h = h
loud_gave NoFile old new loud h = absurd (loud tt)
loud_gave SightRefused old new loud h = h
loud_gave LogRefused old new loud h = h
loud_gave EconomyRefused old new loud h = h

whole_causes : (status : Status) (before now : Scene) → status ≢ WriteFault → CountsBefore status before.counts now.counts → now.faults ≡ before.faults
    → Causes status before now
whole_causes ReadFault before now other h same = (h, same)
whole_causes OutOfMemory before now other h same = (h, same)
whole_causes WriteFault before now other h same = absurd (other refl)
whole_causes Done before now other h same = (h, same)
whole_causes Differs before now other h same = (h, same)
whole_causes Usage before now other h same = (h, same)
whole_causes TooLong before now other h same = (h, same)
whole_causes MatchRefused before now other h same = (h, same)
whole_causes StateRefused before now other h same = (h, same)
whole_causes ListRefused before now other h same = (h, same)
whole_causes NoSuchTurn before now other h same = (h, same)
whole_causes NoFile before now other h same = (h, same)
whole_causes SightRefused before now other h same = (h, same)
whole_causes LogRefused before now other h same = (h, same)
whole_causes EconomyRefused before now other h same = (h, same)

-- a text that was cut short is that of a status which is not silent
cut_short : (result status : Status) (text : List ℕ) (before now : Scene) → (IsSilent status → text ≡ []) → CountsBefore status before.counts now.counts
    → IsCutShort result text before.told now.told before.faults now.faults → FailsToTell before now
cut_short result status text before now silent h w = record {
  shelf = loud_gave status before.counts now.counts (λ s. none_told w.part text w.less (silent s)) h;
  sink = w.counted;
}

-- the text was told, or cut short, and the file was saved
pub told_causes : (result status : Status) (text : List ℕ) (before now : Scene) → status ≢ WriteFault → (IsSilent status → text ≡ [])
    → Tells result status text before.told now.told before.faults now.faults → CountsBefore status before.counts now.counts → Causes result before now
told_causes result status text before now other silent (inl w) h = subst (λ (s : Status). Causes s before now) (sym w.same)
    (whole_causes status before now other h w.uncounted)
told_causes result status text before now other silent (inr w) h =
    subst (λ (s : Status). Causes s before now) (sym w.status) (inr (cut_short result status text before now silent h w))

pub told_meets : (result status : Status) (words : List (List ℕ)) (files : List File) (text : List ℕ) (saved : Option File) (before now : Scene)
    → (IsSilent status → text ≡ [])
    → MeetsBefore status words files text saved → CountsBefore status before.counts now.counts → Tells result status text before.told now.told before.faults
    now.faults → Saves saved before.held now.held → Meets result words files before now
told_meets result status words files text saved before now silent h counts (inl w) held = subst (λ (s : Status). Meets s words files before now) (sym w.same)
    (done_meets status words files text saved before now h w.text_told held)
told_meets result status words files text saved before now silent h counts (inr w) held =
    subst (λ (s : Status). Meets s words files before now) (sym w.status) (untold_meets status words files text saved before now w.part h
    (cut_short result status text before now silent counts w) w.less w.text_told held)

-- ---- what was counted where the file could not be written

pub gave_then_unsaved : (old middle new : Counts) → OnlyGave old middle → Rose middle.write_faults new.write_faults
    → new ≡ record middle { write_faults = new.write_faults } → GaveThenUnsaved old new
gave_then_unsaved old middle new gave rose is =
    let given : new.given ≡ middle.given = ap (λ (c : Counts). c.given) is in
    let written : middle.write_faults ≡ old.write_faults = ap (λ (c : Counts). c.write_faults) gave.1 in (
      omega (arith, given, gave.0),
      subst (λ (n : ℕ). Rose n new.write_faults) written rose,
      is ∙ ap (λ (c : Counts). record c { write_faults = new.write_faults }) gave.1 ∙ ap (λ (n : ℕ). record old { given = n; write_faults = new.write_faults })
          (sym given),
    )

pub all_told : {X : Type 0} (P : X → Type 0) (held : Option X) → ((x : X) → P x) → IfSome held P
all_told P None f = tt
all_told P (Some x) f = f x

-- With which status a run ends, by that of what was made; and what was told of words that are in no table.

-- ---- any words may end with a write fault or for want of memory

may_fault : (asked : Option Asked) → MayEnd asked WriteFault
may_fault None = tt
may_fault (Some asked) = tt

-- ---- the text was told, or cut short

pub told_may_end : (asked : Option Asked) (result status : Status) (text : List ℕ) (told told' : Option (List ℕ)) (faults faults' : ℕ) → MayEnd asked status
    → Tells result status text told told' faults faults' → MayEnd asked result
told_may_end asked result status text told told' faults faults' may (inl w) = subst (MayEnd asked) (sym w.same) may
told_may_end asked result status text told told' faults faults' may (inr w) = subst (MayEnd asked) (sym w.status) (may_fault asked)

pub told_settled : (result status : Status) (text : List ℕ) (told told' : Option (List ℕ)) (faults faults' : ℕ)
    → Tells result status text told told' faults faults' → IsSettled result → result ≡ status
told_settled result status text told told' faults faults' (inl w) settled = w.same
told_settled result status text told told' faults faults' (inr w) settled = absurd (subst IsSettled w.status settled)

-- what has ended, or has played nothing, is settled
pub ended_settled : (status : Status) → HasEnded status → IsSettled status
ended_settled Done h = tt
ended_settled Differs h = tt
ended_settled other h = absurd h

pub unplayed_settled : (status : Status) → IsUnplayed status → IsSettled status
unplayed_settled WriteFault h = h
unplayed_settled OutOfMemory h = h
unplayed_settled Done h = absurd h
unplayed_settled Differs h = absurd h
unplayed_settled other h = tt

-- what was given stays so where the run is settled
pub given_settled : (files : List File) (asked : Option Asked) (result status : Status) (old middle new : Counts) → (asked ≡ None → new ≡ old)
    → (IsSettled result → (result ≡ status) × (new ≡ middle))
    → GaveForWords files asked status old middle → GaveForWords files asked result old new
given_settled files None result status old middle new unasked settled h = unasked refl
given_settled files (Some asked) result status old middle new unasked settled h = by result settled
  where
    by : (result : Status) → (IsSettled result → (result ≡ status) × (new ≡ middle)) → GaveFor files asked result old new
    by ReadFault s = tt
    by WriteFault s = tt
    by TooLong s = tt
    by NoFile s = tt
    by OutOfMemory s = tt
    by Usage s = tt
    by other s = let is = s tt in subst (λ (k : Status). GaveFor files asked k old new) (sym is.0) (subst (GaveFor files asked status old) (sym is.1) h)

-- a run that read nothing has nothing to tell
pub unfound_silent : (status : Status) → IsUnfound status → IsSilent status
unfound_silent NoFile h = tt
unfound_silent ReadFault h = tt
unfound_silent other h = absurd h

pub told_unfound : (result status : Status) (text : List ℕ) (told told' : Option (List ℕ)) (faults faults' : ℕ) → IsUnfound status
    → (IsSilent status → text ≡ [])
    → Tells result status text told told' faults faults' → IsUnfound result
told_unfound result status text told told' faults faults' unfound silent (inl w) = subst IsUnfound (sym w.same) unfound
told_unfound result status text told told' faults faults' unfound silent (inr w) =
    absurd (none_told w.part text w.less (silent (unfound_silent status unfound)))

pub told_usage : (usage : List ℕ) (result status : Status) (text : List ℕ) (told told' : Option (List ℕ)) (faults faults' : ℕ) → IsUsageMade usage status text
    → Tells result status text told told' faults faults' → IsUsageTold usage result told told'
told_usage usage result Usage text told told' faults faults' made (inl w) = subst (λ (s : Status). IsUsageTold usage s told told') (sym w.same)
    (subst (Appends told told') made w.text_told)
told_usage usage result Usage text told told' faults faults' made (inr w) =
    subst (λ (s : Status). IsUsageTold usage s told told') (sym w.status)
    (subst (λ (t : List ℕ). (part : ℕ) × (part < length t) × Appends told told' (take part t)) made (w.part, w.less, w.text_told))
told_usage usage result OutOfMemory text told told' faults faults' made (inl w) = subst (λ (s : Status). IsUsageTold usage s told told') (sym w.same)
    (subst (Appends told told') made w.text_told)
told_usage usage result OutOfMemory text told told' faults faults' made (inr w) = absurd (none_told w.part text w.less made)
told_usage usage result Done text told told' faults faults' made tells = absurd made
told_usage usage result Differs text told told' faults faults' made tells = absurd made
told_usage usage result ReadFault text told told' faults faults' made tells = absurd made
told_usage usage result WriteFault text told told' faults faults' made tells = absurd made
told_usage usage result TooLong text told told' faults faults' made tells = absurd made
told_usage usage result MatchRefused text told told' faults faults' made tells = absurd made
told_usage usage result StateRefused text told told' faults faults' made tells = absurd made
told_usage usage result ListRefused text told told' faults faults' made tells = absurd made
told_usage usage result NoSuchTurn text told told' faults faults' made tells = absurd made
told_usage usage result NoFile text told told' faults faults' made tells = absurd made
told_usage usage result SightRefused text told told' faults faults' made tells = absurd made
told_usage usage result LogRefused text told told' faults faults' made tells = absurd made
told_usage usage result EconomyRefused text told told' faults faults' made tells = absurd made

-- ---- a command that ended before it had its text

-- a stopped command has not come to its end
pub stopped_not_ended : (stop : Stop) → HasEnded (status_of stop) → ⊥
stopped_not_ended stops.ReadFault h = h
stopped_not_ended stops.TooLong h = h
stopped_not_ended stops.NoFile h = h
stopped_not_ended stops.OutOfMemory h = h
stopped_not_ended (stops.MatchRefused code index) h = h
stopped_not_ended (stops.StateRefused code name) h = h
stopped_not_ended (stops.ListRefused index) h = h
stopped_not_ended (stops.NoSuchTurn asked turns) h = h
stopped_not_ended (stops.SightRefused code) h = h
stopped_not_ended (stops.LogRefused line) h = h
stopped_not_ended (stops.EconomyRefused index) h = h

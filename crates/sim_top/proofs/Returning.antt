-- How the rigs of a command come back: as they were, with the first played, with the first two played, and of a session.
use Rattle.sim_top.specs.declared.status.Status.TheVariants as status
use Rattle.sim_top.specs.declared.stop.Stop.TheVariants as stops
use Rattle.sim_session.{proofs.Stepping.built_same, specs.{Going.rigs_by, Laws.{AllBuiltAtMost, AllStand, builds_of}}}
use Rattle.sim_system.specs.{declared.rig.Rig.Rig, Meanings.{AreBuiltOnceAtMost, Meaning}}
use Rattle.sim_top.proofs.Common.{All, Answer, ap, AreFed, arith, Asked, bytes_in, drop, end_from, Err, false≢true, File, Global, HasEnded, HaveKinds, IfOk}
use Rattle.sim_top.proofs.Common.{IfSome, inl, inr, IsHostedBy, IsMade, IsMadeAs, IsSettled, IsSetup, IsState, IsStepList, IsUnplayed, length, List, map, None}
use Rattle.sim_top.proofs.Common.{OfSession, Ok, OnOk, Option, Outcome, outcome_made, refl, Result, RigsCameBackBy, session_match_in, session_of, Setup, Some}
use Rattle.sim_top.proofs.Common.{StandForStored, State, Status, status_made, status_of, StepList, steps_in, Stop, subst, suc, sym, Systems, systems_by}
use Rattle.sim_top.proofs.Common.{to_check, to_compare, to_film, to_log, to_parts, to_play, to_realm, to_record, to_rejoin, to_resight, to_resume, to_serve}
use Rattle.sim_top.proofs.Common.{to_session, to_show, to_sight, to_stock, to_store, to_try, used, Vec, ℕ, [], ◌<◌, ◌∙◌, ◌∷◌, ◌≡◌, ◌≤◌}
use Rattle.sim_top.{proofs.Finishing.{ended_settled, stopped_not_ended, unplayed_settled}, specs.Outcome.{builds_with_log, IsRecordedBy, OfRecord}}
use Rattle.sim_top.specs.{Returning.AreOfSession, Stops.{AreEightBy, clients, HasPlayedBy, OfFirsts, RigStands, SecondStands}}
use Rattle.std.{proofs.{lemmas.List.Elements.{All-cons, All-head, All-nil, All-tail}, Math.ListN.drop_of_length-le}, specs.Prelude.vec_capacity}

-- ---- by the status

-- what holds of what was made holds where it came to its end
pub on_ended : (made : Result Answer Stop) (P : Type 0) → OnOk made P → HasEnded (status_made made) → P
on_ended (Ok answer) P h ended = h
on_ended (Err stop) P h ended = absurd (stopped_not_ended stop ended)

pub told_ended : (held : Option (List File)) (made : Result Answer Stop) (P : List File → Type 0) → IfSome held (λ files. OnOk made (P files))
    → IfSome held (λ files. HasEnded (status_made made) → P files)
told_ended None made P h = tt
told_ended (Some files) made P h = on_ended made (P files) h

-- what was made was played
played_to_end : (status : Status) → HasEnded status → IsUnplayed status → ⊥
played_to_end status.Done ended h = h
played_to_end status.Differs ended h = h
played_to_end other ended h = ended

pub was_played : (wanted : Outcome) (made : Result Answer Stop) → IsMade wanted made → HasEnded wanted.status → IsUnplayed (status_made made) → ⊥
was_played wanted (Ok answer) m ended h = played_to_end answer.status (subst HasEnded (sym (ap (λ (o : Outcome). o.status) m.answers)) ended) h
was_played wanted (Err stop) m ended h = subst (λ (s : Stop). IsUnplayed (status_of s)) m.stops h

pub was_played_as : (Wanted : Outcome → Type 0) (made : Result Answer Stop) → IsMadeAs Wanted made → ((o : Outcome) → Wanted o → HasEnded o.status)
    → IsUnplayed (status_made made) → ⊥
was_played_as Wanted (Ok answer) m ended h = played_to_end answer.status (ended (outcome_made answer) m.answers) h
was_played_as Wanted (Err stop) m ended h = subst (λ (s : Stop). IsUnplayed (status_of s)) m.stops h

-- ---- by what is asked

idle_session : (files : List File) (asked : Option Asked) (P : Setup → StepList → Type 0) → used asked ≤ 2 → OfSession files asked P
idle_session files None P le = tt
idle_session files (Some (to_session game steps)) P le = absurd (omega (arith, le))
idle_session files (Some other) P le = tt

idle_record : (files : List File) (asked : Option Asked) (P : Setup → StepList → Type 0) → used asked ≤ 2 → OfRecord files asked P
idle_record files None P le = tt
idle_record files (Some (to_record game steps out)) P le = absurd (omega (arith, le))
idle_record files (Some other) P le = tt

idle_second : (files : List File) (asked : Option Asked) (t : Systems) → used asked ≤ 1 → SecondStands files asked t
idle_second files None t le = tt
idle_second files (Some (to_rejoin game turn)) t le = absurd (omega (arith, le))
idle_second files (Some other) t le = tt

idle_first : (files : List File) (asked : Option Asked) (s : Systems) → used asked ≡ 0 → RigStands files asked s s
idle_first files None s none = refl
idle_first files (Some (to_show game name)) s none = refl
idle_first files (Some (to_compare game left right)) s none = refl
idle_first files (Some (to_serve schedule)) s none = refl
idle_first files (Some (to_play game)) s none = absurd (omega (arith, none))
idle_first files (Some (to_store game turn out)) s none = absurd (omega (arith, none))
idle_first files (Some (to_resume game name)) s none = absurd (omega (arith, none))
idle_first files (Some (to_rejoin game turn)) s none = absurd (omega (arith, none))
idle_first files (Some (to_session game steps)) s none = absurd (omega (arith, none))
idle_first files (Some (to_try seed units turns)) s none = absurd (omega (arith, none))
idle_first files (Some (to_stock game name)) s none = absurd (omega (arith, none))
idle_first files (Some (to_realm game turn)) s none = absurd (omega (arith, none))
idle_first files (Some (to_sight game turn out)) s none = absurd (omega (arith, none))
idle_first files (Some (to_resight game name map)) s none = absurd (omega (arith, none))
idle_first files (Some (to_log game out)) s none = absurd (omega (arith, none))
idle_first files (Some (to_record game steps out)) s none = absurd (omega (arith, none))
idle_first files (Some (to_check game name)) s none = absurd (omega (arith, none))
idle_first files (Some (to_film game every)) s none = absurd (omega (arith, none))
idle_first files (Some (to_parts game)) s none = refl

-- ---- systems that were left

told_any : {X : Type 0} (held : Option X) (P : X → Type 0) → ((x : X) → P x) → IfSome held P
told_any None P f = tt
told_any (Some x) P f = f x

pub All-unmap : {X Y : Type 0} (P : Y → Type 0) (f : X → Y) (xs : List X) → All P (map f xs) → All (λ x. P (f x)) xs
All-unmap P f [] all = All-nil (λ x. P (f x))
All-unmap P f (x ∷ xs) all = All-cons (λ x. P (f x)) x xs (All-head P (f x) (map f xs) all) (All-unmap P f xs (All-tail P (f x) (map f xs) all))

on_told : (held : Option (List File)) (made : Result Answer Stop) (P Q : List File → Type 0) → ((files : List File) → P files → Q files)
    → IfSome held (λ files. OnOk made (P files))
    → IfSome held (λ files. OnOk made (Q files))
on_told None made P Q f h = tt
on_told (Some files) (Ok answer) P Q f h = f files h
on_told (Some files) (Err stop) P Q f h = tt

-- what holds of a match that was read holds of that of the files
pub stands_read : {X : Type 0} (held : Option (List File)) (found : List File → Result X Outcome) (x : X) (made : Result Answer Stop)
    (P : List File → X → Type 0) → IfSome held (λ files. found files ≡ Ok x)
    → IfSome held (λ files. OnOk made (P files x)) → IfSome held (λ files. OnOk made (IfOk (found files) (P files)))
stands_read None found x made P told h = tt
stands_read {X} (Some files) found x (Ok answer) P told h = subst (λ (r : Result X Outcome). IfOk r (P files)) (sym told) h
stands_read (Some files) found x (Err stop) P told h = tt

-- what was played on from a stored state
pub stored_stands : (held : Option (List File)) (made : Result Answer Stop) (setup : Setup) (state : State) (name : List ℕ) (t : Systems)
    → IfSome held (λ files. IsState setup (bytes_in files name) state)
    → OnOk made (AreFed setup (end_from setup state) t) → IfSome held (λ files. OnOk made (StandForStored setup (bytes_in files name) t))
stored_stands None made setup state name t is fed = tt
stored_stands (Some files) (Ok answer) setup state name t is fed = record { state = state; stored = is; fed = fed }
stored_stands (Some files) (Err stop) setup state name t is fed = tt

-- what does not depend on the files
pub whatever_held : (held : Option (List File)) (P : Type 0) → P → IfSome held (λ files. P)
whatever_held None P h = tt
whatever_held (Some files) P h = h

module _ {X : Type 0} {F : X → Type 0} (meaning : (i : X) → F i → Meaning) where
  -- of the first rig, of the second, and how often one was built
  abbrev Stands : List File → Option Asked → Rig X F → Rig X F → Type 0
  Stands files asked r s = RigStands files asked (systems_by r meaning) (systems_by s meaning)

  abbrev Joins : List File → Option Asked → Rig X F → Rig X F → Type 0
  Joins files asked r s = SecondStands files asked (systems_by s meaning)

  abbrev Once : Rig X F → Rig X F → Type 0
  Once r s = AreBuiltOnceAtMost (systems_by r meaning) (systems_by s meaning)

  once_same : (r : Rig X F) → Once r r
  once_same r = built_same (systems_by r meaning)

  firsts_same : (rigs : List (Rig X F)) (P : Rig X F → Rig X F → Type 0) → 0 < length rigs → ((r : Rig X F) → P r r) → OfFirsts rigs rigs P
  firsts_same [] P le each = absurd (omega (arith, le))
  firsts_same (r ∷ rigs) P le each = each r

  seconds_same : (rigs : List (Rig X F)) (P : Rig X F → Rig X F → Type 0) → 1 < length rigs → ((r : Rig X F) → P r r) → OfFirsts (drop 1 rigs) (drop 1 rigs) P
  seconds_same [] P le each = absurd (omega (arith, le))
  seconds_same (r ∷ rigs) P le each = firsts_same rigs P (omega (arith, le)) each

  same_session : (held : Option (List File)) (asked : Option Asked) (rigs : List (Rig X F)) → AreOfSession meaning held asked rigs rigs
  same_session held None rigs = tt
  same_session held (Some (to_session game steps)) rigs = inl refl
  same_session held (Some (to_record game steps out)) rigs = inl refl
  same_session held (Some other) rigs = tt

  idle_rigs : (held : Option (List File)) (asked : Option Asked) (old new : List (Rig X F)) → used asked ≤ 2 → AreOfSession meaning held asked old new
  idle_rigs held None old new le = tt
  idle_rigs held (Some (to_session game steps)) old new le = absurd (omega (arith, le))
  idle_rigs held (Some (to_record game steps out)) old new le = absurd (omega (arith, le))
  idle_rigs held (Some other) old new le = tt

  -- ---- all as they were, where nothing was used or the command did not come to its end

  pub rigs_same : (asked : Option Asked) (held : Option (List File)) (status : Status) (rigs : Vec (Rig X F) Global) → AreEightBy meaning rigs.items
      → (HasEnded status → used asked ≡ 0)
      → RigsCameBackBy meaning asked held status rigs rigs
  rigs_same asked held status rigs eight idle =
      let some : 1 < length rigs.items = omega (arith, eight.count) in
      let one : 0 < length rigs.items = omega (arith, eight.count) in
      record {
        stands = told_any held (λ files. HasEnded status → OfFirsts rigs.items rigs.items (Stands files asked))
            (λ files ended. firsts_same rigs.items (Stands files asked) one (λ r. idle_first files asked (systems_by r meaning) (idle ended)));
        joins = told_any held (λ files. HasEnded status → OfFirsts (drop 1 rigs.items) (drop 1 rigs.items) (Joins files asked))
            (λ files ended. seconds_same rigs.items (Joins files asked) some (λ r. idle_second files asked (systems_by r meaning) (omega (arith, idle ended))));
        hosted = told_any held (λ files. HasEnded status → OfSession files asked (λ setup list. IsHostedBy meaning setup list rigs.items rigs.items))
            (λ files ended. idle_session files asked (λ setup list. IsHostedBy meaning setup list rigs.items rigs.items) (omega (arith, idle ended)));
        recorded = told_any held (λ files. HasEnded status → OfRecord files asked (λ setup list. IsRecordedBy meaning setup list rigs.items))
            (λ files ended. idle_record files asked (λ setup list. IsRecordedBy meaning setup list rigs.items) (omega (arith, idle ended)));
        most = λ none. firsts_same rigs.items Once one once_same;
        joined = λ none. seconds_same rigs.items Once some once_same;
        session = same_session held asked rigs.items;
        unplayed = λ none. refl;
        rest = refl;
        kinds = eight.kinds;
        count = refl;
        room = refl;
      }

  -- a command that ends before it plays
  pub rigs_left : (asked : Option Asked) (held : Option (List File)) (stop : Stop) (rigs : Vec (Rig X F) Global) → AreEightBy meaning rigs.items
      → RigsCameBackBy meaning asked held (status_of stop) rigs rigs
  rigs_left asked held stop rigs eight = rigs_same asked held (status_of stop) rigs eight (λ ended. absurd (stopped_not_ended stop ended))

  -- ---- the first was taken, and put back

  pub room_for : (old taken : Vec (Rig X F) Global) (r : Rig X F) → old.items ≡ r ∷ taken.items → vec_capacity taken ≡ vec_capacity old
      → length taken.items < vec_capacity taken
  room_for old taken r is room = let more : length old.items ≡ suc (length taken.items) = ap length is in omega (arith, more, room, old.ok.0, old.ok.1)

  -- where two were taken, and one was put back
  pub room_again : (old back : Vec (Rig X F) Global) (q r s : Rig X F) (rest : List (Rig X F)) → old.items ≡ q ∷ r ∷ rest → back.items ≡ s ∷ rest
      → vec_capacity back ≡ vec_capacity old
      → length back.items < vec_capacity back
  room_again old back q r s rest was is room =
      let more : length old.items ≡ suc (suc (length rest)) = ap length was in
      let one : length back.items ≡ suc (length rest) = ap length is in
      omega (arith, more, one, room, old.ok.0, old.ok.1)

  pub one_less : (old : List (Rig X F)) (r : Rig X F) (rest : List (Rig X F)) (n : ℕ) → old ≡ r ∷ rest → length old ≡ suc n → length rest ≡ n
  one_less old r rest n is count = let more : length old ≡ suc (length rest) = ap length is in omega (arith, more, count)

  pub firsts_of : (old new rest after : List (Rig X F)) (r s : Rig X F) (P : Rig X F → Rig X F → Type 0) → old ≡ r ∷ rest → new ≡ s ∷ after → P r s
      → OfFirsts old new P
  firsts_of old new rest after r s P was is h = subst (λ (l : List (Rig X F)). OfFirsts l new P) (sym was)
      (subst (λ (l : List (Rig X F)). OfFirsts (r ∷ rest) l P) (sym is) h)

  pub behind : (old rest : List (Rig X F)) (r : Rig X F) → old ≡ r ∷ rest → drop 1 old ≡ rest
  behind old rest r is = ap (drop 1) is

  pub kind_of_first : (old rest : List (Rig X F)) (r : Rig X F) → old ≡ r ∷ rest → All (λ r. HaveKinds (systems_by r meaning)) old
      → HaveKinds (systems_by r meaning)
  kind_of_first old rest r is all = All-head (λ r. HaveKinds (systems_by r meaning)) r rest (subst (All (λ r. HaveKinds (systems_by r meaning))) is all)

  pub kinds_of_rest : (old rest : List (Rig X F)) (r : Rig X F) → old ≡ r ∷ rest → All (λ r. HaveKinds (systems_by r meaning)) old
      → All (λ r. HaveKinds (systems_by r meaning)) rest
  kinds_of_rest old rest r is all = All-tail (λ r. HaveKinds (systems_by r meaning)) r rest (subst (All (λ r. HaveKinds (systems_by r meaning))) is all)

  pub kinds_with : (new rest : List (Rig X F)) (s : Rig X F) → new ≡ s ∷ rest → HaveKinds (systems_by s meaning)
      → All (λ r. HaveKinds (systems_by r meaning)) rest
      → All (λ r. HaveKinds (systems_by r meaning)) new
  kinds_with new rest s is here others = subst (All (λ r. HaveKinds (systems_by r meaning))) (sym is)
      (All-cons (λ r. HaveKinds (systems_by r meaning)) s rest here others)

  seconds_kept : (old new : List (Rig X F)) (P : Rig X F → Rig X F → Type 0) → drop 1 new ≡ drop 1 old → 1 < length old → ((r : Rig X F) → P r r)
      → OfFirsts (drop 1 old) (drop 1 new) P
  seconds_kept old new P same le each = subst (λ (l : List (Rig X F)). OfFirsts (drop 1 old) l P) (sym same) (seconds_same old P le each)

  seconds_of : (old new rest after more : List (Rig X F)) (q r p s : Rig X F) (P : Rig X F → Rig X F → Type 0) → old ≡ q ∷ r ∷ more → new ≡ p ∷ s ∷ after
      → P r s → OfFirsts (drop 1 old) (drop 1 new) P
  seconds_of old new rest after more q r p s P was is h =
      firsts_of (drop 1 old) (drop 1 new) more after r s P (behind old (r ∷ more) q was) (behind new (s ∷ after) p is) h

  -- a match was played with the first rig
  pub one_played : (asked : Asked) (held : Option (List File)) (setup : Setup) (state : State) (made : Result Answer Stop) (r s : Rig X F)
      (rest : List (Rig X F)) (old new : Vec (Rig X F) Global)
      → AreEightBy meaning old.items → old.items ≡ r ∷ rest → new.items ≡ s ∷ rest → vec_capacity new ≡ vec_capacity old → clients asked ≡ 1
      → (IsUnplayed (status_made made) → ⊥)
      → HasPlayedBy meaning setup state made r s → IfSome held (λ files. OnOk made (RigStands files (Some asked) (systems_by r meaning) (systems_by s meaning)))
      → RigsCameBackBy meaning (Some asked) held (status_made made) old new
  one_played asked held setup state made r s rest old new eight was is room one ended played stands =
      let some : 1 < length old.items = omega (arith, eight.count) in
      let others : drop 1 new.items ≡ drop 1 old.items = behind new.items rest s is ∙ sym (behind old.items rest r was) in
      record {
        stands = told_ended held made (λ files. OfFirsts old.items new.items (Stands files (Some asked)))
            (on_told held made (λ files. Stands files (Some asked) r s) (λ files. OfFirsts old.items new.items (Stands files (Some asked)))
            (λ files h. firsts_of old.items new.items rest rest r s (Stands files (Some asked)) was is h) stands);
        joins = told_any held (λ files. HasEnded (status_made made) → OfFirsts (drop 1 old.items) (drop 1 new.items) (Joins files (Some asked)))
            (λ files done. seconds_kept old.items new.items (Joins files (Some asked)) others some
            (λ q. idle_second files (Some asked) (systems_by q meaning) (omega (arith, one))));
        hosted = told_any held (λ files. HasEnded (status_made made)
            → OfSession files (Some asked) (λ setup list. IsHostedBy meaning setup list old.items new.items))
            (λ files done. idle_session files (Some asked) (λ setup list. IsHostedBy meaning setup list old.items new.items) (omega (arith, one)));
        recorded = told_any held (λ files. HasEnded (status_made made) → OfRecord files (Some asked) (λ setup list. IsRecordedBy meaning setup list new.items))
            (λ files done. idle_record files (Some asked) (λ setup list. IsRecordedBy meaning setup list new.items) (omega (arith, one)));
        most = λ none. firsts_of old.items new.items rest rest r s Once was is played.most;
        joined = λ none. seconds_kept old.items new.items Once others some once_same;
        session = idle_rigs held (Some asked) old.items new.items (omega (arith, one));
        unplayed = λ none. absurd (ended none);
        rest = subst (λ (n : ℕ). drop n new.items ≡ drop n old.items) (sym one) others;
        kinds = kinds_with new.items rest s is played.kinds (kinds_of_rest old.items rest r was eight.kinds);
        count = ap length is ∙ sym (ap length was);
        room = room;
      }

  pub first_played : (asked : Asked) (held : Option (List File)) (setup : Setup) (state : State) (wanted : Outcome) (made : Result Answer Stop) (r s : Rig X F)
      (rest : List (Rig X F)) (old new : Vec (Rig X F) Global)
      → AreEightBy meaning old.items → old.items ≡ r ∷ rest → new.items ≡ s ∷ rest → vec_capacity new ≡ vec_capacity old → clients asked ≡ 1
      → IsMade wanted made → HasEnded wanted.status
      → HasPlayedBy meaning setup state made r s → IfSome held (λ files. OnOk made (RigStands files (Some asked) (systems_by r meaning) (systems_by s meaning)))
      → RigsCameBackBy meaning (Some asked) held (status_made made) old new
  first_played asked held setup state wanted made r s rest old new eight was is room one m ended played stands =
      one_played asked held setup state made r s rest old new eight was is room one (was_played wanted made m ended) played stands

  -- ---- a second client joined with the second rig

  twice_behind : (old : List (Rig X F)) (q r : Rig X F) (rest : List (Rig X F)) → old ≡ q ∷ r ∷ rest → drop 2 old ≡ rest
  twice_behind old q r rest is = ap (drop 2) is

  pub both_played : (asked : Asked) (held : Option (List File)) (setup : Setup) (state : State) (wanted : Outcome) (made : Result Answer Stop)
      (q r p s : Rig X F) (rest : List (Rig X F))
      (old new : Vec (Rig X F) Global) → AreEightBy meaning old.items → old.items ≡ q ∷ r ∷ rest → new.items ≡ p ∷ s ∷ rest
      → vec_capacity new ≡ vec_capacity old → clients asked ≡ 2
      → IsMade wanted made → HasEnded wanted.status → HasPlayedBy meaning setup state made q p → HasPlayedBy meaning setup state made r s
      → IfSome held (λ files. OnOk made (RigStands files (Some asked) (systems_by q meaning) (systems_by p meaning)))
      → IfSome held (λ files. OnOk made (SecondStands files (Some asked) (systems_by s meaning)))
      → RigsCameBackBy meaning (Some asked) held (status_made made) old new
  both_played asked held setup state wanted made q r p s rest old new eight was is room two m ended first second stands joins =
      record {
        stands = told_ended held made (λ files. OfFirsts old.items new.items (Stands files (Some asked)))
            (on_told held made (λ files. Stands files (Some asked) q p) (λ files. OfFirsts old.items new.items (Stands files (Some asked)))
            (λ files h. firsts_of old.items new.items (r ∷ rest) (s ∷ rest) q p (Stands files (Some asked)) was is h) stands);
        joins = told_ended held made (λ files. OfFirsts (drop 1 old.items) (drop 1 new.items) (Joins files (Some asked)))
            (on_told held made (λ files. Joins files (Some asked) r s) (λ files. OfFirsts (drop 1 old.items) (drop 1 new.items) (Joins files (Some asked)))
            (λ files h. seconds_of old.items new.items rest rest rest q r p s (Joins files (Some asked)) was is h) joins);
        hosted = told_any held (λ files. HasEnded (status_made made)
            → OfSession files (Some asked) (λ setup list. IsHostedBy meaning setup list old.items new.items))
            (λ files done. idle_session files (Some asked) (λ setup list. IsHostedBy meaning setup list old.items new.items) (omega (arith, two)));
        recorded = told_any held (λ files. HasEnded (status_made made) → OfRecord files (Some asked) (λ setup list. IsRecordedBy meaning setup list new.items))
            (λ files done. idle_record files (Some asked) (λ setup list. IsRecordedBy meaning setup list new.items) (omega (arith, two)));
        most = λ none. firsts_of old.items new.items (r ∷ rest) (s ∷ rest) q p Once was is first.most;
        joined = λ none. seconds_of old.items new.items rest rest rest q r p s Once was is second.most;
        session = idle_rigs held (Some asked) old.items new.items (omega (arith, two));
        unplayed = λ none. absurd (was_played wanted made m ended none);
        rest = subst (λ (n : ℕ). drop n new.items ≡ drop n old.items) (sym two) (twice_behind new.items p s rest is ∙
            sym (twice_behind old.items q r rest was));
        kinds = kinds_with new.items (s ∷ rest) p is first.kinds (All-cons (λ r. HaveKinds (systems_by r meaning)) s rest second.kinds
            (kinds_of_rest (r ∷ rest) rest r refl (kinds_of_rest old.items (r ∷ rest) q was eight.kinds)));
        count = ap length is ∙ sym (ap length was);
        room = room;
      }

  -- ---- a session was run with all of them

  any_firsts : (old new : List (Rig X F)) → 0 < length old → 0 < length new → OfFirsts old new (λ r s. Unit {0})
  any_firsts [] new le more = absurd (omega (arith, le))
  any_firsts (r ∷ old) [] le more = absurd (omega (arith, more))
  any_firsts (r ∷ old) (s ∷ new) le more = tt

  any_seconds : (old new : List (Rig X F)) → 1 < length old → 1 < length new → OfFirsts (drop 1 old) (drop 1 new) (λ r s. Unit {0})
  any_seconds [] new le more = absurd (omega (arith, le))
  any_seconds (r ∷ old) [] le more = absurd (omega (arith, more))
  any_seconds (r ∷ old) (s ∷ new) le more = any_firsts old new (omega (arith, le)) (omega (arith, more))

  none_left : (rigs : List (Rig X F)) → length rigs ≡ 8 → drop 8 rigs ≡ []
  none_left rigs eight = drop_of_length-le rigs {i = 8} (omega (arith, eight))

  pub session_played : (held : Option (List File)) (game steps : List ℕ) (setup : Setup) (list : StepList) (wanted : Outcome) (made : Result Answer Stop)
      (old new : Vec (Rig X F) Global)
      → IsSetup setup → IsStepList setup.players list → IfSome held (λ files. session_match_in files game ≡ Ok setup)
      → IfSome held (λ files. steps_in files steps setup.players ≡ Ok list)
      → IsMade wanted made → HasEnded wanted.status → OnOk made (AllStand setup (session_of setup list) (rigs_by new.items meaning))
      → AllBuiltAtMost (builds_of setup list) setup.players (rigs_by old.items meaning) (rigs_by new.items meaning) → drop setup.players new.items ≡
      drop setup.players old.items
      → AreEightBy meaning old.items → AreEightBy meaning new.items → vec_capacity new ≡ vec_capacity old
      → RigsCameBackBy meaning (Some (to_session game steps)) held (status_made made) old new
  session_played held game steps setup list wanted made old new limits within read listed m ended stand built spare was is room =
      record {
        stands = told_any held (λ files. HasEnded (status_made made) → OfFirsts old.items new.items (Stands files (Some (to_session game steps))))
            (λ files done. any_firsts old.items new.items (omega (arith, was.count)) (omega (arith, is.count)));
        joins = told_any held (λ files. HasEnded (status_made made) → OfFirsts (drop 1 old.items) (drop 1 new.items)
            (Joins files (Some (to_session game steps))))
            (λ files done. any_seconds old.items new.items (omega (arith, was.count)) (omega (arith, is.count)));
        hosted = told_ended held made
            (λ files. OfSession files (Some (to_session game steps)) (λ setup list. IsHostedBy meaning setup list old.items new.items))
            (hosts held read listed);
        recorded = told_any held (λ files. HasEnded (status_made made) → Unit {0}) (λ files done. tt);
        most = λ none. absurd (false≢true (sym none));
        joined = λ none. absurd (false≢true (sym none));
        session = inr (record { setup = setup; list = list; read = read; listed = listed; limits = limits; within = within; built = built; spare = spare });
        unplayed = λ none. absurd (was_played wanted made m ended none);
        rest = none_left new.items is.count ∙ sym (none_left old.items was.count);
        kinds = is.kinds;
        count = is.count ∙ sym was.count;
        room = room;
      }
    where
      hosted_by : OnOk made (IsHostedBy meaning setup list old.items new.items)
      hosted_by = by made stand
        where
          by : (made : Result Answer Stop) → OnOk made (AllStand setup (session_of setup list) (rigs_by new.items meaning))
              → OnOk made (IsHostedBy meaning setup list old.items new.items)
          by (Ok answer) h = record { limits = limits; steps = within; stand = h; built = built; spare = spare }
          by (Err stop) h = tt

      hosts : (held : Option (List File)) → IfSome held (λ files. session_match_in files game ≡ Ok setup)
          → IfSome held (λ files. steps_in files steps setup.players ≡ Ok list)
          → IfSome held (λ files. OnOk made (OfSession files (Some (to_session game steps)) (λ setup list. IsHostedBy meaning setup list old.items new.items)))
      hosts None e l = tt
      hosts (Some files) e l = by made hosted_by
        where
          by : (made : Result Answer Stop) → OnOk made (IsHostedBy meaning setup list old.items new.items)
              → OnOk made (OfSession files (Some (to_session game steps)) (λ setup list. IsHostedBy meaning setup list old.items new.items))
          by (Ok answer) h =
              subst (λ (r : Result Setup Outcome). IfOk r
              (λ setup. IfOk (steps_in files steps setup.players) (λ list. IsHostedBy meaning setup list old.items new.items))) (sym e)
              (subst (λ (r : Result StepList Outcome). IfOk r (λ list. IsHostedBy meaning setup list old.items new.items)) (sym l) h)
          by (Err stop) h = tt

  -- ---- and one that is recorded

  pub record_played : (held : Option (List File)) (game steps out : List ℕ) (setup : Setup) (list : StepList) (wanted : Outcome) (made : Result Answer Stop)
      (old new : Vec (Rig X F) Global)
      → IsSetup setup → IsStepList setup.players list → IfSome held (λ files. session_match_in files game ≡ Ok setup)
      → IfSome held (λ files. steps_in files steps setup.players ≡ Ok list)
      → IsMade wanted made → HasEnded wanted.status → OnOk made (IsRecordedBy meaning setup list new.items)
      → AllBuiltAtMost (builds_with_log setup list) setup.players (rigs_by old.items meaning) (rigs_by new.items meaning) → drop setup.players new.items ≡
      drop setup.players old.items
      → AreEightBy meaning old.items → AreEightBy meaning new.items → vec_capacity new ≡ vec_capacity old
      → RigsCameBackBy meaning (Some (to_record game steps out)) held (status_made made) old new
  record_played held game steps out setup list wanted made old new limits within read listed m ended recorded built spare was is room =
      record {
        stands = told_any held (λ files. HasEnded (status_made made) → OfFirsts old.items new.items (Stands files (Some (to_record game steps out))))
            (λ files done. any_firsts old.items new.items (omega (arith, was.count)) (omega (arith, is.count)));
        joins = told_any held (λ files. HasEnded (status_made made) → OfFirsts (drop 1 old.items) (drop 1 new.items)
            (Joins files (Some (to_record game steps out))))
            (λ files done. any_seconds old.items new.items (omega (arith, was.count)) (omega (arith, is.count)));
        hosted = told_any held (λ files. HasEnded (status_made made) → Unit {0}) (λ files done. tt);
        recorded = told_ended held made (λ files. OfRecord files (Some (to_record game steps out)) (λ setup list. IsRecordedBy meaning setup list new.items))
            (records held read listed);
        most = λ none. absurd (false≢true (sym none));
        joined = λ none. absurd (false≢true (sym none));
        session = inr (record { setup = setup; list = list; read = read; listed = listed; limits = limits; within = within; built = built; spare = spare });
        unplayed = λ none. absurd (was_played wanted made m ended none);
        rest = none_left new.items is.count ∙ sym (none_left old.items was.count);
        kinds = is.kinds;
        count = is.count ∙ sym was.count;
        room = room;
      }
    where
      records : (held : Option (List File)) → IfSome held (λ files. session_match_in files game ≡ Ok setup)
          → IfSome held (λ files. steps_in files steps setup.players ≡ Ok list)
          → IfSome held (λ files. OnOk made (OfRecord files (Some (to_record game steps out)) (λ setup list. IsRecordedBy meaning setup list new.items)))
      records None e l = tt
      records (Some files) e l = by made recorded
        where
          by : (made : Result Answer Stop) → OnOk made (IsRecordedBy meaning setup list new.items)
              → OnOk made (OfRecord files (Some (to_record game steps out)) (λ setup list. IsRecordedBy meaning setup list new.items))
          by (Ok answer) h =
              subst (λ (r : Result Setup Outcome). IfOk r
              (λ setup. IfOk (steps_in files steps setup.players) (λ list. IsRecordedBy meaning setup list new.items))) (sym e)
              (subst (λ (r : Result StepList Outcome). IfOk r (λ list. IsRecordedBy meaning setup list new.items)) (sym l) h)
          by (Err stop) h = tt

  -- ---- a later status

  pub rigs_later : (asked : Option Asked) (held : Option (List File)) (first last : Status) (old new : Vec (Rig X F) Global) → (IsSettled last → last ≡ first)
      → RigsCameBackBy meaning asked held first old new → RigsCameBackBy meaning asked held last old new
  rigs_later asked held first last old new settled back =
      record {
        stands = later held (λ files. OfFirsts old.items new.items (Stands files asked)) back.stands;
        joins = later held (λ files. OfFirsts (drop 1 old.items) (drop 1 new.items) (Joins files asked)) back.joins;
        hosted = later held (λ files. OfSession files asked (λ setup list. IsHostedBy meaning setup list old.items new.items)) back.hosted;
        recorded = later held (λ files. OfRecord files asked (λ setup list. IsRecordedBy meaning setup list new.items)) back.recorded;
        most = back.most;
        joined = back.joined;
        session = back.session;
        unplayed = λ none. back.unplayed (subst IsUnplayed (settled (unplayed_settled last none)) none);
        rest = back.rest;
        kinds = back.kinds;
        count = back.count;
        room = back.room;
      }
    where
      later : (held : Option (List File)) (P : List File → Type 0) → IfSome held (λ files. HasEnded first → P files)
          → IfSome held (λ files. HasEnded last → P files)
      later None P h = tt
      later (Some files) P h = λ ended. h (subst HasEnded (settled (ended_settled last ended)) ended)

-- A session that is recorded: its match and its steps were read and it was run and its log made, or one of them could not be read; the
-- turns that it released are turns of the match; and what has become of the rigs with which it was run, the first of which plays the log.
use Rattle.{sim_client.specs.StageWords.{AreCleared, nowhere}, sim_laws.specs.TurnLaws.IsOrderOf}
use Rattle.sim_session.{proofs.Builds.{never_built, once_built}, specs.{Going.rigs_by, Laws.{AllBuiltAtMost, AreBuiltAtMost}, Recording.released_turns}}
use Rattle.{sim_session_laws.proofs.CutSteps.holds_session, sim_system.specs.{declared.rig.Rig.Rig, Meanings.Meaning}}
use Rattle.sim_top.proofs.{Answering.{both_causes, both_given, both_same, both_told, comes_to, list_ends_at, match_there, Opens}, Common.{All, Answer, ap}}
use Rattle.sim_top.proofs.Common.{AreFed, arith, codes, drop, Err, File, IfOk, IfSome, IsAnswerTo, IsMade, IsOfList, IsOutcomeOf, IsReading, IsStepList, length}
use Rattle.sim_top.proofs.Common.{List, log_after, logged_as, map, Ok, OnOk, Outcome, refl, Result, session_match_in, session_of, Setup, Shelved, Some, State}
use Rattle.sim_top.proofs.Common.{state_after, StepList, steps_in, Stop, Stopped, subst, suc, sym, systems_by, Then, to_record, ℕ, [], ◌∙◌, ◌∷◌, ◌≡◌, ◌≤◌}
use Rattle.sim_top.{proofs.Stopping.{Stopped-weaker, Then-ended, Then-read, Told-both}, specs.{Outcome.IsRecordedBy, Stops.{HasPlayedBy, OfFirsts}}}
use Rattle.std.proofs.{Common.{zero, ◌-◌}, lemmas.List.{drop-map, Elements.{All-drop, All-map}, FromFn.length-map-range_with_len}, Math.Seq.drop-nil}
use Rattle.std.specs.{List.range_with_len, Prelude.{if◌then◌else◌, slice_index_or, ◌==◌}}

module _ (game steps out : List ℕ) where
  -- what comes of the steps
  abbrev recorded : Setup → StepList → Outcome
  recorded setup list = logged_as (codes "record") setup out (log_after setup (released_turns (session_of setup list)))

  abbrev of_steps : Setup → StepList → Outcome → Type 0
  of_steps setup list wanted = wanted ≡ recorded setup list

  abbrev stepped : List File → Setup → Outcome → Type 0
  stepped files setup wanted = Then (steps_in files steps setup.players) (of_steps setup) wanted

  pub record_opens : Opens (to_record game steps out) game (λ files. session_match_in files game)
  record_opens = record {
    fails = λ files o e. Then-ended (session_match_in files game) (stepped files) o e;
    first = λ files. refl;
    lacks = λ files h. h;
    reads = refl;
    has = refl;
  }

  module _ (setup : Setup) (before middle now : Shelved) (one : IsReading game (Ok setup) before middle)
      (told : IfSome before.held (λ files. session_match_in files game ≡ Ok setup)) where
    -- the steps could not be read
    pub record_ends : (stop : Stop) → IsOfList stop → IsReading {X = StepList} steps (Err stop) middle now
        → IfSome middle.held (λ files. Stopped stop (λ ended. steps_in files steps setup.players ≡ Err ended))
        → IsAnswerTo (to_record game steps out) (Err stop) before now
    record_ends stop of two listed =
        list_ends_at (to_record game steps out) stop before now refl refl of
        (Told-both (λ files. session_match_in files game ≡ Ok setup) (λ files. Stopped stop (λ ended. steps_in files steps setup.players ≡ Err ended))
        (λ files. Stopped stop (IsOutcomeOf files (Some (to_record game steps out)))) before.held
        (λ files e h. Stopped-weaker stop (λ ended. steps_in files steps setup.players ≡ Err ended) (IsOutcomeOf files (Some (to_record game steps out)))
        (λ o ended. Then-read (session_match_in files game) setup (stepped files) o e
        (Then-ended (steps_in files steps setup.players) (of_steps setup) o ended)) h)
        told (both_told game steps setup (Err stop) before middle now one two (λ files. Stopped stop (λ ended. steps_in files steps setup.players ≡ Err ended))
        listed))
        (both_causes game steps setup (Err stop) before middle now one two)
        (λ files e lacks. absurd
        (match_there (to_record game steps out) game (λ files. session_match_in files game) setup before middle record_opens one files e
        lacks))
        (λ files e. both_given game steps setup (Err stop) before middle now one two files e)
        (both_same game steps setup (Err stop) before middle now one two)

    -- they were read, and the session is run
    pub record_goes_on : (list : StepList) (made : Result Answer Stop) → IsReading steps (Ok list) middle now
        → IfSome middle.held (λ files. steps_in files steps setup.players ≡ Ok list)
        → IsMade (recorded setup list) made → IsAnswerTo (to_record game steps out) made before now
    record_goes_on list made two listed m =
        comes_to (to_record game steps out) (recorded setup list) made before now m (record { status = tt; done = tt; file = refl })
        (Told-both (λ files. session_match_in files game ≡ Ok setup) (λ files. steps_in files steps setup.players ≡ Ok list)
        (λ files. IsOutcomeOf files (Some (to_record game steps out)) (recorded setup list)) before.held
        (λ files e s. Then-read (session_match_in files game) setup (stepped files) (recorded setup list) e
        (Then-read (steps_in files steps setup.players) list (of_steps setup) (recorded setup list) s refl))
        told (both_told game steps setup (Ok list) before middle now one two (λ files. steps_in files steps setup.players ≡ Ok list) listed))
        (match_there (to_record game steps out) game (λ files. session_match_in files game) setup before middle record_opens one)
        (both_causes game steps setup (Ok list) before middle now one two)
        (both_given game steps setup (Ok list) before middle now one two)
        (both_same game steps setup (Ok list) before middle now one two)

-- ---- the turns

-- a session releases no more turns than its match has
pub few_released : (setup : Setup) (list : StepList) → IsStepList setup.players list → length (released_turns (session_of setup list)) ≤ setup.turns
few_released setup list within =
    let s = session_of setup list in
    omega (arith, length-map-range_with_len s.server.kept 1 s.server.released, (holds_session setup list.clients list.steps within.clients.1).server.released)

-- and each of their commands is of a player
pub released_players : (setup : Setup) (list : StepList) → IsStepList setup.players list
    → All (All (IsOrderOf setup)) (released_turns (session_of setup list))
released_players setup list within =
    let s = session_of setup list in
    All-map (All (IsOrderOf setup)) s.server.kept (range_with_len 1 s.server.released)
    (λ k d lt. (holds_session setup list.clients list.steps within.clients.1).server.players _)

-- ---- the rigs

drop_one : {A : Type 0} (n : ℕ) (xs : List A) → drop (suc n) xs ≡ drop n (drop 1 xs)
drop_one n [] = sym (drop-nil n)
drop_one n (x ∷ xs) = refl

-- what is behind more than the first stayed too
pub behind_first : {A : Type 0} (n : ℕ) (old new : List A) → 1 ≤ n → drop 1 new ≡ drop 1 old → drop n new ≡ drop n old
behind_first zero old new low same = absurd (omega (arith, low))
behind_first (suc n) old new low same = drop_one n new ∙ ap (drop n) same ∙ sym (drop_one n old)

module _ {X : Type 0} {F : X → Type 0} (meaning : (i : X) → F i → Meaning) where
  -- the others are cleared as they were
  pub others_cleared : (old new : List (Rig X F)) → drop 1 new ≡ drop 1 old → All AreCleared (rigs_by old meaning)
      → All AreCleared (drop 1 (rigs_by new meaning))
  others_cleared old new same all =
      let f : Rig X F → _ = λ r. systems_by r meaning in
      let behind : All AreCleared (map f (drop 1 old)) = subst (All AreCleared) (drop-map f 1 old) (All-drop AreCleared 1 (map f old) all) in
      subst (All AreCleared) (sym (drop-map f 1 new)) (subst (λ (rigs : List (Rig X F)). All AreCleared (map f rigs)) (sym same) behind)

  module _ (setup : Setup) (state : State) (made : Result Answer Stop) where
    -- the first stands for the last state of the log
    pub first_stands : (old new : List (Rig X F)) → OfFirsts old new (HasPlayedBy meaning setup state made)
        → OnOk made (AreFed setup state (slice_index_or (rigs_by new meaning) 0 nowhere))
    first_stands [] new h = absurd h
    first_stands (r ∷ old) [] h = absurd h
    first_stands (r ∷ old) (s ∷ new) h = h.fed

    -- it was built once at most, and no other
    pub first_built : (players : ℕ) (old new : List (Rig X F)) → OfFirsts old new (HasPlayedBy meaning setup state made) → drop 1 new ≡ drop 1 old
        → AllBuiltAtMost (λ c. if c == 1 then 1 else 0) players (rigs_by old meaning) (rigs_by new meaning)
    first_built players [] new h same = absurd h
    first_built players (r ∷ old) [] h same = absurd h
    first_built players (r ∷ old) (s ∷ new) h same = each
      where
        each : AllBuiltAtMost (λ c. if c == 1 then 1 else 0) players (rigs_by (r ∷ old) meaning) (rigs_by (s ∷ new) meaning)
        each zero low high = absurd (omega (arith, low))
        each (suc zero) low high = once_built 1 (systems_by r meaning) (systems_by s meaning) (omega arith) h.most
        each (suc (suc c)) low high =
            let at : suc (suc c) - 1 ≡ suc c = omega arith in
            subst (λ (k : ℕ). AreBuiltAtMost (if suc (suc c) == 1 then 1 else 0) (slice_index_or (rigs_by (r ∷ old) meaning) k nowhere)
            (slice_index_or (rigs_by (s ∷ new) meaning) k nowhere)) (sym at)
            (never_built (if suc (suc c) == 1 then 1 else 0) (slice_index_or (rigs_by old meaning) c nowhere) (slice_index_or (rigs_by new meaning) c nowhere)
            (ap (λ (rigs : List (Rig X F)). slice_index_or (rigs_by rigs meaning) c nowhere) same))

  -- a session whose turns the first played was recorded
  pub recorded_so : (setup : Setup) (list : StepList) (made : Result Answer Stop) (old new : List (Rig X F))
      → OfFirsts old new (HasPlayedBy meaning setup (state_after setup (released_turns (session_of setup list))) made) → drop 1 new ≡ drop 1 old
      → All AreCleared (rigs_by old meaning) → OnOk made (IsRecordedBy meaning setup list new)
  recorded_so setup list made old new played same all =
      by made (first_stands setup (state_after setup (released_turns (session_of setup list))) made old new played)
    where
      by : (r : Result Answer Stop)
          → OnOk r (AreFed setup (state_after setup (released_turns (session_of setup list))) (slice_index_or (rigs_by new meaning) 0 nowhere))
          → OnOk r (IsRecordedBy meaning setup list new)
      by (Ok answer) h = record { first = h; others = others_cleared old new same all }
      by (Err stop) h = tt

-- what was read is what it was read as
pub of_ok : {X E : Type 0} (r : Result X E) (x : X) (P : X → Type 0) → r ≡ Ok x → IfOk r P → P x
of_ok {X} {E} r x P is h = subst (λ (q : Result X E). IfOk q P) is h

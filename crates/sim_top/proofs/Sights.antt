-- What the sink was told of what the players see, and the file of explored cells, in the words of the rules.
use Rattle.sim_codec.specs.declared.fault.StateFault.TheVariants as stored
use Rattle.sim_store.specs.declared.fault.StoreFault.TheVariants as store
use Rattle.sim_top.proofs.Common.{IsDone, IsOutcomeOf, IsResighted, IsStored, List, lt-ltb, ltb, map_at, map_by, match_in, Meets, None, NoSuchTurn, Ok, Option}
use Rattle.sim_top.proofs.Common.{Outcome, printed, reading_of, refl, refusal_of, refusal_text, resight_text, Result, Scene, Setup, sight_outcome, SightFault}
use Rattle.sim_top.proofs.Common.{Some, State, state_by, StateFault, Status, subst, sym, TellsSights, Then, ThenStored, to_resight, to_sight, Turn, ℕ, ◌<◌, ◌∙◌}
use Rattle.sim_top.proofs.Common.{ap, Asked, asked_by, bytes_by, bytes_in, cases_lt, cond-true, Differs, Done, Err, File, file_in, HasEnded, IfOk, inl, inr}
use Rattle.sim_top.proofs.{Common.◌≡◌, Common.◌≤◌, Common.◌⊎◌, Sighting.sight_done, Sighting.taken_is}
use Rattle.{sim_store.specs.declared.fault.StoreFault.StoreFault, sim_top.specs.Headline.Resights, sim_top.specs.Headline.Sights}

-- an outcome that ends a command before is none with which it came to its end
pub no_end : (wanted other : Outcome) → wanted ≡ other → HasEnded wanted.status → HasEnded other.status
no_end wanted other is ended = subst (λ (o : Outcome). HasEnded o.status) is ended

-- a file, or an outcome with which no command came to its end
abbrev NoEnd : Result (List ℕ) Outcome → Type 0
NoEnd (Ok bytes) = Unit {0}
NoEnd (Err o) = HasEnded o.status → ⊥

unread : (r : Result (List ℕ) StoreFault) → NoEnd (bytes_by r)
unread (Ok bytes) = tt
unread (Err store.NoFile) = λ ended. ended
unread (Err store.TooLong) = λ ended. ended
unread (Err store.ReadFault) = λ ended. ended
unread (Err store.WriteFault) = λ ended. ended
unread (Err store.OutOfMemory) = λ ended. ended

bytes_end : (r : Result (List ℕ) StoreFault) (o : Outcome) → bytes_by r ≡ Err o → HasEnded o.status → ⊥
bytes_end r o is ended = subst NoEnd is (unread r) ended

pub file_end : (files : List File) (name : List ℕ) (o : Outcome) → bytes_in files name ≡ Err o → HasEnded o.status → ⊥
unfolding bytes_in
file_end files name o is ended = bytes_end (reading_of (file_in files name)) o is ended

untaken : (refusal : Option SightFault) (bytes : List ℕ) → NoEnd (map_by refusal bytes)
untaken None bytes = tt
untaken (Some fault) bytes = λ ended. ended

map_end : (refusal : Option SightFault) (bytes : List ℕ) (o : Outcome) → map_by refusal bytes ≡ Err o → HasEnded o.status → ⊥
map_end refusal bytes o is ended = subst NoEnd is (untaken refusal bytes) ended

-- ---- a turn of a match

seen_so : (setup : Setup) (turn : ℕ) (out : List ℕ) (wanted : Outcome) (before now : Scene) → wanted ≡ sight_outcome setup turn out →
    HasEnded wanted.status → IsDone wanted before now → Sights setup turn out before now
seen_so setup turn out wanted before now is ended done = by (cases_lt setup.turns turn)
  where
    by : (setup.turns < turn) ⊎ (turn ≤ setup.turns) → Sights setup turn out before now
    by (inl past) =
        let none : wanted ≡ printed NoSuchTurn (refusal_text (Turn turn setup.turns)) = is ∙ cond-true (ltb setup.turns turn) _ _ (lt-ltb _ _ past) in
        absurd (no_end wanted (printed NoSuchTurn (refusal_text (Turn turn setup.turns))) none ended)
    by (inr le) =
        let all = subst (λ (o : Outcome). IsDone o before now) (is ∙ sym (sight_done setup turn out le)) done in
        record { text = all.text; file = all.files }

-- ---- from a stored state on

module _ (files : List File) (setup : Setup) (name file : List ℕ) (wanted : Outcome) (before now : Scene) (ended : HasEnded wanted.status)
    (done : IsDone wanted before now) where
  -- the explored cells were taken over
  of_map : (state : State) (bytes : List ℕ) → bytes_in files name ≡ Ok bytes → IsStored setup bytes (Ok state) → (taken : Result (List ℕ) Outcome) →
      map_at setup state (bytes_in files file) ≡ taken
      → Then taken (λ explored wanted. wanted ≡ printed Done (resight_text setup state explored)) wanted → Resights files setup name file before now
  of_map state bytes read stands (Ok explored) is told =
      let of = taken_is setup state (bytes_in files file) explored is in
      let all = subst (λ (o : Outcome). IsDone o before now) told done in
      record {
        state = state;
        explored = explored;
        stored = record { bytes = bytes; read = read; stored = stands };
        read = of.0;
        taken = of.1;
        text = all.text;
      }
  of_map state bytes read stands (Err o) is told = absurd (by (bytes_in files file) refl is)
    where
      stopped : HasEnded o.status
      stopped = no_end wanted o told ended

      by : (r : Result (List ℕ) Outcome) → bytes_in files file ≡ r → map_at setup state r ≡ Err o → ⊥
      by (Ok explored) e is = map_end (refusal_of setup state.rows explored) explored o is stopped
      by (Err other) e is = file_end files file o (e ∙ is) stopped

  of_state : (bytes : List ℕ) → bytes_in files name ≡ Ok bytes → ThenStored setup name bytes
      (λ state. IsResighted setup state (bytes_in files file)) wanted → Resights files setup name file before now
  of_state bytes read h = by h.found h.stored h.goes_on
    where
      by : (found : Result State StateFault) → IsStored setup bytes found →
          Then (state_by name found) (λ state. IsResighted setup state (bytes_in files file)) wanted → Resights files setup name file before now
      by (Ok state) stands told = of_map state bytes read stands (map_at setup state (bytes_in files file)) refl told
      by (Err fault) stands told = absurd (no_end wanted _ told ended)

  seen_from : (r : Result (List ℕ) Outcome) → bytes_in files name ≡ r →
      Then r (λ bytes. ThenStored setup name bytes (λ state. IsResighted setup state (bytes_in files file))) wanted →
      Resights files setup name file before now
  seen_from (Ok bytes) e h = of_state bytes e h
  seen_from (Err o) e h = absurd (file_end files name o e (no_end wanted o h ended))

-- ---- the run

-- an outcome with which a command came to its end, all of which was done
of_outcome : (files : List File) (asked : Option Asked) (wanted : Outcome) (before now : Scene) → IsOutcomeOf files asked wanted → HasEnded wanted.status →
    IsDone wanted before now → TellsSights files asked before now
of_outcome files (Some (to_sight game turn out)) wanted before now is ended done = by (match_in files game) is
  where
    by : (r : Result Setup Outcome) → Then r (λ setup wanted. wanted ≡ sight_outcome setup turn out) wanted → IfOk r (λ setup. Sights setup turn out before now)
    by (Ok setup) is = seen_so setup turn out wanted before now is ended done
    by (Err o) is = tt
of_outcome files (Some (to_resight game name file)) wanted before now is ended done = by (match_in files game) is
  where
    by : (r : Result Setup Outcome) → Then r (λ setup. Then (bytes_in files name)
        (λ bytes. ThenStored setup name bytes (λ state. IsResighted setup state (bytes_in files file)))) wanted
        → IfOk r (λ setup. Resights files setup name file before now)
    by (Ok setup) is = seen_from files setup name file wanted before now ended done (bytes_in files name) refl is
    by (Err o) is = tt
of_outcome files other wanted before now is ended done = tt

-- a run that came to its end told the text of an outcome, and saved its file
pub sights_told : (status : Status) (words : List (List ℕ)) (files : List File) (before now : Scene) → Meets status words files before now →
    HasEnded status → TellsSights files (asked_by words) before now
sights_told Done words files before now (wanted, is, status, done) ended =
    of_outcome files (asked_by words) wanted before now is (subst HasEnded (sym status) ended) done
sights_told Differs words files before now (wanted, is, status, done) ended =
    of_outcome files (asked_by words) wanted before now is (subst HasEnded (sym status) ended) done
sights_told other words files before now h ended = absurd ended

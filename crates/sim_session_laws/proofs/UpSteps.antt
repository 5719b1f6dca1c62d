-- The server hears what a client says.
use Rattle.sim_plain.specs.declared.message.DownOf.TheVariants as down
use Rattle.sim_plain.specs.declared.message.UpOf.TheVariants as up
use Rattle.{sim_plain.proofs.Calm.{least_in_is, Stay, stay_put, waits_is}, sim_session_laws.proofs.Basics.{all_players_append, Fits, GoodPast, GoodUps, Holds}}
use Rattle.sim_session_laws.proofs.{Basics.{player_is, Plays, plays_begun, Sound}, Common.{AllPlayers, and_from, and_parts, ap, append-nil, arith, arrives}}
use Rattle.sim_session_laws.proofs.Common.{asked, begun, Bool, cases_eq, Command, command_fault, cond-false, cond-true, count_by, crowd_fault, done_fault}
use Rattle.sim_session_laws.proofs.Common.{donor, Down, entry_done, eq-eqb, false, Heard, heard, if◌then◌else◌, In, inl, inr, is_by, is_client, is_in, is_out}
use Rattle.sim_session_laws.proofs.Common.{IsOrderOf, Joining, keeps, kept_above, le-leb, leb-true, List, loading, nat_le, nat_lt, ne_eqb, nobody, None, Off}
use Rattle.sim_session_laws.proofs.Common.{On, Option, Out, Past, Phase, PlayerCommand, put, put_other, put_same, raised, refl, refusal, release, report_fault}
use Rattle.sim_session_laws.proofs.Common.{reported, rises, rules_of, Seat, seat, Server, Session, Setup, Some, Status, subst, suc, sym, taken, takes_state}
use Rattle.sim_session_laws.proofs.Common.{to_one, true, true≢false, turn_fault, turns_in, unless, Up, Waiting, with_status, ℕ, [], ◌&&◌, ◌++◌, ◌+◌, ◌-◌, ◌==◌}
use Rattle.sim_session_laws.proofs.{Common.{◌∙◌, ◌∷◌, ◌≡◌, ◌≤◌, ◌⊎◌}, ServerLemmas.{fits_as, fits_goes, Goes, goes_command, goes_join_again, goes_nothing}}
use Rattle.sim_session_laws.proofs.ServerLemmas.{goes_one, goes_report, goes_state, IsQuiet, quiet_asks, quiet_none, raised_bound, told_quiet, told_raised}

-- ---- what stays sound

sound_kept : (setup : Setup) (s : Server) (t : ℕ) (x : PlayerCommand) → Sound setup s → t ≤ setup.turns → IsOrderOf setup x
    → Sound setup (keeps t x s)
sound_kept setup s t x sound le client =
    record {
      released = sound.released;
      players = λ u. players u (cases_eq u t);
      inside = λ u above. put_other t (s.kept t ++ x ∷ []) s.kept u (λ e. absurd (omega arith)) ∙ sound.inside u above;
      clients = sound.clients;
    }
  where
    new : ℕ → List PlayerCommand
    new = put t (s.kept t ++ x ∷ []) s.kept

    players : (u : ℕ) → (u ≡ t) ⊎ (u ≡ t → ⊥) → AllPlayers setup (new u)
    players u (inl e) =
        subst (λ v. AllPlayers setup (new v)) (sym e)
        (subst (λ (l : List PlayerCommand). AllPlayers setup l) (sym (put_same t (s.kept t ++ x ∷ []) s.kept))
        (all_players_append setup (s.kept t) x (sound.players t) client))
    players u (inr apart) = subst (λ (l : List PlayerCommand). AllPlayers setup l) (sym (put_other t (s.kept t ++ x ∷ []) s.kept u apart)) (sound.players u)

pub sound_status : (setup : Setup) (s : Server) (c : ℕ) (st : Status) → Sound setup s → is_client setup c ≡ true → Sound setup (with_status c st s)
sound_status setup s c st sound client =
    record {
      released = sound.released;
      players = sound.players;
      inside = sound.inside;
      clients = λ d none. put_other c st s.status d (λ e. absurd (true≢false (sym client ∙ subst (λ x. is_client setup x ≡ false) e none))) ∙
          sound.clients d none;
    }

pub in_high : (setup : Setup) (s : Server) (done : ℕ) (ph : Phase) (ups : List Up) (downs : List Down) → Fits setup s (In done) ph ups downs
    → done ≤ setup.turns
in_high setup s done Off ups downs h = absurd h
in_high setup s done Joining ups downs h = h.soon.high
in_high setup s done (On o) ups downs h = h.high

pub sound_raised : (setup : Setup) (s : Server) → Sound setup s → ((d done : ℕ) → s.status d ≡ In done → done ≤ setup.turns)
    → Sound setup (raised (rules_of setup) s)
sound_raised setup s sound h =
    record {
      released = raised_bound s.status setup.players s.released setup.turns sound.released h;
      players = sound.players;
      inside = sound.inside;
      clients = sound.clients;
    }

-- ---- a client that plays is heard

-- its pipe without the first message, where that is no `up.Done`
heard_up : (setup : Setup) (r : ℕ) (k : ℕ → List PlayerCommand) (done done' : ℕ) (o : Seat) (ups rest : List Up) (downs : List Down) → r ≤ done'
    → done' ≤ setup.turns → GoodUps setup r k done' o.done rest → Plays setup r k done o ups downs → Plays setup r k done' o rest downs
heard_up setup r k done done' o ups rest downs low high good p =
    record {
      low = low;
      high = high;
      past = p.past;
      behind = p.behind;
      known_release = p.known_release;
      said = good;
      pipe = p.pipe;
      players = p.players;
      commands = p.commands;
    }

-- all that a session is but for its server and what it posts
abbrev pub Each : Setup → Server → (ℕ → Phase) → (ℕ → List Up) → (ℕ → List Down) → Type 0
Each setup s client ups downs = (d : ℕ) → Fits setup s (s.status d) (client d) (ups d) (downs d)

-- one up pipe changed
each_popped : (setup : Setup) (s : Server) (client : ℕ → Phase) (ups : ℕ → List Up) (downs : ℕ → List Down) (c : ℕ) (rest : List Up)
    → Each setup s client ups downs → Fits setup s (s.status c) (client c) rest (downs c) → Each setup s client (put c rest ups) downs
each_popped setup s client ups downs c rest each own d = by (cases_eq d c)
  where
    by : (d ≡ c) ⊎ (d ≡ c → ⊥) → Fits setup s (s.status d) (client d) (put c rest ups d) (downs d)
    by (inl e) = subst (λ z. Fits setup s (s.status z) (client z) (put c rest ups z) (downs z)) (sym e)
        (fits_as setup s _ _ _ _ _ _ _ _ refl refl (sym (put_same c rest ups)) refl own)
    by (inr apart) = fits_as setup s _ _ _ _ _ _ _ _ refl refl (sym (put_other c rest ups d apart)) refl (each d)

-- one status and one up pipe changed, and nobody waits for that client unless it is In afterwards
each_status : (setup : Setup) (s : Server) (client : ℕ → Phase) (ups : ℕ → List Up) (downs : ℕ → List Down) (c : ℕ) (st : Status) (rest : List Up)
    → (is_in (s.status c) ≡ true → is_in st ≡ true) → Each setup s client ups downs → Fits setup (with_status c st s) st (client c) rest (downs c)
    → Each setup (with_status c st s) client (put c rest ups) downs
each_status setup s client ups downs c st rest stays each own d = by (cases_eq d c)
  where
    s' : Server
    s' = with_status c st s

    by : (d ≡ c) ⊎ (d ≡ c → ⊥) → Fits setup s' (s'.status d) (client d) (put c rest ups d) (downs d)
    by (inl e) = subst (λ z. Fits setup s' (s'.status z) (client z) (put c rest ups z) (downs z)) (sym e)
        (fits_as setup s' _ _ _ _ _ _ _ _ (sym (put_same c st s.status)) refl (sym (put_same c rest ups)) refl own)
    by (inr apart) = fits_as setup s' _ _ _ _ _ _ _ _ refl refl (sym (put_other c rest ups d apart)) (append-nil (downs d))
        (fits_goes setup s s' [] d (client d) (ups d) (downs d) goes (each d))
      where
        same : put c st s.status d ≡ s.status d
        same = put_other c st s.status d apart

        goes : Goes setup s s' [] d
        goes = record { same = same; told = told_quiet setup s s' (s.status d) [] refl refl (stay_put s c st stays) (quiet_none setup) (λ e. refl) }

-- every client goes
pub each_goes : (setup : Setup) (s s' : Server) (client : ℕ → Phase) (ups : ℕ → List Up) (downs news : ℕ → List Down)
    → ((d : ℕ) → Goes setup s s' (news d) d) → Each setup s client ups downs → Each setup s' client ups (λ d. downs d ++ news d)
each_goes setup s s' client ups downs news goes each d = fits_goes setup s s' (news d) d (client d) (ups d) (downs d) (goes d) (each d)

-- released turns rise, and all are told
pub each_raised : (setup : Setup) (s : Server) (client : ℕ → Phase) (ups : ℕ → List Up) (downs : ℕ → List Down)
    → ((c : ℕ) → is_client setup c ≡ false → s.status c ≡ Out) → Each setup s client ups downs
    → Each setup (raised (rules_of setup) s) client ups (λ d. downs d ++ release s.status s.released (raised (rules_of setup) s).released d)
each_raised setup s client ups downs inside each =
    each_goes setup s (raised (rules_of setup) s) client ups downs (release s.status s.released (raised (rules_of setup) s).released)
    (λ d. record { same = refl; told = told_raised setup s d inside }) each

pub ins_high : (setup : Setup) (s : Server) (client : ℕ → Phase) (ups : ℕ → List Up) (downs : ℕ → List Down) → Each setup s client ups downs
    → (d done : ℕ) → s.status d ≡ In done → done ≤ setup.turns
ins_high setup s client ups downs each d done e = in_high setup s done (client d) (ups d) (downs d)
    (subst (λ (st : Status). Fits setup s st (client d) (ups d) (downs d)) e (each d))

-- ---- a done

pub holds_done : (setup : Setup) (s : Session) (c t : ℕ) (rest : List Up) (done : ℕ) (o : Seat) → is_client setup c ≡ true → Holds setup s
    → s.server.status c ≡ In done → s.client c ≡ On o → Plays setup s.server.released s.server.kept done o (up.Done t ∷ rest) (s.downs c)
    → Holds setup (arrives setup (Heard c (up.Done t)) (record s { ups = put c rest s.ups }))
holds_done setup s c t rest done o client h is_done is_on p = by (done_fault (rules_of setup) s.server.released t (s.server.status c)) fault
  where
    popped : Session
    popped = record s { ups = put c rest s.ups }

    next : t ≡ suc done
    next = p.said.0

    high : t ≤ setup.turns
    high = p.said.1

    near : t ≤ s.server.released + setup.delay
    near = p.said.2

    fault : done_fault (rules_of setup) s.server.released t (s.server.status c) ≡ None
    fault =
        ap (done_fault (rules_of setup) s.server.released t) is_done
        ∙ ap turn_fault (and_from _ _ (and_from _ _ (eq-eqb t (suc done) next) (le-leb t setup.turns high)) (le-leb t (s.server.released + setup.delay) near))

    s1 : Server
    s1 = with_status c (In t) s.server

    own : Plays setup s.server.released s.server.kept t o rest (s.downs c)
    own = heard_up setup s.server.released s.server.kept done t o (up.Done t ∷ rest) rest (s.downs c) (let a = p.low in omega arith) high p.said.3 p

    each : Each setup s1 s.client popped.ups s.downs
    each = each_status setup s.server s.client s.ups s.downs c (In t) rest (λ e. refl) h.each
        (fits_as setup s1 (In t) (In t) (On o) (s.client c) rest rest (s.downs c) (s.downs c) refl (sym is_on) refl refl own)

    sound : Sound setup s1
    sound = sound_status setup s.server c (In t) h.server client

    by : (f : Option ℕ) → f ≡ None
        → Holds setup (taken (Heard c (up.Done t)) (unless f (raised (rules_of setup) s1) s.server)
        (refusal c f (release s1.status s1.released (raised (rules_of setup) s1).released)) popped)
    by None e =
        record {
          server = sound_raised setup s1 sound (ins_high setup s1 s.client popped.ups s.downs each);
          each = each_raised setup s1 s.client popped.ups s.downs sound.clients each;
        }
    by (Some code) e = absurd (cc)

-- ---- a command, a report, a join that comes again

sound_command : (setup : Setup) (s : Server) (c t : ℕ) (x : Command) → Sound setup s → is_client setup c ≡ true
    → Sound setup (heard {B = Past} (rules_of setup) s (Heard c (up.Command t x)))
sound_command setup s c t x sound client = by (command_fault (rules_of setup) (s.kept t) c t (s.status c)) refl
  where
    high : (st : Status) → command_fault (rules_of setup) (s.kept t) c t st ≡ None → t ≤ setup.turns
    high Out f = absurd (cc)
    high (Waiting j) f = absurd (cc)
    high (In n) f = test (t == suc n && nat_le t setup.turns) refl f
      where
        test : (b : Bool) → (t == suc n && nat_le t setup.turns) ≡ b
            → (let o : Option ℕ = (if b then crowd_fault (nat_lt (count_by (is_by c) (s.kept t)) 64) else Some 2) in o ≡ None) → t ≤ setup.turns
        test true k g = leb-true t setup.turns ((and_parts (t == suc n) (nat_le t setup.turns) k).1)
        test false k g = absurd (cc)

    by : (fault : Option ℕ) → command_fault (rules_of setup) (s.kept t) c t (s.status c) ≡ fault
        → Sound setup (unless fault (keeps t (record { player = c; command = x }) s) s)
    by None f = sound_kept setup s t (record { player = c; command = x }) sound (high (s.status c) f)
        (player_is setup (record { player = c; command = x }) client)
    by (Some code) f = sound

sound_report : (setup : Setup) (s : Server) (c t : ℕ) (g : List ℕ) → Sound setup s
    → Sound setup (heard {B = Past} (rules_of setup) s (Heard c (up.Report t g)))
sound_report setup s c t g sound = by (report_fault s.released t (s.status c))
  where
    by : (fault : Option ℕ) → Sound setup (unless fault (reported t g s) s)
    by None = record { released = sound.released; players = sound.players; inside = sound.inside; clients = sound.clients }
    by (Some code) = sound

sound_join : (setup : Setup) (s : Server) (c : ℕ) → Sound setup s → is_client setup c ≡ true
    → Sound setup (heard {B = Past} (rules_of setup) s (Heard c up.Join))
sound_join setup s c sound client = by (is_out (s.status c))
  where
    by : (b : Bool) → Sound setup (if b then with_status c (seat (donor (rules_of setup) s)) s else s)
    by true = sound_status setup s c (seat (donor (rules_of setup) s)) sound client
    by false = sound

-- ---- a state

out_of : (setup : Setup) (s : Server) (j : ℕ) (b : Bool) → Sound setup s → is_client setup j ≡ b → (s.status j ≡ Out → ⊥) → is_client setup j ≡ true
out_of setup s j true sound e apart = e
out_of setup s j false sound e apart = absurd (apart (sound.clients j e))

-- the client that waited loads
loads_new : (setup : Setup) (s s' : Server) (c : ℕ) (past : Past) (st : Status) (ph : Phase) (ups : List Up) (downs : List Down)
    → s'.released ≡ s.released → s'.kept ≡ s.kept → Sound setup s → GoodPast setup s.released s.kept past → st ≡ Waiting c
    → Fits setup s st ph ups downs
    → Fits setup s' (In (entry_done (rules_of setup) s.released (turns_in past))) ph ups (downs ++ loading (rules_of setup) s (turns_in past) past)
loads_new setup s s' c past Out ph ups downs a b sound good e h = absurd (cc)
loads_new setup s s' c past (In done) ph ups downs a b sound good e h = absurd (cc)
loads_new setup s s' c past (Waiting j) Off ups downs a b sound good e h = absurd h
loads_new setup s s' c past (Waiting j) (On o) ups downs a b sound good e h = absurd h
loads_new setup s s' c past (Waiting j) Joining ups downs a b sound good e h =
    record {
      carried = past;
      rest = rest;
      empty = h.nothing.no_ups;
      first = ap (λ (l : List Down). l ++ loading (rules_of setup) s (turns_in past) past) h.nothing.no_downs;
      soon = subst (λ (x : ℕ × (ℕ → List PlayerCommand)). Plays setup x.0 x.1 done (begun done (turns_in past) past) [] rest) (λ i. (sym a i, sym b i))
          (plays_begun setup s past sound good);
    }
  where
    done : ℕ
    done = entry_done (rules_of setup) s.released (turns_in past)

    rest : List Down
    rest = kept_above s.kept (turns_in past) (setup.turns - turns_in past) ++ down.Release s.released ∷ []

-- a status becomes In
each_loads : (setup : Setup) (s : Server) (client : ℕ → Phase) (ups : ℕ → List Up) (downs : ℕ → List Down) (c j : ℕ) (past : Past) → Sound setup s
    → GoodPast setup s.released s.kept past → s.status j ≡ Waiting c → Each setup s client ups downs
    → Each setup (with_status j (In (entry_done (rules_of setup) s.released (turns_in past))) s) client ups
    (λ d. downs d ++ to_one j (loading (rules_of setup) s (turns_in past) past) d)
each_loads setup s client ups downs c j past sound good waits each d = by (cases_eq d j)
  where
    done : ℕ
    done = entry_done (rules_of setup) s.released (turns_in past)

    news : List Down
    news = loading (rules_of setup) s (turns_in past) past

    s' : Server
    s' = with_status j (In done) s

    by : (d ≡ j) ⊎ (d ≡ j → ⊥) → Fits setup s' (s'.status d) (client d) (ups d) (downs d ++ (if d == j then news else []))
    by (inr apart) = fits_goes setup s s' _ d (client d) (ups d) (downs d) (goes_state setup s j d done news apart) (each d)
    by (inl e) =
        subst (λ z. Fits setup s' (s'.status z) (client z) (ups z) (downs z ++ (if z == j then news else []))) (sym e)
        (fits_as setup s' _ _ _ _ _ _ _ _ (sym (put_same j (In done) s.status)) refl refl (λ i. downs j ++ (sym (cond-true _ news [] (eq-eqb j j refl))) i)
        (loads_new setup s s' c past (s.status j) (client j) (ups j) (downs j) refl refl sound good waits (each j)))

-- ---- the first join

-- no donor, or one that is In
pub donor_in : (setup : Setup) (s : Server) (k : ℕ) → donor (rules_of setup) s ≡ Some k → is_in (s.status k) ≡ true
donor_in setup s k e = least_in_is s.status setup.players k e

each_joins : (setup : Setup) (s : Server) (client : ℕ → Phase) (ups : ℕ → List Up) (downs : ℕ → List Down) (c : ℕ) → s.status c ≡ Out
    → client c ≡ Joining → ups c ≡ [] → downs c ≡ [] → ((d : ℕ) → (d ≡ c → ⊥) → Fits setup s (s.status d) (client d) (ups d) (downs d))
    → Each setup (with_status c (seat (donor (rules_of setup) s)) s) client ups (λ d. downs d ++ asked (donor (rules_of setup) s) (c ∷ []) (λ x. x == c) d)
each_joins setup s client ups downs c out joining no_ups no_downs each d = by (donor (rules_of setup) s) refl (cases_eq d c)
  where
    stays : (st : Status) → Stay s (with_status c st s)
    stays st = stay_put s c st (λ e. absurd (true≢false (sym e ∙ ap is_in out)))

    by : (o : Option ℕ) → donor (rules_of setup) s ≡ o → (d ≡ c) ⊎ (d ≡ c → ⊥)
        → Fits setup (with_status c (seat o) s) (put c (seat o) s.status d) (client d) (ups d) (downs d ++ asked o (c ∷ []) (λ x. x == c) d)
    by None e (inl same) =
        subst (λ z. Fits setup (with_status c Out s) (put c Out s.status z) (client z) (ups z) (downs z ++ (if z == c then down.Refused 4 ∷ [] else [])))
        (sym same)
        (fits_as setup _ _ _ _ _ _ _ _ _ (sym (put_same c Out s.status)) (sym joining) refl
        (λ i. (sym no_downs) i ++ (sym (cond-true _ (down.Refused 4 ∷ []) [] (eq-eqb c c refl))) i)
        (inr (no_ups, refl)))
    by None e (inr apart) =
        fits_goes setup s (with_status c Out s) _ d (client d) (ups d) (downs d)
        (record {
          same = put_other c Out s.status d apart;
          told = (let none = cond-false _ (down.Refused 4 ∷ []) [] (ne_eqb d c apart) in
              told_quiet setup s (with_status c Out s) (s.status d) _ refl refl (stays Out)
              (subst (λ (l : List Down). IsQuiet setup l) (sym none) (quiet_none setup)) (λ f. none));
        })
        (each d apart)
    by (Some k) e (inl same) =
        subst (λ z. Fits setup (with_status c (Waiting k) s) (put c (Waiting k) s.status z) (client z) (ups z)
        (downs z ++ (if z == k then down.Ask c ∷ [] else []))) (sym same)
        (fits_as setup _ _ _ _ _ _ _ _ _ (sym (put_same c (Waiting k) s.status)) (sym joining) refl
        (λ i. (sym no_downs) i ++ (sym (cond-false _ (down.Ask c ∷ []) [] (ne_eqb c k apart))) i)
        (record { nothing = record { no_ups = no_ups; no_downs = refl }; there = stays (Waiting k) k (donor_in setup s k e) }))
      where
        apart : c ≡ k → ⊥
        apart f = true≢false (sym (donor_in setup s k e) ∙ ap is_in (ap s.status (sym f) ∙ out))
    by (Some k) e (inr apart) =
        fits_goes setup s (with_status c (Waiting k) s) _ d (client d) (ups d) (downs d)
        (goes_one setup s (with_status c (Waiting k) s) k d (down.Ask c ∷ []) refl refl (stays (Waiting k)) (put_other c (Waiting k) s.status d apart)
        (donor_in setup s k e) (quiet_asks setup (c ∷ [])))
        (each d apart)

-- ---- the server hears the first message of an up pipe

-- a client that plays says something that is no done
plays_up : (setup : Setup) (s : Session) (c : ℕ) (x : Up) (rest : List Up) (done : ℕ) (o : Seat) → Holds setup s → s.server.status c ≡ In done
    → s.client c ≡ On o → GoodUps setup s.server.released s.server.kept done o.done rest
    → Plays setup s.server.released s.server.kept done o (x ∷ rest) (s.downs c) → Each setup s.server s.client (put c rest s.ups) s.downs
plays_up setup s c x rest done o h is_done is_on good p =
    each_popped setup s.server s.client s.ups s.downs c rest h.each
    (fits_as setup s.server (In done) (s.server.status c) (On o) (s.client c) rest rest (s.downs c) (s.downs c) (sym is_done) (sym is_on) refl refl
    (heard_up setup s.server.released s.server.kept done done o (x ∷ rest) rest (s.downs c) p.low p.high good p))

holds_up_plays : (setup : Setup) (s : Session) (c : ℕ) (x : Up) (rest : List Up) (done : ℕ) (o : Seat) → is_client setup c ≡ true → Holds setup s
    → s.server.status c ≡ In done → s.client c ≡ On o → Plays setup s.server.released s.server.kept done o (x ∷ rest) (s.downs c)
    → Holds setup (arrives setup (Heard c x) (record s { ups = put c rest s.ups }))
holds_up_plays setup s c up.Join rest done o client h is_done is_on p =
    record {
      server = sound_join setup s.server c h.server client;
      each = each_goes setup s.server _ s.client (put c rest s.ups) s.downs _ (λ d. goes_join_again setup s.server c d (ap is_out is_done))
          (plays_up setup s c up.Join rest done o h is_done is_on p.said p);
    }
holds_up_plays setup s c (up.Command t x) rest done o client h is_done is_on p =
    record {
      server = sound_command setup s.server c t x h.server client;
      each = each_goes setup s.server _ s.client (put c rest s.ups) s.downs _ (λ d. goes_command setup s.server c t d done x is_done p.low)
          (plays_up setup s c (up.Command t x) rest done o h is_done is_on p.said p);
    }
holds_up_plays setup s c (up.Done t) rest done o client h is_done is_on p = holds_done setup s c t rest done o client h is_done is_on p
holds_up_plays setup s c (up.Report t g) rest done o client h is_done is_on p =
    record {
      server = sound_report setup s.server c t g h.server;
      each = each_goes setup s.server _ s.client (put c rest s.ups) s.downs _ (λ d. goes_report setup s.server c t g d (ap is_in is_done))
          (plays_up setup s c (up.Report t g) rest done o h is_done is_on p.said p);
    }
holds_up_plays setup s c (up.State j t past) rest done o client h is_done is_on p = by (takes_state s.server.released c t (s.server.status j)) refl
  where
    popped : Session
    popped = record s { ups = put c rest s.ups }

    each : Each setup s.server s.client popped.ups s.downs
    each = plays_up setup s c (up.State j t past) rest done o h is_done is_on p.said.2 p

    entry : ℕ
    entry = entry_done (rules_of setup) s.server.released t

    by : (b : Bool) → takes_state s.server.released c t (s.server.status j) ≡ b
        → Holds setup (taken (Heard c (up.State j t past)) (if b then with_status j (In entry) s.server else s.server)
        (if b then to_one j (loading (rules_of setup) s.server t past) else nobody) popped)
    by false e =
        record {
          server = h.server;
          each = each_goes setup s.server s.server s.client popped.ups s.downs (λ d. []) (λ d. goes_nothing setup s.server d) each;
        }
    by true e =
        let waits = waits_is c (s.server.status j) ((and_parts _ _ e).0) in
        record {
          server = sound_status setup s.server j (In entry) h.server
              (out_of setup s.server j (is_client setup j) h.server refl (λ f. let both = waits in absurd (cc)));
          each = subst
              (λ n. Each setup (with_status j (In (entry_done (rules_of setup) s.server.released n)) s.server) s.client popped.ups
              (λ d. s.downs d ++ to_one j (loading (rules_of setup) s.server n past) d))
              (sym p.said.0) (each_loads setup s.server s.client popped.ups s.downs c j past h.server p.said.1 waits each);
        }

holds_up_joins : (setup : Setup) (s : Session) (c : ℕ) (x : Up) (rest : List Up) → is_client setup c ≡ true → Holds setup s → s.server.status c ≡ Out
    → s.client c ≡ Joining → x ≡ up.Join → rest ≡ [] → s.downs c ≡ [] → Holds setup (arrives setup (Heard c x) (record s { ups = put c rest s.ups }))
holds_up_joins setup s c x rest client h is_out_c joining first no_rest no_downs =
    subst (λ (y : Up). Holds setup (arrives setup (Heard c y) popped)) (sym first) (by (is_out (s.server.status c)) (ap is_out is_out_c))
  where
    popped : Session
    popped = record s { ups = put c rest s.ups }

    others : (d : ℕ) → (d ≡ c → ⊥) → Fits setup s.server (s.server.status d) (s.client d) (popped.ups d) (s.downs d)
    others d apart = fits_as setup s.server _ _ _ _ _ _ _ _ refl refl (sym (put_other c rest s.ups d apart)) refl (h.each d)

    by : (b : Bool) → b ≡ true
        → Holds setup (taken (Heard c up.Join) (if b then with_status c (seat (donor (rules_of setup) s.server)) s.server else s.server)
        (if b then asked (donor (rules_of setup) s.server) (c ∷ []) (λ z. z == c) else nobody) popped)
    by true e =
        record {
          server = sound_status setup s.server c (seat (donor (rules_of setup) s.server)) h.server client;
          each = each_joins setup s.server s.client popped.ups s.downs c is_out_c joining (put_same c rest s.ups ∙ no_rest) no_downs others;
        }
    by false e = absurd (true≢false (sym e))

pub holds_up : (setup : Setup) (s : Session) (c : ℕ) → is_client setup c ≡ true → Holds setup s → Holds setup (rises setup c (s.ups c) s)
holds_up setup s c client h = by (s.server.status c) refl (s.client c) refl (s.ups c) (h.each c)
  where
    by : (st : Status) → s.server.status c ≡ st → (ph : Phase) → s.client c ≡ ph → (ups : List Up) → Fits setup s.server st ph ups (s.downs c)
        → Holds setup (rises setup c ups s)
    by st is_st ph is_ph [] own = h
    by Out is_st Off is_ph (x ∷ rest) own = let e = own.no_ups in absurd (cc)
    by Out is_st Joining is_ph (x ∷ rest) (inl own) =
        let e = own.0 in
        let first : x ≡ up.Join = cc in
        let no_rest : rest ≡ [] = cc in
        holds_up_joins setup s c x rest client h is_st is_ph first no_rest own.1
    by Out is_st Joining is_ph (x ∷ rest) (inr own) = let e = own.0 in absurd (cc)
    by Out is_st (On o) is_ph (x ∷ rest) own = absurd own
    by (Waiting j) is_st Off is_ph (x ∷ rest) own = absurd own
    by (Waiting j) is_st Joining is_ph (x ∷ rest) own = let e = own.nothing.no_ups in absurd (cc)
    by (Waiting j) is_st (On o) is_ph (x ∷ rest) own = absurd own
    by (In done) is_st Off is_ph (x ∷ rest) own = absurd own
    by (In done) is_st Joining is_ph (x ∷ rest) own = let e = own.empty in absurd (cc)
    by (In done) is_st (On o) is_ph (x ∷ rest) own = holds_up_plays setup s c x rest done o client h is_st is_ph own

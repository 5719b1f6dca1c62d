-- A client is cut.
use Rattle.sim_plain.specs.declared.message.DownOf.TheVariants as down
use Rattle.sim_base.specs.declared.step.Step.TheVariants as step
use Rattle.{sim_plain.proofs.Calm.{in_waits_not, Stay, waits_is}, sim_session_laws.proofs.Basics.{Fits, Holds, Plays, Sound}}
use Rattle.sim_session_laws.proofs.Common.{after_steps, All-nil, and_from, and_parts, and_right, ap, append-nil, append_assoc, arith, asked, begun, Bool}
use Rattle.sim_session_laws.proofs.Common.{cases_eq, client_of, cond-false, cond-true, cut, cut_posts, donor, Down, eq-eqb, false, filter, if◌then◌else◌, In}
use Rattle.sim_session_laws.proofs.Common.{inl, inr, is_active, is_client, is_in, IsItemOf, IsOrderOf, Joining, le-leb, leaves, leb-true, List, map, min}
use Rattle.sim_session_laws.proofs.Common.{nat_le, nat_lt, ne_eqb, None, Off, On, opened, opening, Option, Out, Past, Phase, put_other, put_same, raised, refl}
use Rattle.sim_session_laws.proofs.Common.{release, reseated, rules_of, seat, Server, Session, session, Setup, Some, Status, Step, stepped, stepped_by, subst}
use Rattle.sim_session_laws.proofs.Common.{sym, true, true≢false, Up, up_to, Waiting, waits_for, with_status, ℕ, [], ◌++◌, ◌∙◌, ◌∷◌, ◌≡◌, ◌≤◌, ◌⊎◌}
use Rattle.sim_session_laws.proofs.ServerLemmas.{fits_as, fits_goes, fits_told, Goes, goes_one, holds_bend, holds_down, holds_join, holds_order, holds_play}
use Rattle.sim_session_laws.proofs.ServerLemmas.{IsQuiet, quiet_asks, quiet_none, release_is, Told, told_quiet, told_raised}
use Rattle.sim_session_laws.proofs.UpSteps.{donor_in, holds_up, ins_high, sound_raised, sound_status}

-- ---- the statuses after the cut

pub reseated_stays : (setup : Setup) (c : ℕ) (s : Server) (d : ℕ) → waits_for c (s.status d) ≡ false
    → (reseated (rules_of setup) c s).status d ≡ s.status d
reseated_stays setup c s d e = cond-false _ (seat (donor (rules_of setup) s)) (s.status d) e

pub reseated_moves : (setup : Setup) (c : ℕ) (s : Server) (d : ℕ) → waits_for c (s.status d) ≡ true
    → (reseated (rules_of setup) c s).status d ≡ seat (donor (rules_of setup) s)
reseated_moves setup c s d e = cond-true _ (seat (donor (rules_of setup) s)) (s.status d) e

pub reseated_in : (setup : Setup) (c : ℕ) (s : Server) → Stay s (reseated (rules_of setup) c s)
reseated_in setup c s j e = ap is_in (reseated_stays setup c s j (in_waits_not c (s.status j) e)) ∙ e

sound_reseated : (setup : Setup) (c : ℕ) (s : Server) → Sound setup s → Sound setup (reseated (rules_of setup) c s)
sound_reseated setup c s sound =
    record {
      released = sound.released;
      players = sound.players;
      inside = sound.inside;
      clients = λ d none. let out = sound.clients d none in reseated_stays setup c s d (ap (waits_for c) out) ∙ out;
    }

-- ---- what each other client sees

-- the server after a cut of c, which in s is out already
abbrev settled : Setup → ℕ → Server → Server
settled setup c s = reseated (rules_of setup) c (raised (rules_of setup) s)

-- a client that is this fits after that cut, with what it is told
abbrev FitsAfter : Setup → ℕ → Server → ℕ → Phase → List Up → List Down → Type 0
FitsAfter setup c s d ph ups downs = Fits setup (settled setup c s) ((settled setup c s).status d) ph ups (downs ++ cut_posts (rules_of setup) c s d)

-- who waited for c
abbrev waiting : Setup → ℕ → Server → List ℕ
waiting setup c s = filter (λ j. waits_for c (s.status j)) (up_to setup.players)

abbrev turned_away : List Down
turned_away = down.Refused 4 ∷ []

-- c is out
told_out : (setup : Setup) (s : Server) (c : ℕ) (st : Status) → waits_for c st ≡ false → Told setup s (with_status c Out s) st []
told_out setup s c Out e = refl
told_out setup s c (Waiting j) e = (refl, λ h. ap is_in (put_other c Out s.status j (λ f. true≢false (sym (eq-eqb j c f) ∙ e))) ∙ h)
told_out setup s c (In done) e = λ o ups downs p. subst (λ (l : List Down). Plays setup s.released s.kept done o ups l) (sym (append-nil downs)) p

-- the released turns have risen, and those that waited for c are seated anew
goes_reseated : (setup : Setup) (c : ℕ) (s : Server) (who : List ℕ) (d : ℕ) → waits_for c (s.status d) ≡ false
    → Goes setup s (reseated (rules_of setup) c s) (asked (donor (rules_of setup) s) who (λ j. waits_for c (s.status j)) d) d
goes_reseated setup c s who d e = by (donor (rules_of setup) s) refl
  where
    s' : Server
    s' = reseated (rules_of setup) c s

    by : (o : Option ℕ) → donor (rules_of setup) s ≡ o → Goes setup s s' (asked o who (λ j. waits_for c (s.status j)) d) d
    by None f =
        let none = cond-false (waits_for c (s.status d)) turned_away [] e in
        record {
          same = reseated_stays setup c s d e;
          told = told_quiet setup s s' (s.status d) _ refl refl (reseated_in setup c s)
              (subst (λ (l : List Down). IsQuiet setup l) (sym none) (quiet_none setup)) (λ g. none);
        }
    by (Some k) f = goes_one setup s s' k d (map down.Ask who) refl refl (reseated_in setup c s) (reseated_stays setup c s d e) (donor_in setup s k f)
        (quiet_asks setup who)

fits_other : (setup : Setup) (s : Server) (c d : ℕ) (ph : Phase) (ups : List Up) (downs : List Down) → Sound setup (with_status c Out s)
    → (d ≡ c → ⊥) → waits_for c (s.status d) ≡ false → Fits setup s (s.status d) ph ups downs → FitsAfter setup c (with_status c Out s) d ph ups downs
fits_other setup s c d ph ups downs sound apart e h =
    fits_as setup s3 _ _ _ _ _ _ _ _ refl refl refl (append_assoc downs told asks) third
  where
    s1 : Server
    s1 = with_status c Out s

    s2 : Server
    s2 = raised (rules_of setup) s1

    s3 : Server
    s3 = reseated (rules_of setup) c s2

    told : List Down
    told = release s1.status s1.released s2.released d

    asks : List Down
    asks = asked (donor (rules_of setup) s1) (waiting setup c s1) (λ j. waits_for c (s1.status j)) d

    same : s1.status d ≡ s.status d
    same = put_other c Out s.status d apart

    first : Fits setup s1 (s1.status d) ph ups downs
    first = fits_as setup s1 _ _ _ _ _ _ _ _ (sym same) refl refl (append-nil downs)
        (fits_told setup s s1 (s.status d) [] ph ups downs (told_out setup s c (s.status d) e) h)

    second : Fits setup s2 (s2.status d) ph ups (downs ++ told)
    second = fits_told setup s1 s2 (s1.status d) told ph ups downs (told_raised setup s1 d sound.clients) first

    third : Fits setup s3 (s3.status d) ph ups ((downs ++ told) ++ asks)
    third = fits_goes setup s2 s3 asks d ph ups (downs ++ told) (goes_reseated setup c s2 (waiting setup c s1) d (ap (waits_for c) same ∙ e)) second

-- nothing is released to a client that is not In
no_release : (s : Server) (r d : ℕ) → is_in (s.status d) ≡ false → release {B = Past} s.status s.released r d ≡ []
no_release s r d e = release_is s.status s.released r d ∙ cond-false _ (down.Release r ∷ []) [] (and_right (nat_lt s.released r) _ e)

waits_not_in : (c : ℕ) (st : Status) → waits_for c st ≡ true → is_in st ≡ false
waits_not_in c st e = ap is_in (waits_is c st e)

not_donor : (setup : Setup) (s : Server) (d k : ℕ) → donor (rules_of setup) s ≡ Some k → is_in (s.status d) ≡ false → d ≡ k → ⊥
not_donor setup s d k e out same = true≢false (sym (donor_in setup s k e) ∙ subst (λ x. is_in (s.status x) ≡ false) same out)

-- who waited for c is joining, and its pipes are empty
was_waiting : (setup : Setup) (s : Server) (c : ℕ) (st : Status) (ph : Phase) (ups : List Up) (downs : List Down) → st ≡ Waiting c
    → Fits setup s st ph ups downs → (ph ≡ Joining) × (ups ≡ []) × (downs ≡ [])
was_waiting setup s c Out ph ups downs e h = absurd (cc)
was_waiting setup s c (In done) ph ups downs e h = absurd (cc)
was_waiting setup s c (Waiting j) Off ups downs e h = absurd h
was_waiting setup s c (Waiting j) (On o) ups downs e h = absurd h
was_waiting setup s c (Waiting j) Joining ups downs e h = (refl, h.nothing.no_ups, h.nothing.no_downs)

fits_waited : (setup : Setup) (c : ℕ) (s1 : Server) (d : ℕ) (ph : Phase) (ups : List Up) (downs : List Down) → waits_for c (s1.status d) ≡ true
    → (ph ≡ Joining) × (ups ≡ []) × (downs ≡ []) → FitsAfter setup c s1 d ph ups downs
fits_waited setup c s1 d ph ups downs e empty = by (donor (rules_of setup) s1) refl
  where
    r : ℕ
    r = (raised (rules_of setup) s1).released

    who : List ℕ
    who = waiting setup c s1

    moved : (o : Option ℕ) → donor (rules_of setup) s1 ≡ o → seat o ≡ (settled setup c s1).status d
    moved o f = sym (reseated_moves setup c (raised (rules_of setup) s1) d e ∙ ap seat f)

    s3 : Server
    s3 = reseated (rules_of setup) c (raised (rules_of setup) s1)

    none : release {B = Past} s1.status s1.released r d ≡ []
    none = no_release s1 r d (waits_not_in c (s1.status d) e)

    by : (o : Option ℕ) → donor (rules_of setup) s1 ≡ o
        → Fits setup s3 (s3.status d) ph ups (downs ++ (release s1.status s1.released r d ++ asked o who (λ j. waits_for c (s1.status j)) d))
    by None f =
        let away = cond-true (waits_for c (s1.status d)) turned_away [] e in
        fits_as setup s3 _ _ _ _ _ _ _ _ (moved None f) (sym empty.0) refl (λ i. (sym empty.2) i ++ ((sym none) i ++ (sym away) i)) (inr (empty.1, refl))
    by (Some k) f =
        let not_asked = cond-false _ (map down.Ask who) [] (ne_eqb d k (not_donor setup s1 d k f (waits_not_in c (s1.status d) e))) in
        fits_as setup s3 _ _ _ _ _ _ _ _ (moved (Some k) f) (sym empty.0) refl (λ i. (sym empty.2) i ++ ((sym none) i ++ (sym not_asked) i))
        (record { nothing = record { no_ups = empty.1; no_downs = refl }; there = reseated_in setup c (raised (rules_of setup) s1) k (donor_in setup s1 k f) })

-- the client that is cut is sent nothing
fits_cut : (setup : Setup) (c : ℕ) (s1 : Server) → s1.status c ≡ Out → FitsAfter setup c s1 c Off [] []
fits_cut setup c s1 out = by (donor (rules_of setup) s1) refl
  where
    r : ℕ
    r = (raised (rules_of setup) s1).released

    who : List ℕ
    who = waiting setup c s1

    s3 : Server
    s3 = reseated (rules_of setup) c (raised (rules_of setup) s1)

    waits : waits_for c (s1.status c) ≡ false
    waits = ap (waits_for c) out

    out_still : s3.status c ≡ Out
    out_still = reseated_stays setup c (raised (rules_of setup) s1) c waits ∙ out

    none : release {B = Past} s1.status s1.released r c ≡ []
    none = no_release s1 r c (ap is_in out)

    by : (o : Option ℕ) → donor (rules_of setup) s1 ≡ o
        → Fits setup s3 (s3.status c) Off [] (release s1.status s1.released r c ++ asked o who (λ j. waits_for c (s1.status j)) c)
    by None f =
        let not_refused = cond-false (waits_for c (s1.status c)) turned_away [] waits in
        fits_as setup s3 _ _ _ _ _ _ _ _ (sym out_still) refl refl (λ i. (sym none) i ++ (sym not_refused) i) (record { no_ups = refl; no_downs = refl })
    by (Some k) f =
        let not_asked = cond-false _ (map down.Ask who) [] (ne_eqb c k (not_donor setup s1 c k f (ap is_in out))) in
        fits_as setup s3 _ _ _ _ _ _ _ _ (sym out_still) refl refl (λ i. (sym none) i ++ (sym not_asked) i) (record { no_ups = refl; no_downs = refl })

-- ---- the session

holds_cut : (setup : Setup) (s : Session) (c : ℕ) → is_client setup c ≡ true → Holds setup s → Holds setup (cut setup c s)
holds_cut setup s c client h =
    record {
      server = sound_reseated setup c (raised (rules_of setup) s1) (sound_raised setup s1 sound high);
      each = λ d. by d (cases_eq d c);
    }
  where
    s1 : Server
    s1 = with_status c Out s.server

    sound : Sound setup s1
    sound = sound_status setup s.server c Out h.server client

    high_at : (d done : ℕ) → (d ≡ c) ⊎ (d ≡ c → ⊥) → s1.status d ≡ In done → done ≤ setup.turns
    high_at d done (inl same) e = let out : s1.status d ≡ Out = subst (λ x. s1.status x ≡ Out) (sym same) (put_same c Out s.server.status) in absurd (cc)
    high_at d done (inr apart) e = ins_high setup s.server s.client s.ups s.downs h.each d done (sym (put_other c Out s.server.status d apart) ∙ e)

    high : (d done : ℕ) → s1.status d ≡ In done → done ≤ setup.turns
    high d done e = high_at d done (cases_eq d c) e

    s' : Session
    s' = cut setup c s

    told : ℕ → List Down
    told d = cut_posts (rules_of setup) c s1 d

    other : (d : ℕ) → (d ≡ c → ⊥) → (b : Bool) → waits_for c (s.server.status d) ≡ b → FitsAfter setup c s1 d (s.client d) (s.ups d) (s.downs d)
    other d apart false e = fits_other setup s.server c d (s.client d) (s.ups d) (s.downs d) sound apart e (h.each d)
    other d apart true e =
        fits_waited setup c s1 d (s.client d) (s.ups d) (s.downs d) (ap (waits_for c) (put_other c Out s.server.status d apart) ∙ e)
        (was_waiting setup s.server c (s.server.status d) (s.client d) (s.ups d) (s.downs d) (waits_is c (s.server.status d) e) (h.each d))

    by : (d : ℕ) → (d ≡ c) ⊎ (d ≡ c → ⊥) → Fits setup s'.server (s'.server.status d) (s'.client d) (s'.ups d) (s'.downs d)
    by d (inl e) =
        subst (λ z. Fits setup s'.server (s'.server.status z) (s'.client z) (s'.ups z) (s'.downs z)) (sym e)
        (fits_as setup s'.server _ _ _ _ _ _ _ _ refl (sym (put_same c Off s.client)) (sym (put_same c [] s.ups))
        (λ i. (sym (put_same c [] s.downs)) i ++ told c)
        (fits_cut setup c s1 (put_same c Out s.server.status)))
    by d (inr apart) =
        fits_as setup s'.server _ _ _ _ _ _ _ _ refl (sym (put_other c Off s.client d apart)) (sym (put_other c [] s.ups d apart))
        (λ i. (sym (put_other c [] s.downs d apart)) i ++ told d) (other d apart (waits_for c (s.server.status d)) refl)

pub holds_leaves : (setup : Setup) (s : Session) (c : ℕ) → is_client setup c ≡ true → Holds setup s → Holds setup (leaves setup c (s.client c) s)
holds_leaves setup s c client h = by (s.client c)
  where
    by : (ph : Phase) → Holds setup (leaves setup c ph s)
    by Off = h
    by Joining = holds_cut setup s c client h
    by (On o) = holds_cut setup s c client h

-- Every session that a list of steps reaches.

pub holds_opened : (setup : Setup) (active : ℕ) → active ≤ setup.players → Holds setup (opened setup active)
holds_opened setup active few =
    record {
      server = record {
        released = omega arith;
        players = λ t. All-nil (IsOrderOf setup);
        inside = λ t h. refl;
        clients =
            λ c none. cond-false _ _ _ (outside c none (is_active active c) refl);
      };
      each = λ c. by (is_active active c);
    }
  where
    r : ℕ
    r = min setup.turns setup.delay

    outside : (c : ℕ) → is_client setup c ≡ false → (b : Bool) → is_active active c ≡ b → is_active active c ≡ false
    outside c none false e = e
    outside c none true e =
        let both = and_parts (nat_lt 0 c) (nat_le c active) e in
        let le : c ≤ active = leb-true _ _ both.1 in
        absurd (true≢false (sym (and_from _ _ both.0 (le-leb c setup.players (omega arith))) ∙ none))

    by : (b : Bool) → Fits setup (opening (rules_of setup) active) (if b then In r else Out) (if b then On (begun r r []) else Off) [] []
    by false = record { no_ups = refl; no_downs = refl }
    by true =
        record {
          low = omega arith;
          high = omega arith;
          past = record { players = All-nil (IsItemOf setup); turn = omega arith; unbent = λ e. refl };
          behind = omega arith;
          known_release = omega arith;
          said = refl;
          pipe = tt;
          players = λ t. All-nil (IsOrderOf setup);
          commands = λ t above. refl;
        }

holds_stepped_by : (setup : Setup) (s : Session) (x : Step) → is_client setup (client_of x) ≡ true → Holds setup s
    → Holds setup (stepped_by setup s x)
holds_stepped_by setup s (step.Order c x) client h = holds_order setup s c x h
holds_stepped_by setup s (step.Up c) client h = holds_up setup s c client h
holds_stepped_by setup s (step.Down c) client h = holds_down setup s c h
holds_stepped_by setup s (step.Play c) client h = holds_play setup s c h
holds_stepped_by setup s (step.Join c) client h = holds_join setup s c h
holds_stepped_by setup s (step.Cut c) client h = holds_leaves setup s c client h
holds_stepped_by setup s (step.Bend c e g) client h = holds_bend setup s c e g h

pub holds_stepped : (setup : Setup) (s : Session) (x : Step) → Holds setup s → Holds setup (stepped setup s x)
holds_stepped setup s x h = by (is_client setup (client_of x)) refl
  where
    by : (b : Bool) → is_client setup (client_of x) ≡ b → Holds setup (if b then stepped_by setup s x else s)
    by true e = holds_stepped_by setup s x e h
    by false e = h

pub holds_after : (setup : Setup) (s : Session) (xs : List Step) → Holds setup s → Holds setup (after_steps setup s xs)
holds_after setup s [] h = h
holds_after setup s (x ∷ xs) h = holds_after setup (stepped setup s x) xs (holds_stepped setup s x h)

-- what every session keeps
pub holds_session : (setup : Setup) (active : ℕ) (steps : List Step) → active ≤ setup.players → Holds setup (session setup active steps)
holds_session setup active steps few = holds_after setup (opened setup active) steps (holds_opened setup active few)

-- What the server does, as each client sees it.
use Rattle.sim_plain.specs.declared.message.DownOf.TheVariants as down
use Rattle.sim_plain.specs.declared.message.UpOf.TheVariants as up
use Rattle.sim_plain.proofs.{Calm.Stay, Calm.least_done_le, Calm.stay_put, Final.raised_more}
use Rattle.sim_session_laws.proofs.Common.{Heard, heard, hears, idle, if◌then◌else◌, In, inl, inr, is_by, is_client, is_in, is_out, Joining, joins, keeps}
use Rattle.sim_session_laws.proofs.Common.{Out, Past, Phase, PlayerCommand, plays, posts, put, put_other, put_same, raised, raised_to, refl, refusal, release}
use Rattle.sim_session_laws.proofs.Common.{[], Acted, acts, and_parts, ap, append-nil, arith, asked, begun, bends, Bool, cases_eq, Command, command_fault}
use Rattle.sim_session_laws.proofs.Common.{commands_at, cond-false, cond-true, count_by, crowd_fault, differs, donor, Down, eq-eqb, eqb-true, falls, false}
use Rattle.sim_session_laws.proofs.Common.{least_done, leb-true, lesser, List, ltb-true, map, nat_le, nat_lt, ne_eqb, nobody, None, Off, On, Option, orders}
use Rattle.sim_session_laws.proofs.Common.{report_fault, reported, rules_of, Seat, seat, Server, Session, Setup, Some, Status, subst, suc, sym, to_all, true}
use Rattle.sim_session_laws.proofs.Common.{true≢false, turns_in, unless, Up, Waiting, with_status, zero, ℕ, ℤ, ◌&&◌, ◌++◌, ◌<◌, ◌==◌, ◌∙◌, ◌∷◌, ◌≡◌, ◌≤◌, ◌⊎◌}
use Rattle.sim_session_laws.proofs.PlaysLemmas.{plays_bends, plays_heard, plays_kept, plays_ordered, plays_plays, plays_posted, plays_released, plays_told}
use Rattle.sim_session_laws.proofs.{Basics.Fits, Basics.GoodDowns, Basics.Holds, Basics.Plays, Basics.Sound, PlaysLemmas.PlaysThen}

-- ---- the least

pub raised_le : (status : ℕ → Status) (setup : Setup) (r d done : ℕ) → is_client setup d ≡ true → status d ≡ In done → r ≤ done
    → raised_to r (least_done status setup.players) ≤ done
raised_le status setup r d done client e le =
    let both = and_parts _ _ client in
    let most = least_done_le status setup.players d done (ltb-true _ _ both.0) (leb-true _ _ both.1) e in
    subst (λ (o : Option ℕ). raised_to r o ≤ done) (sym most.1) (let h = most.2 in omega arith)

-- a bound of each done bounds the released turn
lesser_bound : (st : Status) (o : Option ℕ) (r top : ℕ) → r ≤ top → ((done : ℕ) → st ≡ In done → done ≤ top) → raised_to r o ≤ top
    → raised_to r (lesser st o) ≤ top
lesser_bound (In x) (Some v) r top le h rest = let a = h x refl in omega arith
lesser_bound (In x) None r top le h rest = let a = h x refl in omega arith
lesser_bound Out o r top le h rest = rest
lesser_bound (Waiting j) o r top le h rest = rest

pub raised_bound : (status : ℕ → Status) (n r top : ℕ) → r ≤ top → ((d done : ℕ) → status d ≡ In done → done ≤ top)
    → raised_to r (least_done status n) ≤ top
raised_bound status zero r top le h = le
raised_bound status (suc n) r top le h = lesser_bound (status (suc n)) (least_done status n) r top le (h (suc n)) (raised_bound status n r top le h)

-- ---- told

-- What keeps a client whose status stays, where it is posted these.
abbrev pub Told : Setup → Server → Server → Status → List Down → Type 0
Told setup s s' Out news = news ≡ []
Told setup s s' (Waiting j) news = (news ≡ []) × (is_in (s.status j) ≡ true → is_in (s'.status j) ≡ true)
Told setup s s' (In done) news = (o : Seat) (ups : List Up) (downs : List Down) → Plays setup s.released s.kept done o ups downs
    → Plays setup s'.released s'.kept done o ups (downs ++ news)

pub fits_told : (setup : Setup) (s s' : Server) (st : Status) (news : List Down) (ph : Phase) (ups : List Up) (downs : List Down)
    → Told setup s s' st news → Fits setup s st ph ups downs → Fits setup s' st ph ups (downs ++ news)
fits_told setup s s' Out news Off ups downs t h = record { no_ups = h.no_ups; no_downs = λ i. h.no_downs i ++ t i }
fits_told setup s s' Out news Joining ups downs t (inl h) = inl (h.0, λ i. h.1 i ++ t i)
fits_told setup s s' Out news Joining ups downs t (inr h) = inr (h.0, λ i. h.1 i ++ t i)
fits_told setup s s' Out news (On o) ups downs t h = absurd h
fits_told setup s s' (Waiting j) news Off ups downs t h = absurd h
fits_told setup s s' (Waiting j) news Joining ups downs t h =
    record { nothing = record { no_ups = h.nothing.no_ups; no_downs = λ i. h.nothing.no_downs i ++ t.0 i }; there = t.1 h.there }
fits_told setup s s' (Waiting j) news (On o) ups downs t h = absurd h
fits_told setup s s' (In done) news Off ups downs t h = absurd h
fits_told setup s s' (In done) news Joining ups downs t h =
    record {
      carried = h.carried;
      rest = h.rest ++ news;
      empty = h.empty;
      first = ap (λ (l : List Down). l ++ news) h.first;
      soon = t (begun done (turns_in h.carried) h.carried) [] h.rest h.soon;
    }
fits_told setup s s' (In done) news (On o) ups downs t h = t o ups downs h

-- Messages without a command, a release or a past.
pub record IsQuiet (setup : Setup) (news : List Down) : Type 0 where
  pub good : (r : ℕ) (k : ℕ → List PlayerCommand) (l : ℕ) → GoodDowns setup r k l news
  pub none : (t : ℕ) → commands_at t news ≡ []

pub told_quiet : (setup : Setup) (s s' : Server) (st : Status) (news : List Down) → s'.released ≡ s.released → s'.kept ≡ s.kept → Stay s s'
    → IsQuiet setup news → (is_in st ≡ false → news ≡ []) → Told setup s s' st news
told_quiet setup s s' Out news a b stay quiet none = none refl
told_quiet setup s s' (Waiting j) news a b stay quiet none = (none refl, stay j)
told_quiet setup s s' (In done) news a b stay quiet none = λ o ups downs p.
    subst (λ (x : ℕ × (ℕ → List PlayerCommand)). Plays setup x.0 x.1 done o ups (downs ++ news)) (λ i. (sym a i, sym b i))
    (plays_posted setup s.released s.kept done o ups downs news p (quiet.good s.released s.kept) quiet.none)

pub told_all : (setup : Setup) (s s' : Server) (st : Status) (x : Down) → Stay s s'
    → ((done : ℕ) (o : Seat) (ups : List Up) (downs : List Down) → st ≡ In done → Plays setup s.released s.kept done o ups downs
    → Plays setup s'.released s'.kept done o ups (downs ++ x ∷ []))
    → Told setup s s' st (if is_in st then x ∷ [] else [])
told_all setup s s' Out x stay h = refl
told_all setup s s' (Waiting j) x stay h = (refl, stay j)
told_all setup s s' (In done) x stay h = λ o ups downs p. h done o ups downs refl p

pub quiet_none : (setup : Setup) → IsQuiet setup []
quiet_none setup = record { good = λ r k l. tt; none = λ t. refl }

pub quiet_refused : (setup : Setup) (code : ℕ) → IsQuiet setup (down.Refused code ∷ [])
quiet_refused setup code = record { good = λ r k l. tt; none = λ t. refl }

pub quiet_notice : (setup : Setup) (t c : ℕ) → IsQuiet setup (down.Notice t c ∷ [])
quiet_notice setup t c = record { good = λ r k l. tt; none = λ u. refl }

pub quiet_asks : (setup : Setup) (who : List ℕ) → IsQuiet setup (map down.Ask who)
quiet_asks setup [] = quiet_none setup
quiet_asks setup (j ∷ who) = let rest = quiet_asks setup who in record { good = λ r k l. rest.good r k l; none = λ t. rest.none t }

-- a release is told to those that are in, where it is one
pub release_is : (status : ℕ → Status) (r r' d : ℕ)
    → release {B = Past} status r r' d ≡ (if nat_lt r r' && is_in (status d) then down.Release r' ∷ [] else [])
release_is status r r' d = by (nat_lt r r')
  where
    by : (b : Bool)
        → (if b then to_all {B = Past} status (down.Release r') else nobody) d ≡ (if b && is_in (status d) then down.Release r' ∷ [] else [])
    by true = refl
    by false = refl

-- released turns rise
pub told_raised : (setup : Setup) (s : Server) (d : ℕ) → ((c : ℕ) → is_client setup c ≡ false → s.status c ≡ Out)
    → Told setup s (raised (rules_of setup) s) (s.status d) (release s.status s.released (raised (rules_of setup) s).released d)
told_raised setup s d inside =
    subst (λ (l : List Down). Told setup s (raised (rules_of setup) s) (s.status d) l) (sym (release_is s.status s.released r' d))
    (by (s.status d) refl (nat_lt s.released r') refl)
  where
    r' : ℕ
    r' = (raised (rules_of setup) s).released

    client : (done : ℕ) → s.status d ≡ In done → (b : Bool) → is_client setup d ≡ b → is_client setup d ≡ true
    client done e true c = c
    client done e false c = let out = inside d c in absurd (cc)

    least : (done : ℕ) → s.status d ≡ In done → s.released ≤ done → r' ≤ done
    least done e le = raised_le s.status setup s.released d done (client done e (is_client setup d) refl) e le

    by : (st : Status) → s.status d ≡ st → (b : Bool) → nat_lt s.released r' ≡ b
        → Told setup s (raised (rules_of setup) s) st (if b && is_in st then down.Release r' ∷ [] else [])
    by Out e true f = refl
    by Out e false f = refl
    by (Waiting j) e true f = (refl, λ x. x)
    by (Waiting j) e false f = (refl, λ x. x)
    by (In done) e true f = λ o ups downs p.
        plays_released setup s.released r' s.kept done o ups downs (raised_more s.released (least_done s.status setup.players)) (least done e p.low) p
    by (In done) e false f = λ o ups downs p.
        plays_told setup s.released r' s.kept s.kept done o ups downs [] p
        (record { more = raised_more s.released (least_done s.status setup.players); final = λ t h. refl }) (least done e p.low) (λ l h. tt)
        (λ t. append-nil (s.kept t))

-- ---- one arrival

-- the status of a client stays, and it is told
pub record Goes (setup : Setup) (s s' : Server) (news : List Down) (d : ℕ) : Type 0 where
  pub same : s'.status d ≡ s.status d
  pub told : Told setup s s' (s.status d) news

pub fits_goes : (setup : Setup) (s s' : Server) (news : List Down) (d : ℕ) (ph : Phase) (ups : List Up) (downs : List Down) → Goes setup s s' news d
    → Fits setup s (s.status d) ph ups downs → Fits setup s' (s'.status d) ph ups (downs ++ news)
fits_goes setup s s' news d ph ups downs g h = subst (λ (st : Status). Fits setup s' st ph ups (downs ++ news)) (sym g.same)
    (fits_told setup s s' (s.status d) news ph ups downs g.told h)

pub goes_nothing : (setup : Setup) (s : Server) (d : ℕ) → Goes setup s s [] d
goes_nothing setup s d = record { same = refl; told = told_quiet setup s s (s.status d) [] refl refl (λ j h. h) (quiet_none setup) (λ e. refl) }

-- quiet messages to one client that is In
pub goes_one : (setup : Setup) (s s' : Server) (c d : ℕ) (news : List Down) → s'.released ≡ s.released → s'.kept ≡ s.kept → Stay s s'
    → s'.status d ≡ s.status d → is_in (s.status c) ≡ true → IsQuiet setup news → Goes setup s s' (if d == c then news else []) d
goes_one setup s s' c d news a b stay same here quiet = by (cases_eq d c)
  where
    out : List Down
    out = if d == c then news else []

    by : (d ≡ c) ⊎ (d ≡ c → ⊥) → Goes setup s s' out d
    by (inl e) =
        let now : out ≡ news = cond-true _ news [] (eq-eqb d c e) in
        let in_here : is_in (s.status d) ≡ true = subst (λ x. is_in (s.status x) ≡ true) (sym e) here in
        record {
          same = same;
          told = told_quiet setup s s' (s.status d) out a b stay (subst (λ (l : List Down). IsQuiet setup l) (sym now) quiet)
              (λ f. absurd (true≢false (sym in_here ∙ f)));
        }
    by (inr apart) =
        let now : out ≡ [] = cond-false _ news [] (ne_eqb d c apart) in
        record {
          same = same;
          told = told_quiet setup s s' (s.status d) out a b stay (subst (λ (l : List Down). IsQuiet setup l) (sym now) (quiet_none setup)) (λ f. now);
        }

-- A command.
pub goes_command : (setup : Setup) (s : Server) (c t d done : ℕ) (x : Command) → s.status c ≡ In done → s.released ≤ done
    → Goes setup s (heard {B = Past} (rules_of setup) s (Heard c (up.Command t x))) (posts {B = Past} (rules_of setup) s (Heard c (up.Command t x)) d) d
goes_command setup s c t d done x e low = by (command_fault (rules_of setup) (s.kept t) c t (s.status c)) refl
  where
    item : PlayerCommand
    item = record { player = c; command = x }

    above : (st : Status) → st ≡ In done → command_fault (rules_of setup) (s.kept t) c t st ≡ None → s.released < t
    above Out f g = absurd (cc)
    above (Waiting j) f g = absurd (cc)
    above (In n) f g = let same : n ≡ done = cc in test same (t == suc n && nat_le t setup.turns) refl g
      where
        test : n ≡ done → (b : Bool) → (t == suc n && nat_le t setup.turns) ≡ b
            → (let o : Option ℕ = (if b then crowd_fault (nat_lt (count_by (is_by c) (s.kept t)) 64) else Some 2) in o ≡ None) → s.released < t
        test same true k g = let next : t ≡ suc n = eqb-true t (suc n) ((and_parts _ _ k).0) in omega arith
        test same false k g = absurd (cc)

    by : (fault : Option ℕ) → command_fault (rules_of setup) (s.kept t) c t (s.status c) ≡ fault
        → Goes setup s (unless fault (keeps t item s) s) (refusal c fault (to_all s.status (down.Command t item)) d) d
    by None f =
        record {
          same = refl;
          told = told_all setup s (keeps t item s) (s.status d) (down.Command t item) (λ j h. h)
              (λ n o ups downs k p. plays_kept setup s.released s.kept n o ups downs t item (above (s.status c) e f) p);
        }
    by (Some code) f = goes_one setup s s c d (down.Refused code ∷ []) refl refl (λ j h. h) refl (ap is_in e) (quiet_refused setup code)

-- A report.
pub goes_report : (setup : Setup) (s : Server) (c t : ℕ) (g : List ℕ) (d : ℕ) → is_in (s.status c) ≡ true
    → Goes setup s (heard {B = Past} (rules_of setup) s (Heard c (up.Report t g))) (posts {B = Past} (rules_of setup) s (Heard c (up.Report t g)) d) d
goes_report setup s c t g d here = by (report_fault s.released t (s.status c)) (differs (s.reference t) g)
  where
    s1 : Server
    s1 = reported t g s

    by : (fault : Option ℕ) (b : Bool)
        → Goes setup s (unless fault s1 s) (refusal c fault (if b then to_all s.status (down.Notice t c) else nobody) d) d
    by None true =
        record {
          same = refl;
          told = told_all setup s s1 (s.status d) (down.Notice t c) (λ j h. h) (λ n o ups downs k p. plays_posted setup s.released s.kept n o ups downs
              (down.Notice t c ∷ []) p (λ l. tt) (λ u. refl));
        }
    by None false = record { same = refl; told = told_quiet setup s s1 (s.status d) [] refl refl (λ j h. h) (quiet_none setup) (λ e. refl) }
    by (Some code) b = goes_one setup s s c d (down.Refused code ∷ []) refl refl (λ j h. h) refl here (quiet_refused setup code)

-- A join of a client that is not out.
pub goes_join_again : (setup : Setup) (s : Server) (c d : ℕ) → is_out (s.status c) ≡ false
    → Goes setup s (heard {B = Past} (rules_of setup) s (Heard c up.Join)) (posts {B = Past} (rules_of setup) s (Heard c up.Join) d) d
goes_join_again setup s c d e = by (is_out (s.status c)) e
  where
    by : (b : Bool) → b ≡ false
        → Goes setup s (if b then with_status c (seat (donor (rules_of setup) s)) s else s)
        ((if b then asked {B = Past} (donor (rules_of setup) s) (c ∷ []) (λ x. x == c) else nobody) d) d
    by true f = absurd (true≢false f)
    by false f = goes_nothing setup s d

-- ---- a status that changes

-- A state that is accepted, for a client other than the one that loads.
pub goes_state : (setup : Setup) (s : Server) (j d entry : ℕ) (news : List Down) → (d ≡ j → ⊥)
    → Goes setup s (with_status j (In entry) s) (if d == j then news else []) d
goes_state setup s j d entry news apart =
    let now : (if d == j then news else []) ≡ [] = cond-false _ news [] (ne_eqb d j apart) in
    let same : put j (In entry) s.status d ≡ s.status d = put_other j (In entry) s.status d apart in
    record {
      same = same;
      told = told_quiet setup s (with_status j (In entry) s) (s.status d) _ refl refl (stay_put s j (In entry) (λ h. refl))
          (subst (λ (l : List Down). IsQuiet setup l) (sym now) (quiet_none setup)) (λ f. now);
    }

-- The steps of one client keep what fits.

pub fits_as : (setup : Setup) (s : Server) (st st' : Status) (ph ph' : Phase) (ups ups' : List Up) (downs downs' : List Down) → st ≡ st' → ph ≡ ph'
    → ups ≡ ups' → downs ≡ downs' → Fits setup s st ph ups downs → Fits setup s st' ph' ups' downs'
fits_as setup s st st' ph ph' ups ups' downs downs' a b c d h = subst (λ (x : Status × Phase × List Up × List Down). Fits setup s x.0 x.1 x.2 x.3)
    (λ i. (a i, b i, c i, d i)) h

-- an action and what it leaves
abbrev pub FitsThen : Setup → Server → Status → List Up → List Down → Acted → Type 0
FitsThen setup s st ups downs a = Fits setup s st a.phase (ups ++ a.says) downs

fits_idle : (setup : Setup) (s : Server) (st : Status) (ph : Phase) (ups : List Up) (downs : List Down) → Fits setup s st ph ups downs
    → FitsThen setup s st ups downs (idle ph)
fits_idle setup s st ph ups downs h = fits_as setup s st st ph ph ups (ups ++ []) downs downs refl refl (sym (append-nil ups)) refl h

-- who plays goes on playing
fits_then : (setup : Setup) (s : Server) (done : ℕ) (ups : List Up) (downs : List Down) (ph : Phase) (says : List Up)
    → PlaysThen setup s.released s.kept done ups downs ph says → Fits setup s (In done) ph (ups ++ says) downs
fits_then setup s done ups downs Off says h = absurd h
fits_then setup s done ups downs Joining says h = absurd h
fits_then setup s done ups downs (On o) says h = h

fits_orders : (setup : Setup) (s : Server) (c : ℕ) (x : Command) (st : Status) (ph : Phase) (ups : List Up) (downs : List Down)
    → Fits setup s st ph ups downs → FitsThen setup s st ups downs (orders setup c x ph)
fits_orders setup s c x st Off ups downs h = fits_idle setup s st Off ups downs h
fits_orders setup s c x st Joining ups downs h = fits_idle setup s st Joining ups downs h
fits_orders setup s c x Out (On o) ups downs h = absurd h
fits_orders setup s c x (Waiting j) (On o) ups downs h = absurd h
fits_orders setup s c x (In done) (On o) ups downs h = fits_then setup s done ups downs _ _ (plays_ordered setup s.released s.kept done c x o ups downs h)

fits_plays : (setup : Setup) (s : Server) (c : ℕ) (st : Status) (ph : Phase) (ups : List Up) (downs : List Down) → Fits setup s st ph ups downs
    → FitsThen setup s st ups downs (plays setup c ph)
fits_plays setup s c st Off ups downs h = fits_idle setup s st Off ups downs h
fits_plays setup s c st Joining ups downs h = fits_idle setup s st Joining ups downs h
fits_plays setup s c Out (On o) ups downs h = absurd h
fits_plays setup s c (Waiting j) (On o) ups downs h = absurd h
fits_plays setup s c (In done) (On o) ups downs h = fits_then setup s done ups downs _ _ (plays_plays setup s.released s.kept done c o ups downs h)

fits_bends : (setup : Setup) (s : Server) (c e : ℕ) (g : ℤ) (st : Status) (ph : Phase) (ups : List Up) (downs : List Down)
    → Fits setup s st ph ups downs → FitsThen setup s st ups downs (bends setup c e g ph)
fits_bends setup s c e g st Off ups downs h = fits_idle setup s st Off ups downs h
fits_bends setup s c e g st Joining ups downs h = fits_idle setup s st Joining ups downs h
fits_bends setup s c e g Out (On o) ups downs h = absurd h
fits_bends setup s c e g (Waiting j) (On o) ups downs h = absurd h
fits_bends setup s c e g (In done) (On o) ups downs h = fits_then setup s done ups downs _ _ (plays_bends setup s.released s.kept done c e g o ups downs h)

fits_joins : (setup : Setup) (s : Server) (c : ℕ) (st : Status) (ph : Phase) (ups : List Up) (downs : List Down) → Fits setup s st ph ups downs
    → FitsThen setup s st ups downs (joins c ph)
fits_joins setup s c Out Off ups downs h = inl ((ap (λ (l : List Up). l ++ up.Join ∷ []) h.no_ups), h.no_downs)
fits_joins setup s c (Waiting j) Off ups downs h = absurd h
fits_joins setup s c (In done) Off ups downs h = absurd h
fits_joins setup s c st Joining ups downs h = fits_idle setup s st Joining ups downs h
fits_joins setup s c st (On o) ups downs h = fits_idle setup s st (On o) ups downs h

-- the first message of a down pipe is heard
fits_hears : (setup : Setup) (s : Server) (c : ℕ) (st : Status) (ph : Phase) (ups : List Up) (x : Down) (downs : List Down) → Sound setup s
    → Fits setup s st ph ups (x ∷ downs) → FitsThen setup s st ups downs (hears setup c ph x)
fits_hears setup s c Out Off ups x downs sound h = let e = h.no_downs in absurd (cc)
fits_hears setup s c Out Joining ups x downs sound (inl h) = let e = h.1 in absurd (cc)
fits_hears setup s c Out Joining ups x downs sound (inr h) =
    let both = h.1 in
    let first : x ≡ down.Refused 4 = cc in
    let rest : downs ≡ [] = cc in
    subst (λ (y : Down). FitsThen setup s Out ups downs (hears setup c Joining y)) (sym first) (record { no_ups = append-nil ups ∙ h.0; no_downs = rest })
fits_hears setup s c Out (On o) ups x downs sound h = absurd h
fits_hears setup s c (Waiting j) Off ups x downs sound h = absurd h
fits_hears setup s c (Waiting j) Joining ups x downs sound h = let e = h.nothing.no_downs in absurd (cc)
fits_hears setup s c (Waiting j) (On o) ups x downs sound h = absurd h
fits_hears setup s c (In done) Off ups x downs sound h = absurd h
fits_hears setup s c (In done) Joining ups x downs sound h =
    let both = h.first in
    let first : x ≡ down.State done h.carried = cc in
    let rest : downs ≡ h.rest = cc in
    subst (λ (y : Down). FitsThen setup s (In done) ups downs (hears setup c Joining y)) (sym first)
    (subst (λ (z : List Up × List Down). Plays setup s.released s.kept done (begun done (turns_in h.carried) h.carried) z.0 z.1)
    (λ i. ((sym (append-nil ups ∙ h.empty)) i, sym rest i)) h.soon)
fits_hears setup s c (In done) (On o) ups x downs sound h = fits_then setup s done ups downs _ _
    (plays_heard setup s.released s.kept done c o ups x downs sound.players h)

-- ---- the session

-- one client acts, and its down pipe may have changed
holds_acts : (setup : Setup) (s : Session) (c : ℕ) (a : Acted) (downs : List Down) → Holds setup s
    → FitsThen setup s.server (s.server.status c) (s.ups c) downs a → Holds setup (acts c a (record s { downs = put c downs s.downs }))
holds_acts setup s c a downs h own = record { server = h.server; each = λ d. by d (cases_eq d c) }
  where
    s' : Session
    s' = acts c a (record s { downs = put c downs s.downs })

    by : (d : ℕ) → (d ≡ c) ⊎ (d ≡ c → ⊥) → Fits setup s'.server (s'.server.status d) (s'.client d) (s'.ups d) (s'.downs d)
    by d (inl e) =
        subst (λ z. Fits setup s'.server (s'.server.status z) (s'.client z) (s'.ups z) (s'.downs z)) (sym e)
        (fits_as setup s.server _ _ _ _ _ _ _ _ refl (sym (put_same c a.phase s.client)) (sym (put_same c (s.ups c ++ a.says) s.ups))
        (sym (put_same c downs s.downs)) own)
    by d (inr apart) =
        fits_as setup s.server _ _ _ _ _ _ _ _ refl (sym (put_other c a.phase s.client d apart)) (sym (put_other c (s.ups c ++ a.says) s.ups d apart))
        (sym (put_other c downs s.downs d apart)) (h.each d)

-- the same where it leaves its down pipe alone
holds_acts_alone : (setup : Setup) (s : Session) (c : ℕ) (a : Acted) → Holds setup s
    → FitsThen setup s.server (s.server.status c) (s.ups c) (s.downs c) a → Holds setup (acts c a s)
holds_acts_alone setup s c a h own = record { server = h.server; each = λ d. by d (cases_eq d c) }
  where
    s' : Session
    s' = acts c a s

    by : (d : ℕ) → (d ≡ c) ⊎ (d ≡ c → ⊥) → Fits setup s'.server (s'.server.status d) (s'.client d) (s'.ups d) (s'.downs d)
    by d (inl e) =
        subst (λ z. Fits setup s'.server (s'.server.status z) (s'.client z) (s'.ups z) (s'.downs z)) (sym e)
        (fits_as setup s.server _ _ _ _ _ _ _ _ refl (sym (put_same c a.phase s.client)) (sym (put_same c (s.ups c ++ a.says) s.ups)) refl own)
    by d (inr apart) = fits_as setup s.server _ _ _ _ _ _ _ _ refl (sym (put_other c a.phase s.client d apart))
        (sym (put_other c (s.ups c ++ a.says) s.ups d apart)) refl (h.each d)

pub holds_order : (setup : Setup) (s : Session) (c : ℕ) (x : Command) → Holds setup s → Holds setup (acts c (orders setup c x (s.client c)) s)
holds_order setup s c x h = holds_acts_alone setup s c (orders setup c x (s.client c)) h (fits_orders setup s.server c x (s.server.status c) (s.client c)
    (s.ups c) (s.downs c) (h.each c))

pub holds_play : (setup : Setup) (s : Session) (c : ℕ) → Holds setup s → Holds setup (acts c (plays setup c (s.client c)) s)
holds_play setup s c h = holds_acts_alone setup s c (plays setup c (s.client c)) h (fits_plays setup s.server c (s.server.status c) (s.client c) (s.ups c)
    (s.downs c) (h.each c))

pub holds_bend : (setup : Setup) (s : Session) (c e : ℕ) (g : ℤ) → Holds setup s → Holds setup (acts c (bends setup c e g (s.client c)) s)
holds_bend setup s c e g h = holds_acts_alone setup s c (bends setup c e g (s.client c)) h (fits_bends setup s.server c e g (s.server.status c) (s.client c)
    (s.ups c) (s.downs c) (h.each c))

pub holds_join : (setup : Setup) (s : Session) (c : ℕ) → Holds setup s → Holds setup (acts c (joins c (s.client c)) s)
holds_join setup s c h = holds_acts_alone setup s c (joins c (s.client c)) h (fits_joins setup s.server c (s.server.status c) (s.client c) (s.ups c) (s.downs c)
    (h.each c))

pub holds_down : (setup : Setup) (s : Session) (c : ℕ) → Holds setup s → Holds setup (falls setup c (s.downs c) s)
holds_down setup s c h = by (s.downs c) (h.each c)
  where
    by : (downs : List Down) → Fits setup s.server (s.server.status c) (s.client c) (s.ups c) downs → Holds setup (falls setup c downs s)
    by [] own = h
    by (x ∷ downs) own = holds_acts setup s c (hears setup c (s.client c) x) downs h (fits_hears setup s.server c (s.server.status c) (s.client c) (s.ups c) x
        downs h.server own)

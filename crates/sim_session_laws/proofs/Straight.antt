-- A session in which nobody is bent: no past has a bend, and each report of a turn is the mark after the kept turns.
use Rattle.sim_base.specs.declared.step.Step.TheVariants as step
use Rattle.sim_plain.specs.declared.message.DownOf.TheVariants as down
use Rattle.sim_plain.specs.declared.message.UpOf.TheVariants as up
use Rattle.sim_session_laws.proofs.{Basics.{Holds, kept_turns_final}, Common.{Acted, acts, after, after_steps, All, All-append, All-cons, All-head, All-nil}}
use Rattle.sim_session_laws.proofs.Common.{All-tail, All-weaker, ap, arith, Arrival, arrives, asked, begun, Bool, client_of, Command, command_fault, Cut, cut}
use Rattle.sim_session_laws.proofs.Common.{differs, done_fault, donor, Down, entry_done, falls, false, filter, Heard, heard, hears, idle, if◌then◌else◌, In}
use Rattle.sim_session_laws.proofs.Common.{is_active, is_bend, is_client, is_in, is_out, is_unbent, Joining, joins, kept_above, kept_turns, learns, leaves}
use Rattle.sim_session_laws.proofs.Common.{List, loading, map, mark, mark_of, may_order, may_play, may_tell_done, min, nat_lt, nobody, None, Off, On, opened}
use Rattle.sim_session_laws.proofs.Common.{Option, ordered, orders, Out, Past, Phase, played, PlayerCommand, plays, Posts, posts, put, put_same, raised, refl}
use Rattle.sim_session_laws.proofs.Common.{refusal, refused, release, report_fault, report_of, rises, rules_of, Seat, Server, Session, session, Setup, Some}
use Rattle.sim_session_laws.proofs.Common.{Status, Step, stepped, stepped_by, subst, suc, sym, takes_state, to_all, to_one, told, told_alone, told_with_done}
use Rattle.sim_session_laws.proofs.Common.{true, turns_in, Up, up_to, waits_for, with_status, zero, ℕ, [], ◌&&◌, ◌++◌, ◌+◌, ◌-◌, ◌==◌, ◌∙◌, ◌∷◌, ◌≡◌, ◌≤◌}
use Rattle.sim_session_laws.proofs.{CutSteps.{holds_opened, holds_stepped}, Fitting.{dones_are_turns, good_on, Grown, heard_grows}}
use Rattle.sim_session_laws.proofs.ServerLemmas.{holds_down, holds_join, holds_order, holds_play}

-- what a report of a turn says where nobody was bent
abbrev pub mark_at : Setup → Server → ℕ → List ℕ
mark_at setup s t = mark setup (after setup (kept_turns s.kept t))

abbrev pub IsStraightUp : Setup → Server → Up → Type 0
IsStraightUp setup s up.Join = Unit {0}
IsStraightUp setup s (up.Command t x) = Unit {0}
IsStraightUp setup s (up.Done t) = Unit {0}
IsStraightUp setup s (up.Report t g) = (t ≤ s.released) × (g ≡ mark_at setup s t)
IsStraightUp setup s (up.State j t past) = is_unbent past ≡ true

abbrev pub IsStraightArrival : Setup → Server → Arrival Past → Type 0
IsStraightArrival setup s (Heard c said) = IsStraightUp setup s said
IsStraightArrival setup s (Cut c) = Unit {0}

abbrev IsStraightDown : Down → Type 0
IsStraightDown (down.Ask j) = Unit {0}
IsStraightDown (down.State done past) = is_unbent past ≡ true
IsStraightDown (down.Command t x) = Unit {0}
IsStraightDown (down.Release t) = Unit {0}
IsStraightDown (down.Notice t j) = Unit {0}
IsStraightDown (down.Refused code) = Unit {0}

abbrev IsStraightPhase : Phase → Type 0
IsStraightPhase Off = Unit {0}
IsStraightPhase Joining = Unit {0}
IsStraightPhase (On o) = is_unbent o.past ≡ true

pub record Straight (setup : Setup) (s : Session) : Type 0 where
  pub phases : (c : ℕ) → IsStraightPhase (s.client c)
  pub ups : (c : ℕ) → All (IsStraightUp setup s.server) (s.ups c)
  pub downs : (c : ℕ) → All IsStraightDown (s.downs c)
  pub arrivals : All (IsStraightArrival setup s.server) s.arrivals

-- ---- what was straight stays so as more is released

up_grows : (setup : Setup) (a b : Server) → Grown a b → (x : Up) → IsStraightUp setup a x → IsStraightUp setup b x
up_grows setup a b g up.Join h = tt
up_grows setup a b g (up.Command t x) h = tt
up_grows setup a b g (up.Done t) h = tt
up_grows setup a b g (up.Report t m) h = (
  (let more = g.more in let low = h.0 in omega arith),
  h.1 ∙ ap (λ (past : Past). mark setup (after setup past)) (sym (kept_turns_final a.released b.released a.kept b.kept t g h.0)),
)
up_grows setup a b g (up.State j t past) h = h

arrival_grows : (setup : Setup) (a b : Server) → Grown a b → (x : Arrival Past) → IsStraightArrival setup a x → IsStraightArrival setup b x
arrival_grows setup a b g (Heard c said) h = up_grows setup a b g said h
arrival_grows setup a b g (Cut c) h = tt

-- ---- what a client does

-- what it says is of what it is then
abbrev IsOwn : Setup → Phase → Up → Type 0
IsOwn setup ph up.Join = Unit {0}
IsOwn setup ph (up.Command t x) = Unit {0}
IsOwn setup ph (up.Done t) = Unit {0}
IsOwn setup ph (up.Report t g) = (o : Seat) × (ph ≡ On o) × (t ≡ turns_in o.past) × (g ≡ mark_of setup o)
IsOwn setup ph (up.State j t past) = is_unbent past ≡ true

own_straight : (setup : Setup) (s : Session) (c : ℕ) → Holds setup s → IsStraightPhase (s.client c) → (x : Up) → IsOwn setup (s.client c) x
    → IsStraightUp setup s.server x
own_straight setup s c h straight up.Join own = tt
own_straight setup s c h straight (up.Command t x) own = tt
own_straight setup s c h straight (up.Done t) own = tt
own_straight setup s c h straight (up.Report t g) own =
    let good = (good_on setup s c own.0 h own.1).2.past in
    let kept = good.unbent (subst IsStraightPhase own.1 straight) in (
      (let low = good.turn in let at = own.2 in omega (arith, at, low)),
      own.3 ∙ ap (λ (past : Past). mark setup (after setup past)) kept ∙ ap (mark_at setup s.server) (sym own.2),
    )
own_straight setup s c h straight (up.State j t past) own = own

abbrev ActsStraight : Setup → Acted → Type 0
ActsStraight setup acted = IsStraightPhase acted.phase × All (IsOwn setup acted.phase) acted.says

straight_if : (setup : Setup) (b : Bool) (x y : Acted) → ActsStraight setup x → ActsStraight setup y → ActsStraight setup (if b then x else y)
straight_if setup true x y h k = h
straight_if setup false x y h k = k

-- one that says nothing
calm : (setup : Setup) (ph : Phase) → All (IsOwn setup ph) []
calm setup ph = All-nil (IsOwn setup ph)

straight_orders : (setup : Setup) (c : ℕ) (x : Command) (ph : Phase) → IsStraightPhase ph → ActsStraight setup (orders setup c x ph)
straight_orders setup c x Off h = (tt, calm setup Off)
straight_orders setup c x Joining h = (tt, calm setup Joining)
straight_orders setup c x (On o) h =
    let next = (ordered c x o).phase in
    straight_if setup (may_order setup o) (ordered c x o) (idle (On o))
    (h, All-cons (IsOwn setup next) (up.Command (suc o.done) x) [] tt (calm setup next))
    (h, calm setup (On o))

straight_told : (setup : Setup) (c : ℕ) (o : Seat) → is_unbent o.past ≡ true → ActsStraight setup (told setup c o)
straight_told setup c o h =
    let next : Seat = record o { done = suc o.done; orders = 0 } in
    straight_if setup (may_tell_done setup o) (told_with_done setup c o) (told_alone setup c o) (
      h,
      All-cons (IsOwn setup (On next)) (report_of setup o) (up.Done (suc o.done) ∷ []) (next, refl, refl, refl)
          (All-cons (IsOwn setup (On next)) (up.Done (suc o.done)) [] tt (calm setup (On next))),
    )
    (h, All-cons (IsOwn setup (On o)) (report_of setup o) [] (o, refl, refl, refl) (calm setup (On o)))

straight_plays : (setup : Setup) (c : ℕ) (ph : Phase) → IsStraightPhase ph → ActsStraight setup (plays setup c ph)
straight_plays setup c Off h = (tt, calm setup Off)
straight_plays setup c Joining h = (tt, calm setup Joining)
straight_plays setup c (On o) h =
    straight_if setup (may_play setup o) (told setup c (played o)) (idle (On o)) (straight_told setup c (played o) h) (h, calm setup (On o))

straight_joins : (setup : Setup) (c : ℕ) (ph : Phase) → IsStraightPhase ph → ActsStraight setup (joins c ph)
straight_joins setup c Off h = (tt, All-cons (IsOwn setup Joining) up.Join [] tt (calm setup Joining))
straight_joins setup c Joining h = (tt, calm setup Joining)
straight_joins setup c (On o) h = (h, calm setup (On o))

straight_learns : (setup : Setup) (t : ℕ) (x : PlayerCommand) (o : Seat) → is_unbent o.past ≡ true → is_unbent (learns setup t x o).past ≡ true
straight_learns setup t x o h = by (nat_lt (turns_in o.past) t && is_client setup x.player)
  where
    by : (b : Bool) → is_unbent (if b then record o { known = put t (o.known t ++ x ∷ []) o.known } else o).past ≡ true
    by true = h
    by false = h

straight_refused : (code : ℕ) → IsStraightPhase (refused code)
straight_refused code = by (code == 4)
  where
    by : (b : Bool) → IsStraightPhase (if b then Off else Joining)
    by true = tt
    by false = tt

straight_hears : (setup : Setup) (c : ℕ) (ph : Phase) (x : Down) → IsStraightPhase ph → IsStraightDown x → ActsStraight setup (hears setup c ph x)
straight_hears setup c Off (down.Ask j) h k = (tt, calm setup Off)
straight_hears setup c Off (down.State done past) h k = (tt, calm setup Off)
straight_hears setup c Off (down.Command t x) h k = (tt, calm setup Off)
straight_hears setup c Off (down.Release t) h k = (tt, calm setup Off)
straight_hears setup c Off (down.Notice t j) h k = (tt, calm setup Off)
straight_hears setup c Off (down.Refused code) h k = (tt, calm setup Off)
straight_hears setup c Joining (down.Ask j) h k = (tt, calm setup Joining)
straight_hears setup c Joining (down.State done past) h k = (k, calm setup _)
straight_hears setup c Joining (down.Command t x) h k = (tt, calm setup Joining)
straight_hears setup c Joining (down.Release t) h k = (tt, calm setup Joining)
straight_hears setup c Joining (down.Notice t j) h k = (tt, calm setup Joining)
straight_hears setup c Joining (down.Refused code) h k = (straight_refused code, calm setup (refused code))
straight_hears setup c (On o) (down.Ask j) h k = (h, All-cons (IsOwn setup (On o)) (up.State j (turns_in o.past) o.past) [] h (calm setup (On o)))
straight_hears setup c (On o) (down.State done past) h k = (h, calm setup (On o))
straight_hears setup c (On o) (down.Command t x) h k = (straight_learns setup t x o h, calm setup (On (learns setup t x o)))
straight_hears setup c (On o) (down.Release t) h k = (h, calm setup _)
straight_hears setup c (On o) (down.Notice t j) h k = (h, calm setup (On o))
straight_hears setup c (On o) (down.Refused code) h k = (h, calm setup (On o))

straight_acts : (setup : Setup) (c : ℕ) (acted : Acted) (s : Session) → Holds setup (acts c acted s) → ActsStraight setup acted → Straight setup s
    → Straight setup (acts c acted s)
straight_acts setup c acted s holds it h = record {
  phases = λ d. phase d (d == c);
  ups = λ d. said d (d == c);
  downs = h.downs;
  arrivals = h.arrivals;
}
  where
    now : Session
    now = acts c acted s

    here : now.client c ≡ acted.phase
    here = put_same c acted.phase s.client

    own : (x : Up) → IsOwn setup acted.phase x → IsStraightUp setup s.server x
    own x is =
        own_straight setup now c holds (subst IsStraightPhase (sym here) it.0) x (subst (λ (ph : Phase). IsOwn setup ph x) (sym here) is)

    phase : (d : ℕ) (b : Bool) → IsStraightPhase (if b then acted.phase else s.client d)
    phase d true = it.0
    phase d false = h.phases d

    said : (d : ℕ) (b : Bool) → All (IsStraightUp setup s.server) (if b then s.ups c ++ acted.says else s.ups d)
    said d true =
        All-append (IsStraightUp setup s.server) (s.ups c) acted.says (h.ups c)
        (All-weaker (IsOwn setup acted.phase) (IsStraightUp setup s.server) own acted.says it.1)
    said d false = h.ups d

-- ---- what the server says

quiet : All IsStraightDown []
quiet = All-nil IsStraightDown

one_told : (x : Down) → IsStraightDown x → All IsStraightDown (x ∷ [])
one_told x h = All-cons IsStraightDown x [] h quiet

told_if : (b : Bool) (said : List Down) → All IsStraightDown said → All IsStraightDown (if b then said else [])
told_if true said h = h
told_if false said h = quiet

posts_if : (b : Bool) (x y : Posts Past) (d : ℕ) → All IsStraightDown (x d) → All IsStraightDown (y d) → All IsStraightDown ((if b then x else y) d)
posts_if true x y d h k = h
posts_if false x y d h k = k

refused_or : (c : ℕ) (fault : Option ℕ) (x : Posts Past) (d : ℕ) → All IsStraightDown (x d) → All IsStraightDown (refusal c fault x d)
refused_or c None x d h = h
refused_or c (Some code) x d h = told_if (d == c) (down.Refused code ∷ []) (one_told (down.Refused code) tt)

asks : (who : List ℕ) → All IsStraightDown (map down.Ask who)
asks [] = quiet
asks (j ∷ who) = All-cons IsStraightDown (down.Ask j) (map down.Ask who) tt (asks who)

asked_straight : (donor : Option ℕ) (who : List ℕ) (wants : ℕ → Bool) (d : ℕ) → All IsStraightDown (asked {B = Past} donor who wants d)
asked_straight None who wants d = told_if (wants d) (down.Refused 4 ∷ []) (one_told (down.Refused 4) tt)
asked_straight (Some k) who wants d = told_if (d == k) (map down.Ask who) (asks who)

release_straight : (status : ℕ → Status) (released risen d : ℕ) → All IsStraightDown (release {B = Past} status released risen d)
release_straight status released risen d =
    posts_if (nat_lt released risen) (to_all status (down.Release risen)) nobody d
    (told_if (is_in (status d)) (down.Release risen ∷ []) (one_told (down.Release risen) tt)) quiet

commands : (t : ℕ) (xs : List PlayerCommand) → All IsStraightDown (map (down.Command t) xs)
commands t [] = quiet
commands t (x ∷ xs) = All-cons IsStraightDown (down.Command t x) (map (down.Command t) xs) tt (commands t xs)

kept_straight : (kept : ℕ → List PlayerCommand) (t n : ℕ) → All IsStraightDown (kept_above {B = Past} kept t n)
kept_straight kept t zero = quiet
kept_straight kept t (suc n) =
    All-append IsStraightDown (kept_above kept t n) (map (down.Command (suc (t + n))) (kept (suc (t + n))))
    (kept_straight kept t n) (commands (suc (t + n)) (kept (suc (t + n))))

posts_straight : (setup : Setup) (s : Server) (a : Arrival Past) → IsStraightArrival setup s a → (d : ℕ)
    → All IsStraightDown (posts (rules_of setup) s a d)
posts_straight setup s (Heard c up.Join) h d =
    posts_if (is_out (s.status c)) (asked (donor (rules_of setup) s) (c ∷ []) (λ e. e == c)) nobody d
    (asked_straight (donor (rules_of setup) s) (c ∷ []) (λ e. e == c) d) quiet
posts_straight setup s (Heard c (up.Command t x)) h d =
    let told : Down = down.Command t (record { player = c; command = x }) in
    refused_or c (command_fault (rules_of setup) (s.kept t) c t (s.status c)) (to_all s.status told) d
    (told_if (is_in (s.status d)) (told ∷ []) (one_told told tt))
posts_straight setup s (Heard c (up.Done t)) h d =
    let next = put c (In t) s.status in
    let risen = (raised (rules_of setup) (with_status c (In t) s)).released in
    refused_or c (done_fault (rules_of setup) s.released t (s.status c)) (release next s.released risen) d (release_straight next s.released risen d)
posts_straight setup s (Heard c (up.Report t g)) h d =
    refused_or c (report_fault s.released t (s.status c)) (if differs (s.reference t) g then to_all s.status (down.Notice t c) else nobody) d
    (posts_if (differs (s.reference t) g) (to_all s.status (down.Notice t c)) nobody d
    (told_if (is_in (s.status d)) (down.Notice t c ∷ []) (one_told (down.Notice t c) tt)) quiet)
posts_straight setup s (Heard c (up.State j t past)) h d =
    let first : Down = down.State (entry_done (rules_of setup) s.released t) past in
    let commands = kept_above s.kept t (setup.turns - t) in
    let rest =
    All-append IsStraightDown commands (down.Release s.released ∷ []) (kept_straight s.kept t (setup.turns - t)) (one_told (down.Release s.released) tt) in
    posts_if (takes_state s.released c t (s.status j)) (to_one j (loading (rules_of setup) s t past)) nobody d
    (told_if (d == j) (loading (rules_of setup) s t past) (All-cons IsStraightDown first (commands ++ down.Release s.released ∷ []) h rest))
    quiet
posts_straight setup s (Cut c) h d =
    let out = with_status c Out s in
    let who = filter (λ j. waits_for c (out.status j)) (up_to setup.players) in
    All-append IsStraightDown (release out.status out.released (raised (rules_of setup) out).released d)
    (asked (donor (rules_of setup) out) who (λ j. waits_for c (out.status j)) d)
    (release_straight out.status out.released (raised (rules_of setup) out).released d)
    (asked_straight (donor (rules_of setup) out) who (λ j. waits_for c (out.status j)) d)

-- ---- a step

straight_arrives : (setup : Setup) (a : Arrival Past) (s : Session) → Grown s.server (heard (rules_of setup) s.server a)
    → IsStraightArrival setup s.server a → Straight setup s → Straight setup (arrives setup a s)
straight_arrives setup a s grown it h =
    let next = heard (rules_of setup) s.server a in
    record {
      phases = h.phases;
      ups = λ d. All-weaker (IsStraightUp setup s.server) (IsStraightUp setup next) (up_grows setup s.server next grown) (s.ups d) (h.ups d);
      downs = λ d. All-append IsStraightDown (s.downs d) (posts (rules_of setup) s.server a d) (h.downs d) (posts_straight setup s.server a it d);
      arrivals =
          All-weaker (IsStraightArrival setup s.server) (IsStraightArrival setup next) (arrival_grows setup s.server next grown) (a ∷ s.arrivals)
          (All-cons (IsStraightArrival setup s.server) a s.arrivals it h.arrivals);
    }

-- every client that is in is done with the released turns at least
abbrev AreDone : Server → Type 0
AreDone s = (d done : ℕ) → s.status d ≡ In done → s.released ≤ done

straight_rises : (setup : Setup) (c : ℕ) (ups : List Up) (s : Session) → AreDone s.server → All (IsStraightUp setup s.server) ups → Straight setup s
    → Straight setup (rises setup c ups s)
straight_rises setup c [] s low said h = h
straight_rises setup c (x ∷ rest) s low said h =
    straight_arrives setup (Heard c x) (record s { ups = put c rest s.ups }) (heard_grows setup s.server (Heard c x) low)
    (All-head (IsStraightUp setup s.server) x rest said)
    (record { phases = h.phases; ups = λ d. left d (d == c); downs = h.downs; arrivals = h.arrivals })
  where
    left : (d : ℕ) (b : Bool) → All (IsStraightUp setup s.server) (if b then rest else s.ups d)
    left d true = All-tail (IsStraightUp setup s.server) x rest said
    left d false = h.ups d

straight_falls : (setup : Setup) (c : ℕ) (downs : List Down) (s : Session) → Holds setup (falls setup c downs s) → All IsStraightDown downs
    → Straight setup s
    → Straight setup (falls setup c downs s)
straight_falls setup c [] s holds said h = h
straight_falls setup c (x ∷ rest) s holds said h =
    straight_acts setup c (hears setup c (s.client c) x) (record s { downs = put c rest s.downs }) holds
    (straight_hears setup c (s.client c) x (h.phases c) (All-head IsStraightDown x rest said))
    (record { phases = h.phases; ups = h.ups; downs = λ d. left d (d == c); arrivals = h.arrivals })
  where
    left : (d : ℕ) (b : Bool) → All IsStraightDown (if b then rest else s.downs d)
    left d true = All-tail IsStraightDown x rest said
    left d false = h.downs d

straight_cut : (setup : Setup) (c : ℕ) (s : Session) → AreDone s.server → Straight setup s → Straight setup (cut setup c s)
straight_cut setup c s low h =
    straight_arrives setup (Cut c) (record s { client = put c Off s.client; ups = put c [] s.ups; downs = put c [] s.downs })
    (heard_grows setup s.server (Cut c) low) tt
    (record { phases = λ d. phase d (d == c); ups = λ d. said d (d == c); downs = λ d. told d (d == c); arrivals = h.arrivals })
  where
    phase : (d : ℕ) (b : Bool) → IsStraightPhase (if b then Off else s.client d)
    phase d true = tt
    phase d false = h.phases d

    said : (d : ℕ) (b : Bool) → All (IsStraightUp setup s.server) (if b then [] else s.ups d)
    said d true = All-nil (IsStraightUp setup s.server)
    said d false = h.ups d

    told : (d : ℕ) (b : Bool) → All IsStraightDown (if b then [] else s.downs d)
    told d true = quiet
    told d false = h.downs d

straight_leaves : (setup : Setup) (c : ℕ) (ph : Phase) (s : Session) → AreDone s.server → Straight setup s → Straight setup (leaves setup c ph s)
straight_leaves setup c Off s low h = h
straight_leaves setup c Joining s low h = straight_cut setup c s low h
straight_leaves setup c (On o) s low h = straight_cut setup c s low h

straight_stepped_by : (setup : Setup) (s : Session) (x : Step) → Holds setup s → is_bend x ≡ false → Straight setup s
    → Straight setup (stepped_by setup s x)
straight_stepped_by setup s (step.Order c x) holds calm h =
    straight_acts setup c (orders setup c x (s.client c)) s (holds_order setup s c x holds) (straight_orders setup c x (s.client c) (h.phases c)) h
straight_stepped_by setup s (step.Up c) holds calm h =
    straight_rises setup c (s.ups c) s (λ d done e. (dones_are_turns setup s holds d done e).0) (h.ups c) h
straight_stepped_by setup s (step.Down c) holds calm h = straight_falls setup c (s.downs c) s (holds_down setup s c holds) (h.downs c) h
straight_stepped_by setup s (step.Play c) holds calm h =
    straight_acts setup c (plays setup c (s.client c)) s (holds_play setup s c holds) (straight_plays setup c (s.client c) (h.phases c)) h
straight_stepped_by setup s (step.Join c) holds calm h =
    straight_acts setup c (joins c (s.client c)) s (holds_join setup s c holds) (straight_joins setup c (s.client c) (h.phases c)) h
straight_stepped_by setup s (step.Cut c) holds calm h =
    straight_leaves setup c (s.client c) s (λ d done e. (dones_are_turns setup s holds d done e).0) h
straight_stepped_by setup s (step.Bend c e g) holds calm h = absurd (cc)

straight_after : (setup : Setup) (s : Session) (xs : List Step) → Holds setup s → All (λ x. is_bend x ≡ false) xs → Straight setup s
    → Straight setup (after_steps setup s xs)
straight_after setup s [] holds calm h = h
straight_after setup s (x ∷ xs) holds calm h =
    straight_after setup (stepped setup s x) xs (holds_stepped setup s x holds) (All-tail (λ y. is_bend y ≡ false) x xs calm)
    (by (is_client setup (client_of x)))
  where
    by : (b : Bool) → Straight setup (if b then stepped_by setup s x else s)
    by true = straight_stepped_by setup s x holds (All-head (λ y. is_bend y ≡ false) x xs calm) h
    by false = h

straight_opened : (setup : Setup) (active : ℕ) → Straight setup (opened setup active)
straight_opened setup active =
    record {
      phases = λ c. by (is_active active c);
      ups = λ c. All-nil (IsStraightUp setup (opened setup active).server);
      downs = λ c. quiet;
      arrivals = All-nil (IsStraightArrival setup (opened setup active).server);
    }
  where
    r : ℕ
    r = min setup.turns setup.delay

    by : (b : Bool) → IsStraightPhase (if b then On (begun r r []) else Off)
    by true = refl
    by false = tt

-- a session without a bend
pub straight_session : (setup : Setup) (active : ℕ) (steps : List Step) → active ≤ setup.players → All (λ x. is_bend x ≡ false) steps
    → Straight setup (session setup active steps)
straight_session setup active steps few calm =
    straight_after setup (opened setup active) steps (holds_opened setup active few) calm (straight_opened setup active)

-- Each report of a session was the mark of its sender.
use Rattle.sim_session_laws.proofs.Common.{All-cons, All-head, All-nil, All-tail, All-weaker, ap, append-nil, append_assoc, Arrival, bends, bent_seat, Carries}
use Rattle.sim_session_laws.proofs.Common.{client_of, Command, Cut, Down, eqb-true, falls, Heard, hears, idle, inl, inr, is_client, Joining, joins, leaves}
use Rattle.sim_session_laws.proofs.Common.{mark_of, may_bend, may_order, may_play, may_tell_done, Off, On, ordered, orders, Past, Phase, played, plays, put}
use Rattle.sim_session_laws.proofs.Common.{refused, report_of, ReportsAreMarks, rises, row_of, Seat, Session, session, session_goes_on, Setup, shows_bend}
use Rattle.sim_session_laws.proofs.Common.{state_of, Step, stepped, stepped_by, subst, sym, told, told_alone, told_with_done, turns_in, Up, WasMark, put_same}
use Rattle.sim_session_laws.proofs.Common.{◌∙◌, ◌≡◌, ℕ, suc, Bool, true, false, List, [], ◌∷◌, ◌++◌, ℤ, if◌then◌else◌, ◌==◌, All, refl, Acted, acts, All-append}
use Rattle.sim_base.specs.declared.step.Step.TheVariants as step
use Rattle.sim_plain.specs.declared.message.DownOf.TheVariants as down
use Rattle.sim_plain.specs.declared.message.UpOf.TheVariants as up

-- something is so of the turn and the bytes of a report
abbrev Says : (ℕ → List ℕ → Type 0) → Up → Type 0
Says W up.Join = Unit {0}
Says W (up.Command t x) = Unit {0}
Says W (up.Done t) = Unit {0}
Says W (up.Report t g) = W t g
Says W (up.State j t past) = Unit {0}

-- and of its sender, where it has arrived
abbrev pub Arrives : (ℕ → ℕ → List ℕ → Type 0) → Arrival Past → Type 0
Arrives W (Heard c said) = Says (W c) said
Arrives W (Cut c) = Unit {0}

-- it is so of all reports on their way, and of all that have arrived
pub record AllSay (W : ℕ → ℕ → List ℕ → Type 0) (s : Session) : Type 0 where
  pub ups : (c : ℕ) → All (Says (W c)) (s.ups c)
  pub arrivals : All (Arrives W) s.arrivals

-- what is so of more reports
says_weaker : (V W : ℕ → List ℕ → Type 0) → ((t : ℕ) (g : List ℕ) → V t g → W t g) → (x : Up) → Says V x → Says W x
says_weaker V W f up.Join h = tt
says_weaker V W f (up.Command t x) h = tt
says_weaker V W f (up.Done t) h = tt
says_weaker V W f (up.Report t g) h = f t g h
says_weaker V W f (up.State j t past) h = tt

arrives_weaker : (V W : ℕ → ℕ → List ℕ → Type 0) → ((c t : ℕ) (g : List ℕ) → V c t g → W c t g) → (a : Arrival Past) → Arrives V a → Arrives W a
arrives_weaker V W f (Heard c said) h = says_weaker (V c) (W c) (f c) said h
arrives_weaker V W f (Cut c) h = tt

all_weaker : (V W : ℕ → ℕ → List ℕ → Type 0) (s : Session) → ((c t : ℕ) (g : List ℕ) → V c t g → W c t g) → AllSay V s → AllSay W s
all_weaker V W s f h = record {
  ups = λ c. All-weaker (Says (V c)) (Says (W c)) (says_weaker (V c) (W c) (f c)) (s.ups c) (h.ups c);
  arrivals = All-weaker (Arrives V) (Arrives W) (arrives_weaker V W f) s.arrivals h.arrivals;
}

-- ---- what a client says

-- a report is of what the client is
abbrev IsOwn : Setup → Phase → ℕ → List ℕ → Type 0
IsOwn setup ph t g = (o : Seat) × (ph ≡ On o) × (t ≡ turns_in o.past) × (g ≡ mark_of setup o)

-- each report of what a client says is of what it is then
abbrev SaysOwn : Setup → Acted → Type 0
SaysOwn setup acted = All (Says (IsOwn setup acted.phase)) acted.says

calm : (setup : Setup) (ph : Phase) → All (Says (IsOwn setup ph)) []
calm setup ph = All-nil (Says (IsOwn setup ph))

own_if : (setup : Setup) (b : Bool) (x y : Acted) → SaysOwn setup x → SaysOwn setup y → SaysOwn setup (if b then x else y)
own_if setup true x y h k = h
own_if setup false x y h k = k

own_orders : (setup : Setup) (c : ℕ) (x : Command) (ph : Phase) → SaysOwn setup (orders setup c x ph)
own_orders setup c x Off = calm setup Off
own_orders setup c x Joining = calm setup Joining
own_orders setup c x (On o) =
    let next = (ordered c x o).phase in
    own_if setup (may_order setup o) (ordered c x o) (idle (On o)) (All-cons (Says (IsOwn setup next)) (up.Command (suc o.done) x) [] tt (calm setup next))
    (calm setup (On o))

own_told : (setup : Setup) (c : ℕ) (o : Seat) → SaysOwn setup (told setup c o)
own_told setup c o =
    let next : Seat = record o { done = suc o.done; orders = 0 } in
    let told = All-cons (Says (IsOwn setup (On next))) (up.Done (suc o.done)) [] tt (calm setup (On next)) in
    own_if setup (may_tell_done setup o) (told_with_done setup c o) (told_alone setup c o)
    (All-cons (Says (IsOwn setup (On next))) (report_of setup o) (up.Done (suc o.done) ∷ []) (next, refl, refl, refl) told)
    (All-cons (Says (IsOwn setup (On o))) (report_of setup o) [] (o, refl, refl, refl) (calm setup (On o)))

own_plays : (setup : Setup) (c : ℕ) (ph : Phase) → SaysOwn setup (plays setup c ph)
own_plays setup c Off = calm setup Off
own_plays setup c Joining = calm setup Joining
own_plays setup c (On o) = own_if setup (may_play setup o) (told setup c (played o)) (idle (On o)) (own_told setup c (played o)) (calm setup (On o))

own_joins : (setup : Setup) (c : ℕ) (ph : Phase) → SaysOwn setup (joins c ph)
own_joins setup c Off = All-cons (Says (IsOwn setup Joining)) up.Join [] tt (calm setup Joining)
own_joins setup c Joining = calm setup Joining
own_joins setup c (On o) = calm setup (On o)

own_bends : (setup : Setup) (c e : ℕ) (h : ℤ) (ph : Phase) → SaysOwn setup (bends setup c e h ph)
own_bends setup c e h Off = calm setup Off
own_bends setup c e h Joining = calm setup Joining
own_bends setup c e h (On o) =
    own_if setup (may_bend setup h (row_of (state_of setup o) e)) (shows_bend setup c (bent_seat e h o)) (idle (On o)) (calm setup (On (bent_seat e h o)))
    (calm setup (On o))

own_hears : (setup : Setup) (c : ℕ) (ph : Phase) (x : Down) → SaysOwn setup (hears setup c ph x)
own_hears setup c Off (down.Ask j) = calm setup Off
own_hears setup c Off (down.State done past) = calm setup Off
own_hears setup c Off (down.Command t x) = calm setup Off
own_hears setup c Off (down.Release t) = calm setup Off
own_hears setup c Off (down.Notice t j) = calm setup Off
own_hears setup c Off (down.Refused code) = calm setup Off
own_hears setup c Joining (down.Ask j) = calm setup Joining
own_hears setup c Joining (down.State done past) = calm setup (hears setup c Joining (down.State done past)).phase
own_hears setup c Joining (down.Command t x) = calm setup Joining
own_hears setup c Joining (down.Release t) = calm setup Joining
own_hears setup c Joining (down.Notice t j) = calm setup Joining
own_hears setup c Joining (down.Refused code) = calm setup (refused code)
own_hears setup c (On o) (down.Ask j) = All-cons (Says (IsOwn setup (On o))) (up.State j (turns_in o.past) o.past) [] tt (calm setup (On o))
own_hears setup c (On o) (down.State done past) = calm setup (On o)
own_hears setup c (On o) (down.Command t x) = calm setup (hears setup c (On o) (down.Command t x)).phase
own_hears setup c (On o) (down.Release t) = calm setup (hears setup c (On o) (down.Release t)).phase
own_hears setup c (On o) (down.Notice t j) = calm setup (On o)
own_hears setup c (On o) (down.Refused code) = calm setup (On o)

-- ---- each kind of step

-- it is so of the reports of each client as it is in a session
abbrev IsOf : Setup → (ℕ → ℕ → List ℕ → Type 0) → Session → Type 0
IsOf setup W s = (c t : ℕ) (g : List ℕ) → IsOwn setup (s.client c) t g → W c t g

all_put : (W : ℕ → ℕ → List ℕ → Type 0) (c : ℕ) (said : List Up) (ups : ℕ → List Up) → All (Says (W c)) said → ((d : ℕ) → All (Says (W d)) (ups d))
    → (d : ℕ) → All (Says (W d)) (put c said ups d)
all_put W c said ups here there d = by (d == c) refl
  where
    by : (b : Bool) → (d == c) ≡ b → All (Says (W d)) (if b then said else ups d)
    by true e = subst (λ n. All (Says (W n)) said) (sym (eqb-true d c e)) here
    by false e = there d

say_act : (setup : Setup) (W : ℕ → ℕ → List ℕ → Type 0) (c : ℕ) (acted : Acted) (s : Session) → SaysOwn setup acted → IsOf setup W (acts c acted s)
    → AllSay W s → AllSay W (acts c acted s)
say_act setup W c acted s own is h = record {
  ups = all_put W c (s.ups c ++ acted.says) s.ups (All-append (Says (W c)) (s.ups c) acted.says (h.ups c) said) h.ups;
  arrivals = h.arrivals;
}
  where
    here : (t : ℕ) (g : List ℕ) → IsOwn setup acted.phase t g → W c t g
    here t g it = is c t g (subst (λ (ph : Phase). IsOwn setup ph t g) (sym (put_same c acted.phase s.client)) it)

    said : All (Says (W c)) acted.says
    said = All-weaker (Says (IsOwn setup acted.phase)) (Says (W c)) (says_weaker (IsOwn setup acted.phase) (W c) here) acted.says own

say_rise : (setup : Setup) (W : ℕ → ℕ → List ℕ → Type 0) (c : ℕ) (ups : List Up) (s : Session) → All (Says (W c)) ups → AllSay W s
    → AllSay W (rises setup c ups s)
say_rise setup W c [] s said h = h
say_rise setup W c (x ∷ rest) s said h = record {
  ups = all_put W c rest s.ups (All-tail (Says (W c)) x rest said) h.ups;
  arrivals = All-cons (Arrives W) (Heard c x) s.arrivals (All-head (Says (W c)) x rest said) h.arrivals;
}

say_fall : (setup : Setup) (W : ℕ → ℕ → List ℕ → Type 0) (c : ℕ) (downs : List Down) (s : Session) → IsOf setup W (falls setup c downs s) → AllSay W s
    → AllSay W (falls setup c downs s)
say_fall setup W c [] s is h = h
say_fall setup W c (x ∷ rest) s is h =
    say_act setup W c (hears setup c (s.client c) x) (record s { downs = put c rest s.downs }) (own_hears setup c (s.client c) x) is
    (record { ups = h.ups; arrivals = h.arrivals })

say_leave : (setup : Setup) (W : ℕ → ℕ → List ℕ → Type 0) (c : ℕ) (ph : Phase) (s : Session) → AllSay W s → AllSay W (leaves setup c ph s)
say_leave setup W c Off s h = h
say_leave setup W c Joining s h = record {
  ups = all_put W c [] s.ups (All-nil (Says (W c))) h.ups;
  arrivals = All-cons (Arrives W) (Cut c) s.arrivals tt h.arrivals;
}
say_leave setup W c (On o) s h = record {
  ups = all_put W c [] s.ups (All-nil (Says (W c))) h.ups;
  arrivals = All-cons (Arrives W) (Cut c) s.arrivals tt h.arrivals;
}

say_stepped_by : (setup : Setup) (W : ℕ → ℕ → List ℕ → Type 0) (s : Session) (x : Step) → IsOf setup W (stepped_by setup s x) → AllSay W s
    → AllSay W (stepped_by setup s x)
say_stepped_by setup W s (step.Order c x) is h = say_act setup W c (orders setup c x (s.client c)) s (own_orders setup c x (s.client c)) is h
say_stepped_by setup W s (step.Up c) is h = say_rise setup W c (s.ups c) s (h.ups c) h
say_stepped_by setup W s (step.Down c) is h = say_fall setup W c (s.downs c) s is h
say_stepped_by setup W s (step.Play c) is h = say_act setup W c (plays setup c (s.client c)) s (own_plays setup c (s.client c)) is h
say_stepped_by setup W s (step.Join c) is h = say_act setup W c (joins c (s.client c)) s (own_joins setup c (s.client c)) is h
say_stepped_by setup W s (step.Cut c) is h = say_leave setup W c (s.client c) s h
say_stepped_by setup W s (step.Bend c e g) is h = say_act setup W c (bends setup c e g (s.client c)) s (own_bends setup c e g (s.client c)) is h

say_stepped : (setup : Setup) (W : ℕ → ℕ → List ℕ → Type 0) (s : Session) (x : Step) → IsOf setup W (stepped setup s x) → AllSay W s
    → AllSay W (stepped setup s x)
say_stepped setup W s x = by (is_client setup (client_of x))
  where
    by : (b : Bool) → IsOf setup W (if b then stepped_by setup s x else s) → AllSay W s → AllSay W (if b then stepped_by setup s x else s)
    by true is h = say_stepped_by setup W s x is h
    by false is h = h

-- ---- every session

-- what was so goes on having been so
was_then : (setup : Setup) (active : ℕ) (steps : List Step) (x : Step) (c t : ℕ) (g : List ℕ) → WasMark setup active steps c t g
    → WasMark setup active (steps ++ x ∷ []) c t g
was_then setup active steps x c t g h =
    let was = h.was in
    record {
      seat = h.seat;
      was = record {
        before = was.before;
        rest = was.rest ++ x ∷ [];
        steps_are = sym (append_assoc was.before was.rest (x ∷ [])) ∙ ap (λ (l : List Step). l ++ x ∷ []) was.steps_are;
        on = was.on;
      };
      turn = h.turn;
      mark = h.mark;
    }

-- and what a client is now it was after all steps
is_now : (setup : Setup) (active : ℕ) (steps : List Step) (x : Step) → IsOf setup (WasMark setup active (steps ++ x ∷ []))
    (stepped setup (session setup active steps) x)
is_now setup active steps x c t g own =
    record {
      seat = own.0;
      was = record {
        before = steps ++ x ∷ [];
        rest = [];
        steps_are = append-nil (steps ++ x ∷ []);
        on = ap (λ (s : Session). s.client c) (session_goes_on setup active steps x) ∙ own.1;
      };
      turn = own.2;
      mark = own.3;
    }

marks_from : (setup : Setup) (active : ℕ) (done steps : List Step) → AllSay (WasMark setup active done) (session setup active done)
    → AllSay (WasMark setup active (done ++ steps)) (session setup active (done ++ steps))
marks_from setup active done [] h = subst (λ (l : List Step). AllSay (WasMark setup active l) (session setup active l)) (sym (append-nil done)) h
marks_from setup active done (x ∷ xs) h =
    subst (λ (l : List Step). AllSay (WasMark setup active l) (session setup active l)) (append_assoc done (x ∷ []) xs)
    (marks_from setup active (done ++ x ∷ []) xs
    (subst (AllSay (WasMark setup active (done ++ x ∷ []))) (sym (session_goes_on setup active done x))
    (say_stepped setup (WasMark setup active (done ++ x ∷ [])) (session setup active done) x (is_now setup active done x)
    (all_weaker (WasMark setup active done) (WasMark setup active (done ++ x ∷ [])) (session setup active done) (was_then setup active done x) h))))

pub marks_of_session : (setup : Setup) (active : ℕ) (steps : List Step) → AllSay (WasMark setup active steps) (session setup active steps)
marks_of_session setup active steps =
    marks_from setup active [] steps
    (record { ups = λ c. All-nil (Says (WasMark setup active [] c)); arrivals = All-nil (Arrives (WasMark setup active [])) })

-- ---- one of them

pub one_of_all : {X : Type 0} (P : X → Type 0) (xs : List X) (x : X) → All P xs → Carries xs x → P x
one_of_all P [] x all has = absurd has
one_of_all P (y ∷ ys) x all (inl same) = subst P same (All-head P y ys all)
one_of_all P (y ∷ ys) x all (inr has) = one_of_all P ys x (All-tail P y ys all) has

pub reports_are_marks : ReportsAreMarks
reports_are_marks setup active steps c t g has =
    let s = session setup active steps in
    one_of_all (Arrives (WasMark setup active steps)) s.arrivals (Heard c (up.Report t g)) (marks_of_session setup active steps).arrivals has

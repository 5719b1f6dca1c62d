-- The notices among what is told are those that the arrival gives, for each client that is in.
use Rattle.sim_plain.proofs.Common.{Posts, posts, put, raised, refusal, Refused, Release, release, Report, report_fault, Rules, Server, Status, sym}
use Rattle.sim_plain.proofs.Common.{filter, filter_map, Option, refl, Arrival, Ask, asked, Command, command_fault, Cut, differs, done_fault, donor, DownOf}
use Rattle.sim_plain.proofs.Common.{filter_map-append, Heard, In, is_in, is_out, kept_above, loading, nobody, Notice, notice_in, noticed, Out, PlayerCommand}
use Rattle.sim_plain.proofs.Common.{takes_state, to_all, to_one, up_to, waits_for, with_status, ◌∙◌}
use Rattle.sim_plain.proofs.Common.{◌≡◌, ℕ, zero, suc, ◌+◌, ◌-◌, Bool, true, false, List, [], ◌∷◌, ◌++◌, map, is_none, if◌then◌else◌, nat_lt, ◌==◌, Some, None}
use Rattle.sim_plain.specs.declared.message.UpOf.TheVariants as up

-- the notices among messages
abbrev among : {B : Type 0} → List (DownOf B) → List (ℕ × ℕ)
among said = filter_map notice_in said

-- nothing in two lists
none_in_both : {B : Type 0} (xs ys : List (DownOf B)) → among xs ≡ [] → among ys ≡ [] → among (xs ++ ys) ≡ []
none_in_both xs ys e f = filter_map-append notice_in xs ys ∙ (λ i. e i ++ f i)

if_none : {B : Type 0} (b : Bool) (said : List (DownOf B)) → among said ≡ [] → among (if b then said else []) ≡ []
if_none true said e = e
if_none false said e = refl

none_asks : (B : Type 0) (who : List ℕ) → among {B = B} (map Ask who) ≡ []
none_asks B [] = refl
none_asks B (j ∷ who) = none_asks B who

none_asked : (B : Type 0) (o : Option ℕ) (who : List ℕ) (wants : ℕ → Bool) (d : ℕ) → among (asked {B = B} o who wants d) ≡ []
none_asked B None who wants d = if_none (wants d) (Refused 4 ∷ []) refl
none_asked B (Some k) who wants d = if_none (d == k) (map Ask who) (none_asks B who)

none_release : (B : Type 0) (status : ℕ → Status) (released risen d : ℕ) → among (release {B = B} status released risen d) ≡ []
none_release B status released risen d = by (nat_lt released risen)
  where
    by : (b : Bool) → among ((if b then to_all status (Release risen) else nobody {B = B}) d) ≡ []
    by true = if_none (is_in (status d)) (Release risen ∷ []) refl
    by false = refl

none_commands : (B : Type 0) (t : ℕ) (orders : List PlayerCommand) → among {B = B} (map (Command t) orders) ≡ []
none_commands B t [] = refl
none_commands B t (x ∷ xs) = none_commands B t xs

none_above : (B : Type 0) (kept : ℕ → List PlayerCommand) (t n : ℕ) → among (kept_above {B = B} kept t n) ≡ []
none_above B kept t zero = refl
none_above B kept t (suc n) = none_in_both (kept_above kept t n) (map (Command (suc (t + n))) (kept (suc (t + n)))) (none_above B kept t n)
    (none_commands B (suc (t + n)) (kept (suc (t + n))))

none_loading : {B : Type 0} (rules : Rules) (s : Server) (t : ℕ) (carried : B) → among (loading rules s t carried) ≡ []
none_loading {B} rules s t carried = none_in_both (kept_above s.kept t (rules.turns - t)) (Release s.released ∷ []) (none_above B s.kept t (rules.turns - t))
    refl

none_refusal : {B : Type 0} (c : ℕ) (o : Option ℕ) (said : Posts B) (d : ℕ) → among (said d) ≡ [] → among (refusal c o said d) ≡ []
none_refusal c None said d e = e
none_refusal c (Some code) said d e = if_none (d == c) (Refused code ∷ []) refl

-- a report as turn and client
abbrev pair : Report → ℕ × ℕ
pair r = (r.0, r.1.0)

-- an arrival that is no report gives no notice
none_noticed : (s : Server) (here accepted : Bool)
    → (if here then map pair (filter (λ (r : Report). differs (s.reference r.0) r.1.1) (if accepted then [] else [])) else []) ≡ []
none_noticed s true true = refl
none_noticed s true false = refl
none_noticed s false accepted = refl

pub notices_are_told : {B : Type 0} (rules : Rules) (s : Server) (a : Arrival B) (d : ℕ) → filter_map notice_in (posts rules s a d) ≡
    (if is_in (s.status d) then noticed rules s a else [])
notices_are_told {B} rules s (Heard c up.Join) d = by (is_out (s.status c)) ∙ sym (none_noticed s (is_in (s.status d)) (is_out (s.status c)))
  where
    by : (b : Bool) → among ((if b then asked (donor rules s) (c ∷ []) (λ x. x == c) else nobody {B = B}) d) ≡ []
    by true = none_asked B (donor rules s) (c ∷ []) (λ x. x == c) d
    by false = refl
notices_are_told rules s (Heard c (up.Command t x)) d =
    none_refusal c (command_fault rules (s.kept t) c t (s.status c)) (to_all s.status (Command t (record { player = c; command = x }))) d
    (if_none (is_in (s.status d)) (Command t (record { player = c; command = x }) ∷ []) refl)
    ∙ sym (none_noticed s (is_in (s.status d)) (is_none (command_fault rules (s.kept t) c t (s.status c))))
notices_are_told {B} rules s (Heard c (up.Done t)) d =
    none_refusal c (done_fault rules s.released t (s.status c)) _ d
    (none_release B (put c (In t) s.status) s.released (raised rules (with_status c (In t) s)).released d)
    ∙ sym (none_noticed s (is_in (s.status d)) (is_none (done_fault rules s.released t (s.status c))))
notices_are_told {B} rules s (Heard c (up.Report t g)) d = by (report_fault s.released t (s.status c))
  where
    here : (h : Bool) → among {B = B} (if h then Notice t c ∷ [] else []) ≡ (if h then (t, c) ∷ [] else [])
    here true = refl
    here false = refl

    nothing : (h : Bool) → ◌≡◌ {A = List (ℕ × ℕ)} [] (if h then [] else [])
    nothing true = refl
    nothing false = refl

    differing : (b : Bool) → among ((if b then to_all s.status (Notice t c) else nobody {B = B}) d) ≡
        (if is_in (s.status d) then map pair (if b then (t, (c, g)) ∷ [] else []) else [])
    differing true = here (is_in (s.status d))
    differing false = nothing (is_in (s.status d))

    by : (o : Option ℕ) → among (refusal c o (if differs (s.reference t) g then to_all s.status (Notice t c) else nobody {B = B}) d)
        ≡ (if is_in (s.status d) then map pair (filter (λ (r : Report). differs (s.reference r.0) r.1.1) (if is_none o then (t, (c, g)) ∷ [] else [])) else [])
    by None = differing (differs (s.reference t) g)
    by (Some code) = if_none (d == c) (Refused code ∷ []) refl ∙ sym (none_noticed s (is_in (s.status d)) false)
notices_are_told {B} rules s (Heard c (up.State j t carried)) d = by (takes_state s.released c t (s.status j)) ∙
    sym (none_noticed s (is_in (s.status d)) (takes_state s.released c t (s.status j)))
  where
    by : (b : Bool) → among ((if b then to_one j (loading rules s t carried) else nobody {B = B}) d) ≡ []
    by true = if_none (d == j) (loading rules s t carried) (none_loading rules s t carried)
    by false = refl
notices_are_told {B} rules s (Cut c) d =
    none_in_both (release s1.status s1.released (raised rules s1).released d) _ (none_release B s1.status s1.released (raised rules s1).released d)
    (none_asked B (donor rules s1) (filter (λ j. waits_for c (s1.status j)) (up_to rules.clients)) (λ j. waits_for c (s1.status j)) d)
    ∙ sym (none_noticed s (is_in (s.status d)) true)
  where
    s1 : Server
    s1 = with_status c Out s

-- ---- the notices of reports

-- as turn and client
abbrev pub told : Server → List Report → List (ℕ × ℕ)
told s reports = map (λ (r : Report). (r.0, r.1.0)) (filter (λ (r : Report). differs (s.reference r.0) r.1.1) reports)

pub none_told : (s : Server) (accepted : Bool) → told s (if accepted then [] else []) ≡ []
none_told s true = refl
none_told s false = refl

-- Where nobody is bent, no report differs from the first of its turn.
use Rattle.sim_plain.specs.declared.message.UpOf.TheVariants as up
use Rattle.sim_plain.specs.Server.{report_of}
use Rattle.sim_session_laws.proofs.Common.{All, All-append, All-cons, All-head, All-nil, All-tail, All-weaker, ap, Arrival, Bool, bytes_eq-Decides, Cut}
use Rattle.sim_session_laws.proofs.Common.{differs, eqb-true, false, filter, first_mark, Heard, if◌then◌else◌, is_accepted, List, map, None, not}
use Rattle.sim_session_laws.proofs.Common.{NoticesNeedBends, Option, Past, refl, Report, reports, Rules, rules_of, Server, server_after, session, Setup, Some}
use Rattle.sim_session_laws.proofs.{Common.{sym, true, ℕ, [], ◌==◌, ◌∙◌, ◌∷◌, ◌≡◌}, Straight.{IsStraightArrival, mark_at, straight_session}}

-- a report says what all of its turn say
abbrev Agrees : Setup → Server → Report → Type 0
Agrees setup s r = r.1.1 ≡ mark_at setup s r.0

report_agrees : (setup : Setup) (s : Server) (a : Arrival Past) → IsStraightArrival setup s a → All (Agrees setup s) (report_of a)
report_agrees setup s (Heard c up.Join) h = All-nil (Agrees setup s)
report_agrees setup s (Heard c (up.Command t x)) h = All-nil (Agrees setup s)
report_agrees setup s (Heard c (up.Done t)) h = All-nil (Agrees setup s)
report_agrees setup s (Heard c (up.Report t g)) h = All-cons (Agrees setup s) (t, (c, g)) [] h.1 (All-nil (Agrees setup s))
report_agrees setup s (Heard c (up.State j t past)) h = All-nil (Agrees setup s)
report_agrees setup s (Cut c) h = All-nil (Agrees setup s)

reports_agree : (setup : Setup) (s : Server) (rules : Rules) (active : ℕ) (h : List (Arrival Past)) → All (IsStraightArrival setup s) h
    → All (Agrees setup s) (reports rules active h)
reports_agree setup s rules active [] all = All-nil (Agrees setup s)
reports_agree setup s rules active (a ∷ h) all =
    All-append (Agrees setup s) (reports rules active h) (if is_accepted rules (server_after rules active h) a then report_of a else [])
    (reports_agree setup s rules active h (All-tail (IsStraightArrival setup s) a h all)) (by (is_accepted rules (server_after rules active h) a))
  where
    by : (b : Bool) → All (Agrees setup s) (if b then report_of a else [])
    by true = report_agrees setup s a (All-head (IsStraightArrival setup s) a h all)
    by false = All-nil (Agrees setup s)

-- so does the first of a turn
first_agrees : (setup : Setup) (s : Server) (t : ℕ) (rs : List Report) (g : List ℕ) → All (Agrees setup s) rs → first_mark t rs ≡ Some g
    → g ≡ mark_at setup s t
first_agrees setup s t [] g all is = absurd (cc)
first_agrees setup s t (r ∷ rs) g all is = by (r.0 == t) refl (first_agrees setup s t rs g (All-tail (Agrees setup s) r rs all)) is
  where
    by : (b : Bool) → (r.0 == t) ≡ b → (first_mark t rs ≡ Some g → g ≡ mark_at setup s t)
        → (if b then Some r.1.1 else first_mark t rs) ≡ Some g → g ≡ mark_at setup s t
    by true e rest is =
        let turn : r.0 ≡ t = eqb-true r.0 t e in
        let same : r.1.1 ≡ g = cc in
        sym same ∙ All-head (Agrees setup s) r rs all ∙ ap (mark_at setup s) turn
    by false e rest is = rest is

none_differs : (setup : Setup) (s : Server) (rs : List Report) → All (Agrees setup s) rs → (r : Report) → Agrees setup s r
    → differs (first_mark r.0 rs) r.1.1 ≡ false
none_differs setup s rs all r agrees = by (first_mark r.0 rs) refl
  where
    by : (o : Option (List ℕ)) → first_mark r.0 rs ≡ o → differs o r.1.1 ≡ false
    by None e = refl
    by (Some g) e = ap not ((bytes_eq-Decides g r.1.1).1 (first_agrees setup s r.0 rs g all e ∙ sym agrees))

none_left : (test : Report → Bool) (rs : List Report) → All (λ r. test r ≡ false) rs → filter test rs ≡ []
none_left test [] all = refl
none_left test (r ∷ rs) all =
    ap (λ (b : Bool). if b then r ∷ filter test rs else filter test rs) (All-head (λ x. test x ≡ false) r rs all)
    ∙ none_left test rs (All-tail (λ x. test x ≡ false) r rs all)

pub notices_need_bends : NoticesNeedBends
notices_need_bends setup active steps few calm =
    let s = session setup active steps in
    let rs = reports (rules_of setup) active s.arrivals in
    let all = reports_agree setup s.server (rules_of setup) active s.arrivals (straight_session setup active steps few calm).arrivals in
    let test : Report → Bool = λ r. differs (first_mark r.0 rs) r.1.1 in
    ap (λ (l : List Report). map (λ (r : Report). (r.0, r.1.0)) l)
    (none_left test rs (All-weaker (Agrees setup s.server) (λ r. test r ≡ false) (none_differs setup s.server rs all) rs all))

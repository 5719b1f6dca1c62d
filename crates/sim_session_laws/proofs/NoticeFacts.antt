-- What a notice shows.
use Rattle.sim_plain.specs.declared.message.UpOf.TheVariants as up
use Rattle.{sim_plain.specs.Server.report_of, sim_session_laws.proofs.Common.{All, All-append, All-cons, All-head, All-nil, All-tail, ap, Arrival, Bool}}
use Rattle.sim_session_laws.proofs.Common.{bytes_eq, bytes_eq-Decides, Carries, Cut, differs, eqb-true, false, filter, first_mark, full_is_digest, Heard}
use Rattle.sim_session_laws.proofs.Common.{if◌then◌else◌, inl, inr, is_accepted, is_full_turn, List, map, None, NoticesShowDifferences, Option}
use Rattle.sim_session_laws.proofs.Common.{others_are_quick, Past, refl, Report, reports, Rules, rules_of, server_after, session, Setup, Some, Step, subst, sym}
use Rattle.sim_session_laws.proofs.{Common.{true, WasMark, WereApart, ℕ, [], ◌==◌, ◌∙◌, ◌∷◌, ◌≡◌}, Reporting.{Arrives, marks_of_session, one_of_all}}

-- what a report in a list of reports says
abbrev IsReported : (ℕ → ℕ → List ℕ → Type 0) → Report → Type 0
IsReported W r = W r.1.0 r.0 r.1.1

report_marked : (W : ℕ → ℕ → List ℕ → Type 0) (a : Arrival Past) → Arrives W a → All (IsReported W) (report_of a)
report_marked W (Heard c up.Join) h = All-nil (IsReported W)
report_marked W (Heard c (up.Command t x)) h = All-nil (IsReported W)
report_marked W (Heard c (up.Done t)) h = All-nil (IsReported W)
report_marked W (Heard c (up.Report t g)) h = All-cons (IsReported W) (t, (c, g)) [] h (All-nil (IsReported W))
report_marked W (Heard c (up.State j t past)) h = All-nil (IsReported W)
report_marked W (Cut c) h = All-nil (IsReported W)

reports_marked : (W : ℕ → ℕ → List ℕ → Type 0) (rules : Rules) (active : ℕ) (h : List (Arrival Past)) → All (Arrives W) h
    → All (IsReported W) (reports rules active h)
reports_marked W rules active [] all = All-nil (IsReported W)
reports_marked W rules active (a ∷ h) all =
    All-append (IsReported W) (reports rules active h) (if is_accepted rules (server_after rules active h) a then report_of a else [])
    (reports_marked W rules active h (All-tail (Arrives W) a h all)) (by (is_accepted rules (server_after rules active h) a))
  where
    by : (b : Bool) → All (IsReported W) (if b then report_of a else [])
    by true = report_marked W a (All-head (Arrives W) a h all)
    by false = All-nil (IsReported W)

-- the reference of a turn is one of them
first_marked : (W : ℕ → ℕ → List ℕ → Type 0) (t : ℕ) (rs : List Report) (g : List ℕ) → All (IsReported W) rs → first_mark t rs ≡ Some g → (c : ℕ) × W c t g
first_marked W t [] g all is = absurd (cc)
first_marked W t (r ∷ rs) g all is = by (r.0 == t) refl (first_marked W t rs g (All-tail (IsReported W) r rs all)) is
  where
    by : (b : Bool) → (r.0 == t) ≡ b → (first_mark t rs ≡ Some g → (c : ℕ) × W c t g) → (if b then Some r.1.1 else first_mark t rs) ≡ Some g
        → (c : ℕ) × W c t g
    by true e rest is =
        let turn : r.0 ≡ t = eqb-true r.0 t e in
        let same : r.1.1 ≡ g = cc in
        (r.1.0, subst (λ (n : ℕ × List ℕ). W r.1.0 n.0 n.1) (λ i. (turn i, same i)) (All-head (IsReported W) r rs all))
    by false e rest is = rest is

-- two marks that are apart
apart_by : (setup : Setup) (active : ℕ) (steps : List Step) (t c d : ℕ) (one other : List ℕ) → WasMark setup active steps d t one
    → WasMark setup active steps c t other → (one ≡ other → ⊥) → WereApart setup active steps t c
apart_by setup active steps t c d one other left right apart = record {
  other = d;
  first = left.seat;
  own = right.seat;
  first_was = left.was;
  own_was = right.was;
  first_turn = left.turn;
  own_turn = right.turn;
  full = λ full same.
      apart (left.mark ∙ full_is_digest setup left.seat (ap is_full_turn (sym left.turn) ∙ full) ∙ same
      ∙ sym (full_is_digest setup right.seat (ap is_full_turn (sym right.turn) ∙ full)) ∙ sym right.mark);
  others = λ quick same.
      apart (left.mark ∙ others_are_quick setup left.seat (ap is_full_turn (sym left.turn) ∙ quick) ∙ same
      ∙ sym (others_are_quick setup right.seat (ap is_full_turn (sym right.turn) ∙ quick)) ∙ sym right.mark);
}

-- a report that differs from the reference of its turn
report_apart : (setup : Setup) (active : ℕ) (steps : List Step) (rs : List Report) (r : Report) → All (IsReported (WasMark setup active steps)) rs
    → Carries rs r
    → differs (first_mark r.0 rs) r.1.1 ≡ true → WereApart setup active steps r.0 r.1.0
report_apart setup active steps rs r all has = by (first_mark r.0 rs) refl
  where
    by : (o : Option (List ℕ)) → first_mark r.0 rs ≡ o → differs o r.1.1 ≡ true → WereApart setup active steps r.0 r.1.0
    by None e other = absurd (cc)
    by (Some g) e other =
        let first = first_marked (WasMark setup active steps) r.0 rs g all e in
        apart_by setup active steps r.0 r.1.0 first.0 g r.1.1 first.1 (one_of_all (IsReported (WasMark setup active steps)) rs r all has)
        (λ same. let alike : bytes_eq g r.1.1 ≡ true = (bytes_eq-Decides g r.1.1).1 same in absurd (cc))

-- ---- a notice is of such a report

abbrev IsFound : (Report → Bool) → List Report → ℕ × ℕ → Type 0
IsFound test rs n = (r : Report) × Carries rs r × (test r ≡ true) × ((r.0, r.1.0) ≡ n)

-- each as its turn and its client
abbrev pairs : List Report → List (ℕ × ℕ)
pairs rs = map (λ (r : Report). (r.0, r.1.0)) rs

found : (test : Report → Bool) (rs : List Report) (n : ℕ × ℕ) → Carries (pairs (filter test rs)) n → IsFound test rs n
found test [] n has = absurd has
found test (r ∷ rs) n has = by (test r) refl (found test rs n) has
  where
    later : IsFound test rs n → IsFound test (r ∷ rs) n
    later q = (q.0, inr q.1, q.2, q.3)

    by : (b : Bool) → test r ≡ b → (Carries (pairs (filter test rs)) n → IsFound test rs n)
        → Carries (pairs (if b then r ∷ filter test rs else filter test rs)) n → IsFound test (r ∷ rs) n
    by true e rest (inl same) = (r, inl refl, e, same)
    by true e rest (inr has) = later (rest has)
    by false e rest has = later (rest has)

pub notices_show_differences : NoticesShowDifferences
notices_show_differences setup active steps t c has =
    let s = session setup active steps in
    let rs = reports (rules_of setup) active s.arrivals in
    let all = reports_marked (WasMark setup active steps) (rules_of setup) active s.arrivals (marks_of_session setup active steps).arrivals in
    let r = found (λ (r : Report). differs (first_mark r.0 rs) r.1.1) rs (t, c) has in
    subst (λ (n : ℕ × ℕ). WereApart setup active steps n.0 n.1) r.3 (report_apart setup active steps rs r.0 all r.1 r.2)

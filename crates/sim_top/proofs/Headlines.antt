-- What the sink was told of a session that came to its end, and what the laws of sessions say of it.
use Rattle.sim_plain_session.proofs.{Arrived.server_is_after_arrivals, Enabling.events_are_of_steps, GoingOn.events_are_in_order}
use Rattle.sim_session.proofs.{Differing.apart_where_different, Noticing.notices_are_of_reports}
use Rattle.sim_session.{proofs.Showing.{ends_show_pasts, plays_are_told, starts_show_pasts, steps_are_told, steps_show_pasts}, specs.Laws.session_at}
use Rattle.sim_session_laws.proofs.{CutSteps.holds_session, Fitting.{no_state_is_ever_refused, unbent_agree}}
use Rattle.sim_top.proofs.Common.{Appends, Asked, Differs, Done, Err, File, HasEnded, Headline, IfOk, IsOutcomeOf, IsSetup, IsStepList, List, Meets, OfSession}
use Rattle.sim_top.proofs.Common.{Ok, Option, Outcome, printed, Result, Scene, session_match_in, session_of, session_text, Setup, Some, Status, StepList}
use Rattle.sim_top.{proofs.Common.{steps_in, subst, Then, to_session, ℕ, ◌≡◌}, specs.Outcome.IsOutcome}

-- a match and steps within their limits
pub lawful : (setup : Setup) (list : StepList) (told told' : Option (List ℕ)) → IsSetup setup → IsStepList setup.players list
    → Appends told told' (session_text setup list) → Headline setup list told told'
lawful setup list told told' limits steps text = record {
  text = text;
  order = events_are_in_order setup list.clients list.steps;
  starts = λ c low high. starts_show_pasts setup list c steps low high;
  steps = λ before x e at has. (events_are_of_steps setup (session_at setup list before) x e has, steps_show_pasts setup list before x e steps at has);
  plays = λ before c at. plays_are_told setup list before c steps at;
  others = λ before x e at of. steps_are_told setup list before x e steps at of;
  ends = λ c t g is. ends_show_pasts setup list c t g steps is;
  server = server_is_after_arrivals setup list.clients list.steps;
  noticed = notices_are_of_reports setup list;
  apart = λ a b left right less one two same. apart_where_different setup list a b left right limits steps less one two same;
  agree = unbent_agree setup (session_of setup list) (holds_session setup list.clients list.steps steps.clients.1);
  heard = λ before rest is. no_state_is_ever_refused setup list.clients before limits steps.clients.1;
}

-- two facts of a session that is asked for
pub of_both : (files : List File) (asked : Option Asked) (P Q R : Setup → StepList → Type 0) → ((setup : Setup) (list : StepList) → P setup list → Q setup list
    → R setup list)
    → OfSession files asked P → OfSession files asked Q → OfSession files asked R
of_both files (Some (to_session game steps)) P Q R f p q = by (session_match_in files game) p q
  where
    listed : (setup : Setup) (r : Result StepList Outcome) → IfOk r (P setup) → IfOk r (Q setup) → IfOk r (R setup)
    listed setup (Ok list) p q = f setup list p q
    listed setup (Err ended) p q = tt

    by : (r : Result Setup Outcome) → IfOk r (λ setup. IfOk (steps_in files steps setup.players) (P setup))
        → IfOk r (λ setup. IfOk (steps_in files steps setup.players) (Q setup))
        → IfOk r (λ setup. IfOk (steps_in files steps setup.players) (R setup))
    by (Ok setup) p q = listed setup (steps_in files steps setup.players) p q
    by (Err ended) p q = tt
of_both files other P Q R f p q = tt

-- the text of the outcome is that of the session
of_outcome : (files : List File) (asked : Option Asked) (wanted : Outcome) (told told' : Option (List ℕ)) → IsOutcomeOf files asked wanted
    → Appends told told' wanted.text
    → OfSession files asked (λ setup list. Appends told told' (session_text setup list))
of_outcome files (Some (to_session game steps)) wanted told told' is text = by (session_match_in files game) is
  where
    listed : (setup : Setup) (r : Result StepList Outcome) → Then r (λ list wanted. wanted ≡ printed Done (session_text setup list)) wanted
        → IfOk r (λ list. Appends told told' (session_text setup list))
    listed setup (Ok list) is = subst (λ (o : Outcome). Appends told told' o.text) is text
    listed setup (Err ended) is = tt

    by : (r : Result Setup Outcome)
        → Then r (λ setup. Then (steps_in files steps setup.players) (λ list wanted. wanted ≡ printed Done (session_text setup list))) wanted
        → IfOk r (λ setup. IfOk (steps_in files steps setup.players) (λ list. Appends told told' (session_text setup list)))
    by (Ok setup) is = listed setup (steps_in files steps setup.players) is
    by (Err ended) is = tt
of_outcome files other wanted told told' is text = tt

-- a run that came to its end told the text of an outcome
pub of_end : (status : Status) (words : List (List ℕ)) (files : List File) (asked : Option Asked) (before now : Scene)
    → ((wanted : Outcome) → IsOutcome words files wanted → IsOutcomeOf files asked wanted)
    → Meets status words files before now → HasEnded status → OfSession files asked (λ setup list. Appends before.told now.told (session_text setup list))
of_end Done words files asked before now same (wanted, is, status, done) ended = of_outcome files asked wanted before.told now.told (same wanted is) done.text
of_end Differs words files asked before now same (wanted, is, status, done) ended = of_outcome files asked wanted before.told now.told (same wanted is)
    done.text
of_end other words files asked before now same h ended = absurd ended

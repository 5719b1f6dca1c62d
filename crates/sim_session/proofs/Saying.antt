-- A client that reports is told its own notice.
use Rattle.sim_plain.specs.declared.message.UpOf.TheVariants as up
use Rattle.sim_plain.proofs.{Dones.notices_are, Told.{none_told, notices_are_told, told}}
use Rattle.sim_plain.specs.{declared.{rules.Rules.Rules, status.Status.{Status, TheVariants.{In, Out, Waiting}}}, Messages.{Arrival, Cut, Heard, sender}}
use Rattle.sim_plain.specs.Server.{command_fault, done_fault, is_in, is_out, notice_in, noticed, notices, notices_given, posts, report_fault, Server}
use Rattle.{sim_plain.specs.Server.{server_after, takes_state}, sim_session.specs.ServedLaws.told_to_senders}
use Rattle.std.{proofs.Common.{Bool, false, if◌then◌else◌, is_none, List, refl, sym, true, true≢false, ℕ, [], ◌++◌, ◌∙◌, ◌∷◌, ◌≡◌}, specs.Prelude.filter_map}

abbrev Bytes : Type 0
Bytes = List ℕ

-- what one says that is not in gives no notice
none_outside : (rules : Rules) (s : Server) (a : Arrival Bytes) → is_in (s.status (sender a)) ≡ false → noticed rules s a ≡ []
none_outside rules s (Heard c up.Join) out = none_told s (is_out (s.status c))
none_outside rules s (Heard c (up.Command t x)) out = none_told s (is_none (command_fault rules (s.kept t) c t (s.status c)))
none_outside rules s (Heard c (up.Done t)) out = none_told s (is_none (done_fault rules s.released t (s.status c)))
none_outside rules s (Heard c (up.Report t g)) out = by (s.status c) out
  where
    by : (st : Status) → is_in st ≡ false → told s (if is_none (report_fault s.released t st) then (t, (c, g)) ∷ [] else []) ≡ []
    by Out e = refl
    by (Waiting j) e = refl
    by (In done) e = absurd (true≢false e)
none_outside rules s (Heard c (up.State j t carried)) out = none_told s (takes_state s.released c t (s.status j))
none_outside rules s (Cut c) out = none_told s true

own_notice : (rules : Rules) (s : Server) (a : Arrival Bytes) → filter_map notice_in (posts rules s a (sender a)) ≡ noticed rules s a
own_notice rules s a = notices_are_told rules s a (sender a) ∙ by (is_in (s.status (sender a))) refl
  where
    by : (b : Bool) → is_in (s.status (sender a)) ≡ b → (if b then noticed rules s a else []) ≡ noticed rules s a
    by true e = refl
    by false e = sym (none_outside rules s a e)

told_one_by_one : (rules : Rules) (active : ℕ) (h : List (Arrival Bytes)) → told_to_senders rules active h ≡ notices_given rules active h
told_one_by_one rules active [] = refl
told_one_by_one rules active (a ∷ h) = (λ i. told_one_by_one rules active h i ++ own_notice rules (server_after rules active h) a i)

pub notices_are_said : (rules : Rules) (active : ℕ) (h : List (Arrival Bytes)) → told_to_senders rules active h ≡ notices rules active h
notices_are_said rules active h = told_one_by_one rules active h ∙ notices_are rules active h

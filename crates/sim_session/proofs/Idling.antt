-- A step that is not enabled: what this says of its client and of the pipes.
use Rattle.sim_session.proofs.{Beside.done_by, Common.told_alone, Common.told_with_done, Common.Up, Common.◌∙◌}
use Rattle.sim_session.proofs.Common.{ap, AreFrames, arith, bending_follows, bends, bent, carry_down, carry_up, client_of, Command, Conveys, Did, Done, Down}
use Rattle.sim_session.proofs.Common.{events_by, falls, has_happened, Held, Idle, is_off, IsClient, IsDownFrame, IsUpFrame, join_shown, Joining, put_same}
use Rattle.sim_session.proofs.Common.{joining_follows, joins, leave_events, Life, Lives, may_bend, may_order, may_play, may_tell_done, Off, On, order_shown}
use Rattle.sim_session.proofs.Common.{ordered, ordering_follows, orders, Phase, pipe_in, played, Player, playing_follows, plays, rises, row_of, Rules}
use Rattle.sim_session.proofs.Common.{said_by, says_of, Session, Setup, shows, shows_after, spelled, StandBeside, Step, stepped_by, subst, sym, told}
use Rattle.sim_session.proofs.Common.{◌≡◌, ℕ, ◌≤◌, Bool, true, false, List, [], ◌∷◌, map, length, ℤ, if◌then◌else◌, Some, None, Ok, Option, refl, Act, Answers}
use Rattle.sim_base.specs.declared.step.Event.TheVariants as event
use Rattle.sim_base.specs.declared.step.Step.TheVariants as step
use Rattle.sim_plain_session.specs.Clients as plain

-- ---- a client that does nothing

pub nothing_said : (act : Option Act) (old : Life) (did : Did) (new : Life) → Answers act old (Ok did) new → act ≡ None → said_by did ≡ []
nothing_said act old did new answers none = (done_by act old did new answers).1 ∙ ap says_of none

pub nothing_done : (act : Option Act) (old : Life) (did : Did) (new : Life) → Answers act old (Ok did) new → act ≡ None → has_happened did ≡ false
nothing_done None old Idle new answers none = refl
nothing_done None old (Done ups) new answers none = absurd answers
nothing_done (Some act) old did new answers none = absurd (cc)

-- ---- what each kind of step does that has no event

-- of every session for which they stand and in which this step is not enabled
abbrev pub WhereIdle : Setup → Step → Life → Held → Type 0 → Type 0
WhereIdle setup x own held P = (s : Session) → StandBeside setup (client_of x) own held s → events_by setup s x ≡ [] → stepped_by setup s x ≡ s → P

pub order_idle : (setup : Setup) (c : ℕ) (command : Command) (own : Life) (held : Held) (P : Type 0) → (orders setup command own ≡ None → P)
    → WhereIdle setup (step.Order c command) own held P
order_idle setup c command own held P follows s at none same = follows (by own ((ordering_follows setup c command own (s.client c) at.lives).printed ∙ none))
  where
    test : (b : Bool) (player : Player) → order_shown c (says_of (if b then Some (ordered command player) else None)) ≡ []
        → (if b then Some (ordered command player) else None) ≡ None
    test true player shown = absurd (cc)
    test false player shown = refl

    by : (l : Life) → order_shown c (says_of (orders setup command l)) ≡ [] → orders setup command l ≡ None
    by Off shown = refl
    by Joining shown = refl
    by (On player) shown = test (may_order setup player) player shown

pub play_idle : (setup : Setup) (c : ℕ) (own : Life) (held : Held) (P : Type 0) → (plays setup own ≡ None → P) → WhereIdle setup (step.Play c) own held P
play_idle setup c own held P follows s at none same = follows (by own ((playing_follows setup c own (s.client c) at.lives).printed ∙ none))
  where
    seen : (b : Bool) (p : Player) → shows setup (event.Play c) (if b then told_with_done setup p else told_alone setup p).life ≡ [] → ⊥
    seen true p shown = absurd (cc)
    seen false p shown = absurd (cc)

    test : (b : Bool) (p : Player) → shows_after setup (event.Play c) (if b then Some (told setup p) else None) ≡ []
        → (if b then Some (told setup p) else None) ≡ None
    test true p shown = absurd (seen (may_tell_done setup p) p shown)
    test false p shown = refl

    by : (l : Life) → shows_after setup (event.Play c) (plays setup l) ≡ [] → plays setup l ≡ None
    by Off shown = refl
    by Joining shown = refl
    by (On player) shown = test (may_play setup player) (played setup player) shown

pub join_idle : (setup : Setup) (c : ℕ) (own : Life) (held : Held) (P : Type 0) → (joins own ≡ None → P) → WhereIdle setup (step.Join c) own held P
join_idle setup c own held P follows s at none same = follows (by own ((joining_follows setup c own (s.client c) at.lives).printed ∙ none))
  where
    by : (l : Life) → join_shown c (joins l) ≡ [] → joins l ≡ None
    by Off shown = absurd (cc)
    by Joining shown = refl
    by (On player) shown = refl

pub bend_idle : (setup : Setup) (c id : ℕ) (health : ℤ) (own : Life) (held : Held) (P : Type 0) → (bends setup id health own ≡ None → P)
    → WhereIdle setup (step.Bend c id health) own held P
bend_idle setup c id health own held P follows s at none same = follows (by own ((bending_follows setup c id health own (s.client c) at.lives).printed ∙ none))
  where
    test : (b : Bool) (player : Player)
        → (let act : Option Act = (if b then Some (record { life = On (record player { state = bent setup player.state id health }); says = [] }) else None) in
        shows_after setup (event.Bend c) act ≡ [] → act ≡ None)
    test true player shown = absurd (cc)
    test false player shown = refl

    by : (l : Life) → shows_after setup (event.Bend c) (bends setup id health l) ≡ [] → bends setup id health l ≡ None
    by Off shown = refl
    by Joining shown = refl
    by (On player) shown = test (may_bend setup health (row_of player.state id)) player shown

pub cut_idle : (setup : Setup) (c : ℕ) (own : Life) (held : Held) (P : Type 0) → (is_off own ≡ true → P) → WhereIdle setup (step.Cut c) own held P
cut_idle setup c own held P follows s at none same = follows (by own (s.client c) at.lives none)
  where
    by : (l : Life) (phase : Phase) → Lives setup l phase → leave_events c phase ≡ [] → is_off l ≡ true
    by Off phase lives shown = refl
    by Joining plain.Off lives shown = absurd lives
    by Joining plain.Joining lives shown = absurd (cc)
    by Joining (plain.On seat) lives shown = absurd lives
    by (On player) plain.Off lives shown = absurd lives
    by (On player) plain.Joining lives shown = absurd lives
    by (On player) (plain.On seat) lives shown = absurd (cc)

-- ---- pipes in which nothing waits

longer : {X : Type 0} (x : X) (xs : List X) → xs ≡ x ∷ xs → ⊥
longer x xs e = absurd (omega (arith, ap length e))

no_frames : {M : Type 0} (IsFrame : List ℕ → M → Type 0) (frames : List (List ℕ)) → AreFrames IsFrame frames [] → frames ≡ []
no_frames IsFrame [] are = refl
no_frames IsFrame (frame ∷ frames) are = absurd are

number_fits : (setup : Setup) (c : ℕ) (held : Held) (s : Session) → IsClient held.server c → Conveys setup held s → c ≤ setup.players
number_fits setup c held s client conveys = let same = ap (λ (r : Rules). r.clients) conveys.rules in omega (arith, same, client.1)

pub up_idle : (setup : Setup) (c : ℕ) (own : Life) (held : Held) (P : Type 0) → IsClient held.server c → (pipe_in held.ups c ≡ [] → P)
    → WhereIdle setup (step.Up c) own held P
up_idle setup c own held P client follows s at none same = follows (by (s.ups c) refl)
  where
    by : (ups : List Up) → s.ups c ≡ ups → pipe_in held.ups c ≡ []
    by [] e = no_frames IsUpFrame (pipe_in held.ups c)
        (subst (λ (ups : List Up). AreFrames IsUpFrame (pipe_in held.ups c) (map (carry_up (spelled setup)) ups)) e
        (at.held.ups c client.0 (number_fits setup c held s client at.held)))
    by (said ∷ rest) e =
        let heard : rises setup c (said ∷ rest) s ≡ s = ap (λ (ups : List Up). rises setup c ups s) (sym e) ∙ same in
        absurd (longer said rest (sym (put_same c rest s.ups) ∙ ap (λ (t : Session). t.ups c) heard ∙ e))

pub down_idle : (setup : Setup) (c : ℕ) (own : Life) (held : Held) (P : Type 0) → IsClient held.server c → (pipe_in held.downs c ≡ [] → P)
    → WhereIdle setup (step.Down c) own held P
down_idle setup c own held P client follows s at none same = follows (by (s.downs c) refl)
  where
    by : (downs : List Down) → s.downs c ≡ downs → pipe_in held.downs c ≡ []
    by [] e = no_frames IsDownFrame (pipe_in held.downs c)
        (subst (λ (downs : List Down). AreFrames IsDownFrame (pipe_in held.downs c) (map (carry_down (spelled setup)) downs)) e
        (at.held.downs c client.0 (number_fits setup c held s client at.held)))
    by (said ∷ rest) e =
        let heard : falls setup c (said ∷ rest) s ≡ s = ap (λ (downs : List Down). falls setup c downs s) (sym e) ∙ same in
        absurd (longer said rest (sym (put_same c rest s.downs) ∙ ap (λ (t : Session). t.downs c) heard ∙ e))

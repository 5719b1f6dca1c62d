-- An exchange goes on having the server and the pipes of a session, through each of its calls.
use Rattle.{sim_base.specs.{declared.setup.Setup.Setup, Turn.Past}, sim_pipes.proofs.Common.{ap, AreFrames, arith, Arrival, cases_eq, cond-false, cond-true}}
use Rattle.sim_pipes.proofs.Common.{Conveys, Cut, eq-eqb, Err, get_or, Heard, Held, inl, inr, IsDownFrame, IsUpFrame, length, List, map, ne_eqb, Ok, OnOk}
use Rattle.sim_pipes.proofs.Common.{pipe_in, posts, refl, Result, Rules, Sends, subst, suc, sym, UpOf, View, zero, ℕ, [], ◌++◌, ◌<◌, ◌∙◌, ◌∷◌, ◌≡◌, ◌≤◌, ◌⊎◌}
use Rattle.sim_plain.specs.{Messages.{carry_arrival, carry_down, carry_up}, Server.{heard, put}}
use Rattle.sim_plain_session.{proofs.Arrived.{bytes_go_down, server_hears_bytes}, specs.{Clients.{Down, Off, Phase, Up}, Sessions.arrives}}
use Rattle.{sim_plain_session.specs.Sessions.{cut, downs_of, rises, Session, spelled, ups_of}, std.proofs.Common.{get_or-set_other, get_or-set_same, set}}

abbrev Frames : Type 0
Frames = List (List ℕ)

-- these frames are those of messages, which are also written so
same_frames : {M : Type 0} (IsFrame : List ℕ → M → Type 0) (frames others : Frames) (messages more : List M) → others ≡ frames → more ≡ messages
    → AreFrames IsFrame frames messages → AreFrames IsFrame others more
same_frames IsFrame frames others messages more e f are = subst (λ l. AreFrames IsFrame l more) (sym e) (subst (AreFrames IsFrame frames) (sym f) are)

-- what is in each pipe, where one is another
module _ {M X : Type 0} (IsFrame : List ℕ → M → Type 0) (carry : X → M) (pipes : List Frames) (pipe : Frames) (in_each : ℕ → List X) (others : List X) (n c : ℕ)
    (long : length pipes ≡ suc n) (high : c ≤ n) where
  one_more : ((d : ℕ) → 0 < d → d ≤ n → AreFrames IsFrame (pipe_in pipes d) (map carry (in_each d))) → AreFrames IsFrame pipe (map carry others)
      → (d : ℕ) → 0 < d → d ≤ n → AreFrames IsFrame (pipe_in (set pipes c pipe) d) (map carry (put c others in_each d))
  one_more each are d low le = by (cases_eq d c)
    where
      by : (d ≡ c) ⊎ (d ≡ c → ⊥) → AreFrames IsFrame (pipe_in (set pipes c pipe) d) (map carry (put c others in_each d))
      by (inl e) =
          same_frames IsFrame pipe (pipe_in (set pipes c pipe) d) (map carry others) (map carry (put c others in_each d))
          (ap (λ k. get_or (set pipes c pipe) k []) e ∙ get_or-set_same pipes c pipe [] (omega (arith, long, high)))
          (ap (map carry) (cond-true _ others (in_each d) (eq-eqb d c e))) are
      by (inr apart) =
          same_frames IsFrame (pipe_in pipes d) (pipe_in (set pipes c pipe) d) (map carry (in_each d)) (map carry (put c others in_each d))
          (get_or-set_other pipes c d pipe [] apart)
          (ap (map carry) (cond-false _ others (in_each d) (ne_eqb d c apart))) (each d low le)

module _ (setup : Setup) (ups downs : List Frames) (server : View) (s : Session) (conv : Conveys setup (record { ups = ups; downs = downs; server = server })
    s) where
  players : server.rules.clients ≡ setup.players
  players = ap (λ (r : Rules). r.clients) conv.rules

  -- the pipe from one client has other messages
  pub ups_put : (c : ℕ) (pipe : Frames) (said : List Up) → length ups ≡ suc server.rules.clients → c ≤ server.rules.clients
      → AreFrames IsUpFrame pipe (map (carry_up (spelled setup)) said)
      → Conveys setup (record { ups = set ups c pipe; downs = downs; server = server }) (record s { ups = put c said s.ups })
  ups_put c pipe said long high are = record {
    rules = conv.rules;
    server = conv.server;
    ups = one_more IsUpFrame (carry_up (spelled setup)) ups pipe s.ups said setup.players c (long ∙ ap suc players) (omega (arith, players, high)) conv.ups are;
    downs = conv.downs;
  }

  -- the pipe to one client has other messages
  pub downs_put : (c : ℕ) (pipe : Frames) (said : List Down) → length downs ≡ suc server.rules.clients → c ≤ server.rules.clients
      → AreFrames IsDownFrame pipe (map (carry_down (spelled setup)) said)
      → Conveys setup (record { ups = ups; downs = set downs c pipe; server = server }) (record s { downs = put c said s.downs })
  downs_put c pipe said long high are = record {
    rules = conv.rules;
    server = conv.server;
    ups = conv.ups;
    downs = one_more IsDownFrame (carry_down (spelled setup)) downs pipe s.downs said setup.players c (long ∙ ap suc players) (omega (arith, players, high))
        conv.downs are;
  }

  -- a client is something else
  pub client_put : (client : ℕ → Phase) → Conveys setup (record { ups = ups; downs = downs; server = server }) (record s { client = client })
  client_put client = record { rules = conv.rules; server = conv.server; ups = conv.ups; downs = conv.downs }

  -- something has arrived, and what the server says of it is sent
  pub arrived : (a : Arrival Past) (view : View) (pipes : List Frames) → view.rules ≡ server.rules → Sends server downs (carry_arrival (spelled setup) a) view
      pipes
      → Conveys setup (record { ups = ups; downs = pipes; server = view }) (arrives setup a s)
  arrived a view pipes same sent = record {
    rules = same ∙ conv.rules;
    server = sent.server ∙ (λ i. heard (conv.rules i) (conv.server i) (carry_arrival (spelled setup) a)) ∙ sym (server_hears_bytes setup s a);
    ups = conv.ups;
    downs = λ c low high. subst (AreFrames IsDownFrame (pipe_in pipes c))
        ((λ i. downs_of setup s c ++ posts (conv.rules i) (conv.server i) (carry_arrival (spelled setup) a) c) ∙ sym (bytes_go_down setup s a c))
        (sent.told c (downs_of setup s c) low (omega (arith, players, high)) (conv.downs c low high));
  }

-- what a client says is heard
pub risen : {T E : Type 0} (setup : Setup) (held : Held) (s : Session) (c : ℕ) (frame : List ℕ) (pipe : Frames) (view : View) (pipes : List Frames)
    (r : Result T E) → Conveys setup held s
    → length held.ups ≡ suc held.server.rules.clients → 0 < c → c ≤ held.server.rules.clients → pipe_in held.ups c ≡ frame ∷ pipe
    → view.rules ≡ held.server.rules
    → ((message : UpOf (List ℕ)) → IsUpFrame frame message → OnOk r (Sends held.server held.downs (Heard c message) view pipes))
    → OnOk r (Conveys setup (record { ups = set held.ups c pipe; downs = pipes; server = view }) (rises setup c (s.ups c) s))
risen setup held s c frame pipe view pipes (Err e) conv long low high first same sent = tt
risen setup held s c frame pipe view pipes (Ok x) conv long low high first same sent =
    by (s.ups c) (subst (λ l. AreFrames IsUpFrame l (ups_of setup s c)) first
    (conv.ups c low (omega (arith, players setup held.ups held.downs held.server s conv, high))))
  where
    by : (said : List Up) → AreFrames IsUpFrame (frame ∷ pipe) (map (carry_up (spelled setup)) said)
        → Conveys setup (record { ups = set held.ups c pipe; downs = pipes; server = view }) (rises setup c said s)
    by [] are = absurd are
    by (x ∷ rest) are =
        arrived setup (set held.ups c pipe) held.downs held.server (record s { ups = put c rest s.ups })
        (ups_put setup held.ups held.downs held.server s conv c pipe rest long high are.1) (Heard c x) view pipes same (sent (carry_up (spelled setup) x) are.0)

-- a client is cut off, and both of its pipes are empty
pub cut_off : (setup : Setup) (held : Held) (s : Session) (c : ℕ) (up down : Frames) (view : View) (pipes : List Frames) → Conveys setup held s
    → length held.ups ≡ suc held.server.rules.clients
    → length held.downs ≡ suc held.server.rules.clients → c ≤ held.server.rules.clients → up ≡ [] → down ≡ [] → view.rules ≡ held.server.rules
    → Sends held.server (set held.downs c down) (Cut c) view pipes
    → Conveys setup (record { ups = set held.ups c up; downs = pipes; server = view }) (cut setup c s)
cut_off setup held s c up down view pipes conv long deep high no_up no_down same sent =
    let first = ups_put setup held.ups held.downs held.server s conv c up [] long high (subst (λ l. AreFrames IsUpFrame l []) (sym no_up) tt) in
    let second = downs_put setup (set held.ups c up) held.downs held.server (record s { ups = put c [] s.ups }) first c down [] deep high
    (subst (λ l. AreFrames IsDownFrame l []) (sym no_down) tt) in
    arrived setup (set held.ups c up) (set held.downs c down) held.server
    (record s { client = put c Off s.client; ups = put c [] s.ups; downs = put c [] s.downs })
    (client_put setup (set held.ups c up) (set held.downs c down) held.server (record s { ups = put c [] s.ups; downs = put c [] s.downs }) second
    (put c Off s.client))
    (Cut c) view pipes same sent

-- a pipe more that is empty
pub one_more_empty : (pipes : List Frames) (c : ℕ) → pipe_in pipes c ≡ [] → pipe_in (pipes ++ [] ∷ []) c ≡ []
one_more_empty pipes c e = at_end pipes c ∙ e
  where
    at_end : (pipes : List Frames) (c : ℕ) → get_or (pipes ++ [] ∷ []) c [] ≡ get_or pipes c []
    at_end [] zero = refl
    at_end [] (suc c) = refl
    at_end (x ∷ xs) zero = refl
    at_end (x ∷ xs) (suc c) = at_end xs c

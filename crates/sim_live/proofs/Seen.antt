-- What is seen of a client in memory is what is told of the one that has a past; so what is answered to a look is what the session shows.
use Rattle.sim_live.specs.declared.look.Look.TheVariants as look
use Rattle.{sim_base.specs.{declared.{setup.Setup.Setup, state.State.State}, Limits.IsFrom}, sim_client.specs.{ClientWords.state_of, Lives.Life}}
use Rattle.{sim_live.specs.{declared.look.Look.Look, Looks.IsLook, Shown.{look_text, shown_as, told_as}}, sim_pipes.specs.Pipes.{Held, pipe_in}}
use Rattle.{sim_plain.specs.Server.Server, sim_plain_session.specs.Sessions.Session, sim_report.specs.Downs.released_line, sim_server.specs.Standing.server_of}
use Rattle.sim_session.proofs.Seeing.{end_same, endings_same, frames_are, pipes_same, state_same}
use Rattle.sim_session.specs.{declared.ending.End.End, Endings.{end_line, end_of, pipe_lines}, Laws.{ending_lines, state_at}}
use Rattle.sim_session.specs.{Seen.{end_seen, ending_seen, pipes_seen}, Served.kept_lines, Standing.{life_of, Seen, StandsFor}}
use Rattle.{sim_wire.specs.Reading.{down_frame, IsDownFrame, IsUpFrame, up_frame}, std.proofs.Common.{ap, arith, List, Option, subst, sym, ℕ, ◌++◌, ◌∙◌, ◌≡◌}}

-- ---- what is answered to a look

-- a look at a client is at one of the session
client_of : (setup : Setup) (c : ℕ) (l : Look) → (wanted : Look) → l ≡ wanted → IsLook setup.players l → IsLook setup.players wanted
client_of setup c l wanted is within = subst (IsLook setup.players) is within

client_end : (setup : Setup) (seen : Seen) (s : Session) (c : ℕ) → StandsFor setup seen s → IsFrom 1 setup.players c
    → end_seen setup (life_of seen.lives c) ≡ end_of setup (s.client c)
client_end setup seen s c stands inside = end_same setup (life_of seen.lives c) (s.client c) (stands.lives c (omega (arith, inside.0)) inside.1)

client_state : (setup : Setup) (seen : Seen) (s : Session) (c : ℕ) → StandsFor setup seen s → IsFrom 1 setup.players c
    → state_of (life_of seen.lives c) ≡ state_at setup (s.client c)
client_state setup seen s c stands inside = state_same setup (life_of seen.lives c) (s.client c) (stands.lives c (omega (arith, inside.0)) inside.1)

-- what a client has come to
pub digest_looked : (setup own : Setup) (seen : Seen) (life : Life) (end : End) (c : ℕ) (l : Look) (old new : List ℕ) → l ≡ look.Digest c
    → IsLook setup.players l → life ≡ life_of seen.lives c → own ≡ setup → end ≡ end_seen own life → new ≡ old ++ end_line c end
    → (s : Session) → StandsFor setup seen s → new ≡ old ++ look_text setup s l
digest_looked setup own seen life end c l old new is within life_is own_is end_is told s stands =
    told ∙ ap (λ (e : End). old ++ end_line c e)
    (end_is ∙ ap (λ (x : Setup). end_seen x life) own_is ∙ ap (end_seen setup) life_is
    ∙ client_end setup seen s c stands (client_of setup c l (look.Digest c) is within))
    ∙ ap (λ (x : Look). old ++ look_text setup s x) (sym is)

-- its state, row by row
pub show_looked : (setup own : Setup) (seen : Seen) (life : Life) (c : ℕ) (l : Look) (old new : List ℕ) → l ≡ look.Show c
    → IsLook setup.players l → life ≡ life_of seen.lives c → own ≡ setup → new ≡ old ++ shown_as own c (end_seen own life) (state_of life)
    → (s : Session) → StandsFor setup seen s → new ≡ old ++ look_text setup s l
show_looked setup own seen life c l old new is within life_is own_is told s stands =
    let inside : IsFrom 1 setup.players c = client_of setup c l (look.Show c) is within in
    told ∙ ap (λ (x : Setup). old ++ shown_as x c (end_seen x life) (state_of life)) own_is
    ∙ ap (λ (x : Life). old ++ shown_as setup c (end_seen setup x) (state_of x)) life_is
    ∙ ap (λ (e : End). old ++ shown_as setup c e (state_of (life_of seen.lives c))) (client_end setup seen s c stands inside)
    ∙ ap (λ (x : Option State). old ++ shown_as setup c (end_of setup (s.client c)) x) (client_state setup seen s c stands inside)
    ∙ ap (λ (x : Look). old ++ look_text setup s x) (sym is)

-- its bytes
pub state_looked : (setup own : Setup) (seen : Seen) (life : Life) (c : ℕ) (l : Look) (old new : List ℕ) → l ≡ look.State c
    → IsLook setup.players l → life ≡ life_of seen.lives c → own ≡ setup → new ≡ old ++ told_as own c (end_seen own life) (state_of life)
    → (s : Session) → StandsFor setup seen s → new ≡ old ++ look_text setup s l
state_looked setup own seen life c l old new is within life_is own_is told s stands =
    let inside : IsFrom 1 setup.players c = client_of setup c l (look.State c) is within in
    told ∙ ap (λ (x : Setup). old ++ told_as x c (end_seen x life) (state_of life)) own_is
    ∙ ap (λ (x : Life). old ++ told_as setup c (end_seen setup x) (state_of x)) life_is
    ∙ ap (λ (e : End). old ++ told_as setup c e (state_of (life_of seen.lives c))) (client_end setup seen s c stands inside)
    ∙ ap (λ (x : Option State). old ++ told_as setup c (end_of setup (s.client c)) x) (client_state setup seen s c stands inside)
    ∙ ap (λ (x : Look). old ++ look_text setup s x) (sym is)

-- what lies in the pipes
pub pipes_looked : (setup own : Setup) (seen : Seen) (held : Held) (l : Look) (old new : List ℕ) → l ≡ look.Pipes → held ≡ seen.held → own ≡ setup
    → new ≡ old ++ pipes_seen (pipe_in held.ups) (pipe_in held.downs) own.players
    → (s : Session) → StandsFor setup seen s → new ≡ old ++ look_text setup s l
pipes_looked setup own seen held l old new is held_is own_is told s stands =
    let lie : pipes_seen (pipe_in seen.held.ups) (pipe_in seen.held.downs) setup.players ≡ pipe_lines setup s =
    pipes_same setup (pipe_in seen.held.ups) (pipe_in seen.held.downs) s
    (λ c low high. frames_are IsUpFrame up_frame (λ bytes m is. is.framed) _ _ (stands.held.ups c low high))
    (λ c low high. frames_are IsDownFrame down_frame (λ bytes m is. is.framed) _ _ (stands.held.downs c low high)) in
    told ∙ ap (λ (x : Setup). old ++ pipes_seen (pipe_in held.ups) (pipe_in held.downs) x.players) own_is
    ∙ ap (λ (x : Held). old ++ pipes_seen (pipe_in x.ups) (pipe_in x.downs) setup.players) held_is
    ∙ ap (λ (x : List ℕ). old ++ x) lie ∙ ap (λ (x : Look). old ++ look_text setup s x) (sym is)

-- what the server has come to
pub kept_looked : (setup own : Setup) (seen : Seen) (server : Server) (l : Look) (old new : List ℕ) → l ≡ look.Kept → server ≡ server_of seen.held.server
    → own ≡ setup → new ≡ old ++ (released_line server.released ++ kept_lines server.kept own.turns)
    → (s : Session) → StandsFor setup seen s → new ≡ old ++ look_text setup s l
kept_looked setup own seen server l old new is server_is own_is told s stands =
    told ∙ ap (λ (x : Setup). old ++ (released_line server.released ++ kept_lines server.kept x.turns)) own_is
    ∙ ap (λ (x : Server). old ++ (released_line x.released ++ kept_lines x.kept setup.turns)) (server_is ∙ stands.held.server)
    ∙ ap (λ (x : Look). old ++ look_text setup s x) (sym is)

-- ---- what a session has come to

pub ending_is : (setup : Setup) (seen : Seen) (s : Session) (n : ℕ) → n ≡ setup.players → StandsFor setup seen s
    → ending_seen setup (life_of seen.lives) seen.held n ≡ ending_lines setup s
ending_is setup seen s n count stands =
    ap (ending_seen setup (life_of seen.lives) seen.held) count ∙ endings_same setup (life_of seen.lives) seen.held s stands.lives stands.held

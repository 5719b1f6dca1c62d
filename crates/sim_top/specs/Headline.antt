-- What this program is for, as one fact of a run of a session. For every match and every list of session steps, whether a client began
-- at turn 0 or loaded another's bytes at any turn, the digest printed after each of the client's turns is that of the plain turn
-- function folded over the client's past; an unbent past is exactly the server's kept turns; a notice comes exactly where a report
-- differs from its turn's first.
use Rattle.sim_base.specs.declared.step.Event.TheVariants as event
use Rattle.sim_base.specs.declared.step.Step.TheVariants as step
use Rattle.sim_session.specs.declared.ending.End.TheVariants as end
use Rattle.sim_base.specs.{declared.{command.PlayerCommand.PlayerCommand, place.Cell.Cell, step.{Event.Event, Step.Step}}, Places.IsOnGround, Rows.size_of}
use Rattle.{sim_base.specs.Turn.turns_in, sim_plain.specs.Server.{notices, server_after, up_to}}
use Rattle.sim_plain_session.specs.{Clients.{On, Seat}, Pasts.rules_of, Sessions.{Carries, IsOfStep, notices_in}}
use Rattle.{sim_play.specs.{Lines.{later_of, states_to}, Realms.realm_lines}, sim_report.specs.Lines.event_line}
use Rattle.sim_session.specs.{Endings.end_of, Laws.{clients_apart, ending_lines, events_of, IsStepAt, PlayIsTold, session_at, ShowsPast, StandsAt, step_events}}
use Rattle.{sim_session_laws.specs.Standing.{NoStateIsRefused, UnbentAgree}, sim_stock.specs.PaidTurns.{books_after, kept_past}}
use Rattle.{sim_territory.specs.{Holders.{AreRooted, holder_at, IsHolder}, Influence.influence}, sim_top.specs.Common.{after, agree_line, apart_lines, Appends}}
use Rattle.sim_top.specs.Common.{digest, Economy, end_from, File, film_text, HeldSet, IsLog, Log, log_after, logged_line, match_turns, own_turns, parts_text}
use Rattle.sim_top.specs.Common.{refusal_of, released_turns, session_of, Setup, State, state_after, StepList, stock_text, text_of_log}
use Rattle.sim_top.specs.{declared.status.Status.{Status, TheVariants.{Differs, Done}}, Outcome.{bytes_in, economy_in, match_in, session_match_in, steps_in}}
use Rattle.sim_top.specs.{Reads.Scene, Stops.IsState, Words.{Asked, to_check, to_film, to_log, to_parts, to_realm, to_record, to_resight, to_sight, to_stock}}
use Rattle.{sim_trail.specs.{declared.mark.Mark.Mark, Shifts.marks_of}, sim_vision.specs.{Keeping.extent_in, Told.sight_lines, Vision.{all_seen, is_set}}}
use Rattle.{sim_vision.specs.{Vision.{is_visible, was_visible}, Watching.{flag_in, one_if}}, std.specs.{List.enumerate_from, Prelude.{Bool, codes, flat_map}}}
use Rattle.std.specs.Prelude.{IfOk, length, List, map, None, Ok, Option, slice_get, Some, take, ℕ, [], ◌*◌, ◌++◌, ◌-◌, ◌<◌, ◌||◌, ◌↔◌, ◌∷◌, ◌≡◌, ◌≤◌, ◌⊎◌}

-- what the sink has been told, and after the session what it is told then
pub record Headline (setup : Setup) (list : StepList) (told told' : Option (List ℕ)) : Type 0 where
  -- the text of the session was told, and nothing else: a line for each of its events, in order, and what it has come to
  pub text : Appends told told' (flat_map event_line (events_of setup list) ++ ending_lines setup (session_of setup list))
  -- Its events are a start of each client that takes part from the beginning, with the digest of the first state, and then those of
  -- each step of the list, as it comes after the steps before it.
  pub order : events_of setup list ≡ map (λ c. event.Start c (digest setup (after setup []))) (up_to list.clients)
      ++ flat_map (λ (numbered : ℕ × Step). step_events setup list (take numbered.0 list.steps) numbered.1) (enumerate_from 0 list.steps)
  -- Each of these clients stands at turn 0 before any step. That a client stands at a turn with a digest is to say: it is on, its past
  -- has so many turns, the digest is that of the state `after` this past, and an unbent past is the server's kept turns up to that turn.
  pub starts : (c : ℕ) → 0 < c → c ≤ list.clients → StandsAt setup list [] c 0 (digest setup (after setup []))
  -- What is printed of a step is its event: the step could be done then, and the event has its client and kind. Where this has a turn and
  -- a digest, as that of a play, a load or a bend, the client stands so right after the step.
  pub steps : (before : List Step) (x : Step) (e : Event) → IsStepAt list before x → Carries (step_events setup list before x) e
      → IsOfStep setup (session_at setup list before) x e × ShowsPast setup list (before ++ x ∷ []) e
  -- where a client can play a turn after the steps before a play, just one event is printed of it, of the turn behind the client's own
  pub plays : (before : List Step) (c : ℕ) → IsStepAt list before (step.Play c) → PlayIsTold setup list before c
  -- So it is for each step that has an event: an order, a play, a join, a cut, a bend or a load that can be done, a refusal that a client
  -- hears, and a report that differs from the first one of its turn.
  pub others : (before : List Step) (x : Step) (e : Event) → IsStepAt list before x → IsOfStep setup (session_at setup list before) x e
      → step_events setup list before x ≡ e ∷ []
  -- the last line of each client that is on in the end shows it as it stands after all steps
  pub ends : (c t : ℕ) (g : List ℕ) → end_of setup ((session_of setup list).client c) ≡ end.On t g → StandsAt setup list list.steps c t g
  -- what the server keeps is what the rules say of all that arrived at it
  pub server : (session_of setup list).server ≡ server_after (rules_of setup) list.clients (session_of setup list).arrivals
  -- the lines of notices are, in order, those accepted reports whose digest differs from the first one of their turn
  pub noticed : notices_in (events_of setup list) ≡ notices (rules_of setup) list.clients (session_of setup list).arrivals
  -- two clients at equal turns in the end have no line of a difference exactly where their states are the same
  pub apart : (a b : ℕ) (left right : Seat) → a < b → (session_of setup list).client a ≡ On left → (session_of setup list).client b ≡ On right
      → turns_in left.past ≡ turns_in right.past → (clients_apart setup (session_of setup list) a b ≡ []) ↔ (after setup left.past ≡ after setup right.past)
  -- which they are where neither past is bent, and so are their digests
  pub agree : UnbentAgree setup (session_of setup list)
  -- after none of the steps does a client hear of a state that is refused
  pub heard : (before rest : List Step) → before ++ rest ≡ list.steps → NoStateIsRefused setup (session_at setup list before)

-- Logs, as one fact of a run. Of a match or a session it stores the log of its turns, each digest of which is that of the state `after` the
-- first so many of them. One that is checked agrees exactly where each of its digests is that of the state after its own commands.

-- the log of these turns is stored, and its line was told: how many turns it has, and how many bytes
pub record IsStored (word : List ℕ) (setup : Setup) (turns : List (List PlayerCommand)) (out : List ℕ) (before now : Scene) : Type 0 where
  pub text : Appends before.told now.told (logged_line word (length turns) (length (text_of_log setup (log_after setup turns))))
  pub file : HeldSet out (text_of_log setup (log_after setup turns)) before.held now.held

-- the digest of a log at a turn is that of the state after the first so many of its own turns
abbrev pub IsRightAt : Setup → Log → ℕ → Type 0
IsRightAt setup log turn = slice_get log.digests turn ≡ Some (digest setup (state_after setup (take turn log.turns)))

-- so it is at every turn
abbrev pub IsRight : Setup → Log → Type 0
IsRight setup log = (turn : ℕ) → turn ≤ length log.turns → IsRightAt setup log turn

-- a turn is the first at which it is not
pub record IsFirstWrong (setup : Setup) (log : Log) (turn : ℕ) : Type 0 where
  pub within : turn ≤ length log.turns
  pub wrong : IsRightAt setup log turn → ⊥
  pub before : (earlier : ℕ) → earlier < turn → IsRightAt setup log earlier

-- every digest is right, and the log is said to agree up to its last turn
pub record Agrees (setup : Setup) (log : Log) (status : Status) (before now : Scene) : Type 0 where
  pub status_is : status ≡ Done
  pub right : IsRight setup log
  pub text : Appends before.told now.told (agree_line (length log.turns))

-- a digest is wrong, and the first such turn is told with both digests
pub record Disagrees (setup : Setup) (log : Log) (status : Status) (before now : Scene) : Type 0 where
  pub status_is : status ≡ Differs
  pub turn : ℕ
  pub first : IsFirstWrong setup log turn
  pub told : List ℕ
  pub told_is : slice_get log.digests turn ≡ Some told
  pub text : Appends before.told now.told (apart_lines turn told (digest setup (state_after setup (take turn log.turns))))

-- the file of this name is a log of the match, and it agrees or does not
pub record IsChecked (files : List File) (setup : Setup) (name : List ℕ) (status : Status) (before now : Scene) : Type 0 where
  pub log : Log
  pub is_log : IsLog setup log
  pub read : bytes_in files name ≡ Ok (text_of_log setup log)
  pub checked : Agrees setup log status before now ⊎ Disagrees setup log status before now

-- what was told and stored, where a log is asked for
abbrev pub TellsLogs : List File → Option Asked → Status → Scene → Scene → Type 0
TellsLogs files (Some (to_log game out)) status before now =
    IfOk (match_in files game) (λ setup. IsStored (codes "log") setup (match_turns setup) out before now)
TellsLogs files (Some (to_record game steps out)) status before now =
    IfOk (session_match_in files game) (λ setup. IfOk (steps_in files steps setup.players)
    (λ list. IsStored (codes "record") setup (released_turns (session_of setup list)) out before now))
TellsLogs files (Some (to_check game name)) status before now = IfOk (match_in files game) (λ setup. IsChecked files setup name status before now)
TellsLogs files other status before now = Unit {0}

-- The templates of a match, as one fact of a run: each by its number and its name, with the parts that it has.

-- this holds of the match, where its templates are asked for
abbrev pub OfParts : List File → Option Asked → (Setup → Type 0) → Type 0
OfParts files (Some (to_parts game)) P = IfOk (match_in files game) P
OfParts files other P = Unit {0}

-- what the sink has been told, and what it is told then
abbrev pub PartsTold : Setup → Option (List ℕ) → Option (List ℕ) → Type 0
PartsTold setup told told' = Appends told told' (parts_text setup.templates)

-- A match that is played by an economy, as one fact of a run: the commands that their players could not pay were left out, and what each
-- player has in the end is what deeds, prices and incomes make of what he began with.

-- this holds of the match and its economy, where one is to be played by the other
abbrev pub OfStock : List File → Option Asked → (Setup → Economy → Type 0) → Type 0
OfStock files (Some (to_stock game name)) P = IfOk (match_in files game) (λ setup. IfOk (economy_in files name setup) (P setup))
OfStock files other P = Unit {0}

-- what the sink has been told, and what it is told then
pub record Balances (setup : Setup) (economy : Economy) (told told' : Option (List ℕ)) : Type 0 where
  -- for each turn the digest of the state after the commands that were not left out, and for each player the exact balance of his stocks
  pub text : Appends told told' (stock_text setup economy)
  -- what is paid for is made in that very state
  pub states : (n : ℕ) → (books_after setup economy n).state ≡ after setup (kept_past setup economy n)

-- The territories of a match, as one fact of a run. After its own turns up to the one that is asked for, each cell of the ground is held by
-- the player with the greatest influence above 0, the least among equals; and a cell is rooted exactly where cells that one player holds
-- lead to it from a root of his.

-- this holds of the match and the turn, where territories are asked for
abbrev pub OfRealm : List File → Option Asked → (Setup → ℕ → Type 0) → Type 0
OfRealm files (Some (to_realm game turn)) P = IfOk (match_in files game) (λ setup. P setup turn)
OfRealm files other P = Unit {0}

-- the entities of a turn
abbrev pub marks_at : Setup → ℕ → List Mark
marks_at setup turn = marks_of (after setup (own_turns setup 0 turn))

-- what the sink has been told, and what it is told then
pub record Territories (setup : Setup) (turn : ℕ) (told told' : Option (List ℕ)) : Type 0 where
  -- for each cell by z, then x, who holds it and whether it is rooted
  pub holders : List ℕ
  pub rooted : List Bool
  -- how many cells each player holds and how many of these are rooted, and the digest of all holders
  pub text : Appends told told' (realm_lines setup.players holders rooted)
  pub full : length holders ≡ setup.land.width * setup.land.depth
  pub held : (c : Cell) → IsOnGround (size_of setup.land) c
      → IsHolder setup.players (λ player. influence setup (marks_at setup turn) player c) (holder_at (size_of setup.land) holders c)
  pub joined : AreRooted setup (marks_at setup turn) rooted

-- The film of a match, as one fact of a run: the states `after` the match's own turns, so many turns apart and in order.

-- this holds of the match and how many turns lie between two that are told, where a film is asked for
abbrev pub OfFilm : List File → Option Asked → (Setup → ℕ → Type 0) → Type 0
OfFilm files (Some (to_film game every)) P = IfOk (match_in files game) (λ setup. P setup every)
OfFilm files other P = Unit {0}

-- what the sink has been told, and what it is told then: a frame for each of these turns, and for the last
abbrev pub Film : Setup → ℕ → Option (List ℕ) → Option (List ℕ) → Type 0
Film setup every told told' = Appends told told' (film_text setup every)

-- What the players of a match see, as one fact of a run. A row sees the cells that lie within the reach of its template of its own cell. After
-- a list of states a cell is visible to a player where one of his rows sees it in the last of them, and he has explored it where it was
-- visible in one of them, or was given to him before.

-- what the sink was told and the shelf holds of a turn of a match
pub record Sights (setup : Setup) (turn : ℕ) (out : List ℕ) (before now : Scene) : Type 0 where
  -- for each player how many cells are visible to him in the state of the turn, and how many were in one of the states of turns 0 to it
  pub text : Appends before.told now.told (sight_lines setup (is_visible setup (after setup (own_turns setup 0 turn)).rows)
      (was_visible setup (states_to setup turn)))
  -- one byte for each cell by player, then z, then x: 1 where it was visible in one of these states, and else 0
  pub file : HeldSet out (map one_if (all_seen setup (states_to setup turn))) before.held now.held

-- what the sink was told of the end of a match, from a stored state on and the explored cells of a file
pub record Resights (files : List File) (setup : Setup) (name file : List ℕ) (before now : Scene) : Type 0 where
  pub state : State
  pub explored : List ℕ
  pub stored : IsState setup (bytes_in files name) state
  -- a byte for each cell, 0 or 1, and 1 where the cell is visible in the stored state
  pub read : bytes_in files file ≡ Ok explored
  pub taken : refusal_of setup state.rows explored ≡ None
  -- for each player how many cells are visible to him in the last state, and how many were given or visible in one of the later states
  pub text : Appends before.told now.told
      (sight_lines setup (is_visible setup (end_from setup state).rows)
      (λ player c. flag_in (extent_in setup) (map is_set explored) player c || was_visible setup (later_of setup state (setup.turns - state.turn)) player c))

-- this holds of the match that the words name, where they ask what its players see
abbrev pub TellsSights : List File → Option Asked → Scene → Scene → Type 0
TellsSights files (Some (to_sight game turn out)) before now = IfOk (match_in files game) (λ setup. Sights setup turn out before now)
TellsSights files (Some (to_resight game name file)) before now = IfOk (match_in files game) (λ setup. Resights files setup name file before now)
TellsSights files other before now = Unit {0}
